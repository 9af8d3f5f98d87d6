-- The tests of a conjunction that holds, and of an implication.
-- Assumes nothing.
use mathlib.Core.Path.{◌≡◌}
use mathlib.Core.Bool.{Bool, true, false, not, ◌&&◌, ◌||◌, false≢true}
use Rattle.weight.proofs.Allowed.{both_left, both_right}

-- four tests that hold
pub record Four (a b c d : Bool) : Type 0 where
  pub first : a ≡ true
  pub second : b ≡ true
  pub third : c ≡ true
  pub fourth : d ≡ true

-- as those of a conjunction do
pub four : (a b c d : Bool) → (a && b && c && d) ≡ true → Four a b c d
four a b c d h =
    let three = both_left (a && b && c) d h in
    let two = both_left (a && b) c three in
    record { first = both_left a b two; second = both_right a b two; third = both_right (a && b) c three; fourth = both_right (a && b && c) d h }

-- what holds wherever a first test does
pub implied : (a b : Bool) → (not a || b) ≡ true → a ≡ true → b ≡ true
implied true b h e = h
implied false b h e = absurd (false≢true e)
