-- Bytes below 32, by their class, and the one pass over a line that finds the first space and every byte below 32.
-- Assumes nothing.
use mathlib.Core.Path.{◌≡◌, refl, sym, ap, ◌∙◌}
use mathlib.Core.Bool.{Bool, true, false, cond, ◌||◌}
use mathlib.Core.List.{List, [], ◌∷◌}
use Prim.Native.Nat.{ℕ, suc, ◌≤◌}
use lib.Dec.{ltb, eqb}
use lib.ListN.{length, drop}
use Rattle.classes.specs.Classes.{first_in}
use Rattle.classes.proofs.Texts.{first_limit, some_in}
use Rattle.classes.proofs.Words.{controls, breaks, spaces}
use Rattle.weight.specs.Characters.{space}
use Rattle.weight.proofs.Allowed.{neither_left, neither_right}
use Rattle.text.specs.Searching.{FirstAt}
use Rattle.text.proofs.Searching.{first_space_at}
use Rattle.line.specs.Judging.{has_control}

pub control_by : (t : List ℕ) {i : ℕ} → i ≡ first_in 64 t → ltb i (length t) ≡ has_control t
control_by t e = rw e (some_in 64 (λ c. ltb c 32) controls has_control refl (λ c t. refl) t)

-- ---- the first space or control byte

-- no control byte stands before it
control_after : (t : List ℕ) → has_control (drop (first_in 68 t) t) ≡ has_control t
unfolding first_in
control_after [] = refl
control_after (c ∷ t) = rw (breaks c) (by (eqb c space) (ltb c 32) refl (control_after t))
  where
    by : (s k : Bool) → ltb c 32 ≡ k → has_control (drop (first_in 68 t) t) ≡ has_control t
        → has_control (drop (cond (s || k) 0 (suc (first_in 68 t))) (c ∷ t)) ≡ ltb c 32 || has_control t
    by true k e h = refl
    by false true e h = refl
    by false false e h = rw e h

-- without any it is the first space
same_first : (t : List ℕ) → has_control t ≡ false → first_in 68 t ≡ first_in 4 t
unfolding first_in
same_first [] n = refl
same_first (c ∷ t) n =
    rw (breaks c, spaces c, neither_left (ltb c 32) (has_control t) n, same_first t (neither_right (ltb c 32) (has_control t) n))
    (by (eqb c space))
  where
    by : (s : Bool) → cond (s || false) 0 (suc (first_in 4 t)) ≡ cond s 0 (suc (first_in 4 t))
    by true = refl
    by false = refl

-- whatever is looked for, its place is in the text
pub place_limit : (t : List ℕ) (s : ℕ) {i : ℕ} → i ≡ first_in s t → i ≤ length t
place_limit t s first = rw first (first_limit s t)

module _ (t : List ℕ) {i : ℕ} (first : i ≡ first_in 68 t) where
  module _ {control : Bool} (scanned : control ≡ has_control (drop i t)) where
    pub scanned_all : control ≡ has_control t
    scanned_all = scanned ∙ ap (λ (k : ℕ). has_control (drop k t)) first ∙ control_after t

    pub space_at_break : control ≡ false → FirstAt space t i
    space_at_break e = first_space_at t (first ∙ same_first t (sym scanned_all ∙ e))
