-- Decimal numbers and loads.
-- Assumes nothing.
use Rattle.std.specs.Prelude.{ℕ, ◌+◌, ◌-◌, ◌*◌, cond, ◌&&◌, ◌||◌, List, [], ◌∷◌, Option, Some, None, option_and_then, leb, ltb, eqb, pos, neg_ℤ, length, get_or, drop}
use Rattle.weight.specs.declared.loads.Load.{Load}
use Rattle.weight.specs.Characters.{minus, digit}
use Rattle.text.specs.Reading.{is_digit}

-- a number with one digit more, up to ten of them
abbrev pub with_digit : ℕ → ℕ → Option ℕ
with_digit v c = cond (is_digit c && leb v 1_000_000_000) (Some (v * 10 + (c - digit 0))) None

abbrev pub with_digits : ℕ → List ℕ → Option ℕ
with_digits v [] = Some v
with_digits v (c ∷ t) = option_and_then (λ w. with_digits w t) (with_digit v c)

-- 1 to 10 digits
abbrev pub number_of : List ℕ → Option ℕ
number_of t = cond (ltb (length t) 1 || ltb 10 (length t)) None (with_digits 0 t)

-- the same, up to a largest
abbrev pub up_to : ℕ → ℕ → Option ℕ
up_to most n = cond (leb n most) (Some n) None

abbrev pub number_up_to : ℕ → List ℕ → Option ℕ
number_up_to most t = option_and_then (up_to most) (number_of t)

-- the loads of 32 bits
abbrev pub above_zero : ℕ → Option Load
above_zero n = cond (ltb 2_147_483_647 n) None (Some (record { 0 = pos n }))

abbrev pub below_zero : ℕ → Option Load
below_zero n = cond (ltb 2_147_483_648 n) None (Some (record { 0 = neg_ℤ (pos n) }))

-- a number that may have a minus
abbrev pub load_of : List ℕ → Option Load
load_of t =
    cond (eqb (get_or t 0 0) minus) (option_and_then below_zero (number_of (drop 1 t))) (option_and_then above_zero (number_of t))
