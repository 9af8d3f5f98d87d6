-- What the readers of a number's text promise each other.
-- Assumes nothing.
use Rattle.std.specs.Prelude.{ℕ, ◌-◌, ◌^◌, ◌≤◌, ◌<◌, cond, Option, Some, None, List, length}
use Rattle.text.specs.declared.reading.Decimal.{Decimal}
use Rattle.text.specs.Reading.{is_number, number_from, is_decimal, decimals_in, value_in}

-- the digits of t, after digits that stand for start, are ten at most
pub record TenDigits (t : List ℕ) (start : ℕ) : Type 0 where
  pub short : length t ≤ 10
  pub small : start < 10 ^ (10 - length t)

-- the number that digits stand for, after digits that stand for start
abbrev pub read_whole : ℕ → List ℕ → Option ℕ
read_whole start t = cond (is_number t) (Some (number_from start t)) None

-- the decimals of a decimal, and its number without the point
abbrev pub read_decimal : List ℕ → Option Decimal
read_decimal t = cond (is_decimal t) (Some (record { decimals = decimals_in t; value = value_in t })) None
