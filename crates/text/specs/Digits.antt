-- What the writers of a number's digits promise each other.
-- Assumes nothing.
use Rattle.std.specs.Prelude.{ℕ, ◌+◌, ◌-◌, ◌/◌, ◌%◌, ◌^◌, ◌≤◌, ◌<◌, ◌≡◌, List, ◌++◌, length, take, drop}
use Rattle.weight.specs.Places.{digits_of, last_digits, decimal_of}
use Rattle.text.specs.declared.field.Nine.{Nine}

-- y is the buffer x with the digits before those of n, of the number m with d decimals: where it starts, how many digits n has, that
-- those above the decimals complete the ones before the point, and that its decimals are the number's
pub record Begun (x : List ℕ) (d m : ℕ) (y : List ℕ) (n : Nine) : Type 0 where
  pub start : n.start + length (decimal_of d m) ≡ length x
  pub long : length y ≡ length x
  pub few : n.high ≤ 9
  pub some : d ≤ n.high
  pub small : n.value < 10 ^ n.high
  pub up_to : n.at + (n.high - d) ≡ n.start + length (digits_of (m / 10 ^ d))
  pub whole : take n.at y ++ last_digits (n.high - d) (n.value / 10 ^ d) ≡ take n.start x ++ digits_of (m / 10 ^ d)
  pub after : drop (n.at + (n.high - d)) y ≡ drop (n.at + (n.high - d)) x
  pub decimals : n.value % 10 ^ d ≡ m % 10 ^ d
