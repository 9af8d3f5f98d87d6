-- The tests of a typed text, and the two amounts that are read of it.
-- Assumes nothing.
use mathlib.Core.Path.{◌≡◌, refl, sym, ap, ◌∙◌}
use mathlib.Core.Bool.{Bool, true, false, cond, ◌&&◌, and-true, and-false}
use mathlib.Core.List.{List}
use Prim.Native.Nat.{ℕ, ◌≤◌, ◌<◌}
use native.Mathlib.Omega.{arith}
use borrow.Author.Tests.{le-leb, lt-leb, leb-true}
use lib.Dec.{leb}
use lib.IntN.{pos}
use lib.ListN.{length}
use Rattle.std.specs.Prelude.{Option, Some, None, Result, Ok, Err}
use Rattle.weight.specs.declared.rounding.Resolution.{Resolution}
use Rattle.weight.specs.declared.units.WeightUnit.{WeightUnit}
use Rattle.weight.specs.declared.amount.Tare.{Tare}
use Rattle.weight.specs.declared.amount.NoAmount.{NoAmount}
use Rattle.weight.specs.declared.amount.NoAmount.TheVariants.{TooLarge, NotTyped}
use Rattle.weight.specs.Amounts.{largest_capacity, amount_of, typed_amount}
use Rattle.weight.specs.Presets.{largest_typed, preset_places, preset_micrograms, preset_amount}
use Rattle.weight.specs.Ranges.{typed_resolution}
use Rattle.weight.specs.Rounding.{allowed_resolution}
use Rattle.weight.proofs.Allowed.{both_left, both_right}
use Rattle.weight.proofs.Presets.{preset_again}
use Rattle.weight.proofs.TypedLimit.{typed_amount_lem}
use Rattle.text.specs.declared.reading.Decimal.{Decimal}
use Rattle.text.specs.Decimals.{read_decimal}
use Rattle.text.specs.Field.{field_of}
use Rattle.text.specs.Reading.{after_spaces, is_decimal, decimals_in, value_in}
use Rattle.text.specs.Typed.{is_typed, typed_number, read_typed, preset_resolution, read_preset}
use Rattle.text.proofs.Chosen.{none_of, some_of}
use Rattle.text.proofs.DecimalText.{decimals_limit, value_small}
use Rattle.text.proofs.ReadBack.{TypedBack}

-- ---- the text

-- a typed number is a decimal
pub typed_decimal : (t : List ℕ) → is_typed t ≡ true → is_decimal t ≡ true
unfolding is_typed
typed_decimal t e = both_right (leb (length t) 10) (is_decimal t) e

pub typed_long : (t : List ℕ) → 10 < length t → None ≡ typed_number t
unfolding typed_number is_typed
typed_long t h = rw (lt-leb (length t) 10 h)

pub typed_short : {x : Option Decimal} (t : List ℕ) → length t ≤ 10 → x ≡ read_decimal t → x ≡ typed_number t
unfolding typed_number is_typed
typed_short t h e = rw (le-leb (length t) 10 h) e

-- what the test says of a number that was read
record Number (t : List ℕ) (x : Decimal) : Type 0 where
  is : is_typed t ≡ true
  places : x.decimals ≡ decimals_in t
  value : x.value ≡ value_in t
  few : decimals_in t ≤ 6
  small : value_in t ≤ largest_typed

number : (t : List ℕ) (x : Decimal) → typed_number t ≡ Some x → Number t x
unfolding typed_number is_typed
number t x e =
    let k = some_of (is_typed t) (record { decimals = decimals_in t; value = value_in t }) e in
    let short = leb-true (length t) 10 (both_left (leb (length t) 10) (is_decimal t) k.0) in
    let small = value_small t short (typed_decimal t k.0) in
    record {
      is = k.0;
      places = sym (ap (λ (n : Decimal). n.decimals) k.1);
      value = sym (ap (λ (n : Decimal). n.value) k.1);
      few = decimals_limit t (typed_decimal t k.0);
      small = omega arith;
    }

-- ---- its amounts

pub typed_read : {n : Result Tare NoAmount} {x : Decimal} (u : WeightUnit) (t : List ℕ)
    → typed_number t ≡ Some x → n ≡ typed_amount u x.decimals x.value → n ≡ read_typed u t
unfolding read_typed
typed_read {x} u t e read =
    let k = number t x e in read ∙ rw (k.places, k.value, k.is) (typed_amount_lem u (decimals_in t) (value_in t) k.few)

pub typed_stray : (u : WeightUnit) (t : List ℕ) → typed_number t ≡ None → Err NotTyped ≡ read_typed u t
unfolding read_typed typed_number
typed_stray u t e = rw (none_of (is_typed t) (record { decimals = decimals_in t; value = value_in t }) e)

-- to the resolution of its range
pub preset_read : {n : Result Tare NoAmount} {x : Decimal} {range : Resolution} (capacity fine : ℕ) (r : Resolution) (t : List ℕ)
    → typed_number t ≡ Some x → range ≡ typed_resolution capacity fine r x.decimals x.value
    → n ≡ preset_amount range x.decimals x.value → n ≡ read_preset (preset_resolution capacity fine r t) t
unfolding read_preset preset_resolution preset_amount
preset_read {x} {range} capacity fine r t e same read =
    let k = number t x e in
    let of_range : range ≡ typed_resolution capacity fine r (decimals_in t) (value_in t) = same ∙ rw (k.places, k.value) in
    read
    ∙ rw (k.places, k.value, le-leb (value_in t) largest_typed k.small, le-leb (decimals_in t) 6 k.few, k.is, ← of_range, and-true (allowed_resolution range), and-true (allowed_resolution range))

pub preset_stray : (r : Resolution) (t : List ℕ) → typed_number t ≡ None → Err NotTyped ≡ read_preset r t
unfolding read_preset typed_number
preset_stray r t e =
    rw (none_of (is_typed t) (record { decimals = decimals_in t; value = value_in t }) e, and-false (allowed_resolution r))

-- ---- what was read of an amount

amount_by : {m : Tare} (b : Bool) (n : Result Tare NoAmount) → cond b n (Err NotTyped) ≡ Ok m → b ≡ true
amount_by true n e = refl
amount_by false n e = let z : ◌≡◌ {A = ℕ} 0 1 = cc in absurd (omega arith)

amount_is : {m : Tare} (n : ℕ) → amount_of n ≡ Ok m → m.0 ≡ n
unfolding amount_of
amount_is {m} n = by (leb n largest_capacity)
  where
    by : (b : Bool) → cond b (Ok (record { 0 = n })) (Err TooLarge) ≡ Ok m → m.0 ≡ n
    by true e = let same : m ≡ record { 0 = n } = cc in ap (λ (x : Tare). x.0) same
    by false e = let z : ◌≡◌ {A = ℕ} 0 1 = cc in absurd (omega arith)

pub amount_is_typed : {m : Tare} (u : WeightUnit) (t : List ℕ) → read_typed u t ≡ Ok m → is_typed t ≡ true
unfolding read_typed
amount_is_typed u t e = amount_by (is_typed t) _ e

pub record PresetOf (r : Resolution) (t : List ℕ) (m : ℕ) : Type 0 where
  pub allowed : allowed_resolution r ≡ true
  pub typed : is_typed t ≡ true
  pub amount : m ≡ preset_micrograms r (decimals_in t) (value_in t)

pub preset_of_lem : {m : Tare} (r : Resolution) (t : List ℕ) → read_preset r t ≡ Ok m → PresetOf r t m.0
unfolding read_preset
preset_of_lem r t e =
    let tests = amount_by (allowed_resolution r && is_typed t) _ e in
    record {
      allowed = both_left (allowed_resolution r) (is_typed t) tests;
      typed = both_right (allowed_resolution r) (is_typed t) tests;
      amount = amount_is (preset_micrograms r (decimals_in t) (value_in t)) (rw tests at e);
    }

-- typing the decimal that a number was rounded to gives its amount again
pub preset_read_again : {m : Tare} (r : Resolution) (t : List ℕ) → read_preset r t ≡ Ok m →
    let n = preset_places r (decimals_in t) (value_in t) in
    TypedBack r.decimals n (after_spaces (field_of false r.decimals (pos n)))
    → read_preset r (after_spaces (field_of false r.decimals (pos n))) ≡ Ok m
unfolding read_preset
preset_read_again r t e back =
    let of = preset_of_lem r t e in
    rw (of.allowed, back.is, back.places, back.number, preset_again r (decimals_in t) (value_in t) of.allowed) (rw (of.allowed, of.typed) at e)
