use mathlib.Core.Path.{◌≡◌, ◌∙◌, sym}
use mathlib.Core.Bool.{Bool, true, false}
use mathlib.Core.List.{List, ◌++◌, append-nil}
use Prim.Native.Nat.{ℕ, ◌+◌, ◌-◌, ◌≤◌}
use native.Mathlib.Omega.{arith}
use lib.IntN.{ℤ}
use lib.ListN.{length, take, drop, replicate, length-replicate, replicate-append-replicate}
use lib.Seq.{length-take-le, take_at}
use Rattle.std.specs.Prelude.{Some}
use Rattle.weight.specs.Characters.{space}
use Rattle.weight.specs.Places.{number_text, width_of, characters_in, fits_field}
use Rattle.text.specs.Field.{field_of, blank, field_if}
use Rattle.weight.proofs.Width.{fits_width}
use Rattle.text.proofs.field.field_of.Goals as goal

-- the spaces that stay before the number
spaces_stay : (w n a : ℕ) → w ≤ n → take (n - w) (replicate n a) ≡ replicate (n - w) a
spaces_stay w n a h =
    let all : n - w + w ≡ n = omega arith in
    rw (rw all at (replicate-append-replicate (n - w) w a)) at (take_at (replicate (n - w) a) (replicate w a) (n - w) (length-replicate (n - w) a))

-- the field of a number that fits
shown : (c : Bool) (d : ℕ) (n : ℤ) (w : ℕ) (l : List ℕ) → w ≡ characters_in c → fits_field c d n ≡ true
    → l ≡ take (length (take w blank) - width_of d n) (take w blank) ++ number_text d n
    → Some (l ++ drop w blank) ≡ field_if (fits_field c d n) c d n
unfolding field_of
shown true d n w l s h e = rw (h, e, s, spaces_stay (width_of d n) 9 space (fits_width true d n h))
shown false d n w l s h e = rw (h, e, s, spaces_stay (width_of d n) 10 space (fits_width false d n h), append-nil)

pub number-requires-clause-places_in_bounds : goal.number-requires-clause-places_in_bounds
number-requires-clause-places_in_bounds c =
    let given = c.args in
    rw (length-take-le c.width_in.result blank c.width_in.ensures.upper_bound, c.width_in.ensures.value)
    (fits_width given.coarse given.decimals given.places.0 (sym c.fits.ensures ∙ c.if-not-fits.false))

pub returns : goal.returns
returns c =
    let given = c.args in
    shown given.coarse given.decimals given.places.0 _ c.number.new.out c.width_in.ensures.value (sym c.fits.ensures ∙ c.if-not-fits.false) c.number.ensures
