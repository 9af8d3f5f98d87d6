-- The printed number, by the tests that lead to it.
-- Assumes nothing.
use mathlib.Core.Path.{◌≡◌, sym, ◌∙◌}
use mathlib.Core.Bool.{Bool, true, false, and-false}
use lib.IntN.{ℤ, pos, ◌*ℤ◌}
use mir.Syntax.{w64}
use mir.Val.{SFits}
use Rattle.std.specs.Prelude.{Option, Some, None}
use Rattle.weight.specs.declared.rounding.Allowed.{Allowed}
use Rattle.weight.specs.declared.rounding.LastPlaces.{LastPlaces}
use Rattle.weight.specs.declared.rounding.Micrograms.{Micrograms}
use Rattle.weight.specs.declared.rounding.Net.{Net}
use Rattle.weight.specs.declared.rounding.Resolution.{Resolution}
use Rattle.weight.specs.Rounding.{allowed_resolution, in_range, steps_of, places_of}
use Rattle.weight.specs.Places.{fits_field}
use Rattle.weight.specs.Printing.{printable, printed_number}
use Rattle.weight.proofs.Range.{places_fit}

module _ (r : Resolution) (w : Micrograms) where
  pub not_allowed : {o : Option LastPlaces} → o ≡ None → allowed_resolution r ≡ false → o ≡ printed_number r w.0
  unfolding printed_number printable
  not_allowed none e = rw (none, e)

  pub out_of_range : {o : Option LastPlaces} → o ≡ None → in_range w.0 ≡ false → o ≡ printed_number r w.0
  unfolding printed_number printable
  out_of_range none e = rw (none, e, and-false (allowed_resolution r))

  module _ (a : Allowed) (n : Net) (resolution : a.resolution ≡ r) (weight : n.weight ≡ w) {s : ℤ} (steps : s ≡ steps_of a.resolution n.weight.0) where
    allowed : allowed_resolution r ≡ true
    allowed = rw resolution at a.holds

    near : in_range w.0 ≡ true
    near = rw weight at n.near

    steps_are : s ≡ steps_of r w.0
    steps_are = rw (resolution, weight) at steps

    pub places_word : SFits w64 (s *ℤ pos r.step)
    places_word = rw steps_are (places_fit r w.0 allowed near)

    module _ {p : ℤ} {f : Bool} (places : p ≡ s *ℤ pos r.step) (wide : f ≡ fits_field r.coarse r.decimals p) where
      places_are : p ≡ places_of r w.0
      unfolding places_of
      places_are = rw (places, steps_are)

      pub printed : f ≡ true → Some (record { 0 = p }) ≡ printed_number r w.0
      unfolding printed_number printable
      printed h = rw (places_are, allowed, near, rw places_are at (sym wide ∙ h))

      pub not_printed : f ≡ false → None ≡ printed_number r w.0
      unfolding printed_number printable
      not_printed h = rw (allowed, near, rw places_are at (sym wide ∙ h))
