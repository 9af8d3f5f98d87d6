-- The number that TA types: the micrograms that the device stores are within half a microgram of the decimal that the line says, and
-- are printed as it.
-- Assumes nothing.
use Prim.Native.Nat.{ℕ, ◌≤◌}
use native.Mathlib.Omega.{arith}
use mathlib.Core.Path.{◌≡◌, refl, sym, ap, subst, ◌∙◌}
use mathlib.Core.Bool.{Bool, true, false}
use mathlib.Core.List.{List}
use borrow.Author.Tests.{le-ltb}
use lib.IntN.{pos}
use lib.Signed.{lt_z}
use Rattle.model.specs.declared.profile.Profile.{Profile}
use Rattle.weight.specs.declared.rounding.Resolution.{Resolution}
use Rattle.weight.specs.declared.amount.Tare.{Tare}
use Rattle.std.specs.Prelude.{Ok}
use Rattle.text.specs.Reading.{is_decimal, decimals_in, value_in}
use Rattle.weight.specs.Rounding.{exact_femtograms, half_up, places_of, Near}
use Rattle.weight.specs.Presets.{preset_places, preset_micrograms, preset_femtograms}
use Rattle.text.specs.Field.{field_of}
use Rattle.text.specs.Typed.{preset_resolution, read_preset}
use Rattle.weight.specs.Ranges.{ranged, resolution_at, typed_resolution}
use Rattle.text.proofs.TypedText.{typed_decimal, preset_of_lem}
use Rattle.history.specs.Tally.{typed_text}
use Rattle.history.specs.TypedTares.{shown_places, typed_field}
use Rattle.weight.proofs.Presets.{preset_near, preset_rounded, preset_printed}

-- a typed number that C allows: it is a decimal, and it is stored as a number up to C that is near the decimal it is rounded to, the
-- nearest, and printed as that decimal
pub record TypedAs (capacity : ℕ) (r : Resolution) (t : List ℕ) (m : ℕ) : Type 0 where
  pub decimal : is_decimal t ≡ true
  pub range : m ≤ capacity
  pub amount : m ≡ preset_micrograms r (decimals_in t) (value_in t)
  pub near : Near 1_000_000_000 (exact_femtograms (pos m)) (pos (preset_femtograms r (decimals_in t) (value_in t)))
  pub rounded : m ≡ half_up (preset_femtograms r (decimals_in t) (value_in t)) 1_000_000_000
  pub printed : places_of r (pos m) ≡ pos (preset_places r (decimals_in t) (value_in t))

-- a number that TA takes is such a one
pub typed_as : (capacity : ℕ) (r : Resolution) (t : List ℕ) (m : Tare) → read_preset r t ≡ Ok m → m.0 ≤ capacity → TypedAs capacity r t m.0
typed_as capacity r t m e h =
    let of = preset_of_lem r t e in
    record {
      decimal = typed_decimal t of.typed;
      range = h;
      amount = of.amount;
      near = rw of.amount (preset_near r (decimals_in t) (value_in t) of.allowed);
      rounded = of.amount ∙ preset_rounded r (decimals_in t) (value_in t) of.allowed;
      printed = ap (λ (x : ℕ). places_of r (pos x)) of.amount ∙ preset_printed r (decimals_in t) (value_in t) of.allowed;
    }

-- ---- what it is told as

-- in the range that it was rounded in it is the decimal
told_by : (a b : Bool) (r : Resolution) (n m : ℕ) → places_of (ranged a r) (pos m) ≡ pos n
    → places_of (ranged b r) (pos m) ≡ shown_places (ranged a r) (ranged b r) n m
told_by true true r n m e = e
told_by true false r n m e = refl
told_by false true r n m e = refl
told_by false false r n m e = e

-- the resolution that it is rounded to is the fine one's, of either range
preset_ranged : (capacity fine : ℕ) (r : Resolution) (t : List ℕ) → preset_resolution capacity fine r t ≡ ranged (preset_resolution capacity fine r t).coarse r
unfolding preset_resolution typed_resolution
preset_ranged capacity fine r t = refl

module _ (p : Profile) (fine : Resolution) (l : List ℕ) (m : ℕ) where
  pub typed_told : TypedAs p.capacity (preset_resolution p.capacity p.fine fine (typed_text l)) (typed_text l) m
      → let r = resolution_at p.fine fine (pos m) in field_of r.coarse r.decimals (places_of r (pos m)) ≡ typed_field p fine l
  typed_told typed =
      let t = typed_text l in
      let k = preset_resolution p.capacity p.fine fine t in
      let r = resolution_at p.fine fine (pos m) in
      let is = preset_ranged p.capacity p.fine fine t in
      let n = preset_places k (decimals_in t) (value_in t) in
      let told : places_of r (pos m) ≡ shown_places k r n m =
      subst (λ (x : Resolution). places_of r (pos m) ≡ shown_places x r n m) (sym is)
      (told_by k.coarse (lt_z (pos p.fine) (pos m)) fine n m (subst (λ (x : Resolution). places_of x (pos m) ≡ pos n) is typed.printed)) in
      ap (field_of r.coarse r.decimals) told
      ∙ ap (λ (x : ℕ). let y = resolution_at p.fine fine (pos x) in field_of y.coarse y.decimals (shown_places k y n x)) typed.amount

-- without a coarse range both are the fine one
pub unranged_preset : (capacity fine : ℕ) (r : Resolution) (t : List ℕ) → fine ≡ capacity → preset_resolution capacity fine r t ≡ ranged false r
unfolding preset_resolution typed_resolution
unranged_preset capacity fine r t e = rw (e, le-ltb capacity capacity (omega arith))
