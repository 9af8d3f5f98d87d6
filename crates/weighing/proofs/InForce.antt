-- The resolution in force goes by the unit alone, and does not move with zero, tare and sample; nor does the unit with Z and T.
-- Assumes nothing.
use Prim.Native.Nat.{ℕ}
use mathlib.Core.Path.{◌≡◌, refl}
use mathlib.Core.Bool.{Bool, true, false, ◌||◌}
use lib.IntN.{pos, neg_ℤ, nat_abs}
use lib.Signed.{lt_z}
use Rattle.answer.specs.declared.answer.Status.{Status}
use Rattle.model.specs.declared.profile.Profile.{Profile}
use Rattle.model.specs.declared.weighing.Weighing.{Weighing}
use Rattle.model.specs.Profiles.{resolution_in}
use Rattle.weighing.specs.Weighings.{chosen_weighing, gross_of, tared, with_tare, with_zero, zeroed, zeroed_by, tared_by}

-- weighings in the same unit give the same resolution
pub same_resolution : (p : Profile) (w v : Weighing) → w.unit ≡ v.unit → resolution_in p w ≡ resolution_in p v
unfolding resolution_in
same_resolution p w v e = rw e

module _ (p : Profile) (w : Weighing) where
  pub resolution_tared : (tare : ℕ) → resolution_in p (with_tare w tare) ≡ resolution_in p w
  resolution_tared tare = same_resolution p (with_tare w tare) w refl

  -- Z and T leave the unit as it is, granted or not
  chosen : (b : Bool) (v : Weighing) → v.unit ≡ w.unit → (chosen_weighing b w v).unit ≡ w.unit
  chosen true v e = refl
  chosen false v e = e

  pub unit_after_zero : (c : ℕ) (granted : Status) → (zeroed p w c granted).weighing.unit ≡ w.unit
  unfolding zeroed_by
  unit_after_zero c granted = chosen (lt_z (pos p.zeroing) w.load.0 || lt_z w.load.0 (neg_ℤ (pos p.zeroing))) (with_zero w) refl

  pub unit_after_tare : (c : ℕ) → (tared p w c).weighing.unit ≡ w.unit
  unfolding tared_by
  unit_after_tare c = chosen (lt_z (pos p.capacity) (gross_of w) || lt_z (gross_of w) (pos 0)) (with_tare w (nat_abs (gross_of w))) refl
