-- The tally follows a weighing: the same latest load, zero and unit, and the same tare up to half a microgram if it is typed, rounded to
-- the microgram then. One law for each kind of answer, used both where a line ends and where a sample ends a wait.
-- Assumes nothing.
use Prim.Native.Nat.{ℕ, ◌+◌, ◌≤◌}
use native.Mathlib.Omega.{arith}
use mathlib.Core.Path.{◌≡◌, refl, sym, ap₂}
use mathlib.Core.Bool.{Bool, true, false, cond}
use mathlib.Core.List.{List}
use lib.IntN.{ℤ, pos, ◌-ℤ◌}
use Rattle.model.specs.declared.profile.Profile.{Profile}
use Rattle.model.specs.declared.weighing.Weighing.{Weighing}
use Rattle.model.specs.Profiles.{resolution_in, scale_of}
use Rattle.weighing.specs.Weighings.{gross_of, net_of, resolution_by}
use Rattle.weight.specs.declared.rounding.Resolution.{Resolution}
use Rattle.weight.specs.Ranges.{resolution_at}
use Rattle.weight.specs.Rounding.{allowed_resolution, step_femtograms, printed_femtograms, exact_femtograms, places_of, Near}
use Rattle.weight.proofs.HalfStep.{half_step, exact_difference}
use Rattle.weight.proofs.Nearness.{near_weaken, near_triangle, near_shift}
use Rattle.history.specs.Tally.{Tally, Latest, none, load, in_force, in_force_at, latest_of, is_loaded, rounded_tare, tells_net, allowance}

-- the latest load, as the tally keeps it
abbrev pub latest_in : Weighing → Latest
latest_in w = cond w.sampled (load w.load.0) none

pub record Follows (w : Weighing) (t : Tally) : Type 0 where
  pub latest : t.latest ≡ latest_in w
  pub zero : t.zero ≡ w.zero.0
  pub tare : Near (cond t.typed 1_000_000_000 0) (exact_femtograms (pos w.tare.0)) t.tare
  pub rounded : w.tare.0 ≡ rounded_tare t
  pub unit : t.unit ≡ w.unit

-- the module's resolution is the tally's
pub same_in_force : (p : Profile) (w : Weighing) (t : Tally) → Follows w t → resolution_in p w ≡ in_force p t
unfolding resolution_in in_force
same_in_force p w t f = rw f.unit

module _ (w : Weighing) (t : Tally) (f : Follows w t) (sampled : w.sampled ≡ true) where
  pub is_loaded_lem : is_loaded t ≡ true
  is_loaded_lem = rw (f.latest, sampled)

  pub latest_is : latest_of t ≡ w.load.0
  latest_is = rw (f.latest, sampled)

  pub gross_is : latest_of t -ℤ t.zero ≡ gross_of w
  gross_is = ap₂ ◌-ℤ◌ latest_is f.zero

-- and so is the resolution in force, by gross and by the tare
module _ (p : Profile) (w : Weighing) (t : Tally) (f : Follows w t) (l : List ℕ) where
  pub net_force : w.sampled ≡ true → tells_net l ≡ true → resolution_by (scale_of p w) (gross_of w) ≡ in_force_at p t l
  net_force sampled net = rw net (ap₂ (resolution_at p.fine) (same_in_force p w t f) (sym (gross_is w t f sampled)))

  pub tare_force : tells_net l ≡ false → resolution_by (scale_of p w) (pos w.tare.0) ≡ in_force_at p t l
  tare_force other = rw other (ap₂ (λ (r : Resolution) (n : ℕ). resolution_at p.fine r (pos n)) (same_in_force p w t f) f.rounded)

-- half a step, and half a microgram if the tare is typed, are within what the tally allows
allowed_off : (r : Resolution) (t : Tally) (typed : Bool) → t.typed ≡ typed
    → step_femtograms r + cond t.typed 1_000_000_000 0 ≤ allowance r t
allowed_off r t true e = rw e (omega arith)
allowed_off r t false e = rw e (omega arith)

-- the printed net is near the tally's, and the printed tare near its tare
module _ (r : Resolution) (allowed : allowed_resolution r ≡ true) (w : Weighing) (t : Tally) (f : Follows w t) where
  -- within a bound that the allowance covers
  covered : (a b : ℤ) → Near (step_femtograms r + cond t.typed 1_000_000_000 0) a b → Near (allowance r t) a b
  covered a b = near_weaken (step_femtograms r + cond t.typed 1_000_000_000 0) (allowance r t) a b (allowed_off r t t.typed refl)

  pub net_near
      : w.sampled ≡ true
      → Near (allowance r t) (printed_femtograms r (places_of r (net_of w))) (exact_femtograms (latest_of t -ℤ t.zero) -ℤ t.tare)
  net_near sampled =
      rw (gross_is w t f sampled)
      (covered _ _
      (near_triangle (step_femtograms r) (cond t.typed 1_000_000_000 0)
      (printed_femtograms r (places_of r (net_of w)))
      (exact_femtograms (net_of w))
      (exact_femtograms (gross_of w) -ℤ t.tare)
      (half_step r (net_of w) allowed)
      (rw (exact_difference (gross_of w) (pos w.tare.0))
      (near_shift (cond t.typed 1_000_000_000 0) (exact_femtograms (gross_of w)) (exact_femtograms (pos w.tare.0)) t.tare f.tare))))

  pub tare_near : Near (allowance r t) (printed_femtograms r (places_of r (pos w.tare.0))) t.tare
  tare_near =
      covered _ _
      (near_triangle (step_femtograms r) (cond t.typed 1_000_000_000 0)
      (printed_femtograms r (places_of r (pos w.tare.0)))
      (exact_femtograms (pos w.tare.0))
      t.tare
      (half_step r (pos w.tare.0) allowed)
      f.tare)
