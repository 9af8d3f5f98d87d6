-- Every weight that an allowed profile and state print has a number that fits the characters of its range.
-- Assumes nothing.
use Prim.Native.Nat.{ℕ, ◌+◌, ◌≤◌}
use native.Mathlib.Omega.{arith}
use mathlib.Core.Path.{◌≡◌, subst}
use mathlib.Core.Bool.{true, false, ◌&&◌}
use borrow.Author.Tests.{leb-true, le-leb, le-ltb}
use lib.IntN.{ℤ, pos, negsuc, neg_ℤ, nat_abs, ◌-ℤ◌}
use lib.Signed.{le_z, lt_z}
use Rattle.model.specs.declared.profile.Profile.{Profile}
use Rattle.model.specs.declared.state.State.{State}
use Rattle.model.specs.declared.weighing.Weighing.{Weighing}
use Rattle.model.specs.Profiles.{profile_allowed, scale_of}
use Rattle.model.specs.States.{state_allowed}
use Rattle.model.proofs.InForce.{nets_printable}
use Rattle.model.proofs.ProfileFacts.{allowed_profile}
use Rattle.model.proofs.StateFacts.{allowed_state}
use Rattle.weighing.proofs.Reach.{between, le_parts, parts_le, net_within}
use Rattle.weighing.specs.Weighings.{resolution_by}
use Rattle.weight.specs.Printing.{printable}
use Rattle.weight.specs.Rounding.{in_range, net_limit}
use Rattle.weight.proofs.Allowed.{both_left, both_right}
use Rattle.weight.proofs.Nearness.{up, down, up_pos, down_pos, up_negated, down_negated}

-- the tare of an allowed state is from 0 to C
pub tare_range : (p : Profile) (s : State) → state_allowed p s ≡ true → s.weighing.tare.0 ≤ p.capacity
tare_range p s allowed = (allowed_state p s allowed).tare

-- in the resolution in force
module _ (p : Profile) (allowed : profile_allowed p ≡ true) (w : Weighing) where
  -- a tare in its range
  pub tare_printable : (tare : ℕ) → tare ≤ p.capacity → printable (resolution_by (scale_of p w) (pos tare)) (pos tare) ≡ true
  tare_printable tare range =
      let lowest = p.underload + p.capacity in
      nets_printable p allowed w (pos tare)
      (parts_le (neg_ℤ (pos lowest)) (pos tare)
      (omega (
        arith,
        up_negated (pos lowest),
        down_negated (pos lowest),
        up_pos lowest,
        down_pos lowest,
        up_pos tare,
        down_pos tare,
      )))
      (le-leb tare p.capacity range)
      (pos tare)
      (le-ltb p.capacity tare range)

  -- a gross that neither T nor TI refuses
  pub gross_printable : (gross : ℤ) → lt_z (pos p.capacity) gross ≡ false → lt_z gross (pos 0) ≡ false → printable (resolution_by (scale_of p w) gross) gross ≡ true
  gross_printable gross over under =
      let natural = between gross p.capacity over under in
      subst (λ (x : ℤ). printable (resolution_by (scale_of p w) x) x ≡ true) natural.0 (tare_printable (nat_abs gross) natural.1)

  -- a net of a gross that S does not refuse, with a tare in its range
  pub net_printable
      : (gross : ℤ) (tare : ℕ)
      → lt_z (pos p.capacity) gross ≡ false
      → lt_z gross (neg_ℤ (pos p.underload)) ≡ false
      → tare ≤ p.capacity
      → printable (resolution_by (scale_of p w) gross) (gross -ℤ pos tare) ≡ true
  net_printable gross tare over under range =
      let within = net_within p gross tare over under range in
      nets_printable p allowed w (gross -ℤ pos tare) within.0 within.1 gross over

-- no number between the ends is farther from zero than the lower one
size_within : (net : ℤ) (lowest highest : ℕ) → highest ≤ lowest → le_z (neg_ℤ (pos lowest)) net ≡ true → le_z net (pos highest) ≡ true → nat_abs net ≤ lowest
unfolding up down
size_within (pos n) lowest highest h l u = omega (arith, leb-true n highest u)
size_within (negsuc n) lowest highest h l u =
    omega (arith, le_parts (neg_ℤ (pos lowest)) (negsuc n) l, up_negated (pos lowest), down_negated (pos lowest))

-- a net between the ends is one that is rounded
pub within_range
    : (p : Profile) → profile_allowed p ≡ true → (net : ℤ)
    → (le_z (neg_ℤ (pos (p.underload + p.capacity))) net && le_z net (pos p.capacity)) ≡ true
    → in_range net ≡ true
within_range p allowed net h =
    let limits = (allowed_profile p allowed).limits in
    let lowest = p.underload + p.capacity in
    let most = limits.capacity_most in
    let least = limits.underload_most in
    let size = size_within net lowest p.capacity (omega arith)
    (both_left (le_z (neg_ℤ (pos lowest)) net) (le_z net (pos p.capacity)) h)
    (both_right (le_z (neg_ℤ (pos lowest)) net) (le_z net (pos p.capacity)) h) in
    le-leb (nat_abs net) net_limit (omega (arith, size, most, least))
