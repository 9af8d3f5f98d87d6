-- What an allowed state gives: none of the cases of refusal 2.
-- Assumes nothing.
use mathlib.Core.Path.{◌≡◌, refl}
use mathlib.Core.Bool.{Bool, true, false, ◌&&◌}
use Prim.Native.Nat.{ℕ, zero, suc, ◌+◌, ◌≤◌, ◌<◌}
use native.Mathlib.Omega.{arith}
use borrow.Author.Tests.{leb-true, ltb-true, le-leb}
use lib.Dec.{ltb}
use lib.IntN.{pos, neg_ℤ}
use lib.Signed.{le_z}
use Rattle.line.specs.Receiving.{line_limit}
use Rattle.weight.proofs.Allowed.{both_left, both_right}
use Rattle.model.specs.declared.profile.Profile.{Profile}
use Rattle.model.specs.declared.sending.Sending.{Sending}
use Rattle.model.specs.declared.state.State.{State}
use Rattle.model.specs.Profiles.{text_allowed}
use Rattle.model.specs.States.{zero_allowed, tare_allowed, line_allowed, display_allowed, waiting_allowed, sending_allowed, is_pending, is_change, state_allowed, start_state}
use Rattle.model.specs.Sendings.{is_off, is_on_change, last_allowed, threshold_allowed, change_allowed}
use Rattle.model.proofs.Conjunctions.{Four, four, implied}

-- the tests of a state
pub record StateTests (p : Profile) (s : State) : Type 0 where
  pub zero : zero_allowed p s ≡ true
  pub tare : tare_allowed p s ≡ true
  pub line : line_allowed s ≡ true
  pub display : display_allowed s ≡ true
  pub waiting : waiting_allowed p s ≡ true
  pub sending : sending_allowed s ≡ true
  pub change : change_allowed p.underload p.capacity s.sending (is_change s.waiting.pending) ≡ true

-- an allowed state passes each
pub allowed_tests : (p : Profile) (s : State) → state_allowed p s ≡ true → StateTests p s
unfolding state_allowed
allowed_tests p s h =
    let ranges = zero_allowed p s && tare_allowed p s in
    let kept = change_allowed p.underload p.capacity s.sending (is_change s.waiting.pending) in
    let held = ranges && line_allowed s && display_allowed s in
    let cases : Four held (waiting_allowed p s) (sending_allowed s) kept = four held (waiting_allowed p s) (sending_allowed s) kept h in
    let lines = both_left (ranges && line_allowed s) (display_allowed s) cases.first in
    let inRanges = both_left ranges (line_allowed s) lines in
    record {
      zero = both_left (zero_allowed p s) (tare_allowed p s) inRanges;
      tare = both_right (zero_allowed p s) (tare_allowed p s) inRanges;
      line = both_right ranges (line_allowed s) lines;
      display = both_right (ranges && line_allowed s) (display_allowed s) cases.first;
      waiting = cases.second;
      sending = cases.third;
      change = cases.fourth;
    }

all_hold : (a b c d e f g : Bool) → a ≡ true → b ≡ true → c ≡ true → d ≡ true → e ≡ true → f ≡ true → g ≡ true
    → (a && b && c && d && e && f && g) ≡ true
all_hold a b c d e f g ha hb hc hd he hf hg = rw (ha, hb, hc, hd, he, hf) hg

-- and a state that passes each is allowed
pub tests_allow : (p : Profile) (s : State) → StateTests p s → state_allowed p s ≡ true
unfolding state_allowed
tests_allow p s h =
    all_hold (zero_allowed p s) (tare_allowed p s) (line_allowed s) (display_allowed s) (waiting_allowed p s) (sending_allowed s)
    (change_allowed p.underload p.capacity s.sending (is_change s.waiting.pending))
    h.zero h.tare h.line h.display h.waiting h.sending h.change

-- what SR keeps passes two tests
change_tests : (p : Profile) (c : Sending) (waits : Bool) → change_allowed p.underload p.capacity c waits ≡ true
    → (last_allowed p.underload p.capacity c ≡ true) × (threshold_allowed p.capacity c waits ≡ true)
unfolding change_allowed
change_tests p c waits h = (
  both_left (last_allowed p.underload p.capacity c) (threshold_allowed p.capacity c waits) h,
  both_right (last_allowed p.underload p.capacity c) (threshold_allowed p.capacity c waits) h,
)

-- what the cases above know of it; zero's range is only kept
pub record AllowedState (p : Profile) (s : State) : Type 0 where
  pub tare : s.weighing.tare.0 ≤ p.capacity
  pub line : s.line.len ≤ line_limit
  pub display : s.display.shown ≡ true → text_allowed 20 s.display.text ≡ true
  pub waiting : is_pending s.waiting.pending ≡ true → s.waiting.unstable < p.timeout
  pub sending : is_off s.sending.mode ≡ false → s.weighing.sampled ≡ true
  pub last : is_on_change s.sending.mode ≡ true
      → (le_z (neg_ℤ (pos (p.underload + p.capacity))) s.sending.last.0 && le_z s.sending.last.0 (pos p.capacity)) ≡ true

-- no case of refusal 2 holds of an allowed state
pub allowed_state : (p : Profile) (s : State) → state_allowed p s ≡ true → AllowedState p s
allowed_state p s h =
    let tests : StateTests p s = allowed_tests p s h in
    record {
      tare = leb-true _ _ tests.tare;
      line = leb-true _ _ tests.line;
      display = implied s.display.shown (text_allowed 20 s.display.text) tests.display;
      waiting = λ e. ltb-true _ _ (implied (is_pending s.waiting.pending) (ltb s.waiting.unstable p.timeout) tests.waiting e);
      sending = λ e. rw e at tests.sending;
      last = implied (is_on_change s.sending.mode) _ (change_tests p s.sending (is_change s.waiting.pending) tests.change).0;
    }

-- zero lies between a count's opposite and the count
zero_between : (n : ℕ) → (le_z (neg_ℤ (pos n)) (pos 0) && le_z (pos 0) (pos n)) ≡ true
zero_between zero = refl
zero_between (suc n) = le-leb 0 (suc n) (omega arith)

-- the state of power-on is allowed in every profile
pub start_allowed : (p : Profile) → state_allowed p start_state ≡ true
unfolding state_allowed start_state change_allowed
start_allowed p = rw (zero_between p.zeroing, le-leb 0 p.capacity (omega arith))
