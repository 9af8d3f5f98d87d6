-- What the whole-buffer call gives, by what leads to its return.
-- Assumes nothing.
use Prim.Native.Nat.{ℕ, ◌≤◌}
use mathlib.Core.Path.{◌≡◌, sym, ◌∙◌}
use mathlib.Core.Bool.{Bool, true, false}
use mathlib.Core.List.{List}
use borrow.Author.Tests.{eq-eqb, le-leb}
use lib.ListN.{length}
use Rattle.std.specs.Prelude.{Result, Ok, Err}
use Rattle.line.specs.Runs.{marked_bytes}
use Rattle.model.specs.declared.profile.Profile.{Profile}
use Rattle.model.specs.declared.refusal.Refusal.{Refusal}
use Rattle.model.specs.declared.refusal.Refusal.TheVariants as refusals
use Rattle.model.specs.declared.state.State.{State}
use Rattle.model.specs.Profiles.{profile_allowed}
use Rattle.model.specs.Refusals.{number_of_refusal}
use Rattle.model.specs.States.{state_allowed}
use Rattle.device.specs.declared.bytes.BytesTaken.{BytesTaken}
use Rattle.device.specs.Calls.{admitted, admitted_by}
use Rattle.device.specs.Buffers.{BytesOutcome, chosen_bytes, refused_bytes, lengths_allowed, buffer_limit, singly, served, bytes_outcome, GivesBytes, BytesCalled}
use Rattle.device.proofs.Refusals.{passed}

-- what the code returns where it refuses
abbrev RefusesBytes : Refusal → State → BytesTaken → Type 0
RefusesBytes x s r = r ≡ record { state = s; outcome = Err x }

refused_gives : {x : Refusal} {s : State} {room : List ℕ} {o : BytesOutcome} {r : BytesTaken} → RefusesBytes x s r
    → o ≡ refused_bytes (number_of_refusal x) s room
    → GivesBytes o r room
refused_gives h e = record { numbered = rw (h, e); returned = rw (h, e); counted = rw (h, e); took = rw (h, e); left = rw e }

refused_by : (b c : Bool) {x : Refusal} (s : State) (room : List ℕ) (next : BytesOutcome) → admitted_by b c ≡ Err x
    → chosen_bytes b (chosen_bytes c next (refused_bytes 2 s room)) (refused_bytes 1 s room) ≡ refused_bytes (number_of_refusal x) s room
refused_by true true s room next e = absurd cc
refused_by true false {x} s room next e = let is : ◌≡◌ {A = Refusal} refusals.State x = cc in rw (← is)
refused_by false c {x} s room next e = let is : ◌≡◌ {A = Refusal} refusals.Profile x = cc in rw (← is)

module _ (p : Profile) (s : State) (bytes marks room : List ℕ) {r : BytesTaken} {a : Result (Unit {0}) Refusal} (asked : a ≡ admitted p s) where
  pub bytes_refused : {x : Refusal} → a ≡ Err x → RefusesBytes x s r → BytesCalled p s bytes marks room r room
  unfolding bytes_outcome
  bytes_refused e h = record { gives = refused_gives h (refused_by (profile_allowed p) (state_allowed p s) s room _ (sym asked ∙ e)) }

  module _ {u : Unit {0}} (let_in : a ≡ Ok u) where
    pub bytes_lengths : lengths_allowed bytes marks ≡ false → RefusesBytes refusals.Lengths s r → BytesCalled p s bytes marks room r room
    unfolding bytes_outcome
    bytes_lengths e h = let both = passed p s asked let_in in record { gives = refused_gives h (rw (both.0, both.1, e)) }

    pub bytes_taken : {buffer : List ℕ} → length bytes ≡ length marks → length bytes ≤ buffer_limit
        → GivesBytes (served (singly p s (marked_bytes bytes marks) room)) r buffer → BytesCalled p s bytes marks room r buffer
    unfolding bytes_outcome
    bytes_taken e f g =
        let both = passed p s asked let_in in
        record { gives = rw (both.0, both.1, eq-eqb (length bytes) (length marks) e, le-leb (length bytes) buffer_limit f) g }
