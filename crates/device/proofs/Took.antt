-- What the whole-buffer call took, singly, for every input; and for what it is refused.
-- Assumes nothing.
use Prim.Native.Nat.{ℕ, ◌≤◌}
use mathlib.Core.Path.{◌≡◌, refl, ◌∙◌}
use mathlib.Core.Bool.{Bool, true, false, cond}
use mathlib.Core.List.{List, [], ◌∷◌}
use native.Mathlib.Omega.{arith}
use lib.Dec.{eqb}
use lib.ListN.{length, take}
use lib.Seq.{take-append_seam}
use Rattle.device.specs.declared.bytes.BytesTaken.{BytesTaken}
use Rattle.device.specs.Buffers.{Singly, answer_in, room_after, chosen_singly, chosen_bytes, counts_of, with_answer, joined, lengths_allowed, none_taken, served, singly, refused_bytes, bytes_outcome, taken_singly, GivesBytes, BytesCalled}
use Rattle.device.specs.Calls.{Outcome, byte_outcome, of_profile, of_state}
use Rattle.line.specs.Runs.{marked_bytes}
use Rattle.line.specs.Unbounded.{Marked}
use Rattle.model.specs.declared.profile.Profile.{Profile}
use Rattle.model.specs.declared.state.State.{State}
use Rattle.model.specs.Profiles.{profile_allowed}
use Rattle.model.specs.Refusals.{number_of_outcome}
use Rattle.model.specs.States.{state_allowed}

-- ---- what it returned

-- state, answers and how many bytes were taken
pub record TookSingly (q : Singly) (r : BytesTaken) (buffer : List ℕ) : Type 0 where
  pub state : r.state ≡ q.state
  pub answers : take (counts_of r.outcome).count buffer ≡ joined q.answers
  pub taken : (counts_of r.outcome).taken ≡ length q.answers

-- no byte is taken with a profile or a state that is refused
module _ (p : Profile) (s : State) (room : List ℕ) where
  singly_profile : profile_allowed p ≡ false → (ms : List Marked) → singly p s ms room ≡ none_taken s room
  unfolding singly byte_outcome of_profile
  singly_profile e [] = refl
  singly_profile e (m ∷ ms) = rw e

  singly_state : profile_allowed p ≡ true → state_allowed p s ≡ false → (ms : List Marked) → singly p s ms room ≡ none_taken s room
  unfolding singly byte_outcome of_profile of_state
  singly_state e f [] = refl
  singly_state e f (m ∷ ms) = rw (e, f)

none_chosen : (b : Bool) {q : Singly} {s : State} {room : List ℕ} → q ≡ none_taken s room → chosen_singly b q (none_taken s room) ≡ none_taken s room
none_chosen true e = e
none_chosen false e = refl

refused_took : {n : ℕ} {s : State} {room : List ℕ} {r : BytesTaken} {buffer : List ℕ} {q : Singly} → q ≡ none_taken s room
    → GivesBytes (refused_bytes n s room) r buffer
    → TookSingly q r buffer
unfolding joined
refused_took e g = rw e (record { state = g.returned; answers = rw g.counted; taken = g.took })

served_took : {q t : Singly} {r : BytesTaken} {buffer : List ℕ} → t ≡ q → GivesBytes (served q) r buffer → TookSingly t r buffer
served_took {q} e g =
    rw e
    (record { state = g.returned; answers = rw (g.counted, g.left) (take-append_seam (joined q.answers) q.left); taken = g.took })

module _ (p : Profile) (s : State) (bytes marks room : List ℕ) {r : BytesTaken} {buffer : List ℕ} where
  took_by : (a b c : Bool) → profile_allowed p ≡ a → state_allowed p s ≡ b → lengths_allowed bytes marks ≡ c
      → GivesBytes (bytes_outcome p s bytes marks room) r buffer
      → TookSingly (taken_singly p s bytes marks room) r buffer
  unfolding bytes_outcome
  took_by true true true e f g h = served_took (rw g) (rw (e, f, g) at h)
  took_by true true false e f g h = refused_took (rw g) (rw (e, f, g) at h)
  took_by true false c e f g h = refused_took (none_chosen (lengths_allowed bytes marks) (singly_state p s room e f (marked_bytes bytes marks))) (rw (e, f) at h)
  took_by false b c e f g h = refused_took (none_chosen (lengths_allowed bytes marks) (singly_profile p s room e (marked_bytes bytes marks))) (rw e at h)

  pub took_singly : BytesCalled p s bytes marks room r buffer → TookSingly (taken_singly p s bytes marks room) r buffer
  took_singly call = took_by (profile_allowed p) (state_allowed p s) (lengths_allowed bytes marks) refl refl refl call.gives

-- ---- how many

-- no more are taken than there are
singly_within : (p : Profile) (ms : List Marked) (s : State) (room : List ℕ) → length (singly p s ms room).answers ≤ length ms
unfolding singly
singly_within p [] s room = omega arith
singly_within p (m ∷ ms) s room =
    let o : Outcome = byte_outcome p s m.byte m.faulty room in
    by (eqb o.number 0) (singly p o.state ms (room_after o)) (singly_within p ms o.state (room_after o))
  where
    by : (b : Bool) (q : Singly) → length q.answers ≤ length ms
        → length (chosen_singly b (with_answer (answer_in (byte_outcome p s m.byte m.faulty room)) q) (none_taken s room)).answers ≤ length (m ∷ ms)
    by true q h = omega (arith, h)
    by false q h = omega arith

pub taken_within : (p : Profile) (s : State) (bytes marks room : List ℕ) → length (taken_singly p s bytes marks room).answers ≤ length (marked_bytes bytes marks)
taken_within p s bytes marks room = by (lengths_allowed bytes marks)
  where
    by : (b : Bool) → length (chosen_singly b (singly p s (marked_bytes bytes marks) room) (none_taken s room)).answers ≤ length (marked_bytes bytes marks)
    by true = singly_within p (marked_bytes bytes marks) s room
    by false = omega arith

-- ---- why it is refused

-- with a profile and a state that are allowed, for its lengths alone
pub lengths_alone : (p : Profile) (s : State) (bytes marks room : List ℕ) {r : BytesTaken} {buffer : List ℕ} → profile_allowed p ≡ true → state_allowed p s ≡ true
    → BytesCalled p s bytes marks room r buffer
    → number_of_outcome r.outcome ≡ cond (lengths_allowed bytes marks) 0 5
unfolding bytes_outcome
lengths_alone p s bytes marks room profile state call = (rw (profile, state) at call.gives.numbered) ∙ by (lengths_allowed bytes marks) (singly p s (marked_bytes bytes marks) room)
  where
    by : (b : Bool) (q : Singly) → (chosen_bytes b (served q) (refused_bytes 5 s room)).number ≡ cond b 0 5
    by true q = refl
    by false q = refl
