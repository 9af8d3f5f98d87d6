-- Document 02, No. 2: a whole buffer of received bytes, good and faulty marked by a second one of the same length.
-- Assumes nothing.
use Rattle.std.specs.Prelude.{ℕ, ◌≤◌, ◌≡◌, Bool, true, false, ◌&&◌, List, [], ◌∷◌, ◌++◌, leb, eqb, length, take, drop, Result, Ok, Err}
use Rattle.device.specs.declared.bytes.BytesTaken.{BytesTaken}
use Rattle.device.specs.declared.bytes.Taken.{Taken}
use Rattle.device.specs.Calls.{Outcome, byte_outcome}
use Rattle.line.specs.Runs.{marked_bytes}
use Rattle.line.specs.Unbounded.{Marked}
use Rattle.model.specs.declared.profile.Profile.{Profile}
use Rattle.model.specs.declared.state.State.{State}
use Rattle.model.specs.Profiles.{profile_allowed}
use Rattle.model.specs.declared.refusal.Refusal.{Refusal}
use Rattle.model.specs.Refusals.{number_of_outcome}
use Rattle.model.specs.States.{state_allowed}

-- ---- taking them singly

-- the answer of a call, and the room that it left
abbrev pub answer_in : Outcome → List ℕ
answer_in o = take o.count o.buffer

abbrev pub room_after : Outcome → List ℕ
room_after o = drop o.count o.buffer

-- what bytes give that are taken one after another: the state after them, for each of them its own answer, and the room that is left
pub record Singly : Type 0 where
  pub state : State
  pub answers : List (List ℕ)
  pub left : List ℕ

abbrev pub chosen_singly : Bool → Singly → Singly → Singly
chosen_singly true a b = a
chosen_singly false a b = b

abbrev pub none_taken : State → List ℕ → Singly
none_taken s room = record { state = s; answers = []; left = room }

abbrev pub with_answer : List ℕ → Singly → Singly
with_answer answer q = record { state = q.state; answers = answer ∷ q.answers; left = q.left }

-- each byte in the room that the answers before it left, up to one that is refused
unfoldable pub singly : Profile → State → List Marked → List ℕ → Singly
singly p s [] room = none_taken s room
singly p s (m ∷ ms) room =
    let o = byte_outcome p s m.byte m.faulty room in
    chosen_singly (eqb o.number 0) (with_answer (answer_in o) (singly p o.state ms (room_after o))) (none_taken s room)

-- ---- the call

-- what it gives: the paper's refusal number, 0 for none, the state, how many bytes are the answers and how many were taken, and its
-- buffer at the end
pub record BytesOutcome : Type 0 where
  pub number : ℕ
  pub state : State
  pub count : ℕ
  pub taken : ℕ
  pub buffer : List ℕ

unfoldable pub joined : List (List ℕ) → List ℕ
joined [] = []
joined (l ∷ ls) = l ++ joined ls

-- the answers stand one after another, and what follows is as before
abbrev pub served : Singly → BytesOutcome
served q =
    record {
      number = 0;
      state = q.state;
      count = length (joined q.answers);
      taken = length q.answers;
      buffer = joined q.answers ++ q.left;
    }

-- on a refusal: the given state, no byte written and none taken
abbrev pub refused_bytes : ℕ → State → List ℕ → BytesOutcome
refused_bytes n s room = record { number = n; state = s; count = 0; taken = 0; buffer = room }

abbrev pub chosen_bytes : Bool → BytesOutcome → BytesOutcome → BytesOutcome
chosen_bytes true a b = a
chosen_bytes false a b = b

abbrev pub buffer_limit : ℕ
buffer_limit = 4096

-- as many marks as bytes, and not more than 4,096
abbrev pub lengths_allowed : List ℕ → List ℕ → Bool
lengths_allowed bytes marks = eqb (length bytes) (length marks) && leb (length bytes) buffer_limit

-- 1 and 2 as for every call, then 5; never 3
unfoldable pub bytes_outcome : Profile → State → List ℕ → List ℕ → List ℕ → BytesOutcome
bytes_outcome p s bytes marks room =
    chosen_bytes (profile_allowed p)
    (chosen_bytes (state_allowed p s)
    (chosen_bytes (lengths_allowed bytes marks) (served (singly p s (marked_bytes bytes marks) room)) (refused_bytes 5 s room))
    (refused_bytes 2 s room))
    (refused_bytes 1 s room)

-- ---- what the contract says: the refusal number, the result and the whole buffer at exit, for every input

-- what a call's result counts; nothing on a refusal
abbrev pub counts_of : Result Taken Refusal → Taken
counts_of (Ok t) = t
counts_of (Err e) = record { count = 0; taken = 0 }

pub record GivesBytes (o : BytesOutcome) (r : BytesTaken) (buffer : List ℕ) : Type 0 where
  pub numbered : number_of_outcome r.outcome ≡ o.number
  pub returned : r.state ≡ o.state
  pub counted : (counts_of r.outcome).count ≡ o.count
  pub took : (counts_of r.outcome).taken ≡ o.taken
  pub left : buffer ≡ o.buffer

pub record BytesCalled (p : Profile) (s : State) (bytes marks room : List ℕ) (r : BytesTaken) (buffer : List ℕ) : Type 0 where
  pub gives : GivesBytes (bytes_outcome p s bytes marks room) r buffer

-- what the call took, singly: nothing where its lengths are refused
abbrev pub taken_singly : Profile → State → List ℕ → List ℕ → List ℕ → Singly
taken_singly p s bytes marks room = chosen_singly (lengths_allowed bytes marks) (singly p s (marked_bytes bytes marks) room) (none_taken s room)

-- ---- buffer after buffer

-- a list of whole-buffer calls from a state, refused ones included: the bytes that they took, and their answers, one after another
pub data Buffers (p : Profile) : State → List Marked → List ℕ → State → Type 0 where
  none : {s : State} → Buffers p s [] [] s
  next : {s : State} {bytes marks room : List ℕ} {r : BytesTaken} {buffer : List ℕ} {ms : List Marked} {answers : List ℕ} {s' : State}
      → BytesCalled p s bytes marks room r buffer → Buffers p r.state ms answers s'
      → Buffers p s (take (counts_of r.outcome).taken (marked_bytes bytes marks) ++ ms) (take (counts_of r.outcome).count buffer ++ answers) s'

-- whatever the cuts and the rooms were, they gave what these bytes give that are taken singly, in a room that suffices
abbrev pub CutsAlike : Type 0
CutsAlike =
    (p : Profile) (s : State) (ms : List Marked) (answers : List ℕ) (s' : State)
    → Buffers p s ms answers s'
    → (room : List ℕ)
    → length answers ≤ length room
    → served (singly p s ms room)
    ≡ record { number = 0; state = s'; count = length answers; taken = length ms; buffer = answers ++ drop (length answers) room }
