-- How far the bytes of a whole-buffer call have been taken.
-- Assumes nothing.
use Prim.Native.Nat.{ℕ, ◌+◌, ◌≤◌}
use mathlib.Core.Path.{◌≡◌}
use mathlib.Core.Bool.{Bool, true, false}
use mathlib.Core.List.{List, ◌++◌}
use lib.ListN.{length, take, drop}
use Rattle.device.specs.Buffers.{BytesOutcome, none_taken, served, singly}
use Rattle.line.specs.Unbounded.{Marked}
use Rattle.model.specs.declared.profile.Profile.{Profile}
use Rattle.model.specs.declared.state.State.{State}
use Rattle.model.specs.States.{state_allowed}

-- what bytes came to: the state after them, how many bytes were answered and taken, and whether the next one's answer does not fit
pub record Turn : Type 0 where
  pub state : State
  pub count : ℕ
  pub taken : ℕ
  pub stopped : Bool

-- n bytes were taken before, and these answers given
abbrev pub after_answers : ℕ → List ℕ → BytesOutcome → BytesOutcome
after_answers n answers o =
    record {
      number = o.number;
      state = o.state;
      count = length answers + o.count;
      taken = n + o.taken;
      buffer = answers ++ o.buffer;
    }

-- what the bytes that are left give; nothing, where the next one's answer did not fit
abbrev pub to_come : Bool → Profile → State → List Marked → List ℕ → BytesOutcome
to_come true p s ms room = served (none_taken s room)
to_come false p s ms room = served (singly p s ms room)

-- what all of the bytes give is what was given so far, and what is to come
pub record TakenSoFar (p : Profile) (s : State) (ms : List Marked) (room : List ℕ) (t : Turn) (buffer : List ℕ) : Type 0 where
  pub allowed : state_allowed p t.state ≡ true
  pub within : t.taken ≤ length ms
  pub written : t.count ≤ length buffer
  pub long : length buffer ≡ length room
  pub same
      : served (singly p s ms room)
      ≡ after_answers t.taken (take t.count buffer) (to_come t.stopped p t.state (drop t.taken ms) (drop t.count buffer))

-- a turn that does not stop takes a byte, where there is one
pub record TurnTaken (p : Profile) (s : State) (ms : List Marked) (room : List ℕ) (t : Turn) (buffer : List ℕ) : Type 0 where
  pub so_far : TakenSoFar p s ms room t buffer
  pub moves : t.stopped ≡ false → 1 ≤ length ms → 1 ≤ t.taken
