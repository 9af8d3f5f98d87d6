-- Beside demand 3, over the same lists of calls and from calls and answers alone: every ended line has its answer or waits, a wait
-- ends at a stable sample or at the W-th unstable one of the history with an answer of the command that waits, and no call is
-- refused by 1 or 2.
-- Assumes nothing.
use Rattle.std.specs.Prelude.{ℕ, suc, ◌≡◌, Bool, true, false, cond, not, ◌&&◌, ◌||◌, List, [], ◌∷◌, ◌++◌, map, eqb}
use Rattle.device.specs.declared.bytes.BytesTaken.{BytesTaken}
use Rattle.device.specs.declared.call.Called.{Called}
use Rattle.device.specs.Buffers.{lengths_allowed, BytesCalled}
use Rattle.device.specs.Calls.{PowerOnCalled}
use Rattle.model.specs.declared.profile.Profile.{Profile}
use Rattle.model.specs.declared.state.State.{State}
use Rattle.model.specs.Refusals.{number_of_outcome}
use Rattle.line.specs.Unbounded.{Marked, ends_unbounded, finished_line, byte_in, any_faulty}
use Rattle.text.specs.Ascii.{ascii, same_text}
use Rattle.text.specs.Searching.{before_space}
use Rattle.history.specs.Claim.{Calls, OverCalls}
use Rattle.history.specs.Tally.{Event, Input, byte_is, sample_is, is_reset_line, begins}

-- the command that waits, by its identification
pub data Awaited : Type 0 where
  nothing : Awaited
  command : List ℕ → Awaited

abbrev pub is_awaiting : Awaited → Bool
is_awaiting nothing = false
is_awaiting (command name) = true

-- the line so far, which command waits, and the unstable samples that came since it waits
pub record Waits : Type 0 where
  pub line : List Marked
  pub waiting : Awaited
  pub unstable : ℕ

abbrev pub start_waits : Waits
start_waits = record { line = []; waiting = nothing; unstable = 0 }

abbrev pub is_empty : List ℕ → Bool
is_empty [] = true
is_empty (c ∷ l) = false

-- SR, with or without a parameter
abbrev pub is_change_line : List ℕ → Bool
is_change_line l = same_text (before_space l) (ascii "SR")

-- S, T, Z and SR may wait
abbrev pub may_wait : List Marked → Bool
may_wait f =
    not (any_faulty f)
    && (same_text (map byte_in f) (ascii "S") || same_text (map byte_in f) (ascii "T") || same_text (map byte_in f) (ascii "Z") || is_change_line (map byte_in f))

-- its identification: S for SR, and else its name
abbrev pub identification_in : List ℕ → List ℕ
identification_in l = cond (is_change_line l) (ascii "S") l

-- the answer that ends a command's wait at the W-th unstable sample: its identification and I
abbrev pub times_out : List ℕ → List ℕ → Bool
times_out name l = same_text l (name ++ ascii " I\r\n")

-- the answer that ends it at a stable sample: granted, with A for Z and S for S and T, or + or -
abbrev pub granted_status : List ℕ → List ℕ
granted_status name = cond (same_text name (ascii "Z")) (ascii "A") (ascii "S")

abbrev pub settles : List ℕ → List ℕ → Bool
settles name l =
    begins (name ++ ascii " " ++ granted_status name) l
    || same_text l (name ++ ascii " +\r\n")
    || same_text l (name ++ ascii " -\r\n")

-- ---- after a call that was not refused

-- a line ended: @ drops a waiting command; a line with no answer waits from now on
abbrev pub after_line : Waits → List Marked → List ℕ → Waits
after_line w f l =
    record {
      line = [];
      waiting = cond (is_reset_line f) nothing (cond (is_empty l) (command (identification_in (map byte_in f))) w.waiting);
      unstable = cond (is_empty l) 0 w.unstable;
    }

abbrev pub after_input : Waits → Input → List ℕ → Waits
after_input w (byte_is m) l =
    elim (ends_unbounded w.line m) [
      | true ↦ after_line w (finished_line w.line) l
      | false ↦ record { line = m ∷ w.line; waiting = w.waiting; unstable = w.unstable }
    ]
after_input w (sample_is z stable) l =
    record {
      line = w.line;
      waiting = cond (is_empty l) w.waiting nothing;
      unstable = cond (is_awaiting w.waiting && not stable) (suc w.unstable) w.unstable;
    }

-- a byte that ends no line has no answer; an ended line has its answer, or is S, T, Z or SR and waits from now on
abbrev pub byte_holds : Waits → Marked → List ℕ → Bool
byte_holds w m l =
    elim (ends_unbounded w.line m) [
      | true ↦ not (is_empty l) || (not (is_awaiting w.waiting) && may_wait (finished_line w.line))
      | false ↦ is_empty l
    ]

-- a stable sample ends the wait; of the unstable ones the W-th does, with I, and no other
abbrev pub awaited_holds : Profile → ℕ → Awaited → Bool → List ℕ → Bool
awaited_holds p unstable nothing stable l = true
awaited_holds p unstable (command name) stable l =
    cond stable (settles name l) (cond (eqb (suc unstable) p.timeout) (times_out name l) (is_empty l))

abbrev pub input_holds : Profile → Waits → Input → List ℕ → Bool
input_holds p w (byte_is m) l = byte_holds w m l
input_holds p w (sample_is z stable) l = awaited_holds p w.unstable w.waiting stable l

-- refused by 3 or not at all
abbrev pub refused_for_room : ℕ → Bool
refused_for_room n = eqb n 0 || eqb n 3

-- ---- a list of calls

unfoldable pub waits_hold : Profile → Waits → List Event → Bool
waits_hold p w [] = true
waits_hold p w (e ∷ es) =
    refused_for_room e.refusal
    && cond (eqb e.refusal 0)
    (input_holds p w e.input e.answer && waits_hold p (after_input w e.input e.answer) es)
    (is_empty e.answer && waits_hold p w es)

abbrev pub WaitsEnd : Type 0
WaitsEnd = OverCalls (λ p sent es. waits_hold p start_waits es ≡ true)

-- A whole-buffer call that is refused took no byte, and is no event: after the same lists of calls it is refused by 5 where its lengths
-- are, and else not at all
abbrev pub BuffersTaken : Type 0
BuffersTaken =
    (p : Profile) (earlier : State) (room : List ℕ) (r : Called) (buffer : List ℕ)
    → PowerOnCalled p earlier room r buffer
    → number_of_outcome r.outcome ≡ 0
    → (es : List Event) (s : State)
    → Calls p r.state es s
    → (bytes marks lent : List ℕ) (t : BytesTaken) (after : List ℕ)
    → BytesCalled p s bytes marks lent t after
    → number_of_outcome t.outcome ≡ cond (lengths_allowed bytes marks) 0 5
