-- Bytes taken singly, without a test of profile and state at each: an allowed state stays one, so what is left is what each of them
-- does. Those that end no line are taken at once.
-- Assumes nothing.
use Prim.Native.Nat.{ℕ, suc, ◌+◌, ◌≤◌}
use native.Mathlib.Nat.{zero-add}
use native.Mathlib.Omega.{arith}
use mathlib.Core.Path.{◌≡◌, refl, sym, ap, ◌∙◌}
use mathlib.Core.Bool.{Bool, true, false, true≢false, false≢true}
use mathlib.Core.List.{List, [], ◌∷◌, ◌++◌, append_assoc}
use lib.ListN.{length, drop, length-append}
use lib.Seq.{take-append_seam, drop-append_seam}
use Rattle.answer.specs.declared.answer.Answer.TheVariants.{Nothing}
use Rattle.commands.specs.Reactions.{byte_reaction, line_reaction}
use Rattle.commands.proofs.Bytes.{byte_ends, byte_joins}
use Rattle.commands.proofs.StaysAllowed.{byte_allowed, byte_cells}
use Rattle.emit.specs.Rooms.{fits_room, laid_in}
use Rattle.line.specs.declared.run.Run.{Run}
use Rattle.line.specs.Receiving.{received_byte, line_limit}
use Rattle.line.specs.Runs.{chosen_run, one_more, received_run}
use Rattle.line.specs.Unbounded.{Marked}
use Rattle.model.specs.declared.profile.Profile.{Profile}
use Rattle.model.specs.declared.react.Reaction.{Reaction}
use Rattle.model.specs.declared.state.State.{State}
use Rattle.model.specs.Groups.{reaction, with_line}
use Rattle.model.specs.Profiles.{profile_allowed}
use Rattle.model.specs.States.{state_allowed}
use Rattle.device.specs.Calls.{answer_bytes, delivered, of_profile, of_state, byte_outcome}
use Rattle.device.specs.Buffers.{BytesOutcome, Singly, joined, none_taken, with_answer, singly, served}
use Rattle.device.proofs.Turns.{after_answers}
use Rattle.device.proofs.Refusals.{delivered_nothing}

-- ---- one after another

abbrev outcome : ℕ → State → ℕ → ℕ → List ℕ → BytesOutcome
outcome n s count taken buffer = record { number = n; state = s; count = count; taken = taken; buffer = buffer }

one_add : (n : ℕ) → 1 + n ≡ suc n
one_add n = omega arith

alike : {n : ℕ} {s : State} {c d t u : ℕ} {b e : List ℕ} → c ≡ d → t ≡ u → b ≡ e → outcome n s c t b ≡ outcome n s d u e
alike c t b = rw (c, t, b)

-- a byte's own answer goes before those of the bytes after it
pub served_next : (answer : List ℕ) (q : Singly) → served (with_answer answer q) ≡ after_answers 1 answer (served q)
unfolding joined
served_next answer q =
    alike (length-append answer (joined q.answers)) (omega arith) (append_assoc answer (joined q.answers) q.left)

pub after_none : (o : BytesOutcome) → o ≡ after_answers 0 [] o
after_none o = alike (sym (zero-add o.count)) (sym (zero-add o.taken)) refl

pub after_after : (n k : ℕ) (a b : List ℕ) (o : BytesOutcome) → after_answers n a (after_answers k b o) ≡ after_answers (n + k) (a ++ b) o
after_after n k a b o =
    alike (rw (length-append a b) (omega arith)) (omega arith) (sym (append_assoc a b o.buffer))

module _ (p : Profile) (profile : profile_allowed p ≡ true) where
  -- ---- a byte

  module _ (s : State) (allowed : state_allowed p s ≡ true) (m : Marked) (room : List ℕ) where
    -- profile and state need no test
    byte_due : {x : Reaction} → byte_reaction p s m.byte m.faulty ≡ x → byte_outcome p s m.byte m.faulty room ≡ delivered p s x room
    unfolding byte_outcome of_profile of_state
    byte_due e = rw (profile, allowed, e)

    module _ (ms : List Marked) where
      -- one that ends no line is not answered
      quiet_taken : (received_byte s.line m.byte m.faulty).ended ≡ false
          → singly p s (m ∷ ms) room ≡ with_answer [] (singly p (with_line s (received_byte s.line m.byte m.faulty).line) ms room)
      unfolding singly
      quiet_taken e =
          let t : State = with_line s (received_byte s.line m.byte m.faulty).line in
          rw (byte_due (byte_joins p s m.byte m.faulty refl e), delivered_nothing p s room t)

      module _ (ends : (received_byte s.line m.byte m.faulty).ended ≡ true) where
        due : byte_outcome p s m.byte m.faulty room ≡ delivered p s (line_reaction p s) room
        due = byte_due (byte_ends p s m.byte m.faulty refl ends)

        abbrev bytes : List ℕ
        bytes = answer_bytes p (line_reaction p s).answer

        -- one that does is, where its answer fits
        pub ended_taken : fits_room bytes room ≡ true
            → singly p s (m ∷ ms) room ≡ with_answer bytes (singly p (line_reaction p s).state ms (drop (length bytes) room))
        unfolding singly delivered laid_in
        ended_taken fits =
            rw (due, fits, take-append_seam bytes (drop (length bytes) room), drop-append_seam bytes (drop (length bytes) room))

        -- and is not taken where it does not
        pub ended_left : fits_room bytes room ≡ false → singly p s (m ∷ ms) room ≡ none_taken s room
        unfolding singly delivered
        ended_left unfit = rw (due, unfit)

  -- ---- the bytes before one that ends the line

  module _ (room : List ℕ) where
    -- r of the bytes ms were taken, and none of them answered
    pub record RunTaken (s : State) (ms : List Marked) (r : Run) : Type 0 where
      pub allowed : state_allowed p (with_line s r.line) ≡ true
      pub cells : length r.line.bytes ≡ line_limit
      pub within : r.taken ≤ length ms
      pub same
          : served (singly p s ms room)
          ≡ after_answers r.taken [] (served (singly p (with_line s r.line) (drop r.taken ms) room))
      pub next
          : r.ended ≡ true
          → (m : Marked)
          × (drop r.taken ms ≡ m ∷ drop (suc r.taken) ms)
          × ((received_byte r.line m.byte m.faulty).ended ≡ true)
      pub all : r.ended ≡ false → r.taken ≡ length ms

    module _ (s : State) (allowed : state_allowed p s ≡ true) (cells : length s.line.bytes ≡ line_limit) (m : Marked) (ms : List Marked) where
      abbrev after : State
      after = with_line s (received_byte s.line m.byte m.faulty).line

      abbrev Joins : Type 0
      Joins = (received_byte s.line m.byte m.faulty).ended ≡ false

      joins : Joins → byte_reaction p s m.byte m.faulty ≡ reaction after Nothing
      joins e = byte_joins p s m.byte m.faulty refl e

      after_allowed : Joins → state_allowed p after ≡ true
      after_allowed e = rw (joins e) at (byte_allowed p profile s allowed m.byte m.faulty cells)

      after_cells : Joins → length after.line.bytes ≡ line_limit
      after_cells e = rw (joins e) at (byte_cells p profile s allowed m.byte m.faulty cells)

      one_more_lem : Joins → (r : Run) → RunTaken after ms r → RunTaken s (m ∷ ms) (one_more r)
      one_more_lem e r h =
          record {
            allowed = h.allowed;
            cells = h.cells;
            within = omega (arith, h.within);
            same =
                ap served (quiet_taken s allowed m room ms e)
                ∙ served_next [] (singly p after ms room)
                ∙ ap (after_answers 1 []) h.same
                ∙ after_after 1 r.taken [] [] _
                ∙ rw (one_add r.taken);
            next = h.next;
            all = λ f. omega (arith, h.all f);
          }

      run_by : (b : Bool) → (received_byte s.line m.byte m.faulty).ended ≡ b → (r : Run) → (Joins → RunTaken after ms r)
          → RunTaken s (m ∷ ms) (chosen_run b (record { line = s.line; taken = 0; ended = true }) (one_more r))
      run_by true e r rest =
          record {
            allowed = allowed;
            cells = cells;
            within = omega arith;
            same = after_none _;
            next = λ f. (m, refl, e);
            all = λ f. absurd (true≢false f);
          }
      run_by false e r rest = one_more_lem e r (rest e)

    pub run_taken : (s : State) → state_allowed p s ≡ true → length s.line.bytes ≡ line_limit → (ms : List Marked)
        → RunTaken s ms (received_run s.line ms)
    unfolding received_run
    run_taken s allowed cells [] =
        record {
          allowed = allowed;
          cells = cells;
          within = omega arith;
          same = after_none _;
          next = λ f. absurd (false≢true f);
          all = λ f. refl;
        }
    run_taken s allowed cells (m ∷ ms) =
        run_by s allowed cells m ms (received_byte s.line m.byte m.faulty).ended refl
        (received_run (received_byte s.line m.byte m.faulty).line ms)
        (λ e. run_taken (after s allowed cells m ms) (after_allowed s allowed cells m ms e) (after_cells s allowed cells m ms e) ms)
