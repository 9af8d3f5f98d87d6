-- Whatever the cuts: whole-buffer calls one after another give what their bytes give that are taken singly.
-- Assumes nothing.
use Prim.Native.Nat.{ℕ, suc, ◌+◌, ◌≤◌}
use mathlib.Core.Path.{◌≡◌, refl, sym, ap, subst, ◌∙◌}
use mathlib.Core.Bool.{Bool, true, false}
use mathlib.Core.List.{List, [], ◌∷◌, ◌++◌, append_assoc}
use native.Mathlib.Omega.{arith}
use borrow.Author.Tests.{le-leb, eqb-true}
use lib.Dec.{eqb}
use lib.ListN.{length, take, drop, length-append, length-drop}
use lib.Seq.{take-append_seam, drop-append_seam, drop-drop, length-take-le}
use Rattle.commands.specs.Reactions.{byte_reaction}
use Rattle.emit.specs.Rooms.{fits_room, laid_in}
use Rattle.line.specs.Runs.{marked_bytes}
use Rattle.line.specs.Unbounded.{Marked}
use Rattle.model.specs.declared.profile.Profile.{Profile}
use Rattle.model.specs.declared.react.Reaction.{Reaction}
use Rattle.model.specs.declared.state.State.{State}
use Rattle.model.specs.Profiles.{profile_allowed}
use Rattle.model.specs.States.{state_allowed}
use Rattle.device.specs.declared.bytes.BytesTaken.{BytesTaken}
use Rattle.device.specs.Calls.{Outcome, answer_bytes, delivered, of_profile, of_state, byte_outcome}
use Rattle.device.specs.Buffers.{BytesOutcome, Singly, answer_in, room_after, chosen_singly, counts_of, joined, lengths_allowed, none_taken, with_answer, singly, served, taken_singly, BytesCalled, none, next, CutsAlike}
use Rattle.device.proofs.Turns.{after_answers}
use Rattle.device.proofs.Taking.{served_next, after_none, after_after}
use Rattle.device.proofs.Took.{TookSingly, took_singly, taken_within}

-- ---- a byte in another room

abbrev taken_as : State → List ℕ → List ℕ → Outcome
taken_as s answer room = record { number = 0; state = s; count = length answer; buffer = answer ++ drop (length answer) room }

module _ (p : Profile) (s : State) (m : Marked) where
  abbrev due : Reaction
  due = byte_reaction p s m.byte m.faulty

  abbrev bytes : List ℕ
  bytes = answer_bytes p due.answer

  record Passes (room : List ℕ) : Type 0 where
    profile : profile_allowed p ≡ true
    state : state_allowed p s ≡ true
    fits : fits_room bytes room ≡ true

  passes_by : (room : List ℕ) (a b f : Bool) → profile_allowed p ≡ a → state_allowed p s ≡ b → fits_room bytes room ≡ f
      → (byte_outcome p s m.byte m.faulty room).number ≡ 0
      → Passes room
  unfolding byte_outcome of_profile of_state delivered
  passes_by room true true true e f g n = record { profile = e; state = f; fits = g }
  passes_by room true true false e f g n = absurd (omega (arith, rw (e, f, g) at n))
  passes_by room true false c e f g n = absurd (omega (arith, rw (e, f) at n))
  passes_by room false b c e f g n = absurd (omega (arith, rw e at n))

  passes : (room : List ℕ) → (byte_outcome p s m.byte m.faulty room).number ≡ 0 → Passes room
  passes room n = passes_by room (profile_allowed p) (state_allowed p s) (fits_room bytes room) refl refl refl n

  -- what a byte that is taken gives, in any room
  gives_in : (room : List ℕ) → Passes room → byte_outcome p s m.byte m.faulty room ≡ taken_as due.state bytes room
  unfolding byte_outcome of_profile of_state delivered laid_in
  gives_in room h = rw (h.profile, h.state, h.fits)

  -- the same answer fits a room that is not shorter than it
  elsewhere : {room : List ℕ} → Passes room → (other : List ℕ) → length bytes ≤ length other → Passes other
  elsewhere h other e = record { profile = h.profile; state = h.state; fits = le-leb (length bytes) (length other) e }

  next_in : (room : List ℕ) → Passes room → (ms : List Marked)
      → singly p s (m ∷ ms) room ≡ with_answer bytes (singly p due.state ms (drop (length bytes) room))
  unfolding singly
  next_in room h ms =
      rw (gives_in room h, take-append_seam bytes (drop (length bytes) room), drop-append_seam bytes (drop (length bytes) room))

-- ---- bytes in another room, with others after them

abbrev before : List (List ℕ) → Singly → Singly
before ls q = record { state = q.state; answers = ls ++ q.answers; left = q.left }

-- those of the bytes that were taken, then others, in another room
module _ (p : Profile) (others : List Marked) where
  abbrev Again : State → List Marked → List ℕ → Singly → Type 0
  Again s ms other q =
      length (joined q.answers) ≤ length other
      → singly p s (take (length q.answers) ms ++ others) other
      ≡ before q.answers (singly p q.state others (drop (length (joined q.answers)) other))

  again_none : (s : State) (ms : List Marked) (room other : List ℕ) → Again s ms other (none_taken s room)
  unfolding joined
  again_none s ms room other h = refl

  again_next : (s : State) (m : Marked) (ms : List Marked) (room other : List ℕ) (q : Singly) → Passes p s m room
      → ((after : List ℕ) → Again (due p s m).state ms after q)
      → Again s (m ∷ ms) other (with_answer (bytes p s m) q)
  unfolding joined
  again_next s m ms room other q passed rest h =
      let answer : List ℕ = bytes p s m in
      let later : List ℕ = joined q.answers in
      let both = length-append answer later in
      let here = elsewhere p s m passed other (omega (arith, h, both)) in
      let fits : length later ≤ length (drop (length answer) other) = omega (arith, h, both, length-drop (length answer) other) in
      next_in p s m other here (take (length q.answers) ms ++ others)
      ∙ ap (with_answer answer) (rest (drop (length answer) other) fits)
      ∙ rw (drop-drop (length later) (length answer) other, both)

  again_by : (s : State) (m : Marked) (ms : List Marked) (room : List ℕ)
      → let o = byte_outcome p s m.byte m.faulty room in
      (b : Bool) → eqb o.number 0 ≡ b
      → ((after : List ℕ) → Again o.state ms after (singly p o.state ms (room_after o)))
      → (other : List ℕ)
      → Again s (m ∷ ms) other (chosen_singly b (with_answer (answer_in o) (singly p o.state ms (room_after o))) (none_taken s room))
  again_by s m ms room true e rest other =
      let o : Outcome = byte_outcome p s m.byte m.faulty room in
      let passed = passes p s m room (eqb-true o.number 0 e) in
      let is : o ≡ taken_as (due p s m).state (bytes p s m) room = gives_in p s m room passed in
      let own : answer_in o ≡ bytes p s m = rw is (take-append_seam (bytes p s m) (drop (length (bytes p s m)) room)) in
      rw own (again_next s m ms room other (singly p o.state ms (room_after o)) passed (subst (λ (t : State). (after : List ℕ) → Again t ms after (singly p o.state ms (room_after o))) (ap (λ (x : Outcome). x.state) is) rest))
  again_by s m ms room false e rest other = again_none s (m ∷ ms) room other

  again : (ms : List Marked) (s : State) (room other : List ℕ) → Again s ms other (singly p s ms room)
  unfolding singly
  again [] s room other = again_none s [] room other
  again (m ∷ ms) s room other =
      let o : Outcome = byte_outcome p s m.byte m.faulty room in
      again_by s m ms room (eqb o.number 0) refl (λ after. again ms o.state (room_after o) after) other

  -- so do those of a call
  call_again : (s : State) (bytes marks room other : List ℕ) → Again s (marked_bytes bytes marks) other (taken_singly p s bytes marks room)
  call_again s bytes marks room other = by (lengths_allowed bytes marks)
    where
      by : (b : Bool) → Again s (marked_bytes bytes marks) other (chosen_singly b (singly p s (marked_bytes bytes marks) room) (none_taken s room))
      by true = again (marked_bytes bytes marks) s room other
      by false = again_none s (marked_bytes bytes marks) room other

-- ---- buffer after buffer

served_before : (ls : List (List ℕ)) (q : Singly) → served (before ls q) ≡ after_answers (length ls) (joined ls) (served q)
unfolding joined
served_before [] q = after_none (served q)
served_before (l ∷ ls) q =
    served_next l (before ls q)
    ∙ ap (after_answers 1 l) (served_before ls q)
    ∙ after_after 1 (length ls) l (joined ls) (served q)
    ∙ ap (λ (n : ℕ). after_answers n (l ++ joined ls) (served q)) {y = suc (length ls)} (omega arith)

-- what bytes give whose answers fit
abbrev all_served : State → List Marked → List ℕ → List ℕ → BytesOutcome
all_served s ms answers room =
    record { number = 0; state = s; count = length answers; taken = length ms; buffer = answers ++ drop (length answers) room }

after_served : (s : State) (first ms : List Marked) (answer later room : List ℕ)
    → after_answers (length first) answer (all_served s ms later (drop (length answer) room)) ≡ all_served s (first ++ ms) (answer ++ later) room
after_served s first ms answer later room =
    rw (length-append answer later, length-append first ms, drop-drop (length later) (length answer) room, append_assoc answer later (drop (length answer + length later) room))

-- the bytes of a call, and then those of the calls after it
module _ (p : Profile) (s : State) (bytes marks lent : List ℕ) {r : BytesTaken} {buffer : List ℕ} (call : BytesCalled p s bytes marks lent r buffer) where
  abbrev q : Singly
  q = taken_singly p s bytes marks lent

  took : TookSingly q r buffer
  took = took_singly p s bytes marks lent call

  first_long : length q.answers ≡ length (take (counts_of r.outcome).taken (marked_bytes bytes marks))
  first_long =
      sym (length-take-le (length q.answers) (marked_bytes bytes marks) (taken_within p s bytes marks lent))
      ∙ ap (λ (n : ℕ). length (take n (marked_bytes bytes marks))) (sym took.taken)

  pub one_more_buffer : (s' : State) (ms : List Marked) (later room : List ℕ)
      → length (take (counts_of r.outcome).count buffer ++ later) ≤ length room
      → (length later ≤ length (drop (length (take (counts_of r.outcome).count buffer)) room)
      → served (singly p r.state ms (drop (length (take (counts_of r.outcome).count buffer)) room)) ≡ all_served s' ms later (drop (length (take (counts_of r.outcome).count buffer)) room))
      → served (singly p s (take (counts_of r.outcome).taken (marked_bytes bytes marks) ++ ms) room)
      ≡ all_served s' (take (counts_of r.outcome).taken (marked_bytes bytes marks) ++ ms) (take (counts_of r.outcome).count buffer ++ later) room
  one_more_buffer s' ms later room h rest =
      let answer : List ℕ = take (counts_of r.outcome).count buffer in
      let first : List Marked = take (counts_of r.outcome).taken (marked_bytes bytes marks) in
      let left : List ℕ = drop (length answer) room in
      let both = length-append answer later in
      let fits : length (joined q.answers) ≤ length room = rw (← took.answers) (omega (arith, h, both)) in
      ap (λ (n : ℕ). served (singly p s (take n (marked_bytes bytes marks) ++ ms) room)) took.taken
      ∙ ap served (call_again p ms s bytes marks lent room fits)
      ∙ served_before q.answers (singly p q.state ms (drop (length (joined q.answers)) room))
      ∙ ap (λ (l : List ℕ). after_answers (length q.answers) l (served (singly p q.state ms (drop (length l) room)))) (sym took.answers)
      ∙ ap (λ (t : State). after_answers (length q.answers) answer (served (singly p t ms left))) (sym took.state)
      ∙ ap (after_answers (length q.answers) answer) (rest (omega (arith, h, both, length-drop (length answer) room)))
      ∙ ap (λ (n : ℕ). after_answers n answer (all_served s' ms later left)) first_long
      ∙ after_served s' first ms answer later room

pub cuts_alike : CutsAlike
unfolding singly joined
cuts_alike p s ms answers s' none room h = refl
cuts_alike p s ms answers s' (next {bytes = bytes} {marks = marks} {room = lent} {r = r} {buffer = buffer} {ms = others} {answers = later} call rest) room h =
    one_more_buffer p s bytes marks lent call s' others later room h
    (λ e. cuts_alike p r.state others later s' rest (drop (length (take (counts_of r.outcome).count buffer)) room) e)
