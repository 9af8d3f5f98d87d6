-- One turn of the whole-buffer call: the bytes up to one that ends a line, and that one if its answer fits. And turn after turn.
-- Assumes nothing.
use Prim.Native.Nat.{ℕ, suc, ◌+◌, ◌-◌, ◌≤◌, ◌<◌}
use native.Mathlib.Nat.{add-zero}
use native.Mathlib.Numerals.{add-one}
use native.Mathlib.Omega.{arith}
use mathlib.Core.Path.{◌≡◌, refl, sym, ap, subst, ◌∙◌}
use mathlib.Core.Bool.{Bool, true, false, cond, not, ◌&&◌, and-true, and-false, true≢false}
use mathlib.Core.List.{List, [], ◌∷◌, ◌++◌, append-nil}
use borrow.Author.Tests.{ltb-false, leb-true, le-ltb}
use lib.Dec.{ltb}
use Rattle.std.specs.Prelude.{Option, Some, None, Ok}
use lib.ListN.{length, take, drop, length-append, length-drop, take-append-drop, drop_of_length-le}
use lib.Seq.{take-append_seam, drop-append_seam, take-append-add, drop-append-add, drop-drop, length-take-le, take_all}
use Rattle.commands.specs.Reactions.{line_reaction}
use Rattle.commands.proofs.Bytes.{byte_ends}
use Rattle.commands.proofs.StaysAllowed.{byte_allowed, byte_cells}
use Rattle.emit.specs.Rooms.{fits_room, emitted, laid_in}
use Rattle.line.specs.declared.run.Run.{Run}
use Rattle.line.specs.Receiving.{received_byte, line_limit}
use Rattle.line.specs.Runs.{marked_bytes, received_run}
use Rattle.line.proofs.Running.{fewer_bytes, marked_from}
use Rattle.line.specs.Unbounded.{Marked}
use Rattle.model.specs.declared.profile.Profile.{Profile}
use Rattle.model.specs.declared.react.Reaction.{Reaction}
use Rattle.model.specs.declared.state.State.{State}
use Rattle.model.specs.Groups.{with_line}
use Rattle.model.specs.Profiles.{profile_allowed}
use Rattle.model.specs.States.{state_allowed}
use Rattle.device.specs.Calls.{answer_bytes}
use Rattle.device.specs.declared.bytes.BytesTaken.{BytesTaken}
use Rattle.device.specs.Buffers.{BytesOutcome, Singly, joined, none_taken, singly, served, GivesBytes}
use Rattle.device.proofs.Turns.{Turn, after_answers, to_come, TakenSoFar, TurnTaken}
use Rattle.device.proofs.Taking.{served_next, after_after, ended_taken, ended_left, RunTaken, run_taken}

abbrev pub turn_of : State → ℕ → ℕ → Bool → Turn
turn_of s count taken stopped = record { state = s; count = count; taken = taken; stopped = stopped }

-- whether a length was told
no_room : (b : Bool) (n : ℕ) → cond b (Some n) None ≡ None → b ≡ false
no_room true n e = absurd cc
no_room false n e = refl

has_room : (b : Bool) (n : ℕ) {m : ℕ} → cond b (Some n) None ≡ Some m → (b ≡ true) × (m ≡ n)
has_room true n e = (refl, cc)
has_room false n e = absurd cc

module _ (p : Profile) (profile : profile_allowed p ≡ true) (s : State) (allowed : state_allowed p s ≡ true) (cells : length s.line.bytes ≡ line_limit)
    (ms : List Marked) (room : List ℕ) {run : Run} (received : run ≡ received_run s.line ms) {t : State} (put : t ≡ with_line s run.line) where
  taken : RunTaken p profile room s ms run
  taken = subst (λ (x : Run). RunTaken p profile room s ms x) (sym received) (run_taken p profile room s allowed cells ms)

  -- the state after the bytes that ended no line
  now_allowed : state_allowed p t ≡ true
  now_allowed = rw put taken.allowed

  same_so_far : served (singly p s ms room) ≡ after_answers run.taken [] (served (singly p t (drop run.taken ms) room))
  same_so_far = rw put taken.same

  -- none ended the line
  pub line_goes_on : {r : Turn} → run.ended ≡ false → r ≡ turn_of t 0 run.taken false → TurnTaken p s ms room r room
  line_goes_on e is =
      subst (λ (x : Turn). TurnTaken p s ms room x room) (sym is)
      (record {
        so_far = record { allowed = now_allowed; within = taken.within; written = omega arith; long = refl; same = same_so_far };
        moves = λ f more. omega (arith, taken.all e, more);
      })

  -- then all are taken
  pub none_left : run.ended ≡ false → run.taken ≡ length ms
  none_left e = taken.all e

  pub run_within : run.taken ≤ length ms
  run_within = taken.within

  -- there is a byte that ended it
  pub one_left : run.ended ≡ true → run.taken + 1 ≤ length ms
  one_left ends = omega (arith, length-drop run.taken ms, ap length (taken.next ends).1)

  module _ (ends : run.ended ≡ true) {q : Reaction} (due : q ≡ line_reaction p t)
      {e : Option ℕ} (told : e ≡ emitted (answer_bytes p q.answer) room) {buffer : List ℕ} (laid : buffer ≡ laid_in (answer_bytes p q.answer) room) where
    abbrev m : Marked
    m = (taken.next ends).0

    abbrev rest : List Marked
    rest = drop (suc run.taken) ms

    abbrev bytes : List ℕ
    bytes = answer_bytes p (line_reaction p t).answer

    at_end : drop run.taken ms ≡ m ∷ rest
    at_end = (taken.next ends).1

    ends_it : (received_byte t.line m.byte m.faulty).ended ≡ true
    ends_it = ap (λ (x : State). (received_byte x.line m.byte m.faulty).ended) put ∙ (taken.next ends).2

    -- the line's end was reached
    same_to_end : served (singly p s ms room) ≡ after_answers run.taken [] (served (singly p t (m ∷ rest) room))
    same_to_end = same_so_far ∙ ap (λ (x : List Marked). after_answers run.taken [] (served (singly p t x room))) at_end

    unfit_told : e ≡ None → fits_room bytes room ≡ false
    unfolding emitted
    unfit_told f = no_room (fits_room bytes room) (length bytes) (sym (rw due at told) ∙ f)

    fits_told : {n : ℕ} → e ≡ Some n → (fits_room bytes room ≡ true) × (n ≡ length bytes)
    unfolding emitted
    fits_told f = has_room (fits_room bytes room) (length bytes) (sym (rw due at told) ∙ f)

    laid_told : buffer ≡ laid_in bytes room
    laid_told = laid ∙ ap (λ (x : Reaction). laid_in (answer_bytes p x.answer) room) due

    -- its answer did not fit
    pub line_stops : {r : Turn} → e ≡ None → r ≡ turn_of t 0 run.taken true → TurnTaken p s ms room r buffer
    unfolding laid_in
    line_stops unfit is =
        let kept : buffer ≡ room = laid_told ∙ rw (unfit_told unfit) in
        rw (is, kept)
        (record {
          so_far =
              record {
                allowed = now_allowed;
                within = taken.within;
                written = omega arith;
                long = refl;
                same =
                    same_to_end
                    ∙ ap (λ (x : Singly). after_answers run.taken [] (served x)) (ended_left p profile t now_allowed m room rest ends_it (unfit_told unfit));
              };
          moves = λ f more. absurd (true≢false f);
        })

    after_allowed : state_allowed p (line_reaction p t).state ≡ true
    after_allowed = rw (byte_ends p t m.byte m.faulty refl ends_it) at (byte_allowed p profile t now_allowed m.byte m.faulty (rw put taken.cells))

    -- the line has as many cells as before
    pub after_cells : length q.state.line.bytes ≡ line_limit
    after_cells = rw due (rw (byte_ends p t m.byte m.faulty refl ends_it) at (byte_cells p profile t now_allowed m.byte m.faulty (rw put taken.cells)))

    -- it fitted
    pub line_answered : {n : ℕ} {r : Turn} → e ≡ Some n → r ≡ turn_of q.state n (run.taken + 1) false → TurnTaken p s ms room r buffer
    unfolding laid_in
    line_answered {r = r} f is =
        let kept : buffer ≡ bytes ++ drop (length bytes) room = laid_told ∙ rw (fits_told f).0 in
        let turn : r ≡ turn_of (line_reaction p t).state (length bytes) (suc run.taken) false = is ∙ rw (due, (fits_told f).1, add-one run.taken) in
        let later : Singly = singly p (line_reaction p t).state rest (drop (length bytes) room) in
        rw (turn, kept)
        (record {
          so_far =
              record {
                allowed = after_allowed;
                within = omega (arith, one_left ends);
                written = omega (arith, length-append bytes (drop (length bytes) room));
                long = omega (arith, length-append bytes (drop (length bytes) room), length-drop (length bytes) room, leb-true (length bytes) (length room) (fits_told f).0);
                same =
                    same_to_end
                    ∙ ap (λ (x : Singly). after_answers run.taken [] (served x)) (ended_taken p profile t now_allowed m room rest ends_it (fits_told f).0)
                    ∙ ap (after_answers run.taken []) (served_next bytes later)
                    ∙ after_after run.taken 1 [] bytes (served later)
                    ∙ rw (take-append_seam bytes (drop (length bytes) room), drop-append_seam bytes (drop (length bytes) room), add-one run.taken);
              };
          moves = λ g more. omega arith;
        })

-- ---- turn after turn

take_after : (n k : ℕ) (xs ys : List ℕ) → length xs ≡ n → take (n + k) (xs ++ ys) ≡ xs ++ take k ys
take_after n k xs ys e = rw (← e) (take-append-add xs ys k)

drop_after : (n k : ℕ) (xs ys : List ℕ) → length xs ≡ n → drop (n + k) (xs ++ ys) ≡ drop k ys
drop_after n k xs ys e = rw (← e) (drop-append-add xs ys k)

module _ {p : Profile} {s : State} {ms : List Marked} {room : List ℕ} where
  -- what one more turn adds
  pub one_more_turn
      : {t u : Turn} {buffer lent : List ℕ}
      → t.stopped ≡ false
      → TakenSoFar p s ms room t buffer
      → TakenSoFar p t.state (drop t.taken ms) (drop t.count buffer) u lent
      → TakenSoFar p s ms room (turn_of u.state (t.count + u.count) (t.taken + u.taken) u.stopped) (take t.count buffer ++ lent)
  one_more_turn {t} {u} {buffer} {lent} going h k =
      let before : List ℕ = take t.count buffer in
      let full : length before ≡ t.count = length-take-le t.count buffer h.written in
      record {
        allowed = k.allowed;
        within = omega (arith, h.within, k.within, length-drop t.taken ms);
        written = omega (arith, k.written, full, length-append before lent);
        long = omega (arith, full, length-append before lent, h.written, h.long, k.long, length-drop t.count buffer);
        same =
            h.same
            ∙ ap (λ (x : Bool). after_answers t.taken before (to_come x p t.state (drop t.taken ms) (drop t.count buffer))) going
            ∙ ap (after_answers t.taken before) k.same
            ∙ after_after t.taken u.taken before (take u.count lent) _
            ∙ rw (take_after t.count u.count before lent full, drop_after t.count u.count before lent full, ← drop-drop u.taken t.taken ms);
      }

  -- at the end, or where it stopped, nothing is to come
  pub none_to_come : (n : ℕ) (t : Turn) (buffer : List ℕ) → length ms ≡ n → (ltb t.taken n && not t.stopped) ≡ false → TakenSoFar p s ms room t buffer
      → served (singly p s ms room) ≡ record { number = 0; state = t.state; count = t.count; taken = t.taken; buffer = buffer }
  unfolding singly joined
  none_to_come n t buffer e f h =
      h.same
      ∙ ap (after_answers t.taken (take t.count buffer)) (by t.stopped f)
      ∙ rw (length-take-le t.count buffer h.written, add-zero t.count, add-zero t.taken, take-append-drop t.count buffer)
    where
      by : (b : Bool) → (ltb t.taken n && not b) ≡ false
          → to_come b p t.state (drop t.taken ms) (drop t.count buffer) ≡ served (none_taken t.state (drop t.count buffer))
      by true f = refl
      by false f =
          let past : length ms ≤ t.taken = omega (arith, e, ltb-false t.taken n (rw (and-true (ltb t.taken n)) at f)) in
          rw (drop_of_length-le ms past)

-- as the code returns it
pub taken_gives : {o : BytesOutcome} {s : State} {count taken : ℕ} {buffer : List ℕ} {r : BytesTaken}
    → o ≡ record { number = 0; state = s; count = count; taken = taken; buffer = buffer }
    → r ≡ record { state = s; outcome = Ok (record { count = count; taken = taken }) }
    → GivesBytes o r buffer
taken_gives e f = rw f (record { numbered = rw e; returned = rw e; counted = rw e; took = rw e; left = rw e })

-- ---- the same by the two buffers

-- a part that reaches to the end
rest_of : (n : ℕ) (l : List ℕ) → take (length l - n) (drop n l) ≡ drop n l
rest_of n l = take_all (length l - n) (drop n l) (omega (arith, length-drop n l))

-- as many as are left
pub rest_counted : (bs ks : List ℕ) (n : ℕ) → length bs ≡ length ks
    → length (marked_bytes (take (length bs - n) (drop n bs)) (take (length ks - n) (drop n ks))) ≡ length bs - n
rest_counted bs ks n equal =
    rw (rest_of n bs, rest_of n ks, marked_from n bs ks)
    (omega (arith, length-drop n (marked_bytes bs ks), fewer_bytes bs ks (omega (arith, equal))))

module _ (p : Profile) (s : State) (bs ks room : List ℕ) (equal : length bs ≡ length ks) where
  abbrev all : List Marked
  all = marked_bytes bs ks

  counted : length all ≡ length bs
  counted = sym (fewer_bytes bs ks (omega (arith, equal)))

  -- from the place on that was reached, in the room that is left
  pub next_turn
      : (t u : Turn) (buffer lent : List ℕ)
      → t.taken ≤ length bs
      → t.stopped ≡ false
      → TakenSoFar p s all room t buffer
      → TurnTaken p t.state (marked_bytes (take (length bs - t.taken) (drop t.taken bs)) (take (length ks - t.taken) (drop t.taken ks)))
      (take (length buffer - t.count) (drop t.count buffer)) u lent
      → TakenSoFar p s all room (turn_of u.state (t.count + u.count) (t.taken + u.taken) u.stopped)
      (take t.count buffer ++ (lent ++ drop (length buffer - t.count) (drop t.count buffer)))
      × (u.stopped ≡ false → t.taken < length bs → 1 ≤ u.taken)
  next_turn t u buffer lent within going h k =
      let left : List Marked = drop t.taken all in
      let turn : TurnTaken p t.state left (drop t.count buffer) u lent =
      rw (rest_of t.taken bs, rest_of t.taken ks, marked_from t.taken bs ks, rest_of t.count buffer) at k in
      let none : drop (length buffer - t.count) (drop t.count buffer) ≡ [] =
      drop_of_length-le (drop t.count buffer) {i = length buffer - t.count} (omega (arith, length-drop t.count buffer)) in (
        rw (none, append-nil lent) (one_more_turn going h turn.so_far),
        λ f less. turn.moves f (omega (arith, length-drop t.taken all, counted, less)),
      )

  -- one that writes nothing
  pub quiet_turn
      : (t : Turn) (u : State) (n : ℕ) (stopped : Bool) (buffer : List ℕ)
      → t.taken ≤ length bs
      → t.stopped ≡ false
      → TakenSoFar p s all room t buffer
      → TurnTaken p t.state (marked_bytes (take (length bs - t.taken) (drop t.taken bs)) (take (length ks - t.taken) (drop t.taken ks)))
      (take (length buffer - t.count) (drop t.count buffer)) (turn_of u 0 n stopped) (take (length buffer - t.count) (drop t.count buffer))
      → TakenSoFar p s all room (turn_of u t.count (t.taken + n) stopped) buffer
  quiet_turn t u n stopped buffer within going h k =
      rw (add-zero t.count, take-append-drop (length buffer - t.count) (drop t.count buffer), take-append-drop t.count buffer)
      at (next_turn t (turn_of u 0 n stopped) buffer (take (length buffer - t.count) (drop t.count buffer)) within going h k).0

  -- the end was reached
  pub all_taken : (t : Turn) (buffer : List ℕ) → length bs ≤ t.taken → TakenSoFar p s all room t buffer
      → served (singly p s all room) ≡ record { number = 0; state = t.state; count = t.count; taken = t.taken; buffer = buffer }
  all_taken t buffer h k = none_to_come (length bs) t buffer counted (rw (le-ltb t.taken (length bs) h)) k

  -- or it stopped
  pub stopped_there : (t : Turn) (buffer : List ℕ) → t.stopped ≡ true → TakenSoFar p s all room t buffer
      → served (singly p s all room) ≡ record { number = 0; state = t.state; count = t.count; taken = t.taken; buffer = buffer }
  stopped_there t buffer e k = none_to_come (length bs) t buffer counted (rw (e, and-false (ltb t.taken (length bs)))) k
