use Prim.Native.Nat.{ℕ, ◌+◌, ◌≤◌}
use mathlib.Core.Path.{refl}
use mathlib.Core.Bool.{true, false}
use borrow.Author.Tests.{not-true, not-false}
use native.Mathlib.Omega.{arith}
use native.Mathlib.Nat.{add-zero, add_assoc}
use mathlib.Core.List.{List}
use lib.ListN.{length}
use Rattle.line.specs.Runs.{marked_bytes}
use Rattle.line.proofs.Running.{fewer_bytes}
use Rattle.model.specs.declared.state.State.{State}
use Rattle.model.specs.Groups.{with_line}
use Rattle.device.proofs.Turns.{Turn, TakenSoFar}
use Rattle.device.proofs.Turning.{turn_of, next_turn, quiet_turn, all_taken, stopped_there, taken_gives, line_goes_on, line_stops, line_answered, after_cells, none_left, run_within, rest_counted}
use Rattle.device.proofs.bytes.take_lines.Goals as goal

-- the turn of a line whose answer fits
abbrev answered_turn : (c : goal.After-state-in-loop-at-1) →
    let at = c.loop-at in
    (buffer : List ℕ)
    × TakenSoFar c.args.profile c.args.given (marked_bytes c.args.bytes.now c.args.marks.now) c.args.out.now
    (turn_of c.line_reaction-reaction.result.state (at.count + c.in-Some.length) (at.at + (c.receive_run-run.result.taken + 1)) false) buffer
answered_turn c =
    let at = c.loop-at in
    let now : Turn = turn_of at.state at.count at.at false in
    let next : Turn = turn_of c.line_reaction-reaction.result.state c.in-Some.length (c.receive_run-run.result.taken + 1) false in (
      _,
      (next_turn _ _ c.args.bytes.now c.args.marks.now _ c.requires.bytes_len now next at.out _ at.invariant.0 refl at.invariant.3
          (line_answered _ c.requires.profile_value at.state at.invariant.3.allowed at.invariant.2 _ _ c.receive_run-run.ensures refl (not-false _ c.if-not-run.false)
          c.line_reaction-reaction.ensures c.emit_due.ensures.value c.emit_due.ensures.out_after c.in-Some.is refl)
          ).0,
    )

-- no more bytes were taken than there are
taken_at : (c : goal.After-state-in-loop-at-1) → c.loop-at.at + (c.receive_run-run.result.taken + 1) ≤ length c.args.bytes.now
taken_at c =
    omega (arith, (answered_turn c).1.within, fewer_bytes c.args.bytes.now c.args.marks.now (omega (arith, c.requires.bytes_len)))

pub overflow_add-at : goal.overflow_add-at
overflow_add-at c =
    let at = c.loop-at in
    let bs = c.args.bytes.now in
    let ks = c.args.marks.now in
    let equal = c.requires.bytes_len in
    record { fits = omega (arith, run_within _ c.requires.profile_value at.state at.invariant.3.allowed at.invariant.2 _ c.args.out.now c.receive_run-run.ensures refl, rest_counted bs ks at.at equal, at.invariant.0, c.well_formed.1.1.0) }

pub returns-then-not-run : goal.returns-then-not-run
returns-then-not-run c =
    let at = c.loop-at in
    let bs = c.args.bytes.now in
    let ks = c.args.marks.now in
    let equal = c.requires.bytes_len in
    let got = c.receive_run-run.result in
    let t : State = with_line at.state got.line in
    let now : Turn = turn_of at.state at.count at.at false in
    let e = not-true _ c.if-not-run.true in
    taken_gives
    (all_taken _ _ bs ks _ equal (turn_of t at.count (at.at + got.taken) false) at.out
    (omega (arith, none_left _ c.requires.profile_value at.state at.invariant.3.allowed at.invariant.2 _ c.args.out.now c.receive_run-run.ensures refl e, rest_counted bs ks at.at equal, at.invariant.0))
    (quiet_turn _ _ bs ks _ equal now t got.taken false at.out at.invariant.0 refl at.invariant.3 (line_goes_on _ c.requires.profile_value at.state at.invariant.3.allowed at.invariant.2 _ _ c.receive_run-run.ensures refl e refl)))
    c.taken_bytes.ensures

-- the answer does not fit
pub returns-in_default : goal.returns-in_default
returns-in_default c =
    let at = c.loop-at in
    let got = c.receive_run-run.result in
    let now : Turn = turn_of at.state at.count at.at false in
    let stopped =
    next_turn _ _ c.args.bytes.now c.args.marks.now _ c.requires.bytes_len now (turn_of (with_line at.state got.line) 0 got.taken true) at.out _ at.invariant.0 refl at.invariant.3
    (line_stops _ c.requires.profile_value at.state at.invariant.3.allowed at.invariant.2 _ _ c.receive_run-run.ensures refl (not-false _ c.if-not-run.false)
    c.line_reaction-reaction.ensures c.emit_due.ensures.value c.emit_due.ensures.out_after c.in_default.is refl)
    in
    taken_gives
    (rw (add-zero at.count) at (stopped_there _ _ c.args.bytes.now c.args.marks.now _ c.requires.bytes_len
    (turn_of (with_line at.state got.line) (at.count + 0) (at.at + got.taken) true) _ refl stopped.0))
    c.taken_bytes-in_default.ensures

pub overflow_add-count : goal.overflow_add-count
overflow_add-count c =
    let turn = (answered_turn c).1 in
    record { fits = omega (arith, turn.written, turn.long, c.well_formed.1.1.1.1.0) }

pub overflow_add-at-in-loop-at : goal.overflow_add-at-in-loop-at
overflow_add-at-in-loop-at c = record { fits = omega (arith, taken_at c, c.well_formed.1.1.0) }

pub loop-at-preserved : goal.loop-at-preserved
loop-at-preserved c =
    let at = c.loop-at in
    let turn = (answered_turn c).1 in (
      omega (arith, taken_at c),
      turn.written,
      after_cells _ c.requires.profile_value at.state at.invariant.3.allowed at.invariant.2 _ _ c.receive_run-run.ensures refl (not-false _ c.if-not-run.false)
          c.line_reaction-reaction.ensures c.emit_due.ensures.value c.emit_due.ensures.out_after,
      rw (add_assoc at.at c.receive_run-run.result.taken 1) turn,
    )

pub returns : goal.returns
returns c =
    taken_gives (all_taken _ _ c.args.bytes.now c.args.marks.now _ c.requires.bytes_len (turn_of c.loop-at.state c.loop-at.count c.loop-at.at false) c.loop-at.out (omega (arith, c.loop-at-test.false)) c.loop-at.invariant.3)
    c.taken_bytes-2.ensures
