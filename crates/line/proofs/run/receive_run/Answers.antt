use Rattle.std.proofs.Common.{arith, rules, sym, ◌∙◌}
use Rattle.line.proofs.Running.{stretch_more, marked_length, no_more, next_ends, next_joins}
use Rattle.line.proofs.run.receive_run.Goals as goal

pub overflow_add-i : goal.overflow_add-i
overflow_add-i c =
    let bytes = c.args.bytes.now in
    let marks = c.args.marks.now in
    let more = stretch_more c.args.line bytes marks c.min-count.ensures c.loop-i.invariant c.join_plain-i.ensures in
    record { fits = omega (arith, more.within, marked_length bytes marks, c.well_formed) }

pub returns-then-ends : goal.returns-then-ends
returns-then-ends c =
    let more = stretch_more c.args.line c.args.bytes.now c.args.marks.now c.min-count.ensures c.loop-i.invariant c.join_plain-i.ensures in
    next_ends _ _ _ c.min-count.ensures more c.if-i-count.true (sym c.ends.ensures ∙ c.if-ends.true)

pub loop-i-preserved-then-i-count : goal.loop-i-preserved-then-i-count
loop-i-preserved-then-i-count c =
    let more = stretch_more c.args.line c.args.bytes.now c.args.marks.now c.min-count.ensures c.loop-i.invariant c.join_plain-i.ensures in
    next_joins _ _ _ c.min-count.ensures more c.if-i-count.true (sym c.ends.ensures ∙ c.if-ends.false) c.join.ensures

pub loop-i-preserved : goal.loop-i-preserved
loop-i-preserved c = search (rules, stretch_more)

pub returns : goal.returns
returns c = search (rules, no_more)
