use native.Mathlib.Omega.{arith}
use Rattle.std.proofs.Common.{◌+◌}
use Rattle.lent.proofs.Filling.{rest_within, rest_at, rest_done, one_looked, all_looked}
use Rattle.lent.proofs.is_spilt.Goals as goal

pub loop-byte-preserved : goal.loop-byte-preserved
loop-byte-preserved c =
    let l = c.args.out.now in
    let here = c.loop-byte-test.true in
    one_looked c.args.seed c.args.from l c.loop-byte.spilt c.loop-byte.due (c.args.from + c.loop-byte.byte-index) c.loop-byte.invariant (omega arith)
    (rest_within c.args.from c.min.result l c.min.ensures here) (rest_at c.args.from c.min.result l c.min.ensures here)

pub returns : goal.returns
returns c =
    all_looked c.args.seed c.args.from c.args.out.now c.loop-byte.spilt c.loop-byte.due (c.args.from + c.loop-byte.byte-index) c.loop-byte.invariant
    (rest_done c.args.from c.min.result c.args.out.now c.min.ensures c.loop-byte-test.false)
