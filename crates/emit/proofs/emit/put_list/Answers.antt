use native.Mathlib.Omega.{arith}
use mathlib.Core.Path.{refl}
use Rattle.emit.proofs.Listing.{listed_to, line_room, line_more, listed_all}
use Rattle.emit.proofs.emit.put_list.Goals as goal

pub loop-command-init : goal.loop-command-init
unfolding listed_to
loop-command-init c = (refl, (refl, refl))

pub put_listed-next-requires : goal.put_listed-next-requires
put_listed-next-requires c =
    line_room c.args.out.now c.loop-command.command c.loop-command.invariant.1 c.loop-command-test.true c.requires c.loop-command.invariant.0

pub loop-command-preserved : goal.loop-command-preserved
loop-command-preserved c = (omega arith, line_more c.args.out.now c.loop-command.command c.loop-command.invariant.1 c.put_listed-next.ensures)

pub returns : goal.returns
returns c = rw (listed_all c.loop-command.command (omega arith)) at c.loop-command.invariant.1
