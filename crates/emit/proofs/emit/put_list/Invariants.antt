use Rattle.std.proofs.Common.{◌≡◌, length}
use Rattle.emit.specs.Pieces.{Laid}
use Rattle.emit.proofs.Listing.{listed_to}
use Rattle.emit.proofs.emit.put_list.Given as goal

abbrev pub invariant-loop-command : goal.invariant-loop-command
invariant-loop-command l = (length l.out ≡ length l.initial.out) × Laid l.initial.out 0 l.out l.next (listed_to l.command)
