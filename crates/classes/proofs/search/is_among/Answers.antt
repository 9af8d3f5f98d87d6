use Prim.Native.Nat.{◌/◌, ◌^◌}
use lib.Bits.{and_mask}
use Rattle.classes.specs.Classes.{class_of, among}
use Rattle.classes.proofs.search.is_among.Goals as goal

pub returns : goal.returns
unfolding among
returns c = rw (c.class_of.ensures.value, and_mask (c.args.classes / 2 ^ class_of c.args.byte) 1)
