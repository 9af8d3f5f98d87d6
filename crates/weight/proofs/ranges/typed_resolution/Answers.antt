use Rattle.weight.specs.Ranges.{typed_resolution}
use Rattle.weight.proofs.ranges.typed_resolution.Goals as goal

pub returns : goal.returns
unfolding typed_resolution
returns c = rw (c.ranged.ensures, c.is_typed_above.ensures)
