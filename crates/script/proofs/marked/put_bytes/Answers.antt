use Rattle.std.proofs.Common.{rules}
use Rattle.script.specs.Marked.{byte_of}
use Rattle.script.proofs.marked.put_bytes.Goals as goal

pub returns : goal.returns
returns c = c.put_cells.ensures (λ w i. byte_of w) (λ w i r k. search rules)
