use Rattle.std.proofs.Common.{◌≡◌}
use Rattle.script.specs.Marked.{are_marked}
use Rattle.script.specs.Words.{after_words}
use Rattle.script.proofs.marked.are_marked.Given as goal

abbrev pub invariant-loop : goal.invariant-loop
invariant-loop l = (l.rest ≡ after_words l.counter l.text) × (l.good ≡ are_marked l.counter l.text)
