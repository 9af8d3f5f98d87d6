use Rattle.text.proofs.NumberText.{ReadSoFar}
use Rattle.text.proofs.reading.read_whole.Given as goal

abbrev pub invariant-loop-c : goal.invariant-loop-c
invariant-loop-c l = ReadSoFar l.text l.start l.value l.c-index
