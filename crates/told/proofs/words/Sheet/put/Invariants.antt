use Rattle.std.proofs.Common.{take}
use Rattle.told.specs.Laying.{LaidOn}
use Rattle.told.proofs.words.Sheet.put.Given as goal

abbrev pub invariant-loop-byte : goal.invariant-loop-byte
invariant-loop-byte l = LaidOn l.initial.self (take l.byte-index l.text) l.self
