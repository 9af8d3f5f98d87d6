use Rattle.std.proofs.Common.{◌≡◌, drop}
use Rattle.script.specs.Hex.{all_stand}
use Rattle.script.proofs.hex.are_bytes.Given as goal

abbrev pub invariant-loop-i : goal.invariant-loop-i
invariant-loop-i l = all_stand l.i (drop l.i l.text) ≡ all_stand 0 l.text
