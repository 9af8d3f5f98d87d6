-- What is assumed of a verdict where its text is shown; the judgement sees to it.
-- Assumes nothing.
use Rattle.std.specs.Prelude.{Bool, true, leb}
use Rattle.line.specs.declared.judge.Verdict.{Verdict}
use Rattle.line.specs.declared.judge.Verdict.TheVariants.{Erroneous, Reset, Busy, Wrong, NoSample, Run, Preset, Change, Show, Select}

-- a text that is to be shown has at most 20 bytes
abbrev pub shows_short : Verdict → Bool
shows_short (Erroneous e) = true
shows_short Reset = true
shows_short (Busy c) = true
shows_short (Wrong c) = true
shows_short (NoSample c) = true
shows_short (Run c) = true
shows_short (Preset m) = true
shows_short (Change t) = true
shows_short (Show n) = leb n 20
shows_short (Select u) = true
