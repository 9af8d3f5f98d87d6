-- No verdict shows more than 20 bytes.
-- Assumes nothing.
use mathlib.Core.Path.{◌≡◌, refl}
use mathlib.Core.Bool.{true}
use borrow.Author.Tests.{le-leb}
use Rattle.commands.specs.Shown.{shows_short}
use Rattle.line.specs.declared.judge.Situation.{Situation}
use Rattle.line.specs.declared.judge.Verdict.{Verdict}
use Rattle.line.specs.declared.judge.Verdict.TheVariants.{Erroneous, Reset, Busy, Wrong, NoSample, Run, Preset, Change, Show, Select}
use Rattle.line.specs.declared.receive.Line.{Line}
use Rattle.line.specs.Judging.{judgement}
use Rattle.line.proofs.Verdicts.{show_short}

module _ (j : Situation) (l : Line) where
  short_by : (v : Verdict) → judgement j l ≡ v → shows_short v ≡ true
  short_by (Erroneous e) h = refl
  short_by Reset h = refl
  short_by (Busy c) h = refl
  short_by (Wrong c) h = refl
  short_by (NoSample c) h = refl
  short_by (Run c) h = refl
  short_by (Preset m) h = refl
  short_by (Change t) h = refl
  short_by (Show n) h = le-leb n 20 (show_short j l h)
  short_by (Select u) h = refl

  pub shows_short_lem : shows_short (judgement j l) ≡ true
  shows_short_lem = short_by (judgement j l) refl
