-- The words of a state's line by the pieces that the code lays.
-- Assumes nothing.
use mathlib.Core.Path.{◌≡◌}
use mathlib.Core.Bool.{true, false}
use Rattle.std.proofs.Common.{Option}
use mathlib.Core.List.{List}
use Prim.Native.Nat.{ℕ}
use Rattle.model.specs.declared.sending.Mode.{Mode}
use Rattle.model.specs.declared.sending.Sending.{Sending}
use Rattle.model.specs.declared.state.Display.{Display}
use Rattle.model.specs.declared.state.Pending.{Pending}
use Rattle.model.specs.declared.state.Waiting.{Waiting}
use Rattle.model.specs.declared.weighing.Weighing.{Weighing}
use Rattle.model.specs.Profiles.{text_of}
use Rattle.text.specs.Ascii.{ascii}
use Rattle.text.specs.UnitTexts.{unit_text}
use Rattle.weight.specs.declared.changes.Threshold.{Threshold}
use Rattle.weight.specs.declared.units.WeightUnit.{WeightUnit}
use Rattle.told.specs.declared.words.Sheet.{Sheet}
use Rattle.told.specs.Laying.{LaidOn}
use Rattle.told.specs.StateLines.{load_text, sample_word, waits_for, waits_word, repeats_as, repeats_word, shows_word, unit_word}
use Rattle.told.proofs.Laying.{laid_as, ◌then◌}

-- ---- the sample

pub laid_none : {a b : Sheet} (w : Weighing) → w.sampled ≡ false → LaidOn a (ascii " sample none") b → LaidOn a (sample_word w) b
unfolding sample_word
laid_none w n l = laid_as (rw n) l

module _ {a b c : Sheet} (w : Weighing) (s : w.sampled ≡ true) where
  pub laid_stable : w.stable ≡ true → LaidOn a (ascii " sample s ") b → LaidOn b (load_text w.load) c → LaidOn a (sample_word w) c
  unfolding sample_word
  laid_stable t l k = laid_as (rw (s, t)) (l then k)

  pub laid_unstable : w.stable ≡ false → LaidOn a (ascii " sample u ") b → LaidOn b (load_text w.load) c → LaidOn a (sample_word w) c
  unfolding sample_word
  laid_unstable t l k = laid_as (rw (s, t)) (l then k)

-- ---- what waits

pub laid_waits : {a b c : Sheet} (w : Waiting) (t : Threshold) (p : Option Pending) → w.pending ≡ p → LaidOn a (ascii " waits ") b
    → LaidOn b (waits_for p w.unstable t) c → LaidOn a (waits_word w t) c
unfolding waits_word
laid_waits w t p is l k = laid_as (rw is) (l then k)

-- ---- what repeats

pub laid_repeats : {a b c : Sheet} (s : Sending) (m : Mode) → s.mode ≡ m → LaidOn a (ascii " repeats ") b
    → LaidOn b (repeats_as m s) c → LaidOn a (repeats_word s) c
unfolding repeats_word
laid_repeats s m is l k = laid_as (rw is) (l then k)

-- ---- what is shown

pub laid_weight : {a b : Sheet} (x : Display) → x.shown ≡ false → LaidOn a (ascii " shows weight") b → LaidOn a (shows_word x) b
unfolding shows_word
laid_weight x n l = laid_as (rw n) l

pub laid_text : {a b c d : Sheet} {t : List ℕ} (x : Display) → x.shown ≡ true → t ≡ text_of x.text
    → LaidOn a (ascii " shows \"") b → LaidOn b t c → LaidOn c (ascii "\"") d → LaidOn a (shows_word x) d
unfolding shows_word
laid_text x s same l m n = laid_as (rw s) (l then laid_as same m then n)

-- ---- the unit

pub laid_unit : {a b c : Sheet} {t : List ℕ} (u : WeightUnit) → t ≡ unit_text u → LaidOn a (ascii " unit ") b → LaidOn b t c → LaidOn a (unit_word u) c
unfolding unit_word
laid_unit u same l k = l then laid_as same k
