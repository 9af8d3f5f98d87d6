-- What a verdict promises: a command runs that may, a preset and a threshold lie in 0..C, and a shown text is one that D takes.
-- Assumes nothing.
use Prim.Native.Nat.{ℕ, ◌≤◌, ◌<◌}
use mathlib.Core.Path.{◌≡◌, refl, sym, ap, ◌∙◌}
use mathlib.Core.Bool.{Bool, true, false, not, ◌&&◌, true≢false, false≢true}
use mathlib.Core.List.{List, [], ◌∷◌, map}
use native.Mathlib.Omega.{arith}
use lib.ListN.{length, take, length-map, length-take}
use lib.Seq.{take_all}
use borrow.Author.Tests.{le-ltb}
use Rattle.answer.specs.Commands.{command_count, needs_sample, place_d, place_reset}
use Rattle.line.specs.declared.judge.Situation.{Situation}
use Rattle.line.specs.declared.judge.Verdict.{Verdict}
use Rattle.line.specs.declared.judge.Verdict.TheVariants.{Run, Preset, Change, Show}
use Rattle.line.specs.declared.receive.Line.{Line}
use Rattle.line.specs.Judging.{judgement}
use Rattle.line.specs.Receiving.{content_of, line_limit}
use Rattle.line.specs.Unbounded.{Marked, byte_in, any_faulty, judgement_of}
use Rattle.line.proofs.Kept.{Holds, marked_as, holds_judged}
use Rattle.line.proofs.Verdicts.{Shown, run_line, preset_line, change_line, show_line, show_cells}

-- ---- a command that is run

-- a line is judged to run a command of the table, and neither @ nor D
pub record Ruled (c : ℕ) : Type 0 where
  pub known : c < command_count
  pub no_reset : c ≡ place_reset → ⊥
  pub no_show : c ≡ place_d → ⊥

-- a command that may be run: it has a rule of its own, and the sample that it needs is there
pub record RunMay (j : Situation) (c : ℕ) : Type 0 where
  pub ruled : Ruled c
  pub sample : needs_sample c ≡ true → j.sampled ≡ true

-- a sample that is not missing
there_by : (n s : Bool) → (n && not s) ≡ false → n ≡ true → s ≡ true
there_by true true e g = refl
there_by true false e g = absurd (true≢false e)
there_by false s e g = absurd (false≢true g)

pub run_may : (j : Situation) (f : List Marked) {c : ℕ} → judgement_of j f ≡ Run c → RunMay j c
run_may j f {c} h =
    let line = run_line j f h in
    record {
      ruled = record { known = line.a_name; no_reset = line.no_reset; no_show = line.no_show };
      sample = there_by (needs_sample c) j.sampled line.has_sample;
    }

-- a command that is run has a rule
abbrev pub RuledBy : Verdict → Type 0
RuledBy (Run c) = Ruled c
RuledBy _ = Unit

pub verdict_ruled : (j : Situation) (f : List Marked) (v : Verdict) → judgement_of j f ≡ v → RuledBy v
verdict_ruled j f (Run c) h = (run_may j f h).ruled
verdict_ruled j f _ h = tt

-- ---- a verdict on the line l

abbrev pub Proper : Situation → Line → Verdict → Type 0
Proper j l (Run c) = RunMay j c
Proper j l (Preset m) = m.0 ≤ j.capacity
Proper j l (Change t) = t.0 ≤ j.capacity
Proper j l (Show n) = Shown l n
Proper j l _ = Unit

module _ (j : Situation) (f : List Marked) (l : Line) (held : Holds l f) where
  pub verdict_proper : (v : Verdict) → judgement_of j f ≡ v → Proper j l v
  verdict_proper (Run c) h = run_may j f h
  verdict_proper (Preset m) h = (preset_line j f h).within
  verdict_proper (Change t) h = (change_line j f h).within
  verdict_proper (Show n) h = show_cells j l f n held (show_line j f h)
  verdict_proper _ h = tt

-- ---- the cells alone

-- these bytes, all of them good
abbrev all_good : List ℕ → List Marked
all_good t = map (λ b. marked_as b false) t

bytes_back : (t : List ℕ) → map byte_in (all_good t) ≡ t
bytes_back [] = refl
bytes_back (b ∷ t) = ap (λ (u : List ℕ). b ∷ u) (bytes_back t)

none_faulty : (t : List ℕ) → any_faulty (all_good t) ≡ false
none_faulty [] = refl
none_faulty (b ∷ t) = none_faulty t

module _ (j : Situation) (l : Line) (cells : length l.bytes ≡ line_limit) (len : l.len ≤ line_limit) where
  -- a line without marks holds its own content
  holds_itself : l.faulty ≡ false → l.over ≡ false → Holds l (all_good (content_of l))
  holds_itself good short =
      let count : length (content_of l) ≡ l.len = omega (arith, length-take l.len l.bytes, cells) in
      let same : length (all_good (content_of l)) ≡ l.len = length-map (content_of l) (λ b. marked_as b false) ∙ count in
      record {
        cells = cells;
        content = sym (ap (λ (t : List ℕ). take line_limit t) (bytes_back (content_of l)) ∙ take_all line_limit (content_of l) (omega arith));
        len = omega (arith, same);
        over = short ∙ sym (le-ltb line_limit (length (all_good (content_of l))) (omega (arith, same)));
        faulty = good ∙ sym (none_faulty (content_of l));
      }

  proper_by : (faulty over : Bool) → l.faulty ≡ faulty → l.over ≡ over → Proper j l (judgement j l)
  unfolding judgement
  proper_by true over e o = rw e tt
  proper_by false true e o = rw (e, o) tt
  proper_by false false e o =
      let held : Holds l (all_good (content_of l)) = holds_itself e o in
      verdict_proper j (all_good (content_of l)) l held (judgement j l) (sym (holds_judged j l (all_good (content_of l)) held))

-- whatever the cells hold, where no more than these are counted
pub judged_proper : (j : Situation) (l : Line) → length l.bytes ≡ line_limit → l.len ≤ line_limit → Proper j l (judgement j l)
judged_proper j l cells len = proper_by j l cells len l.faulty l.over refl refl
