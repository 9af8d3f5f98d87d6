-- A byte ends the line of the state, or it joins that line and is not answered.
-- Assumes nothing.
use Prim.Native.Nat.{ℕ}
use mathlib.Core.Path.{◌≡◌, refl, sym, ap, ◌∙◌}
use mathlib.Core.Bool.{Bool, true, false}
use Rattle.answer.specs.declared.answer.Answer.TheVariants as answers
use Rattle.model.specs.declared.profile.Profile.{Profile}
use Rattle.model.specs.declared.react.Reaction.{Reaction}
use Rattle.model.specs.declared.state.State.{State}
use Rattle.commands.specs.Reactions.{byte_reaction, line_reaction, performed, situation_of}
use Rattle.model.specs.Groups.{reaction, with_line}
use Rattle.line.specs.declared.judge.Verdict.{Verdict}
use Rattle.line.specs.declared.judge.Verdict.TheVariants.{Erroneous, Reset, Busy, Wrong, NoSample, Run, Preset, Change, Show, Select}
use Rattle.line.specs.declared.receive.Line.{Line}
use Rattle.line.specs.declared.receive.Received.{Received}
use Rattle.line.specs.Judging.{judgement}
use Rattle.line.specs.Receiving.{cleared_line, received_byte, with_return}

-- what an ended line is judged to be, and what becomes of it, do not depend on the mark of its CR
performed_marked : (p : Profile) (s : State) (l : Line) (v : Verdict) → performed p s (with_return l false) v ≡ performed p s l v
performed_marked p s l (Erroneous e) = refl
performed_marked p s l Reset = refl
performed_marked p s l (Busy c) = refl
performed_marked p s l (Wrong c) = refl
performed_marked p s l (NoSample c) = refl
performed_marked p s l (Run c) = refl
performed_marked p s l (Preset m) = refl
performed_marked p s l (Change t) = refl
performed_marked p s l (Show n) = refl
performed_marked p s l (Select u) = refl

abbrev ended : Profile → State → Line → Reaction
ended p s l =
    performed p (with_line s (cleared_line l)) l
    (judgement (situation_of p s) l)

ended_marked : (p : Profile) (s : State) → ended p s (with_return s.line false) ≡ line_reaction p s
unfolding judgement
ended_marked p s =
    performed_marked p (with_line s (cleared_line s.line)) s.line
    (judgement (situation_of p s) s.line)

ended_line : (l : Line) (b : ℕ) (bad : Bool) → (received_byte l b bad).ended ≡ true → (received_byte l b bad).line ≡ with_return l false
unfolding received_byte
ended_line l b bad e = rw e

module _ (p : Profile) (s : State) (b : ℕ) (bad : Bool) {d : Received} (received : d ≡ received_byte s.line b bad) where
  judged : d.ended ≡ true → byte_reaction p s b bad ≡ ended p s d.line
  unfolding byte_reaction
  judged e = rw (← received, e)

  pub byte_ends : d.ended ≡ true → byte_reaction p s b bad ≡ line_reaction p s
  byte_ends e =
      let marked : d.line ≡ with_return s.line false =
      ap (λ (x : Received). x.line) received ∙ ended_line s.line b bad (sym (ap (λ (x : Received). x.ended) received) ∙ e) in
      judged e ∙ ap (ended p s) marked ∙ ended_marked p s

  pub byte_joins : d.ended ≡ false → byte_reaction p s b bad ≡ reaction (with_line s d.line) answers.Nothing
  unfolding byte_reaction
  byte_joins e = rw (← received, e)
