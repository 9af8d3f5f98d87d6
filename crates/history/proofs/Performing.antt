-- What a finished line does to the wait: it is answered and changes nothing there, or it is @, or it begins a wait.
-- Assumes nothing.
use mathlib.Core.Path.{◌≡◌, refl}
use mathlib.Core.Bool.{Bool, true, false, ◌&&◌, ◌||◌}
use mathlib.Core.List.{List}
use Rattle.std.specs.Prelude.{Option, Some, None}
use Prim.Native.Nat.{ℕ}
use Rattle.answer.specs.declared.answer.Status.TheVariants.{A}
use Rattle.answer.specs.Commands.{name_of, place_t, place_ti, place_z, place_zi}
use Rattle.model.specs.declared.profile.Profile.{Profile}
use Rattle.model.specs.declared.react.Reaction.{Reaction}
use Rattle.model.specs.declared.state.Pending.{Pending}
use Rattle.model.specs.declared.state.Pending.TheVariants.{Weigh, Zero, Tare, Change}
use Rattle.model.specs.declared.state.State.{State}
use Rattle.model.specs.declared.weighing.Weighing.{Weighing}
use Rattle.commands.specs.Reactions.{run, changing, reset_state, sending_as, performed}
use Rattle.commands.proofs.Ways.{by_choice, run_cases}
use Rattle.model.specs.declared.sending.Mode.TheVariants.{Off}
use Rattle.model.specs.Groups.{with_sending, not_waiting}
use Rattle.waiting.specs.Changes.{with_threshold}
use Rattle.waiting.specs.Waits.{settled, begun, begun_by, settled_reaction_by}
use Rattle.device.specs.Calls.{answer_bytes}
use Rattle.model.specs.States.{is_pending}
use Rattle.weighing.specs.Weighings.{stability}
use Rattle.line.specs.declared.judge.Verdict.{Verdict}
use Rattle.line.specs.declared.judge.Verdict.TheVariants.{Erroneous, Reset, Busy, Wrong, NoSample, Run, Preset, Show, Select}
use Rattle.line.specs.declared.judge.Verdict.TheVariants as verdicts
use Rattle.line.specs.declared.receive.Line.{Line}
use Rattle.line.proofs.Proper.{Ruled, RuledBy}
use Rattle.text.specs.Ascii.{ascii, same_text}
use Rattle.history.specs.Waits.{Awaited, nothing, command, is_awaiting, is_change_line, identification_in, awaited_holds}
use Rattle.weight.specs.declared.changes.Threshold.{Threshold}
use Rattle.history.proofs.SentAnswers.{is_silent, weighed_sent, zeroed_sent, tared_sent, weighed_own, zeroed_own, tared_own}
use Rattle.history.proofs.Verdicts.{resets}

-- S, T, Z and SR
abbrev pub is_wait_name : List ℕ → Bool
is_wait_name t = same_text t (ascii "S") || same_text t (ascii "T") || same_text t (ascii "Z") || is_change_line t

-- a command that waits, as the record of waits has it
abbrev pub awaited_by : Pending → Awaited
awaited_by Weigh = command (ascii "S")
awaited_by Zero = command (ascii "Z")
awaited_by Tare = command (ascii "T")
awaited_by Change = command (ascii "S")

-- and what waits, if one does
abbrev pub awaited_of : Option Pending → Awaited
awaited_of None = nothing
awaited_of (Some q) = awaited_by q

-- it has a command exactly where one is pending
pub awaiting_is : (q : Option Pending) → is_awaiting (awaited_of q) ≡ is_pending q
awaiting_is None = refl
awaiting_is (Some Weigh) = refl
awaiting_is (Some Zero) = refl
awaiting_is (Some Tare) = refl
awaiting_is (Some Change) = refl

-- a reaction x to a verdict v on a line that s had received
pub data Performed (s : State) (v : Verdict) (x : Reaction) : Type 0 where
  answered : resets v ≡ false → is_silent x.answer ≡ false → x.state.waiting ≡ s.waiting → x.state.line ≡ s.line → Performed s v x
  dropped : resets v ≡ true → is_silent x.answer ≡ false → x.state.waiting ≡ not_waiting → x.state.line ≡ s.line → Performed s v x
  begins : (c : ℕ) (pending : Pending)
      → v ≡ Run c
      → is_wait_name (name_of c) ≡ true
      → awaited_by pending ≡ command (identification_in (name_of c))
      → is_silent x.answer ≡ true
      → x.state.waiting ≡ record { pending = Some pending; unstable = 0 }
      → x.state.line ≡ s.line
      → Performed s v x
  changes : (t : Threshold)
      → v ≡ verdicts.Change t
      → is_silent x.answer ≡ true
      → x.state.waiting ≡ record { pending = Some Change; unstable = 0 }
      → x.state.line ≡ s.line
      → Performed s v x

-- none of them touches the line
pub same_line : {s : State} {v : Verdict} {x : Reaction} → Performed s v x → x.state.line ≡ s.line
same_line (answered noreset sent same line) = line
same_line (dropped reset sent none line) = line
same_line (begins c pending runs named waits silent now line) = line
same_line (changes t runs silent now line) = line

-- what a waiting command makes of a stable sample is sent
pub settled_sent : (p : Profile) (pending : Pending) (w : Weighing) → is_silent (settled p pending w).answer ≡ false
settled_sent p Weigh w = weighed_sent p w
settled_sent p Zero w = zeroed_sent p w place_z A
settled_sent p Tare w = tared_sent p w place_t
settled_sent p Change w = weighed_sent p w

-- and is an answer of that command
pub settled_own : (p : Profile) (n : ℕ) (pending : Pending) (w : Weighing) → w.stable ≡ true
    → awaited_holds p n (awaited_by pending) true (answer_bytes p (settled p pending w).answer) ≡ true
settled_own p n Weigh w e = weighed_own p w e
settled_own p n Zero w e = zeroed_own p w
settled_own p n Tare w e = tared_own p w e
settled_own p n Change w e = weighed_own p w e

module _ (p : Profile) (s : State) (c : ℕ) where
  -- S, Z, T or SR begins, from a state whose line and wait are those of s
  begun_kind : (t : State) (pending : Pending) → t.waiting ≡ s.waiting → t.line ≡ s.line → awaited_by pending ≡ command (identification_in (name_of c))
      → is_wait_name (name_of c) ≡ true → Performed s (Run c) (begun p t pending)
  unfolding begun_by settled_reaction_by
  begun_kind t pending same line waits named =
      by_choice (Performed s (Run c)) (t.weighing.sampled && t.weighing.stable)
      (λ e. answered refl (settled_sent p pending t.weighing) same line)
      (λ e. begins c pending refl named waits refl refl line)

  -- of the commands only S, Z, T and SR begin a wait
  alone_kind : Performed s (Run c) (begun p (with_sending s (with_threshold s.sending 0)) Change) → Performed s (Run c) (changing p s 0)
  unfolding changing
  alone_kind k = k

  run_kind : Ruled c → Performed s (Run c) (run p s c)
  run_kind ruled =
      run_cases (Performed s (Run c)) p s c ruled
      (answered refl refl refl refl)
      (answered refl refl refl refl)
      (λ text. answered refl refl refl refl)
      (λ is. begun_kind (sending_as s Off) Weigh refl refl (rw is) (rw is))
      (λ needs now. answered refl (weighed_sent p s.weighing) refl refl)
      (λ is. begun_kind s Zero refl refl (rw is) (rw is))
      (λ needs. answered refl (zeroed_sent p s.weighing place_zi (stability s.weighing)) refl refl)
      (answered refl refl refl refl)
      (λ is. alone_kind (begun_kind (with_sending s (with_threshold s.sending 0)) Change refl refl (rw is) (rw is)))
      (λ is. begun_kind s Tare refl refl (rw is) (rw is))
      (λ needs. answered refl (tared_sent p s.weighing place_ti) refl refl)
      (answered refl refl refl refl)
      (λ is. answered refl refl refl refl)
      (λ is. answered refl refl refl refl)

-- SR with a parameter
change_kind : (p : Profile) (s : State) (t : Threshold) → Performed s (verdicts.Change t) (changing p s t.0)
unfolding changing begun_by settled_reaction_by
change_kind p s t =
    by_choice (Performed s (verdicts.Change t)) (s.weighing.sampled && s.weighing.stable)
    (λ e. answered refl (weighed_sent p s.weighing) refl refl)
    (λ e. changes t refl refl refl refl)

pub performed_kind : (p : Profile) (s : State) (l : Line) (v : Verdict) → RuledBy v → Performed s v (performed p s l v)
unfolding reset_state
performed_kind p s l (Erroneous e) r = answered refl refl refl refl
performed_kind p s l Reset r = dropped refl refl refl refl
performed_kind p s l (Busy c) r = answered refl refl refl refl
performed_kind p s l (Wrong c) r = answered refl refl refl refl
performed_kind p s l (NoSample c) r = answered refl refl refl refl
performed_kind p s l (Run c) r = run_kind p s c r
performed_kind p s l (Preset m) r = answered refl refl refl refl
performed_kind p s l (verdicts.Change t) r = change_kind p s t
performed_kind p s l (Show n) r = answered refl refl refl refl
performed_kind p s l (Select u) r = answered refl refl refl refl
