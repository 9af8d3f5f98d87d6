-- Document 02, No. 7: F = C gives the module as it was before the request, so F is no risk for a cabinet without DeltaRange cells. F is
-- asked for in four places: where a profile is tested, where a typed tare is rounded, and where a byte and a sample are answered by a
-- weight. With F = C each of them is what it was.
-- Assumes nothing.
use Rattle.std.specs.Prelude.{ℕ, ◌≡◌, Bool, true, cond, ◌&&◌, List, ℤ, pos, length}
use Rattle.answer.specs.Commands.{is_s}
use Rattle.answer.specs.declared.answer.Answer.{Answer}
use Rattle.answer.specs.declared.answer.Answer.TheVariants.{Nothing, Plain, Weight, ErrorLine, Text, Listed, CommandList, Versions, HostUnit}
use Rattle.commands.specs.Reactions.{byte_reaction, situation_of}
use Rattle.line.specs.Judging.{preset_in}
use Rattle.line.specs.Judging as judging
use Rattle.line.specs.Receiving.{line_limit}
use Rattle.model.specs.declared.profile.Profile.{Profile}
use Rattle.model.specs.declared.react.Reaction.{Reaction}
use Rattle.model.specs.declared.state.State.{State}
use Rattle.model.specs.declared.weighing.Weighing.{Weighing}
use Rattle.model.specs.Profiles.{capacity_allowed, underload_allowed, zero_range_allowed, timeout_allowed, every_unit, nets_allowed, profile_allowed, resolution_in, resolution_of, texts_allowed}
use Rattle.model.specs.States.{state_allowed}
use Rattle.text.specs.Typed.{read_preset}
use Rattle.waiting.specs.Waits.{sample_reaction}
use Rattle.weighing.specs.Weighings.{net_of, number_in}
use Rattle.weight.specs.declared.loads.Load.{Load}
use Rattle.weight.specs.declared.units.WeightUnit.{WeightUnit}
use Rattle.weight.specs.Rounding.{allowed_resolution}
use Rattle.weight.specs.Units.{all_units}

-- ---- as it was before: a profile's lines, and the tare of TA number unit

abbrev pub unit_before : Profile → WeightUnit → Bool
unit_before p u = allowed_resolution (resolution_of p u) && nets_allowed p (resolution_of p u)

abbrev pub profile_before : Profile → Bool
profile_before p =
    capacity_allowed p
    && underload_allowed p
    && zero_range_allowed p
    && timeout_allowed p
    && every_unit (unit_before p) all_units
    && texts_allowed p

-- ---- the weights

-- what an answer tells of the weighing after it: S the net, T, TI and TA the tare
abbrev pub weight_told : Weighing → ℕ → ℤ
weight_told w c = cond (is_s c) (net_of w) (pos w.tare.0)

-- a weight that is not coarse and is told as the unit's own resolution has it; every other answer
abbrev pub IsFine : Profile → Weighing → Answer → Type 0
IsFine p w Nothing = Unit
IsFine p w (Plain h) = Unit
IsFine p w (Weight h n) = n ≡ number_in (resolution_in p w) (weight_told w h.identification)
IsFine p w (ErrorLine e) = Unit
IsFine p w (Text c) = Unit
IsFine p w (Listed last c) = Unit
IsFine p w CommandList = Unit
IsFine p w Versions = Unit
IsFine p w (HostUnit u) = Unit

abbrev pub FineReaction : Profile → Reaction → Type 0
FineReaction p x = IsFine p x.state.weighing x.answer

-- ---- the claim

pub record FineOnly (p : Profile) : Type 0 where
  pub profile : profile_allowed p ≡ profile_before p
  pub typed : (s : State) (t : List ℕ)
      → preset_in (situation_of p s) t ≡ read_preset (resolution_in p s.weighing) (judging.number_in (resolution_in p s.weighing).unit t)
  pub byte : (s : State) → length s.line.bytes ≡ line_limit → state_allowed p s ≡ true → (b : ℕ) (bad : Bool) → FineReaction p (byte_reaction p s b bad)
  pub sample : (s : State) → state_allowed p s ≡ true → (z : Load) (stable : Bool) → FineReaction p (sample_reaction p s z stable)

-- whichever profile has F = C
abbrev pub UnrangedAsBefore : Type 0
UnrangedAsBefore = (p : Profile) → p.fine ≡ p.capacity → FineOnly p
