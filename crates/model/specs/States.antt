-- Document 01, "Refusal numbers", case 2, with the cases of document 02, and the state that power-on returns.
-- Assumes nothing.
use Rattle.std.specs.Prelude.{Bool, true, false, not, ◌&&◌, ◌||◌, leb, ltb, pos, neg_ℤ, replicate, Option, Some, None}
use Rattle.std.specs.Int.Signed.{le_z}
use Rattle.model.specs.declared.profile.Profile.{Profile}
use Rattle.model.specs.declared.state.Pending.{Pending}
use Rattle.model.specs.declared.sending.Mode.TheVariants.{Off}
use Rattle.model.specs.declared.state.Pending.TheVariants.{Weigh, Zero, Tare, Change}
use Rattle.model.specs.declared.state.State.{State}
use Rattle.model.specs.Profiles.{text_allowed}
use Rattle.model.specs.Sendings.{is_off, change_allowed}
use Rattle.line.specs.Receiving.{empty_line, line_limit}
use Rattle.weight.specs.declared.units.WeightUnit.TheVariants.{G}

-- zero in its range: -R..R
abbrev pub zero_allowed : Profile → State → Bool
zero_allowed p s = le_z (neg_ℤ (pos p.zeroing)) s.weighing.zero.0 && le_z s.weighing.zero.0 (pos p.zeroing)

-- tare in its range: 0..C
abbrev pub tare_allowed : Profile → State → Bool
tare_allowed p s = leb s.weighing.tare.0 p.capacity

-- not over 64 line bytes held
abbrev pub line_allowed : State → Bool
line_allowed s = leb s.line.len line_limit

-- a shown text that D would take
abbrev pub display_allowed : State → Bool
display_allowed s = not s.display.shown || text_allowed 20 s.display.text

-- a command waits
abbrev pub is_pending : Option Pending → Bool
is_pending None = false
is_pending (Some q) = true

-- SR waits
abbrev pub is_change : Option Pending → Bool
is_change None = false
is_change (Some Weigh) = false
is_change (Some Zero) = false
is_change (Some Tare) = false
is_change (Some Change) = true

-- not waiting with W or more unstable samples counted
abbrev pub waiting_allowed : Profile → State → Bool
waiting_allowed p s = not (is_pending s.waiting.pending) || ltb s.waiting.unstable p.timeout

-- neither repeating nor SR running with no sample
abbrev pub sending_allowed : State → Bool
sending_allowed s = is_off s.sending.mode || s.weighing.sampled

-- none of the cases of refusal 2
unfoldable pub state_allowed : Profile → State → Bool
state_allowed p s =
    zero_allowed p s
    && tare_allowed p s
    && line_allowed s
    && display_allowed s
    && waiting_allowed p s
    && sending_allowed s
    && change_allowed p.underload p.capacity s.sending (is_change s.waiting.pending)

-- zero 0, tare 0, g as the unit, the weight shown, an empty line, no sample, no command waiting, and nothing sent unasked
unfoldable pub start_state : State
start_state =
    record {
      line = empty_line;
      weighing = record { zero = record { 0 = pos 0 }; tare = record { 0 = 0 }; unit = G; sampled = false; load = record { 0 = pos 0 }; stable = false };
      waiting = record { pending = None; unstable = 0 };
      sending = record { last = record { 0 = pos 0 }; threshold = record { 0 = 0 }; mode = Off; owed = false; outside = false };
      display = record { shown = false; text = record { bytes = replicate 20 0; len = 0 } };
    }
