-- Document 01, "Receiving": the table of a finished line, its rows in the paper's order, and the parameters of D, TA, SR and M21
-- (document 02, No. 1, No. 3, No. 5 and No. 7).
-- Assumes nothing.
use Rattle.std.specs.Prelude.{ℕ, ◌-◌, Bool, true, false, cond, not, ◌&&◌, ◌||◌, Option, Some, None, Result, Ok, Err, List, [], ◌∷◌, leb, ltb, eqb, length, get_or, take, drop}
use Rattle.answer.specs.declared.answer.Error.TheVariants.{Syntax, Transmission, Logical}
use Rattle.answer.specs.Commands.{names, place_of, is_d, is_m21, is_reset, is_sr, is_ta, takes_parameters, needs_sample}
use Rattle.line.specs.declared.receive.Line.{Line}
use Rattle.line.specs.declared.judge.Situation.{Situation}
use Rattle.line.specs.declared.judge.Verdict.{Verdict}
use Rattle.line.specs.declared.judge.Verdict.TheVariants.{Erroneous, Reset, Busy, Wrong, NoSample, Run, Preset, Change, Show, Select}
use Rattle.line.specs.Receiving.{content_of}
use Rattle.weight.specs.declared.amount.Tare.{Tare}
use Rattle.weight.specs.declared.amount.NoAmount.{NoAmount}
use Rattle.weight.specs.declared.changes.Threshold.{Threshold}
use Rattle.weight.specs.declared.units.WeightUnit.{WeightUnit}
use Rattle.weight.specs.declared.units.WeightUnit.TheVariants.{G}
use Rattle.weight.specs.Characters.{quote}
use Rattle.text.specs.Ascii.{ascii, same_text}
use Rattle.text.specs.Printable.{is_printable}
use Rattle.text.specs.Searching.{before_space, after_space, has_space}
use Rattle.text.specs.UnitTexts.{unit_text, unit_coded}
use Rattle.text.specs.Typed.{preset_resolution, read_preset, read_typed}

-- a byte below 32
abbrev pub has_control : List ℕ → Bool
has_control [] = false
has_control (c ∷ t) = ltb c 32 || has_control t

-- the command that the line names
unfoldable pub command_in : List ℕ → ℕ
command_in t = place_of (before_space t)

-- ---- parameters

-- what D shows: 0 to 20 bytes, 32 to 255 without 34
abbrev pub is_shown : List ℕ → Bool
is_shown t = leb (length t) 20 && is_printable t

-- what stands between the quotes of D "text"
abbrev pub between_quotes : List ℕ → List ℕ
between_quotes p = take (length p - 2) (drop 1 p)

-- a text that D takes, in quotes
unfoldable pub is_quoted : List ℕ → Bool
is_quoted p =
    leb 2 (length p)
    && (eqb (get_or p 0 0) quote && eqb (get_or p (length p - 1) 0) quote)
    && is_shown (between_quotes p)

-- the micrograms of a typed number, where it is one that C allows
abbrev pub preset_of : ℕ → Result Tare NoAmount → Bool
preset_of capacity (Ok m) = leb m.0 capacity
preset_of capacity (Err e) = false

abbrev pub amount_in : Result Tare NoAmount → Tare
amount_in (Ok m) = m
amount_in (Err e) = record { 0 = 0 }

-- the same as a threshold, which is not 0
abbrev pub threshold_of : ℕ → Result Tare NoAmount → Bool
threshold_of capacity (Ok m) = leb 1 m.0 && leb m.0 capacity
threshold_of capacity (Err e) = false

abbrev pub threshold_in : Result Tare NoAmount → Threshold
threshold_in n = record { 0 = (amount_in n).0 }

-- number, space, the unit in force: the number's text, and no byte where the rest is not so
unfoldable pub number_in : WeightUnit → List ℕ → List ℕ
number_in u p = cond (has_space p && same_text (after_space p) (unit_text u)) (before_space p) []

-- of TA: to the display step and the microgram (document 02, No. 3), above F to the coarse step, if F is below C (No. 7)
abbrev pub preset_from : Situation → List ℕ → Result Tare NoAmount
preset_from j t = read_preset (preset_resolution j.capacity j.fine j.resolution t) t

unfoldable pub preset_in : Situation → List ℕ → Result Tare NoAmount
preset_in j p = preset_from j (number_in j.resolution.unit p)

-- of SR: to the microgram
unfoldable pub typed_in : Situation → List ℕ → Result Tare NoAmount
typed_in j p = read_typed j.resolution.unit (number_in j.resolution.unit p)

-- of TA, not above C
abbrev pub is_preset : Situation → List ℕ → Bool
is_preset j p = preset_of j.capacity (preset_in j p)

-- of SR, neither 0 nor above C
abbrev pub is_threshold : Situation → List ℕ → Bool
is_threshold j p = threshold_of j.capacity (typed_in j p)

-- of M21: 0, which stands for the host unit, space, a unit's code
unfoldable pub unit_in : List ℕ → Option WeightUnit
unit_in p = cond (same_text (take 2 p) (ascii "0 ")) (unit_coded (drop 2 p)) None

abbrev pub is_coded : Option WeightUnit → Bool
is_coded (Some u) = true
is_coded None = false

abbrev pub unit_of : Option WeightUnit → WeightUnit
unit_of (Some u) = u
unit_of None = G

-- a name that takes parameters, with wrong ones; TA, SR and M21 may stand alone
unfoldable pub is_wrong : Situation → ℕ → List ℕ → Bool
is_wrong j c t =
    (is_d c && not (has_space t && is_quoted (after_space t)))
    || (is_ta c && (has_space t && not (is_preset j (after_space t))))
    || (is_sr c && (has_space t && not (is_threshold j (after_space t))))
    || (is_m21 c && (has_space t && not (is_coded (unit_in (after_space t)))))

-- ---- the table

-- over 64 bytes, or a byte below 32, or the bytes before the first space are no name
abbrev pub unknown_in : Bool → List ℕ → Bool
unknown_in over t = over || has_control t || leb (length names) (command_in t)

-- the command's own rule, with its parameter
unfoldable pub own_rule : Situation → ℕ → List ℕ → Verdict
own_rule j c t =
    cond (is_d c) (Show (length (after_space t) - 2))
    (cond (is_ta c && has_space t) (Preset (amount_in (preset_in j (after_space t))))
    (cond (is_sr c && has_space t) (Change (threshold_in (typed_in j (after_space t))))
    (cond (is_m21 c && has_space t) (Select (unit_of (unit_in (after_space t)))) (Run c))))

-- the first row that applies
abbrev pub first_row : Bool → Bool → Bool → Bool → Bool → Bool → Bool → ℕ → Verdict → Verdict
first_row faulty unknown extra reset waiting wrong missing c own =
    cond faulty (Erroneous Transmission)
    (cond unknown (Erroneous Syntax)
    (cond extra (Erroneous Logical)
    (cond reset Reset
    (cond waiting (Busy c)
    (cond wrong (Wrong c)
    (cond missing (NoSample c) own))))))

-- over a line's marks and its bytes
abbrev pub table : Situation → Bool → Bool → List ℕ → Verdict
table j faulty over t =
    let c = command_in t in
    first_row
    faulty
    (unknown_in over t)
    (has_space t && not (takes_parameters c))
    (is_reset c)
    j.waiting
    (is_wrong j c t)
    (needs_sample c && not j.sampled)
    c
    (own_rule j c t)

unfoldable pub judgement : Situation → Line → Verdict
judgement j l = table j l.faulty l.over (content_of l)
