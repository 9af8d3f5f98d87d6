-- What the parts of the judgement promise each other.
-- Assumes nothing.
use Rattle.std.specs.Prelude.{ℕ, ◌-◌, Bool, cond, not, ◌&&◌, List, length}
use Rattle.answer.specs.Commands.{needs_sample, place_d, place_m21, place_sr, place_ta}
use Rattle.line.specs.declared.judge.Situation.{Situation}
use Rattle.line.specs.declared.judge.Verdict.{Verdict}
use Rattle.line.specs.declared.judge.Verdict.TheVariants.{Wrong, NoSample, Preset, Change, Show, Select}
use Rattle.line.specs.Judging.{is_quoted, preset_in, typed_in, preset_of, amount_in, threshold_of, threshold_in, unit_in, is_coded, unit_of, is_wrong, table, own_rule}

-- rows 6 to 8 of D with the parameter p
unfoldable pub show_rule : List ℕ → Verdict
show_rule p = cond (is_quoted p) (Show (length p - 2)) (Wrong place_d)

-- rows 6 to 8 of TA with the parameter p
unfoldable pub preset_rule : Situation → List ℕ → Verdict
preset_rule j p = cond (preset_of j.capacity (preset_in j p)) (Preset (amount_in (preset_in j p))) (Wrong place_ta)

-- rows 6 to 8 of SR with the parameter p
unfoldable pub change_rule : Situation → List ℕ → Verdict
change_rule j p = cond (threshold_of j.capacity (typed_in j p)) (Change (threshold_in (typed_in j p))) (Wrong place_sr)

-- rows 6 to 8 of M21 with the parameter p
unfoldable pub select_rule : List ℕ → Verdict
select_rule p = cond (is_coded (unit_in p)) (Select (unit_of (unit_in p))) (Wrong place_m21)

-- rows 6 to 8
unfoldable pub last_rows : Situation → ℕ → List ℕ → Verdict
last_rows j c t =
    cond (is_wrong j c t) (Wrong c) (cond (needs_sample c && not j.sampled) (NoSample c) (own_rule j c t))

-- the table over a line's marks and its bytes, shut
unfoldable pub text_rows : Situation → Bool → Bool → List ℕ → Verdict
text_rows j faulty over t = table j faulty over t
