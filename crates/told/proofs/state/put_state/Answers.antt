use Rattle.std.proofs.Common.{refl, rules, sym}
use Rattle.told.specs.StateLines.{state_line}
use Rattle.told.proofs.Laying.{◌then◌, whole_laid}
use Rattle.told.proofs.state.put_state.Goals as goal

pub returns : goal.returns
unfolding state_line
returns c =
    let laid =
    c.put.ensures
    then c.put_zero.ensures
    then c.put_tare.ensures
    then c.put_sample.ensures
    then c.put_waiting.ensures
    then c.put_sending.ensures
    then c.put_display.ensures
    then c.put_line.ensures
    then c.put_unit.ensures
    then c.put-2.ensures in
    let whole = whole_laid refl laid in
    let same = sym laid.same in
    let after = whole.1 in
    record { value = whole.0; line_after = search rules }
