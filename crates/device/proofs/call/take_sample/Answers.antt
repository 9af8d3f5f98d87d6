use borrow.Author.Rules.{rules}
use Rattle.device.proofs.Refusals.{asked_of, sample_refused, sample_delivered, sample_silent}
use Rattle.device.proofs.call.take_sample.Goals as goal

pub returns-in-Err : goal.returns-in-Err
returns-in-Err c =
    let asked = asked_of c.args.profile c.args.state c.is_profile_allowed.ensures c.is_state_allowed.ensures c.admitted-asked.ensures in
    search (rules, sample_refused)

pub returns-then-is_awaited : goal.returns-then-is_awaited
returns-then-is_awaited c =
    let asked = asked_of c.args.profile c.args.state c.is_profile_allowed.ensures c.is_state_allowed.ensures c.admitted-asked.ensures in
    search (rules, sample_delivered)

pub returns-else-is_awaited : goal.returns-else-is_awaited
returns-else-is_awaited c =
    let asked = asked_of c.args.profile c.args.state c.is_profile_allowed.ensures c.is_state_allowed.ensures c.admitted-asked.ensures in
    search (rules, sample_silent)
