use borrow.Author.Rules.{rules}
use Rattle.device.proofs.Refusals.{asked_of, byte_refused, byte_delivered, byte_silent}
use Rattle.device.proofs.call.take_byte.Goals as goal

pub returns-in-Err : goal.returns-in-Err
returns-in-Err c =
    let asked = asked_of c.args.profile c.args.state c.is_profile_allowed.ensures c.is_state_allowed.ensures c.admitted-asked.ensures in
    search (rules, byte_refused)

pub returns-then-received : goal.returns-then-received
returns-then-received c =
    let asked = asked_of c.args.profile c.args.state c.is_profile_allowed.ensures c.is_state_allowed.ensures c.admitted-asked.ensures in
    search (rules, byte_delivered)

pub returns-else-received : goal.returns-else-received
returns-else-received c =
    let asked = asked_of c.args.profile c.args.state c.is_profile_allowed.ensures c.is_state_allowed.ensures c.admitted-asked.ensures in
    search (rules, byte_silent)
