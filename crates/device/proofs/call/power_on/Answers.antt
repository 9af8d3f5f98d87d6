use borrow.Author.Rules.{rules}
use Rattle.device.proofs.Refusals.{on_refused, on_delivered}
use Rattle.device.proofs.call.power_on.Goals as goal

pub returns-then-not-is_profile_allowed : goal.returns-then-not-is_profile_allowed
returns-then-not-is_profile_allowed c = search (rules, on_refused)

pub returns : goal.returns
returns c = search (rules, on_delivered)
