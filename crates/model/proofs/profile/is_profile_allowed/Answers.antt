use borrow.Author.Rules.{rules}
use Rattle.model.proofs.ProfileFacts.{limits_refuse}
use Rattle.model.proofs.UnitsTested.{profile_tested}
use Rattle.model.proofs.profile.is_profile_allowed.Goals as goal

pub returns-then-not-are_limits_allowed : goal.returns-then-not-are_limits_allowed
returns-then-not-are_limits_allowed c = search (rules, limits_refuse)

pub returns : goal.returns
returns c = search (rules, profile_tested)
