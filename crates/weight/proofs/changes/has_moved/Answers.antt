use borrow.Author.Rules.{rules}
use Rattle.weight.proofs.Moves.{last_far, move_refused, moved_by, net_far}
use Rattle.std.proofs.lemmas.Option.{MatchOption-at_none, MatchOption-at_some}
use Rattle.weight.proofs.changes.has_moved.Goals as goal

pub returns-in-Some-Some-Some : goal.returns-in-Some-Some-Some
returns-in-Some-Some-Some c =
    let i = c.in-Some-Some-Some in
    let e = MatchOption-at_some _ _ _ i.is-0 c.if_allowed.ensures in
    let f = MatchOption-at_some _ _ _ i.is-1 c.if_in_range.ensures in
    moved_by _ _ _ _ i.r i.last i.net e f i.ensures c.reaches_threshold.ensures

pub returns-in_default : goal.returns-in_default
returns-in_default c = search (rules, net_far)

pub returns-in_default-2 : goal.returns-in_default-2
returns-in_default-2 c = last_far _ _ _ _ (MatchOption-at_none _ _ c.in_default.is-1 c.if_in_range.ensures)

pub returns-in_default-3 : goal.returns-in_default-3
returns-in_default-3 c = move_refused _ _ _ _ (MatchOption-at_none _ _ c.in_default.is-0 c.if_allowed.ensures)
