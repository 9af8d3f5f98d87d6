use Rattle.std.proofs.Common.{ℕ, not, ◌||◌, eqb, Bool, false, rules, tests}
use Rattle.std.proofs.lemmas.Iterator.{YieldsList-from_slice}
use Rattle.std.proofs.lemmas.Iterator.Consumers.{fold_from_yields_List}
use Rattle.line.proofs.Running.{any_told}
use Rattle.line.proofs.run.any_faulty.Goals as goal

pub returns : goal.returns
returns c =
    let marks = c.args.marks.now in
    let h : Bool → ℕ → Bool = λ any mark. any || not (eqb mark 0) in
    any_told marks (fold_from_yields_List _ h false c.fold.result c.fold.ensures.ran (YieldsList-from_slice marks cc) (λ any mark b q k. search (rules, tests)))
