use Rattle.std.proofs.Common.{◌≡◌, ℕ, suc, true, false, cond, refl, sym, ap, ◌∙◌, rules}
use Rattle.std.proofs.lemmas.Iterator.{IsFirst-from_position, YieldsList-from_slice, index_from_first}
use Rattle.classes.specs.Classes.{among, first_in}
use Rattle.classes.proofs.search.first_in.Goals as goal

pub returns : goal.returns
unfolding first_in
returns c =
    let s : ℕ = c.args.classes in
    let Yes : ℕ → Type 0 = λ x. among s x ≡ true in
    let No : ℕ → Type 0 = λ x. among s x ≡ false in
    let first = IsFirst-from_position _ _ _ Yes No c.position.ensures.ran (YieldsList-from_slice c.args.text.now cc) (λ x q k. search rules) (λ x q k. search rules) in
    c.unwrap_or.ensures
    ∙ sym (index_from_first (first_in s) Yes No refl (λ x xs e. ap (λ v. cond v 0 (suc (first_in s xs))) e) (λ x xs e. ap (λ v. cond v 0 (suc (first_in s xs))) e ∙ search rules) c.args.text.now _ first)
