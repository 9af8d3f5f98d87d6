use Rattle.std.proofs.Common.{◌≡◌, ℕ, suc, true, false, cond, eqb, refl, sym, ap, ◌∙◌, rules, tests}
use Rattle.std.proofs.lemmas.Iterator.{IsFirst-from_position, YieldsList-from_slice, index_from_first}
use Rattle.text.proofs.Searching.{found_at, first_place}
use Rattle.text.proofs.scanning.first_at.Goals as goal

pub returns : goal.returns
returns c =
    let b : ℕ = c.args.b in
    let Yes : ℕ → Type 0 = λ x. eqb x b ≡ true in
    let No : ℕ → Type 0 = λ x. eqb x b ≡ false in
    let first = IsFirst-from_position _ _ _ Yes No c.position.ensures.ran (YieldsList-from_slice c.args.text.now cc) (λ x q k. search (rules, tests)) (λ x q k. search (rules, tests)) in
    let place = c.unwrap_or.ensures ∙ sym (index_from_first (first_place b) Yes No refl (λ x xs e. ap (λ v. cond v 0 (suc (first_place b xs))) e) (λ x xs e. ap (λ v. cond v 0 (suc (first_place b xs))) e ∙ search rules) c.args.text.now _ first) in
    rw place (found_at b (first_place b) refl (λ c t. refl) c.args.text.now)
