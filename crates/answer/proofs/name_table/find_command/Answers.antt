use Rattle.std.proofs.Common.{◌≡◌, rules, tests}
use Rattle.std.proofs.lemmas.Iterator.{YieldsList-from_slice, first_from_find}
use Rattle.answer.specs.NameTable.{word_number}
use Rattle.answer.specs.declared.name_table.Name.{Name}
use Rattle.answer.proofs.NameTable.{codes, found_by}
use Rattle.answer.proofs.name_table.find_command.Goals as goal

-- the code has the table
pub returns : goal.returns
unfolding word_number
returns c =
    let key = c.key_of-key.result in
    let Yes : Name → Type 0 = λ n. n.0 ≡ key in
    let No : Name → Type 0 = λ n. n.0 ≡ key → ⊥ in
    let first = first_from_find _ _ _ Yes No c.find.ensures.ran (YieldsList-from_slice codes c.iter.ensures.rest) (λ x q k. search (rules, tests)) (λ x q k. search (rules, tests)) in
    found_by c.args.word.now key c.key_of-key.ensures (λ k. search rules) c.find.result c.map_or.result first c.map_or.ensures (λ x k. search rules)
