use Rattle.std.proofs.Common.{false, sym, ◌∙◌, rules, tests}
use Rattle.std.proofs.lemmas.Iterator.{YieldsList-from_slice}
use Rattle.std.proofs.lemmas.Iterator.Adapters.{option_map_id}
use Rattle.std.proofs.lemmas.Iterator.Consumers.{YieldsList-from_copied}
use Rattle.std.proofs.lemmas.Iterator.Search.{find_from_yields_List}
use Rattle.weight.specs.Units.{all_units}
use Rattle.text.specs.Ascii.{same_text}
use Rattle.text.specs.UnitTexts.{unit_text, unit_named}
use Rattle.text.proofs.Named.{found_first}
use Rattle.text.proofs.unit_texts.read_unit.Goals as goal

pub returns : goal.returns
unfolding unit_named
returns c =
    let found = find_from_yields_List (λ u. same_text c.args.text.now (unit_text u)) _ _ c.find.result c.find.ensures.ran (YieldsList-from_copied (YieldsList-from_slice all_units cc)) (λ x b q k. search (rules, tests)) in
    sym (option_map_id c.find.result) ∙ found ∙ found_first false c.args.text.now all_units
