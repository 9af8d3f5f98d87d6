use borrow.Author.Rules.{rules}
use Rattle.text.proofs.TypedText.{preset_read, preset_stray}
use Rattle.text.proofs.typed.read_preset.Goals as goal

pub returns-in_err-number : goal.returns-in_err-number
returns-in_err-number c = search (rules, preset_stray)

pub returns : goal.returns
returns c = search (rules, preset_read)
