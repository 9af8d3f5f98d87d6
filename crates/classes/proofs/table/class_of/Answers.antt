use mathlib.Core.Path.{◌≡◌, refl, ◌∙◌, ap}
use mathlib.Core.List.{List}
use Prim.Native.Nat.{ℕ, ◌<◌}
use borrow.Author.Rules.{rules}
use lib.ListN.{get_or}
use Rattle.classes.specs.Classes.{class_of, class_table}
use Rattle.classes.specs.declared.table.TheConstants.{CLASSES}
use Rattle.classes.proofs.Follows.{follows, class_limit}
use Rattle.classes.proofs.table.class_of.Goals as goal

same_table : CLASSES ≡ class_table
unfolding class_table
same_table = refl

is_class : (b : ℕ) → b < 256 → get_or CLASSES b 0 ≡ class_of b
is_class b h = ap (λ (l : List ℕ). get_or l b 0) same_table ∙ follows b h

pub returns-clause-value : goal.returns-clause-value
returns-clause-value c = is_class c.args.byte (search rules)

pub returns-clause-upper_bound : goal.returns-clause-upper_bound
returns-clause-upper_bound c = rw (is_class c.args.byte (search rules)) (class_limit c.args.byte)
