-- Whether a text may stand between quotes, and whether it is all digits, by the classes of its bytes.
-- Assumes nothing.
use mathlib.Core.Path.{◌≡◌, refl}
use mathlib.Core.Bool.{not, ◌&&◌}
use mathlib.Core.List.{List}
use Prim.Native.Nat.{ℕ}
use lib.Dec.{leb, eqb}
use lib.ListN.{length}
use Rattle.classes.specs.Classes.{first_in}
use Rattle.classes.proofs.Texts.{none_in}
use Rattle.classes.proofs.Words.{unprintable, no_digits}
use Rattle.weight.specs.Characters.{space, quote}
use Rattle.text.specs.Printable.{is_printable}
use Rattle.text.specs.Reading.{is_digit, all_digits}

pub printable_by : (t : List ℕ) {i : ℕ} → i ≡ first_in 72 t → leb (length t) i ≡ is_printable t
printable_by t e = rw e (none_in 72 (λ c. leb space c && not (eqb c quote)) unprintable is_printable refl (λ c t. refl) t)

pub digits_by : (t : List ℕ) {i : ℕ} → i ≡ first_in 254 t → leb (length t) i ≡ all_digits t
digits_by t e = rw e (none_in 254 is_digit no_digits all_digits refl (λ c t. refl) t)
