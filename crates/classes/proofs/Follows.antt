-- The table follows the rule: one test of all its cells.
-- Assumes nothing.
use mathlib.Core.Path.{◌≡◌, refl, sym, ap, ◌∙◌}
use mathlib.Core.Bool.{Bool, true, false, cond, ◌&&◌}
use mathlib.Core.List.{List, [], ◌∷◌}
use Prim.Native.Nat.{ℕ, zero, suc, ◌+◌, ◌<◌}
use native.Mathlib.Nat.{not-suc-le-zero, le_of_suc-le-suc, add-zero, add-suc, suc-add, zero-add}
use lib.Dec.{leb, ltb, eqb, lit<}
use lib.ListN.{get_or}
use Rattle.classes.specs.Classes.{class_of, class_table}

-- the classes of so many bytes from i on, by the rule
abbrev tabled : (ℕ → ℕ) → ℕ → ℕ → List ℕ
tabled f i zero = []
tabled f i (suc n) = f i ∷ tabled f (suc i) n

at_place : (f : ℕ → ℕ) (i n k : ℕ) → k < n → get_or (tabled f i n) k 0 ≡ f (i + k)
at_place f i zero k h = absurd (not-suc-le-zero h)
at_place f i (suc n) zero h = ap f (sym (add-zero i))
at_place f i (suc n) (suc k) h = at_place f (suc i) n k (le_of_suc-le-suc h) ∙ ap f (suc-add i k ∙ sym (add-suc i k))

-- the test
same_cells : class_table ≡ tabled class_of 0 256
unfolding class_table class_of
same_cells = refl

-- each byte's cell is its class
pub follows : (b : ℕ) → b < 256 → get_or class_table b 0 ≡ class_of b
follows b h = ap (λ (l : List ℕ). get_or l b 0) same_cells ∙ at_place class_of 0 256 b h ∙ ap class_of (zero-add b)

-- ---- the classes are eight

one_of_eight : (a b c d e f g : Bool) → cond a 0 (cond b 1 (cond c 2 (cond d 3 (cond e 4 (cond f 5 (cond g 6 7)))))) < 8
one_of_eight true b c d e f g = lit< tt
one_of_eight false true c d e f g = lit< tt
one_of_eight false false true d e f g = lit< tt
one_of_eight false false false true e f g = lit< tt
one_of_eight false false false false true f g = lit< tt
one_of_eight false false false false false true g = lit< tt
one_of_eight false false false false false false true = lit< tt
one_of_eight false false false false false false false = lit< tt

pub class_limit : (b : ℕ) → class_of b < 8
unfolding class_of
class_limit b =
    one_of_eight (leb 48 b && leb b 57) (leb 65 b && leb b 90) (eqb b 32) (eqb b 34) (eqb b 46) (eqb b 64) (ltb b 32)
