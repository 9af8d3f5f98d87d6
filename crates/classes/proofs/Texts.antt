-- What the place of the first byte in a set says of the whole text.
-- Assumes nothing.
use mathlib.Core.Path.{◌≡◌, sym, ◌∙◌}
use mathlib.Core.Bool.{Bool, true, false, cond, not, ◌&&◌, ◌||◌}
use mathlib.Core.List.{List, [], ◌∷◌}
use Prim.Native.Nat.{ℕ, suc, ◌≤◌}
use native.Mathlib.Omega.{arith}
use lib.Dec.{leb, ltb, leb-zero, leb-suc-zero, leb-suc-suc}
use lib.ListN.{length}
use Rattle.classes.specs.Classes.{among, first_in}

-- it is in the text, or the text's length
pub first_limit : (s : ℕ) (t : List ℕ) → first_in s t ≤ length t
unfolding first_in
first_limit s [] = omega arith
first_limit s (c ∷ t) = by (among s c) (first_limit s t)
  where
    by : (b : Bool) → first_in s t ≤ length t → cond b 0 (suc (first_in s t)) ≤ suc (length t)
    by true h = omega arith
    by false h = omega arith

-- a test of some byte of a text: there is a place before the end
module _ (s : ℕ) (q : ℕ → Bool) (says : (c : ℕ) → among s c ≡ q c) (some : List ℕ → Bool)
    (none : some [] ≡ false)
    (more : (c : ℕ) (t : List ℕ) → some (c ∷ t) ≡ q c || some t)
  where
    pub some_in : (t : List ℕ) → ltb (first_in s t) (length t) ≡ some t
    unfolding first_in
    some_in [] = sym none
    some_in (c ∷ t) = rw (says c) (by (q c) (some_in t)) ∙ sym (more c t)
      where
        by : (b : Bool) → ltb (first_in s t) (length t) ≡ some t → ltb (cond b 0 (suc (first_in s t))) (suc (length t)) ≡ b || some t
        by true h = leb-suc-suc 0 (length t) ∙ leb-zero (length t)
        by false h = leb-suc-suc (suc (first_in s t)) (length t) ∙ h

-- a test of every byte: there is none
module _ (s : ℕ) (p : ℕ → Bool) (says : (c : ℕ) → among s c ≡ not (p c)) (every : List ℕ → Bool)
    (none : every [] ≡ true)
    (more : (c : ℕ) (t : List ℕ) → every (c ∷ t) ≡ p c && every t)
  where
    pub none_in : (t : List ℕ) → leb (length t) (first_in s t) ≡ every t
    unfolding first_in
    none_in [] = sym none
    none_in (c ∷ t) = rw (says c) (by (p c) (none_in t)) ∙ sym (more c t)
      where
        by : (b : Bool) → leb (length t) (first_in s t) ≡ every t → leb (suc (length t)) (cond (not b) 0 (suc (first_in s t))) ≡ b && every t
        by true h = leb-suc-suc (length t) (first_in s t) ∙ h
        by false h = leb-suc-zero (length t)
