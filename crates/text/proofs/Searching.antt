-- The search for a byte, also by its class, and what its place says of the text.
-- Assumes nothing.
use mathlib.Core.Path.{◌≡◌, refl, ap}
use mathlib.Core.Bool.{Bool, true, false, cond, ◌||◌, true≢false, false≢true}
use mathlib.Core.List.{List, [], ◌∷◌, ◌++◌}
use Prim.Native.Nat.{ℕ, suc, ◌+◌, ◌-◌, ◌≤◌}
use native.Mathlib.Nat.{suc-add}
use native.Mathlib.Omega.{arith}
use lib.Dec.{eqb, leb-suc-suc}
use lib.ListN.{length, take, drop, length-drop}
use lib.Seq.{take_all}
use borrow.Author.Tests.{ne_eqb, eqb-true, lt-ltb}
use Rattle.classes.specs.Classes.{among, first_in}
use Rattle.classes.proofs.Words.{spaces, points, quotes}
use Rattle.weight.specs.Characters.{space, point, quote}
use Rattle.text.specs.Searching.{before_first, after_first, has_byte, FirstAt}

-- the end of a slice, as a call is lent it
pub rest_is : (k : ℕ) (t : List ℕ) → take (length t - k) (drop k t) ≡ drop k t
rest_is k t = take_all (length t - k) (drop k t) (rw (length-drop k t) (omega arith))

-- ---- the first b

module _ (b : ℕ) where
  -- a search that ends at b alone finds it
  module _ (f : List ℕ → ℕ) (none : f [] ≡ 0) (more : (c : ℕ) (t : List ℕ) → f (c ∷ t) ≡ cond (eqb c b) 0 (suc (f t))) where
    pub found_at : (t : List ℕ) → FirstAt b t (f t)
    found_at [] = rw none (record { in_text = omega arith; before = refl; after = refl; has = refl })
    found_at (c ∷ t) = rw (more c t) (by (eqb c b) refl (found_at t))
      where
        by : (here : Bool) → eqb c b ≡ here → FirstAt b t (f t) → FirstAt b (c ∷ t) (cond here 0 (suc (f t)))
        by true e p = record { in_text = omega arith; before = rw e; after = rw e; has = rw e (lt-ltb 0 (suc (length t)) (omega arith)) }
        by false e p =
            record {
              in_text = omega (arith, p.in_text);
              before = rw e (ap (λ (r : List ℕ). c ∷ r) p.before);
              after = rw (e, suc-add (f t) 1) p.after;
              has = rw (e, leb-suc-suc (suc (f t)) (length t)) p.has;
            }

  -- the place of the first b; the length where there is none
  abbrev pub first_place : List ℕ → ℕ
  first_place [] = 0
  first_place (c ∷ t) = cond (eqb c b) 0 (suc (first_place t))

  -- a class that has this byte alone is looked for as the byte
  first_of_class : (s : ℕ) → ((c : ℕ) → among s c ≡ eqb c b) → (t : List ℕ) → FirstAt b t (first_in s t)
  unfolding first_in
  first_of_class s alone = found_at (first_in s) refl (λ c t. rw (alone c))

  -- ---- the two sides

  -- a text with a b is what stands before it, the b and what stands after it
  pub first_between : (t : List ℕ) → has_byte b t ≡ true → t ≡ before_first b t ++ (b ∷ after_first b t)
  first_between [] e = absurd (false≢true e)
  first_between (c ∷ t) e = go (eqb c b) refl e (first_between t)
    where
      go : (here : Bool)
          → eqb c b ≡ here
          → (here || has_byte b t) ≡ true
          → (has_byte b t ≡ true → t ≡ before_first b t ++ (b ∷ after_first b t))
          → c ∷ t ≡ cond here [] (c ∷ before_first b t) ++ (b ∷ cond here t (after_first b t))
      go true p e ih = ap (λ (x : ℕ). x ∷ t) (eqb-true c b p)
      go false p e ih = ap (λ (r : List ℕ). c ∷ r) (ih e)

  -- a text without one stands before it, with nothing after it
  pub none_between : (t : List ℕ) → has_byte b t ≡ false → (before_first b t ≡ t) × (after_first b t ≡ [])
  none_between [] e = (refl, refl)
  none_between (c ∷ t) e = go (eqb c b) e (none_between t)
    where
      go : (here : Bool)
          → (here || has_byte b t) ≡ false
          → (has_byte b t ≡ false → (before_first b t ≡ t) × (after_first b t ≡ []))
          → (cond here [] (c ∷ before_first b t) ≡ c ∷ t) × (cond here t (after_first b t) ≡ [])
      go true e ih = absurd (true≢false e)
      go false e ih = (ap (λ (r : List ℕ). c ∷ r) (ih e).0, (ih e).1)

  -- together they are no longer than the text
  pub sides_short : (t : List ℕ) → length (before_first b t) + length (after_first b t) ≤ length t
  sides_short [] = omega arith
  sides_short (c ∷ t) = go (eqb c b) (sides_short t)
    where
      go : (here : Bool)
          → length (before_first b t) + length (after_first b t) ≤ length t
          → length (cond here [] (c ∷ before_first b t)) + length (cond here t (after_first b t)) ≤ suc (length t)
      go true ih = omega arith
      go false ih = omega arith

-- ---- the bytes with a class of their own

pub first_space_at : (t : List ℕ) {i : ℕ} → i ≡ first_in 4 t → FirstAt space t i
first_space_at t e = rw e (first_of_class space 4 spaces t)

pub first_point_at : (t : List ℕ) {i : ℕ} → i ≡ first_in 16 t → FirstAt point t i
first_point_at t e = rw e (first_of_class point 16 points t)

-- whether a text begins with a quote
pub quote_first : (c : ℕ) (t : List ℕ) {i : ℕ} → i ≡ first_in 8 (c ∷ t) → eqb i 0 ≡ eqb c quote
unfolding first_in
quote_first c t e = rw (e, quotes c) (by (eqb c quote))
  where
    by : (here : Bool) → eqb (cond here 0 (suc (first_in 8 t))) 0 ≡ here
    by true = refl
    by false = ne_eqb (suc (first_in 8 t)) 0 (λ e. omega arith)
