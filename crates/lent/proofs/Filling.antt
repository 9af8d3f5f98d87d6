-- The pattern one byte at a time, as it is filled in and as it is compared.
-- Assumes nothing.
use mathlib.Core.Path.{◌≡◌, refl, sym, ap, subst, ◌∙◌}
use mathlib.Core.Bool.{Bool, true, false, not, ◌&&◌, ◌||◌}
use mathlib.Core.List.{List, [], ◌∷◌}
use Prim.Native.Nat.{ℕ, zero, suc, min, ◌+◌, ◌-◌, ◌%◌, ◌≤◌, ◌<◌}
use native.Mathlib.Nat.{not-suc-le-zero}
use native.Mathlib.Numerals.{add-one}
use native.Mathlib.Omega.{arith}
use lib.Dec.{eqb, ltb}
use borrow.Author.Tests.{ltb-true, ltb-false}
use lib.ListN.{length, get_or, drop, set, take, length-append, length-set, length-drop, drop_of_length-le, get_or-append}
use lib.Seq.{drop-cons, get_or_at, take_all, take-suc-set}
use Rattle.std.proofs.Math.Nat.{min-le_left, le-min, min-eq_left}
use Rattle.std.proofs.lemmas.List.{get_or-take, get_or-drop}
use Rattle.text.specs.Ascii.{same_text}
use Rattle.lent.specs.Patterns.{cell_at, pattern, is_spilt}

-- ---- the pattern

length_pattern : (seed n : ℕ) → length (pattern seed n) ≡ n
length_pattern seed zero = refl
length_pattern seed (suc n) =
    length-append (pattern seed n) (cell_at seed n ∷ []) ∙ ap (λ (k : ℕ). k + 1) (length_pattern seed n) ∙ add-one n

pattern_at : (seed n k : ℕ) → k < n → get_or (pattern seed n) k 0 ≡ cell_at seed k
pattern_at seed zero k h = absurd (not-suc-le-zero h)
pattern_at seed (suc n) k h = go (ltb k n) refl (pattern_at seed n k)
  where
    go : (b : Bool) → ltb k n ≡ b → (k < n → get_or (pattern seed n) k 0 ≡ cell_at seed k) → get_or (pattern seed (suc n)) k 0 ≡ cell_at seed k
    go true e before =
        let below : k < n = ltb-true k n e in
        get_or-append (pattern seed n) (cell_at seed n ∷ []) 0 k (rw (length_pattern seed n) below) ∙ before below
    go false e before =
        let above : n ≤ k = ltb-false k n e in
        let last : k ≡ n = omega (arith, h, above) in
        subst (λ (j : ℕ). get_or (pattern seed (suc n)) j 0 ≡ cell_at seed j) (sym last) (get_or_at (pattern seed n) (cell_at seed n) [] 0 n (length_pattern seed n))

-- ---- filled in from the front

-- the first i bytes of l are filled in, which was of this length
pub record FilledSoFar (seed : ℕ) (long : ℕ) (l : List ℕ) (i : ℕ) : Type 0 where
  pub in_buffer : i ≤ length l
  pub as_long : length l ≡ long
  pub filled : take i l ≡ pattern seed i

pub none_filled : (seed : ℕ) (l : List ℕ) → FilledSoFar seed (length l) l 0
none_filled seed l = record { in_buffer = omega arith; as_long = refl; filled = refl }

module _ (seed long : ℕ) (l : List ℕ) (i : ℕ) (p : FilledSoFar seed long l i) where
  pub one_filled : {b : ℕ} → i < length l → b ≡ cell_at seed i → FilledSoFar seed long (set l i b) (i + 1)
  one_filled {b} h e =
      record {
        in_buffer = rw (length-set l i b) (omega (arith, h));
        as_long = length-set l i b ∙ p.as_long;
        filled = rw (add-one i, take-suc-set l i b h, p.filled, e);
      }

  pub all_filled : length l ≤ i → l ≡ pattern seed long
  all_filled h =
      let whole : i ≡ long = omega (arith, h, p.in_buffer, p.as_long) in
      sym (take_all i l h) ∙ p.filled ∙ ap (pattern seed) whole

-- ---- compared from a place on

not_and : (a b : Bool) → not (a && b) ≡ (not a || not b)
not_and true b = refl
not_and false b = refl

or_assoc : (a b c : Bool) → (a || b) || c ≡ a || (b || c)
or_assoc true b c = refl
or_assoc false b c = refl

or-false : (a : Bool) → a || false ≡ a
or-false true = refl
or-false false = refl

-- what is left of a buffer from a place on, or from its end
module _ (from m : ℕ) (l : List ℕ) (e : m ≡ min from (length l)) where
  rest_length : length (take (length l - m) (drop m l)) ≡ length l - m
  rest_length = ap length (take_all (length l - m) (drop m l) (omega (arith, length-drop m l))) ∙ length-drop m l

  start_is : {k : ℕ} → k < length l - m → m ≡ from
  start_is {k} h = go (ltb (length l) from) refl
    where
      go : (b : Bool) → ltb (length l) from ≡ b → m ≡ from
      go true over =
          let past : length l < from = ltb-true (length l) from over in
          let most : length l ≤ min from (length l) = le-min (omega (arith, past)) (omega arith) in
          absurd (omega (arith, h, e, most))
      go false under = e ∙ min-eq_left (ltb-false (length l) from under)

  pub rest_within : {k : ℕ} → k < length (take (length l - m) (drop m l)) → from + k < length l
  rest_within {k} h =
      let k_left : k < length l - m = omega (arith, h, rest_length) in
      omega (arith, k_left, start_is k_left)

  pub rest_at : {k : ℕ} → k < length (take (length l - m) (drop m l)) → get_or (take (length l - m) (drop m l)) k 0 ≡ get_or l (from + k) 0
  rest_at {k} h =
      let k_left : k < length l - m = omega (arith, h, rest_length) in
      get_or-take (length l - m) (drop m l) k 0 k_left ∙ get_or-drop m l k 0 ∙ ap (λ (n : ℕ). get_or l (n + k) 0) (start_is k_left)

  pub rest_done : {k : ℕ} → length (take (length l - m) (drop m l)) ≤ k → length l ≤ from + k
  rest_done h = omega (arith, h, rest_length, e, min-le_left from (length l))

-- spilt says whether a byte before place i is not as it was filled, and due is what place i was filled with
pub record LookedAt (seed from : ℕ) (l : List ℕ) (spilt : Bool) (due : ℕ) (i : ℕ) : Type 0 where
  pub told : spilt || is_spilt seed i l ≡ is_spilt seed from l
  pub filled : due ≡ cell_at seed i

module _ (seed from : ℕ) (l : List ℕ) (spilt : Bool) (due i : ℕ) (p : LookedAt seed from l spilt due i) where
  pub one_looked : {b j : ℕ} → j ≡ i + 1 → i < length l → b ≡ get_or l i 0 → LookedAt seed from l (spilt || not (eqb b due)) ((due + 1) % 256) j
  one_looked {b} z h e =
      let whole = pattern seed (length l) in
      let here : same_text (drop i l) (drop i whole) ≡ eqb b due && same_text (drop (i + 1) l) (drop (i + 1) whole) =
      rw (add-one i, drop-cons l i 0 h, drop-cons whole i 0 (rw (length_pattern seed (length l)) h), pattern_at seed (length l) i h, e, p.filled) in
      record {
        told =
            rw z
            (or_assoc spilt (not (eqb b due)) (is_spilt seed (i + 1) l)
            ∙ ap (λ (r : Bool). spilt || r) (sym (ap not here ∙ not_and (eqb b due) (same_text (drop (i + 1) l) (drop (i + 1) whole))))
            ∙ p.told);
        filled = omega (arith, z, p.filled);
      }

  pub all_looked : length l ≤ i → spilt ≡ is_spilt seed from l
  all_looked h =
      let none_left : is_spilt seed i l ≡ false =
      rw (drop_of_length-le l h, drop_of_length-le (pattern seed (length l)) {i = i} (rw (length_pattern seed (length l)) h)) in
      sym (or-false spilt) ∙ ap (λ (r : Bool). spilt || r) (sym none_left) ∙ p.told
