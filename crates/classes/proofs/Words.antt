-- What the sets of classes say of a byte, for every byte: the classes' words are those of the definitions.
-- Assumes nothing.
use mathlib.Core.Path.{◌≡◌, refl, sym, ap, ◌∙◌}
use mathlib.Core.Bool.{Bool, true, false, not, ◌&&◌, ◌||◌}
use Prim.Native.Nat.{ℕ, zero, suc, ◌+◌, ◌≤◌, ◌<◌, ◌/◌, ◌%◌, ◌^◌}
use native.Mathlib.Nat.{not-suc-le-zero, le_of_suc-le-suc, add-zero, add-suc, suc-add, zero-add}
use native.Mathlib.Omega.{arith}
use borrow.Author.Tests.{lt-leb, le-leb, le-ltb, ne_eqb, ltb-true, ltb-false}
use lib.Dec.{leb, ltb, eqb}
use Rattle.weight.specs.Characters.{digit, space, quote, point}
use Rattle.weight.proofs.Allowed.{both_left, both_right}
use Rattle.classes.specs.Classes.{class_of, among}

-- ---- a test of all bytes, and what it says of each

abbrev alike : Bool → Bool → Bool
alike true b = b
alike false b = not b

alike_is : (a b : Bool) → alike a b ≡ true → a ≡ b
alike_is true true e = refl
alike_is true false e = sym e
alike_is false true e = e
alike_is false false e = refl

abbrev all_from : (ℕ → Bool) → ℕ → ℕ → Bool
all_from f i zero = true
all_from f i (suc n) = f i && all_from f (suc i) n

at_each : (f : ℕ → Bool) (i n k : ℕ) → all_from f i n ≡ true → k < n → f (i + k) ≡ true
at_each f i zero k e h = absurd (not-suc-le-zero h)
at_each f i (suc n) zero e h = ap f (add-zero i) ∙ both_left (f i) (all_from f (suc i) n) e
at_each f i (suc n) (suc k) e h =
    ap f (add-suc i k ∙ sym (suc-add i k)) ∙ at_each f (suc i) n k (both_right (f i) (all_from f (suc i) n) e) (le_of_suc-le-suc h)

-- past the bytes all is other text
past_bytes : (b : ℕ) → 256 ≤ b → class_of b ≡ 7
unfolding class_of
past_bytes b h =
    rw (le-leb 48 b (omega arith), lt-leb b 57 (omega arith), le-leb 65 b (omega arith), lt-leb b 90 (omega arith), ne_eqb b 32 (λ e. omega arith), ne_eqb b 34 (λ e. omega arith), ne_eqb b 46 (λ e. omega arith), ne_eqb b 64 (λ e. omega arith), le-ltb b 32 (omega arith))

-- a set says the same as a test of the byte if it does so of all 256, and of what is past them
module _ (s : ℕ) (g : ℕ → Bool) (bytes : all_from (λ b. alike (among s b) (g b)) 0 256 ≡ true) (past : (b : ℕ) → 256 ≤ b → eqb (s / 2 ^ 7 % 2) 1 ≡ g b) where
  by : (b : ℕ) (below : Bool) → ltb b 256 ≡ below → among s b ≡ g b
  unfolding among
  by b true e =
      alike_is (among s b) (g b)
      (ap (λ (n : ℕ). alike (among s n) (g n)) (sym (zero-add b)) ∙ at_each (λ n. alike (among s n) (g n)) 0 256 b bytes (ltb-true b 256 e))
  by b false e = ap (λ (c : ℕ). eqb (s / 2 ^ c % 2) 1) (past_bytes b (ltb-false b 256 e)) ∙ past b (ltb-false b 256 e)

  for_each : (b : ℕ) → among s b ≡ g b
  for_each b = by b (ltb b 256) refl

-- ---- the words

pub spaces : (b : ℕ) → among 4 b ≡ eqb b space
unfolding among class_of
spaces = for_each 4 (λ b. eqb b space) refl (λ b h. sym (ne_eqb b space (λ e. omega arith)))

pub quotes : (b : ℕ) → among 8 b ≡ eqb b quote
unfolding among class_of
quotes = for_each 8 (λ b. eqb b quote) refl (λ b h. sym (ne_eqb b quote (λ e. omega arith)))

pub points : (b : ℕ) → among 16 b ≡ eqb b point
unfolding among class_of
points = for_each 16 (λ b. eqb b point) refl (λ b h. sym (ne_eqb b point (λ e. omega arith)))

pub controls : (b : ℕ) → among 64 b ≡ ltb b 32
unfolding among class_of
controls = for_each 64 (λ b. ltb b 32) refl (λ b h. sym (le-ltb b 32 (omega arith)))

-- spaces and controls
pub breaks : (b : ℕ) → among 68 b ≡ eqb b space || ltb b 32
unfolding among class_of
breaks =
    for_each 68 (λ b. eqb b space || ltb b 32) refl
    (λ b h. rw (ne_eqb b space (λ e. omega arith), le-ltb b 32 (omega arith)))

-- controls and quotes
pub unprintable : (b : ℕ) → among 72 b ≡ not (leb space b && not (eqb b quote))
unfolding among class_of
unprintable =
    for_each 72 (λ b. not (leb space b && not (eqb b quote))) refl
    (λ b h. rw (le-leb space b (omega arith), ne_eqb b quote (λ e. omega arith)))

-- all but digits
pub no_digits : (b : ℕ) → among 254 b ≡ not (leb (digit 0) b && leb b (digit 9))
unfolding among class_of
no_digits =
    for_each 254 (λ b. not (leb (digit 0) b && leb b (digit 9))) refl
    (λ b h. rw (le-leb (digit 0) b (omega arith), lt-leb b (digit 9) (omega arith)))

-- all but spaces
pub no_spaces : (b : ℕ) → among 251 b ≡ not (eqb b space)
unfolding among class_of
no_spaces = for_each 251 (λ b. not (eqb b space)) refl (λ b h. rw (ne_eqb b space (λ e. omega arith)))
