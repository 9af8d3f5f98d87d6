-- Writing what was read gives the bytes back: no text but the rule's is read.
-- Assumes nothing.
use mathlib.Core.Path.{◌≡◌, refl, ◌∙◌, sym, ap}
use mathlib.Core.Bool.{Bool, true, false, cond, not, ◌&&◌, false≢true}
use mathlib.Core.List.{List, [], ◌∷◌, ◌++◌, append-nil}
use Prim.Native.Nat.{ℕ, zero, suc, ◌+◌, ◌-◌, ◌*◌, ◌/◌, ◌%◌, ◌^◌, ◌≤◌, ◌<◌}
use native.Mathlib.Nat.{div-one}
use native.Mathlib.Omega.{arith}
use lib.Dec.{eqb, leb}
use lib.IntN.{ℤ, pos, neg_ℤ}
use lib.ListN.{length, get_or, take, drop, replicate, length-append, length-replicate}
use lib.Seq.{append_snoc, length-take-le, take_all, take-suc}
use borrow.Author.Tests.{le-leb, lt-leb, eqb-true, eqb-false, not-true}
use Rattle.std.specs.Prelude.{Option, Some, None}
use Rattle.text.specs.declared.reading.FieldNumber.{FieldNumber}
use Rattle.weight.specs.Characters.{space, minus, point, digit}
use Rattle.weight.specs.Places.{last_digits, digits_of, decimal_of, number_text, width_of, fits_field, signed}
use Rattle.text.specs.Field.{aligned_in, field_of}
use Rattle.text.specs.Reading.{before_point, after_point, has_point, is_digit, all_digits, number_from, is_number, is_decimal, decimals_in, value_in}
use Rattle.text.specs.Reading.{after_spaces, has_minus, after_minus, no_leading_zero, is_written, field_number, read_number, coarsely, read_field}
use Rattle.weight.proofs.Digits.{digits_small, digits_step, last_digits_cons}
use Rattle.text.proofs.Chosen.{taken, some_of}
use Rattle.text.proofs.DecimalText.{both, digit_range, DecimalParts, decimal_parts, number_parts}
use Rattle.text.proofs.ReadBack.{shifted}
use Rattle.text.proofs.Searching.{first_between, none_between}

-- ---- digits

-- one digit more
one_more_lem : (v c : ℕ) → is_digit c ≡ true → ((v * 10 + (c - 48)) / 10 ≡ v) × (digit ((v * 10 + (c - 48)) % 10) ≡ c)
one_more_lem v c e = let r = digit_range c e in (omega arith, omega arith)

-- the number without the digits read last is the one before them
rest_back : (t : List ℕ) (v : ℕ) → all_digits t ≡ true → number_from v t / 10 ^ length t ≡ v
rest_back [] v e = div-one v
rest_back (c ∷ t) v e =
    let d = both (is_digit c) (all_digits t) e in
    shifted (number_from (v * 10 + (c - 48)) t) (length t)
    ∙ rw (rest_back t (v * 10 + (c - 48)) d.1) (one_more_lem v c d.0).0

-- and its last digits are those
last_back : (t : List ℕ) (v : ℕ) → all_digits t ≡ true → last_digits (length t) (number_from v t) ≡ t
unfolding last_digits
last_back [] v e = refl
last_back (c ∷ t) v e =
    let d = both (is_digit c) (all_digits t) e in
    last_digits_cons (length t) (number_from (v * 10 + (c - 48)) t)
    ∙ rw (rest_back t (v * 10 + (c - 48)) d.1, last_back t (v * 10 + (c - 48)) d.1, (one_more_lem v c d.0).1)

-- digits read after a number that is not 0 stand after its own
digits_after : (t : List ℕ) (v : ℕ) → 0 < v → all_digits t ≡ true → digits_of (number_from v t) ≡ digits_of v ++ t
digits_after [] v h e = sym (append-nil (digits_of v))
digits_after (c ∷ t) v h e =
    let d = both (is_digit c) (all_digits t) e in
    digits_after t (v * 10 + (c - 48)) (omega arith) d.1
    ∙ rw (digits_step (v * 10 + (c - 48)) (omega arith), (one_more_lem v c d.0).0, (one_more_lem v c d.0).1) (append_snoc (digits_of v) c t)

-- a digit alone
one_digit : (c : ℕ) → is_digit c ≡ true → digits_of (0 * 10 + (c - 48)) ≡ c ∷ []
one_digit c e =
    let r = digit_range c e in
    let same : 48 + (0 * 10 + (c - 48)) ≡ c = omega arith in
    digits_small (0 * 10 + (c - 48)) (omega arith) ∙ ap (λ (x : ℕ). x ∷ []) same

-- digits that no zero leads are those of their number
digits_back : (w : List ℕ) → is_number w ≡ true → no_leading_zero w ≡ true → digits_of (number_from 0 w) ≡ w
digits_back [] e n = absurd (false≢true e)
digits_back (c ∷ []) e n = one_digit c (both (is_digit c) true (number_parts (c ∷ []) e).1).0
digits_back (c ∷ b ∷ w) e n =
    let d = both (is_digit c) (all_digits (b ∷ w)) (number_parts (c ∷ b ∷ w) e).1 in
    let r = digit_range c d.0 in
    let lead : not (eqb c 48) ≡ true = rw (lt-leb (length (c ∷ b ∷ w)) 1 (omega arith)) at n in
    let high : ¬ (c ≡ 48) = eqb-false c 48 (not-true (eqb c 48) lead) in
    digits_after (b ∷ w) (0 * 10 + (c - 48)) (omega arith) d.1 ∙ rw (one_digit c d.0)

-- ---- digits and a point

-- a decimal with a point
decimal_split : (d m : ℕ) → 1 ≤ d → decimal_of d m ≡ digits_of (m / 10 ^ d) ++ (point ∷ last_digits d m)
unfolding decimal_of
decimal_split zero m h = absurd (omega arith)
decimal_split (suc d) m h = refl

module _ (t : List ℕ) (e : is_decimal t ≡ true) (n : no_leading_zero (before_point t) ≡ true) where
  parts : DecimalParts t
  parts = decimal_parts t e

  whole : digits_of (number_from 0 (before_point t)) ≡ before_point t
  whole = digits_back (before_point t) parts.whole n

  -- without a point, and with one
  unpointed_text : has_point t ≡ false → decimal_of (decimals_in t) (value_in t) ≡ t
  unfolding decimal_of decimals_in value_in
  unpointed_text bare = rw (none_between point t bare).1 (whole ∙ (none_between point t bare).0)

  pointed_text : has_point t ≡ true → decimal_of (decimals_in t) (value_in t) ≡ t
  unfolding decimals_in value_in
  pointed_text has =
      let v = number_from 0 (before_point t) in
      let f = after_point t in
      decimal_split (length f) (number_from v f) (parts.some has)
      ∙ rw (rest_back f v parts.digits, last_back f v parts.digits, whole) (sym (first_between point t has))

  -- a decimal written as a weight is, is that of its number and its decimals
  decimal_text : decimal_of (decimals_in t) (value_in t) ≡ t
  decimal_text = go (has_point t) refl
    where
      go : (b : Bool) → has_point t ≡ b → decimal_of (decimals_in t) (value_in t) ≡ t
      go true has = pointed_text has
      go false bare = unpointed_text bare

-- ---- a sign

-- the first byte is the minus
minus_lead : (t : List ℕ) → has_minus t ≡ true → minus ∷ drop 1 t ≡ t
minus_lead [] e = absurd (false≢true e)
minus_lead (c ∷ t) e = ap (λ (x : ℕ). x ∷ t) (sym (eqb-true c minus e))

-- a number below zero
minus_text : (d m : ℕ) → (m ≡ 0 → ⊥) → number_text d (neg_ℤ (pos m)) ≡ minus ∷ decimal_of d m
unfolding number_text
minus_text d zero n = absurd (n refl)
minus_text d (suc m) n = refl

-- a is what follows the minus of t, if b says that there is one
signed_text : (t a : List ℕ) (b : Bool) → has_minus t ≡ b → a ≡ cond b (drop 1 t) t
    → is_decimal a ≡ true → no_leading_zero (before_point a) ≡ true → b && eqb (value_in a) 0 ≡ false
    → number_text (decimals_in a) (signed b (value_in a)) ≡ t
unfolding number_text
signed_text t a true m q d n z =
    minus_text (decimals_in a) (value_in a) (eqb-false (value_in a) 0 z)
    ∙ ap (λ (l : List ℕ). minus ∷ l) (decimal_text a d n ∙ q)
    ∙ minus_lead t m
signed_text t a false m q d n z = decimal_text a d n ∙ q

-- what is read of a number, and that writing it gives its text
record Written (t : List ℕ) (d : ℕ) (n : ℤ) : Type 0 where
  few : d ≤ 6
  text : number_text d n ≡ t

-- a number written as a weight is, is that of what is read
number_text_lem : (t : List ℕ) → is_written t ≡ true → Written t (decimals_in (after_minus t)) (signed (has_minus t) (value_in (after_minus t)))
unfolding is_written decimals_in
number_text_lem t e =
    let a = after_minus t in
    let z = has_minus t && eqb (value_in a) 0 in
    let p = both (is_decimal a && no_leading_zero (before_point a)) (not z) e in
    let q = both (is_decimal a) (no_leading_zero (before_point a)) p.0 in
    record {
      few = (decimal_parts a q.0).few;
      text = signed_text t a (has_minus t) refl refl q.0 q.1 (not-true z p.1);
    }

-- ---- spaces

-- the spaces that lead a text, and what follows them, are the text
spaces_back : (l : List ℕ) → (k : ℕ) × (l ≡ replicate k space ++ after_spaces l)
spaces_back [] = (0, refl)
spaces_back (c ∷ l) = go (eqb c space) refl (spaces_back l)
  where
    go : (b : Bool)
        → eqb c space ≡ b
        → (k : ℕ) × (l ≡ replicate k space ++ after_spaces l)
        → (k : ℕ) × (c ∷ l ≡ replicate k space ++ cond b (after_spaces l) (c ∷ l))
    go true e r = (suc r.0, ap (λ (x : ℕ). x ∷ l) (eqb-true c space e) ∙ ap (λ (x : List ℕ). space ∷ x) r.1)
    go false e r = (0, refl)

-- equal readings have equal parts
same_number : (a b : ℕ) (p q : ℤ) (c e : Bool) → field_number a p c ≡ field_number b q e → (a ≡ b) × ((p ≡ q) × (c ≡ e))
same_number a b p q c e h = (
  ap (λ (n : FieldNumber). n.decimals) h,
  (ap (λ (n : FieldNumber). n.places.0) h, ap (λ (n : FieldNumber). n.coarse) h),
)

-- a number that is read is written, and none of the coarse range
written_number : (t : List ℕ) (d : ℕ) (n : ℤ) (c : Bool) → read_number t ≡ Some (field_number d n c) → Written t d n × (c ≡ false)
unfolding read_number
written_number t d n c e =
    let a = after_minus t in
    let z = signed (has_minus t) (value_in a) in
    let k = some_of (is_written t) (field_number (decimals_in a) z false) e in
    let w = number_text_lem t k.0 in
    let s = same_number (decimals_in a) d z n false c k.1 in
    (record { few = rw s.0 at w.few; text = rw (s.0, s.1.0) at w.text }, sym s.1.1)

-- what is right aligned in w characters
record Aligned (l : List ℕ) (w d : ℕ) (n : ℤ) : Type 0 where
  narrow : width_of d n ≤ w
  text : aligned_in w d n ≡ l

aligned : (l : List ℕ) (w d : ℕ) (n : ℤ) → length l ≡ w → Written (after_spaces l) d n → Aligned l w d n
unfolding width_of
aligned l w d n long h =
    let s = spaces_back l in
    let sum = ap length s.1 ∙ length-append (replicate s.0 space) (after_spaces l) in
    let pad = length-replicate s.0 space in
    let width = ap length h.text in
    let rest : w - length (number_text d n) ≡ s.0 = omega (arith, long, sum, pad, width) in
    record { narrow = omega (arith, long, sum, pad, width); text = rw (rest, h.text) (sym s.1) }

-- a number of the coarse range has its decimals, and was read as one of the fine range
record Coarsened (x : Option FieldNumber) (d : ℕ) (n : ℤ) (c : Bool) : Type 0 where
  range : c ≡ true
  decimals : leb 1 d && leb d 5 ≡ true
  read : (b : Bool) × (x ≡ Some (field_number d n b))

coarsened : (x : Option FieldNumber) (d : ℕ) (n : ℤ) (c : Bool) → coarsely x ≡ Some (field_number d n c) → Coarsened x d n c
coarsened (Some x) d n c e =
    let k = some_of (leb 1 x.decimals && leb x.decimals 5) (field_number x.decimals x.places.0 true) e in
    let s = same_number x.decimals d x.places.0 n true c k.1 in
    record { range = sym s.1.1; decimals = rw s.0 at k.0; read = (x.coarse, rw (← s.0, ← s.1.0)) }
coarsened None d n c e = let z : ◌≡◌ {A = ℕ} 0 1 = cc in absurd (omega arith)

written_fine : {l : List ℕ} {d : ℕ} {n : ℤ} → Aligned l 10 d n → d ≤ 6 → (fits_field false d n ≡ true) × (field_of false d n ≡ l)
unfolding fits_field field_of
written_fine {l} {d} {n} a few = (rw (le-leb d 6 few, le-leb (width_of d n) 10 a.narrow), a.text)

written_coarse : {l : List ℕ} {d : ℕ} {n : ℤ} → Aligned (take 9 l) 9 d n → leb 1 d && leb d 5 ≡ true → get_or l 9 0 ≡ space → length l ≡ 10
    → (fits_field true d n ≡ true) × (field_of true d n ≡ l)
unfolding fits_field field_of
written_coarse {l} {d} {n} a decimals last ten = (
  rw (decimals, le-leb (width_of d n) 9 a.narrow),
  rw (a.text, ← last) (sym (take-suc l 9 0 (omega (arith, ten))) ∙ take_all 10 l (omega (arith, ten))),
)

-- writing what was read gives the bytes back
pub write_back : (l : List ℕ) (c : Bool) (d : ℕ) (n : ℤ) → read_field l ≡ Some (field_number d n c) → (fits_field c d n ≡ true) × (field_of c d n ≡ l)
unfolding read_field
write_back l c d n e =
    let k = taken (eqb (length l) 10) _ e in
    go (eqb (get_or l 9 0) space) refl (eqb-true (length l) 10 k.0) k.1
  where
    fine : length l ≡ 10 → read_number (after_spaces l) ≡ Some (field_number d n c) → (fits_field c d n ≡ true) × (field_of c d n ≡ l)
    fine ten h =
        let w = written_number (after_spaces l) d n c h in
        let a = aligned l 10 d n ten w.0 in
        rw w.1 (written_fine a w.0.few)

    coarse : get_or l 9 0 ≡ space → length l ≡ 10 → coarsely (read_number (after_spaces (take 9 l))) ≡ Some (field_number d n c) → (fits_field c d n ≡ true) × (field_of c d n ≡ l)
    coarse last ten h =
        let k = coarsened (read_number (after_spaces (take 9 l))) d n c h in
        let w = written_number (after_spaces (take 9 l)) d n k.read.0 k.read.1 in
        let a = aligned (take 9 l) 9 d n (length-take-le 9 l (omega (arith, ten))) w.0 in
        rw k.range (written_coarse a k.decimals last ten)

    go : (b : Bool) → eqb (get_or l 9 0) space ≡ b → length l ≡ 10
        → cond b (coarsely (read_number (after_spaces (take 9 l)))) (read_number (after_spaces l)) ≡ Some (field_number d n c)
        → (fits_field c d n ≡ true) × (field_of c d n ≡ l)
    go true b ten h = coarse (eqb-true (get_or l 9 0) space b) ten h
    go false b ten h = fine ten h
