-- Texts laid one after another into a line: each stands after the last, as far as there are places.
-- Assumes nothing.
use mathlib.Core.Path.{◌≡◌, refl, sym, ap, ◌∙◌}
use mathlib.Core.Bool.{Bool, true, false}
use mathlib.Core.List.{List, [], ◌∷◌, ◌++◌, append-nil}
use Prim.Native.Nat.{ℕ, zero, suc, ◌+◌, ◌≤◌, ◌<◌}
use native.Mathlib.Nat.{add-zero, add-suc, suc-add, le_of_suc-le-suc, not-suc-le-zero}
use native.Mathlib.Numerals.{add-one}
use native.Mathlib.Omega.{arith}
use borrow.Author.Tests.{leb-true, leb-false}
use lib.Dec.{leb}
use lib.ListN.{length, take, drop, get_or, set, length-append, length-drop, take-append-drop}
use lib.Seq.{sets, length-sets, sets-eq, take-suc, take_all, take-append-le, length-take-le, drop-length}
use Rattle.told.specs.declared.words.Sheet.{Sheet}
use Rattle.told.specs.Laying.{Laid, LaidOn, laid_over, laid_count}

-- ---- stores

-- a store past the end does nothing
set_past : (d : List ℕ) (a x : ℕ) → length d ≤ a → set d a x ≡ d
set_past [] a x h = refl
set_past (y ∷ d) zero x h = absurd (not-suc-le-zero h)
set_past (y ∷ d) (suc a) x h = ap (λ (r : List ℕ). y ∷ r) (set_past d a x (le_of_suc-le-suc h))

sets_past : (d : List ℕ) (a : ℕ) (s : List ℕ) → length d ≤ a → sets d a s ≡ d
sets_past d a [] h = refl
sets_past d a (x ∷ s) h = rw (set_past d a x h) (sets_past d (suc a) s (omega (arith, h)))

sets_append : (d : List ℕ) (a : ℕ) (p q : List ℕ) → sets d a (p ++ q) ≡ sets (sets d a p) (a + length p) q
sets_append d a [] q = rw (add-zero a)
sets_append d a (x ∷ p) q = sets_append (set d a x) (suc a) p q ∙ rw (suc-add, add-suc)

-- ---- texts

laid_length : {d e s : List ℕ} {a b : ℕ} → Laid d a s e b → length e ≡ length d
laid_length {d} {e} {s} {a} l = ap length l.written ∙ length-sets d a s

-- a text and then another are the two together
laid_both : {d e f p q : List ℕ} {a b c : ℕ} → Laid d a p e b → Laid e b q f c → Laid d a (p ++ q) f c
laid_both {d} {e} {f} {p} {q} {a} {b} {c} h k =
    record {
      written = k.written ∙ go (leb (a + length p) (length d)) refl;
      reached = omega (arith, h.reached, k.reached, long, length-append p q);
    }
  where
    long : length e ≡ length d
    long = laid_length h

    go : (t : Bool) → leb (a + length p) (length d) ≡ t → sets e b q ≡ sets d a (p ++ q)
    go true t =
        let room : a + length p ≤ length d = leb-true (a + length p) (length d) t in
        let next : b ≡ a + length p = omega (arith, h.reached, room) in
        rw (next, h.written) (sym (sets_append d a p q))
    go false t =
        let room : length d < a + length p = leb-false (a + length p) (length d) t in
        let next : length e ≤ b = omega (arith, h.reached, room, long) in
        let past : length (sets d a p) ≤ a + length p = omega (arith, room, length-sets d a p) in
        sets_past e b q next ∙ h.written ∙ sym (sets_past (sets d a p) (a + length p) q past) ∙ sym (sets_append d a p q)

-- ---- on a sheet

infixl 5 ◌then◌
pub ◌then◌ : {s t u : Sheet} {p q : List ℕ} → LaidOn s p t → LaidOn t q u → LaidOn s (p ++ q) u
h then k = record { laid = laid_both h.laid k.laid; same = k.same ∙ h.same }

pub laid_as : {s t : Sheet} {p q : List ℕ} → p ≡ q → LaidOn s p t → LaidOn s q t
laid_as e l = rw e at l

-- one byte more of a text
pub laid_more : {s t u : Sheet} (p : List ℕ) (i : ℕ) → i < length p → LaidOn s (take i p) t → LaidOn t (get_or p i 0 ∷ []) u → LaidOn s (take (i + 1) p) u
laid_more p i h l k = laid_as (sym (rw (add-one i, take-suc p i 0 h))) (l then k)

-- ---- a whole line, from its first place on

count_laid : {d e s : List ℕ} {c : ℕ} → Laid d 0 s e c → c ≡ laid_count s d
unfolding laid_count
count_laid l = omega (arith, l.reached)

line_laid : {d e s : List ℕ} {c : ℕ} → Laid d 0 s e c → e ≡ laid_over s d
unfolding laid_over
line_laid {d} {e} {s} l = l.written ∙ go (leb (length s) (length d)) refl
  where
    go : (t : Bool) → leb (length s) (length d) ≡ t → sets d 0 s ≡ take (length d) (s ++ drop (length s) d)
    go true t =
        let room : length s ≤ length d = leb-true (length s) (length d) t in
        let start : 0 + length s ≡ length s = omega arith in
        let whole : length (s ++ drop (length s) d) ≤ length d = rw (length-append, length-drop) (omega (arith, room)) in
        sets-eq s d 0 (omega (arith, room))
        ∙ ap (λ (k : ℕ). s ++ drop k d) start
        ∙ sym (take_all (length d) (s ++ drop (length s) d) whole)
    go false t =
        let room : length d < length s = leb-false (length s) (length d) t in
        let n = length d in
        let first : length (take n s) ≡ n = length-take-le n s (omega (arith, room)) in
        let start : 0 + length (take n s) ≡ n = omega (arith, first) in
        let fits : 0 + length (take n s) ≤ n = omega (arith, first) in
        let past : length (sets d 0 (take n s)) ≤ 0 + length (take n s) = omega (arith, first, length-sets d 0 (take n s)) in
        ap (sets d 0) (sym (take-append-drop n s))
        ∙ sets_append d 0 (take n s) (drop n s)
        ∙ sets_past (sets d 0 (take n s)) (0 + length (take n s)) (drop n s) past
        ∙ sets-eq (take n s) d 0 fits
        ∙ ap (λ (k : ℕ). take n s ++ drop k d) start
        ∙ ap (λ (r : List ℕ). take n s ++ r) (drop-length d)
        ∙ append-nil (take n s)
        ∙ sym (take-append-le n s (drop (length s) d) (omega (arith, room)))

pub whole_laid : {s t : Sheet} {p : List ℕ} → s.at ≡ 0 → LaidOn s p t → (t.at ≡ laid_count p s.line.now) × (t.line.now ≡ laid_over p s.line.now)
whole_laid {s} {t} {p} e h =
    let l : Laid s.line.now 0 p t.line.now t.at = rw e at h.laid in
    (count_laid l, line_laid l)
