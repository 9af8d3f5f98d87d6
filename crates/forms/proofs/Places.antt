-- What a form's test says of the command's place.
-- Assumes nothing.
use mathlib.Core.Path.{◌≡◌, refl}
use mathlib.Core.Logic.{⊎_elim}
use mathlib.Core.Bool.{Bool, true, not, ◌&&◌, ◌||◌}
use Prim.Native.Nat.{ℕ, zero, suc, ◌≤◌, ◌<◌}
use native.Mathlib.Nat.{eq-or-lt_of_le, le_of_suc-le-suc, not-suc-le-zero}
use native.Mathlib.Omega.{arith}
use borrow.Author.Tests.{eqb-true, leb-true, ltb-true}
use lib.Dec.{eqb, leb, ltb, lit≤, lit<}
use lib.ListN.{length}
use Rattle.answer.specs.Commands.{name_of, command_count, is_d, is_dw, is_m21, is_reset, is_s, is_si, is_sir, is_sr, is_t, is_ta, is_tac, is_ti, is_z, is_zi, place_d, place_dw, place_m21, place_s, place_t, place_ta, place_tac, place_ti, place_z, place_zi, place_i2, place_i5, has_text}
use Rattle.answer.specs.declared.answer.Status.{Status}
use Rattle.answer.specs.declared.answer.Status.TheVariants.{A, B, S, D, I, L, Over, Under}
use Rattle.forms.specs.Forms.{is_identification, plain_form, weight_form}
use Rattle.weight.proofs.Allowed.{both_left, both_right, either_holds}

-- ---- a place that is one of some

-- what holds of each of two, holds of either
either : {P : Type 0} (a b : Bool) → (a ≡ true → P) → (b ≡ true → P) → a || b ≡ true → P
either a b p q e = ⊎_elim p q (either_holds a b e)

-- a place that one of the table's is
known : (c k : ℕ) → k < command_count → eqb c k ≡ true → c < command_count
known c k h e = let s = eqb-true c k e in omega arith

-- S, Z, ZI, T, TI
signed_place : (c : ℕ) → is_s c || is_z c || is_zi c || is_t c || is_ti c ≡ true → c < command_count
signed_place c =
    either (is_s c || is_z c || is_zi c || is_t c) (is_ti c)
    (either (is_s c || is_z c || is_zi c) (is_t c)
    (either (is_s c || is_z c) (is_zi c) (either (is_s c) (is_z c) (known c place_s (lit< tt)) (known c place_z (lit< tt))) (known c place_zi (lit< tt)))
    (known c place_t (lit< tt)))
    (known c place_ti (lit< tt))

-- Z, TAC, D, DW, M21
done_place : (c : ℕ) → is_z c || is_tac c || is_d c || is_dw c || is_m21 c ≡ true → c < command_count
done_place c =
    either (is_z c || is_tac c || is_d c || is_dw c) (is_m21 c)
    (either (is_z c || is_tac c || is_d c) (is_dw c)
    (either (is_z c || is_tac c) (is_d c) (either (is_z c) (is_tac c) (known c place_z (lit< tt)) (known c place_tac (lit< tt))) (known c place_d (lit< tt)))
    (known c place_dw (lit< tt)))
    (known c place_m21 (lit< tt))

-- S, D, TA, M21
wrong_place : (c : ℕ) → is_s c || is_d c || is_ta c || is_m21 c ≡ true → c < command_count
wrong_place c =
    either (is_s c || is_d c || is_ta c) (is_m21 c)
    (either (is_s c || is_d c) (is_ta c) (either (is_s c) (is_d c) (known c place_s (lit< tt)) (known c place_d (lit< tt))) (known c place_ta (lit< tt)))
    (known c place_m21 (lit< tt))

pub plain_place : (c : ℕ) (s : Status) → plain_form c s ≡ true → c < command_count
plain_place c A e = done_place c e
plain_place c B e = let z : ◌≡◌ {A = ℕ} 0 1 = cc in absurd (omega arith)
plain_place c S e = known c place_zi (lit< tt) e
plain_place c D e = known c place_zi (lit< tt) e
plain_place c I e = ltb-true c command_count (both_left (ltb c command_count) (not (is_si c || is_sir c || is_sr c)) (both_left (is_identification c) (not (is_reset c)) e))
plain_place c L e = wrong_place c e
plain_place c Over e = signed_place c e
plain_place c Under e = signed_place c e

-- no weight follows I0 to I5, nor M21
heavy : (c k : ℕ) → place_s ≤ k → k < place_m21 → eqb c k ≡ true → (place_s ≤ c) × (c < place_m21)
heavy c k l h e = let s = eqb-true c k e in (omega arith, omega arith)

pub weight_place : (c : ℕ) (s : Status) → weight_form c s ≡ true → (place_s ≤ c) × (c < place_m21)
weight_place c A e = heavy c place_ta (lit≤ tt) (lit< tt) e
weight_place c B e = let z : ◌≡◌ {A = ℕ} 0 1 = cc in absurd (omega arith)
weight_place c S e =
    either (is_s c || is_t c) (is_ti c)
    (either (is_s c) (is_t c) (heavy c place_s (lit≤ tt) (lit< tt)) (heavy c place_t (lit≤ tt) (lit< tt)))
    (heavy c place_ti (lit≤ tt) (lit< tt)) e
weight_place c D e = either (is_s c) (is_ti c) (heavy c place_s (lit≤ tt) (lit< tt)) (heavy c place_ti (lit≤ tt) (lit< tt)) e
weight_place c I e = let z : ◌≡◌ {A = ℕ} 0 1 = cc in absurd (omega arith)
weight_place c L e = let z : ◌≡◌ {A = ℕ} 0 1 = cc in absurd (omega arith)
weight_place c Over e = let z : ◌≡◌ {A = ℕ} 0 1 = cc in absurd (omega arith)
weight_place c Under e = let z : ◌≡◌ {A = ℕ} 0 1 = cc in absurd (omega arith)

-- ---- I2 to I5

pub text_place_lem : (c : ℕ) → has_text c ≡ true → (place_i2 ≤ c) × (c ≤ place_i5)
text_place_lem c e = (leb-true place_i2 c (both_left (leb place_i2 c) (leb c place_i5) e), leb-true c place_i5 (both_right (leb place_i2 c) (leb c place_i5) e))

-- the test f passes at each number below n
abbrev below : (ℕ → Bool) → ℕ → Bool
below f zero = true
below f (suc n) = f n && below f n

below_at : (f : ℕ → Bool) (n : ℕ) → below f n ≡ true → (c : ℕ) → c < n → f c ≡ true
below_at f zero t c h = absurd (not-suc-le-zero h)
below_at f (suc n) t c h =
    ⊎_elim (λ e. rw e (both_left (f n) (below f n) t)) (λ l. below_at f n (both_right (f n) (below f n) t) c l) (eq-or-lt_of_le (le_of_suc-le-suc h))

-- their names have two characters
pub text_width : (c : ℕ) → has_text c ≡ true → length (name_of c) ≡ 2
text_width c e =
    let p = text_place_lem c e in
    let two = below_at (λ k. not (has_text k) || eqb (length (name_of k)) 2) 6 refl c (omega arith) in
    eqb-true (length (name_of c)) 2 (rw e at two)
