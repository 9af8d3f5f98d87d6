-- The bytes between the parts of a line decide whether the line is the one that these parts form.
-- Assumes nothing.
use mathlib.Core.Path.{◌≡◌, refl, sym, ap, ap₂, ◌∙◌}
use mathlib.Core.Bool.{Bool, true, false, ◌&&◌, ◌||◌, and-true, and_assoc}
use mathlib.Core.List.{List, [], ◌∷◌, ◌++◌, append_assoc}
use Prim.Native.Nat.{ℕ, ◌+◌, ◌-◌, ◌≤◌}
use native.Mathlib.Omega.{arith}
use borrow.Author.Tests.{eq-eqb, ne_eqb, eqb-true, eqb-false, leb-true, leb-false}
use lib.Dec.{eqb, leb}
use lib.ListN.{length, get_or, take, drop, length-append, length-drop, take-append-drop}
use lib.Seq.{get_or-append-add, get_or_at, drop-drop}
use Rattle.answer.specs.Commands.{level_of}
use Rattle.answer.specs.Lines.{line_end}
use Rattle.host.specs.Frames.{is_ended, weight_frame, error_frame, quote_frame, text_frame, listed_frame, host_unit_frame}
use Rattle.host.proofs.Shapes.{weight_rest, quoted_end, code_rest, listed_byte}
use Rattle.text.specs.Searching.{before_space}
use Rattle.weight.specs.Characters.{digit}
use Rattle.text.specs.Ascii.{ascii, same_text}
use Rattle.text.proofs.Named.{same_is}

-- ---- comparing texts

eqb_swap : (a b : ℕ) → eqb a b ≡ eqb b a
eqb_swap a b = by (eqb a b) refl
  where
    by : (r : Bool) → eqb a b ≡ r → r ≡ eqb b a
    by true e = sym (eq-eqb b a (sym (eqb-true a b e)))
    by false e = sym (ne_eqb b a (λ h. eqb-false a b e (sym h)))

-- what they begin with alike
same_front : (w r s : List ℕ) → same_text (w ++ r) (w ++ s) ≡ same_text r s
same_front [] r s = refl
same_front (c ∷ w) r s = rw (eq-eqb c c refl) (same_front w r s)

-- of two lengths
unlike : (a b : List ℕ) → (length a ≡ length b → ⊥) → false ≡ same_text a b
unlike a b h = by (same_text a b) refl
  where
    by : (r : Bool) → same_text a b ≡ r → false ≡ r
    by true e = absurd (h (ap length (same_is a b e)))
    by false e = refl

-- ---- the end of a line

end_same : (x y : ℕ) → eqb x 13 && eqb y 10 ≡ same_text line_end (x ∷ y ∷ [])
end_same x y = ap₂ ◌&&◌ (eqb_swap x 13) (eqb_swap y 10 ∙ sym (and-true (eqb 10 y)))

ended_is : (p : List ℕ) (x y : ℕ) → is_ended (p ++ (x ∷ y ∷ [])) ≡ same_text line_end (x ∷ y ∷ [])
ended_is p x y =
    let size = length-append p (x ∷ y ∷ []) in
    let first : length (p ++ (x ∷ y ∷ [])) - 2 ≡ length p + 0 = omega arith in
    let second : length (p ++ (x ∷ y ∷ [])) - 2 + 1 ≡ length p + 1 = omega arith in
    rw (second, first, get_or-append-add p (x ∷ y ∷ []) 0 0, get_or-append-add p (x ∷ y ∷ []) 1 0) (end_same x y)

-- a known text of k bytes, and two bytes more
module _ (p u v : List ℕ) (k : ℕ) (known : take k v ≡ u) where
  parts : v ≡ u ++ drop k v
  parts = sym (take-append-drop k v) ∙ ap (λ (x : List ℕ). x ++ drop k v) known

  known_ended : length v ≡ k + 2 → is_ended (p ++ v) ≡ same_text (u ++ line_end) v
  known_ended h =
      ap (λ (x : List ℕ). is_ended (p ++ x)) parts
      ∙ by (drop k v) (omega (arith, length-drop k v))
      ∙ sym (ap (same_text (u ++ line_end)) parts)
    where
      by : (d : List ℕ) → length d ≡ 2 → is_ended (p ++ (u ++ d)) ≡ same_text (u ++ line_end) (u ++ d)
      by [] e = absurd (omega arith)
      by (x ∷ []) e = absurd (omega arith)
      by (x ∷ y ∷ []) e = ap is_ended (sym (append_assoc p u (x ∷ y ∷ []))) ∙ ended_is (p ++ u) x y ∙ sym (same_front u line_end (x ∷ y ∷ []))
      by (x ∷ y ∷ z ∷ d) e = absurd (omega arith)

  -- or a quote before the two
  known_quoted : length v ≡ k + 3 → eqb (get_or (p ++ v) (length (p ++ v) - 3) 0) 34 && is_ended (p ++ v) ≡ same_text (u ++ (34 ∷ line_end)) v
  known_quoted h =
      ap (λ (x : List ℕ). eqb (get_or (p ++ x) (length (p ++ x) - 3) 0) 34 && is_ended (p ++ x)) parts
      ∙ by (drop k v) (omega (arith, length-drop k v))
      ∙ sym (ap (same_text (u ++ (34 ∷ line_end))) parts)
    where
      quote : (q x y : ℕ) → eqb (get_or (p ++ u ++ (q ∷ x ∷ y ∷ [])) (length (p ++ u ++ (q ∷ x ∷ y ∷ [])) - 3) 0) 34 ≡ eqb 34 q
      quote q x y =
          let size = length-append (p ++ u) (q ∷ x ∷ y ∷ []) in
          let at : length (p ++ u ++ (q ∷ x ∷ y ∷ [])) - 3 ≡ length (p ++ u) + 0 = omega arith in
          rw (at, get_or-append-add (p ++ u) (q ∷ x ∷ y ∷ []) 0 0) (eqb_swap q 34)

      end : (q x y : ℕ) → is_ended (p ++ u ++ (q ∷ x ∷ y ∷ [])) ≡ same_text line_end (x ∷ y ∷ [])
      end q x y = ap is_ended (sym (append_assoc (p ++ u) (q ∷ []) (x ∷ y ∷ []))) ∙ ended_is (p ++ u ++ (q ∷ [])) x y

      by : (d : List ℕ) → length d ≡ 3
          → eqb (get_or (p ++ (u ++ d)) (length (p ++ (u ++ d)) - 3) 0) 34 && is_ended (p ++ (u ++ d)) ≡ same_text (u ++ (34 ∷ line_end)) (u ++ d)
      by [] e = absurd (omega arith)
      by (q ∷ []) e = absurd (omega arith)
      by (q ∷ x ∷ []) e = absurd (omega arith)
      by (q ∷ x ∷ y ∷ []) e =
          ap (λ (l : List ℕ). eqb (get_or l (length l - 3) 0) 34 && is_ended l) (sym (append_assoc p u (q ∷ x ∷ y ∷ [])))
          ∙ ap₂ ◌&&◌ (quote q x y) (end q x y)
          ∙ sym (same_front u (34 ∷ line_end) (q ∷ x ∷ y ∷ []))
      by (q ∷ x ∷ y ∷ z ∷ d) e = absurd (omega arith)

-- ---- each form, by the bytes after its name

-- the status, and the end
pub plain_same : (w r : List ℕ) (b : ℕ) → length r ≡ 3 → b ≡ get_or r 0 0
    → is_ended (w ++ (32 ∷ r)) ≡ same_text (w ++ (32 ∷ b ∷ line_end)) (w ++ (32 ∷ r))
plain_same w [] b h e = absurd (omega arith)
plain_same w (c ∷ v) b h e =
    ap is_ended (sym (append_assoc w (32 ∷ c ∷ []) v))
    ∙ known_ended (w ++ (32 ∷ c ∷ [])) [] v 0 refl (omega arith)
    ∙ sym (same_front w (32 ∷ b ∷ line_end) (32 ∷ c ∷ v) ∙ rw (eq-eqb b c e))

-- the status, a space, ten characters, a space, the unit and the end
module _ (w f u v : List ℕ) (b s g k : ℕ) (ten : length f ≡ 10) (unit : take k v ≡ u) (size : length v ≡ k + 2) where
  abbrev weighed : List ℕ
  weighed = w ++ (32 ∷ b ∷ s ∷ (f ++ (g ∷ v)))

  weighed_ended : is_ended weighed ≡ same_text (u ++ line_end) v
  weighed_ended =
      let cut : weighed ≡ (w ++ (32 ∷ b ∷ s ∷ (f ++ (g ∷ [])))) ++ v = simp append_assoc in
      ap is_ended cut ∙ known_ended (w ++ (32 ∷ b ∷ s ∷ (f ++ (g ∷ [])))) u v k unit size

  weighed_frame : weight_frame (length w) weighed ≡ eqb 32 s && eqb 32 g
  weighed_frame =
      ap₂ ◌&&◌
      (ap (λ (x : ℕ). eqb x 32) (get_or-append-add w (32 ∷ b ∷ s ∷ (f ++ (g ∷ v))) 2 0) ∙ eqb_swap s 32)
      (ap (λ (x : ℕ). eqb x 32) (get_or-append-add w (32 ∷ b ∷ s ∷ (f ++ (g ∷ v))) 13 0 ∙ get_or_at f g v 0 10 ten) ∙ eqb_swap g 32)

  weighed_same : weight_frame (length w) weighed && is_ended weighed ≡ same_text (w ++ (32 ∷ weight_rest b f u)) weighed
  weighed_same =
      ap₂ ◌&&◌ weighed_frame weighed_ended
      ∙ and_assoc (eqb 32 s) (eqb 32 g) (same_text (u ++ line_end) v)
      ∙ sym
      (same_front w (32 ∷ weight_rest b f u) (32 ∷ b ∷ s ∷ (f ++ (g ∷ v)))
      ∙ rw (eq-eqb b b refl, same_front f (32 ∷ (u ++ line_end)) (g ∷ v)))

pub weight_same : (w r f u : List ℕ) (b k : ℕ) → b ≡ get_or r 0 0 → take 10 (drop 2 r) ≡ f → length f ≡ 10 → take k (drop 13 r) ≡ u → length r ≡ k + 15
    → weight_frame (length w) (w ++ (32 ∷ r)) && is_ended (w ++ (32 ∷ r)) ≡ same_text (w ++ (32 ∷ weight_rest b f u)) (w ++ (32 ∷ r))
weight_same w [] f u b k e field ten unit size = absurd (omega arith)
weight_same w (c ∷ []) f u b k e field ten unit size = absurd (omega arith)
weight_same w (c ∷ s ∷ q) f u b k e field ten unit size = by (drop 10 q) refl
  where
    by : (d : List ℕ) → drop 10 q ≡ d
        → weight_frame (length w) (w ++ (32 ∷ c ∷ s ∷ q)) && is_ended (w ++ (32 ∷ c ∷ s ∷ q)) ≡ same_text (w ++ (32 ∷ weight_rest b f u)) (w ++ (32 ∷ c ∷ s ∷ q))
    by [] p = absurd (omega (arith, ap length p, length-drop 10 q))
    by (g ∷ v) p =
        let whole : q ≡ f ++ (g ∷ v) = sym (take-append-drop 10 q) ∙ ap₂ ◌++◌ field p in
        let rest : drop 11 q ≡ v = sym (drop-drop 1 10 q) ∙ ap (drop 1) p in
        let named : take k v ≡ u = ap (take k) (sym rest) ∙ unit in
        let left : length v ≡ k + 2 = omega (arith, ap length p, length-drop 10 q) in
        rw (whole, e) (weighed_same w f u v c s g k ten named left)

-- A, a space, a text in quotes and the end, after a name of two bytes
module _ (c d : ℕ) (t : List ℕ) where
  abbrev pub written : List ℕ
  written = c ∷ d ∷ 32 ∷ 65 ∷ 32 ∷ quoted_end t

  text_long : (r : List ℕ) → take (length (c ∷ d ∷ 32 ∷ r) - 9) (drop 3 r) ≡ t → 9 ≤ length (c ∷ d ∷ 32 ∷ r)
      → eqb (get_or r 0 0) 65 && quote_frame 4 (c ∷ d ∷ 32 ∷ r) && is_ended (c ∷ d ∷ 32 ∷ r) ≡ same_text written (c ∷ d ∷ 32 ∷ r)
  text_long [] text h = absurd (omega arith)
  text_long (a ∷ []) text h = absurd (omega arith)
  text_long (a ∷ s ∷ []) text h = absurd (omega arith)
  text_long (a ∷ s ∷ q ∷ v) text h =
      let l = c ∷ d ∷ 32 ∷ a ∷ s ∷ q ∷ v in
      grouped (eqb a 65) (eqb s 32) (eqb q 34) (eqb (get_or l (length l - 3) 0) 34) (is_ended l)
      ∙ ap₂ ◌&&◌ (eqb_swap a 65)
      (ap₂ ◌&&◌ (eqb_swap s 32)
      (ap₂ ◌&&◌ (eqb_swap q 34) (known_quoted (c ∷ d ∷ 32 ∷ a ∷ s ∷ q ∷ []) t v (length l - 9) text (omega arith))))
      ∙ sym (rw (eq-eqb c c refl, eq-eqb d d refl))
    where
      grouped : (x y z p e : Bool) → x && (y && z && p) && e ≡ x && (y && (z && (p && e)))
      grouped false y z p e = refl
      grouped true false z p e = refl
      grouped true true false p e = refl
      grouped true true true p e = refl

  pub text_same : (r : List ℕ) → take (length (c ∷ d ∷ 32 ∷ r) - 9) (drop 3 r) ≡ t
      → text_frame (c ∷ d ∷ 32 ∷ r) && is_ended (c ∷ d ∷ 32 ∷ r) ≡ same_text written (c ∷ d ∷ 32 ∷ r)
  text_same r text = by (leb 9 (length (c ∷ d ∷ 32 ∷ r))) refl
    where
      by : (b : Bool) → leb 9 (length (c ∷ d ∷ 32 ∷ r)) ≡ b
          → b && eqb (get_or r 0 0) 65 && quote_frame 4 (c ∷ d ∷ 32 ∷ r) && is_ended (c ∷ d ∷ 32 ∷ r) ≡ same_text written (c ∷ d ∷ 32 ∷ r)
      by true e = text_long r text (leb-true 9 (length (c ∷ d ∷ 32 ∷ r)) e)
      by false e = unlike written (c ∷ d ∷ 32 ∷ r) (λ h. omega (arith, leb-false 9 (length (c ∷ d ∷ 32 ∷ r)) e, length-append t (34 ∷ line_end)))

-- A or B, a space, the level, a space, a name in quotes and the end
listed_mark : (m : ℕ) (last : Bool) → eqb m 65 ≡ last → last || eqb m 66 ≡ eqb (listed_byte last) m
listed_mark m true e = sym (eq-eqb 65 m (sym (eqb-true m 65 e)))
listed_mark m false e = eqb_swap m 66

pub listed_same : (r n : List ℕ) (last : Bool) (c : ℕ) → take (length r - 8) (drop 5 r) ≡ n → 8 ≤ length r → eqb (get_or r 0 0) 65 ≡ last
    → listed_frame last c (73 ∷ 48 ∷ 32 ∷ r) && is_ended (73 ∷ 48 ∷ 32 ∷ r)
    ≡ same_text (73 ∷ 48 ∷ 32 ∷ listed_byte last ∷ 32 ∷ digit (level_of c) ∷ 32 ∷ quoted_end n) (73 ∷ 48 ∷ 32 ∷ r)
listed_same [] n last c name h e = absurd (omega arith)
listed_same (m ∷ []) n last c name h e = absurd (omega arith)
listed_same (m ∷ a ∷ []) n last c name h e = absurd (omega arith)
listed_same (m ∷ a ∷ d ∷ []) n last c name h e = absurd (omega arith)
listed_same (m ∷ a ∷ d ∷ s ∷ []) n last c name h e = absurd (omega arith)
listed_same (m ∷ a ∷ d ∷ s ∷ q ∷ v) n last c name h e =
    let front : List ℕ = 73 ∷ 48 ∷ 32 ∷ m ∷ a ∷ d ∷ s ∷ q ∷ [] in
    let l : List ℕ = 73 ∷ 48 ∷ 32 ∷ m ∷ a ∷ d ∷ s ∷ q ∷ v in
    grouped (last || eqb m 66) (eqb a 32) (eqb d (digit (level_of c))) (eqb s 32) (eqb q 34) (eqb (get_or l (length l - 3) 0) 34) (is_ended l)
    ∙ ap₂ ◌&&◌ (listed_mark m last e)
    (ap₂ ◌&&◌ (eqb_swap a 32)
    (ap₂ ◌&&◌ (eqb_swap d (digit (level_of c)))
    (ap₂ ◌&&◌ (eqb_swap s 32)
    (ap₂ ◌&&◌ (eqb_swap q 34) (known_quoted front n v (length (m ∷ a ∷ d ∷ s ∷ q ∷ v) - 8) name (omega arith))))))
  where
    grouped : (x y z s q p e : Bool) → x && y && z && (s && q && p) && e ≡ x && (y && (z && (s && (q && (p && e)))))
    grouped false y z s q p e = refl
    grouped true false z s q p e = refl
    grouped true true false s q p e = refl
    grouped true true true false q p e = refl
    grouped true true true true false p e = refl
    grouped true true true true true p e = refl

-- A, a space, the zero, a space, the code and the end
pub host_unit_same : (r u : List ℕ) (k : ℕ) → take k (drop 4 r) ≡ u → length r ≡ k + 6
    → host_unit_frame (ascii "M21" ++ (32 ∷ r)) && is_ended (ascii "M21" ++ (32 ∷ r)) ≡ same_text (ascii "M21" ++ (32 ∷ code_rest u)) (ascii "M21" ++ (32 ∷ r))
host_unit_same [] u k code size = absurd (omega arith)
host_unit_same (a ∷ []) u k code size = absurd (omega arith)
host_unit_same (a ∷ s ∷ []) u k code size = absurd (omega arith)
host_unit_same (a ∷ s ∷ z ∷ []) u k code size = absurd (omega arith)
host_unit_same (a ∷ s ∷ z ∷ g ∷ v) u k code size =
    grouped (eqb a 65) (eqb s 32) (eqb z 48) (eqb g 32) (is_ended (ascii "M21" ++ (32 ∷ a ∷ s ∷ z ∷ g ∷ v)))
    ∙ ap₂ ◌&&◌ (eqb_swap a 65)
    (ap₂ ◌&&◌ (eqb_swap s 32)
    (ap₂ ◌&&◌ (eqb_swap z 48)
    (ap₂ ◌&&◌ (eqb_swap g 32) (known_ended (ascii "M21" ++ (32 ∷ a ∷ s ∷ z ∷ g ∷ [])) u v k code (omega arith)))))
  where
    grouped : (x y z w e : Bool) → x && y && z && w && e ≡ x && (y && (z && (w && e)))
    grouped false y z w e = refl
    grouped true false z w e = refl
    grouped true true false w e = refl
    grouped true true true w e = refl

-- E, the letter and the end
pub error_same : (l : List ℕ) (b : ℕ) → b ≡ get_or l 1 0 → error_frame l && is_ended l ≡ same_text (69 ∷ b ∷ line_end) l
error_same l b e = by (eqb (length l) 4) refl
  where
    four : (l : List ℕ) → b ≡ get_or l 1 0 → length l ≡ 4 → eqb (get_or l 0 0) 69 && is_ended l ≡ same_text (69 ∷ b ∷ line_end) l
    four [] e h = absurd (omega arith)
    four (a ∷ []) e h = absurd (omega arith)
    four (a ∷ c ∷ []) e h = absurd (omega arith)
    four (a ∷ c ∷ x ∷ []) e h = absurd (omega arith)
    four (a ∷ c ∷ x ∷ y ∷ []) e h = ap₂ ◌&&◌ (eqb_swap a 69) (end_same x y) ∙ sym (rw (eq-eqb b c e))
    four (a ∷ c ∷ x ∷ y ∷ z ∷ l) e h = absurd (omega arith)

    by : (r : Bool) → eqb (length l) 4 ≡ r → r && eqb (get_or l 0 0) 69 && is_ended l ≡ same_text (69 ∷ b ∷ line_end) l
    by true h = four l e (eqb-true (length l) 4 h)
    by false h = unlike (69 ∷ b ∷ line_end) l (λ s. eqb-false (length l) 4 h (sym s))

-- ---- the tests of the bytes

module _ (l : List ℕ) where
  pub ended_is_tested : {i a b : ℕ} → i ≡ length l - 2 → a ≡ get_or l i 0 → b ≡ get_or l (i + 1) 0 → eqb a 13 && eqb b 10 ≡ is_ended l
  ended_is_tested p q r = rw (q, r, p)

  pub weight_is_tested : {n a b : ℕ} → n ≡ length (before_space l) → a ≡ get_or l (n + 2) 0 → b ≡ get_or l (n + 13) 0
      → eqb a 32 && eqb b 32 ≡ weight_frame (length (before_space l)) l
  weight_is_tested name p q = rw (p, q, name)

  pub error_is_tested : {a : ℕ} → a ≡ get_or l 0 0 → eqb (length l) 4 && eqb a 69 ≡ error_frame l
  error_is_tested p = rw p

  pub quote_is_tested : (i : ℕ) {e a b c : ℕ} → e ≡ length l - 3 → a ≡ get_or l i 0 → b ≡ get_or l (i + 1) 0 → c ≡ get_or l e 0
      → eqb a 32 && eqb b 34 && eqb c 34 ≡ quote_frame i l
  quote_is_tested i p q r s = rw (q, r, s, p)

  pub text_is_tested : {a : ℕ} {q : Bool} → a ≡ get_or l 3 0 → q ≡ quote_frame 4 l → leb 9 (length l) && eqb a 65 && q ≡ text_frame l
  text_is_tested p e = rw (p, e)

  pub listed_is_tested : (last : Bool) (c : ℕ) {m a d v : ℕ} {q : Bool} → m ≡ get_or l 3 0 → a ≡ get_or l 4 0 → d ≡ get_or l 5 0 → v ≡ level_of c → q ≡ quote_frame 6 l
      → (last || eqb m 66) && eqb a 32 && eqb d (48 + v) && q ≡ listed_frame last c l
  listed_is_tested last c e p q r s = rw (e, p, q, r, s)

  pub host_unit_is_tested : {a s z g : ℕ} → a ≡ get_or l 4 0 → s ≡ get_or l 5 0 → z ≡ get_or l 6 0 → g ≡ get_or l 7 0
      → eqb a 65 && eqb s 32 && eqb z 48 && eqb g 32 ≡ host_unit_frame l
  host_unit_is_tested p q r e = rw (p, q, r, e)
