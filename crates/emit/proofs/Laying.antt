-- Pieces laid one after another into a buffer.
-- Assumes nothing.
use mathlib.Core.Path.{◌≡◌, sym, ap, ◌∙◌}
use mathlib.Core.List.{List, [], ◌∷◌, ◌++◌, append_assoc, append-nil}
use Prim.Native.Nat.{ℕ, zero, suc, ◌+◌, ◌-◌, ◌≤◌, ◌<◌}
use native.Mathlib.Nat.{add-zero, add-suc, suc-add, not-suc-le-zero, le_of_suc-le-suc}
use native.Mathlib.Omega.{arith}
use borrow.Rule.Slice.PartMut.{put_mid}
use lib.ListN.{length, take, drop, get_or, set, length-append}
use lib.Seq.{sets, length-sets, sets-eq, drop-drop}
use Rattle.std.specs.Borrow.{Bor}
use Rattle.emit.specs.Pieces.{Laid, joined}

-- a piece and then another are the two together
pub sets_append : (d : List ℕ) (a : ℕ) (p q : List ℕ) → sets d a (p ++ q) ≡ sets (sets d a p) (a + length p) q
sets_append d a [] q = rw (add-zero a)
sets_append d a (x ∷ p) q = sets_append (set d a x) (suc a) p q ∙ rw (suc-add, add-suc)

-- a text after another
pub laid_after : (d : List ℕ) (a : ℕ) (p q : List ℕ) {e f : List ℕ} {b g : ℕ} → Laid d a e b p → Laid e b f g q → Laid d a f g (p ++ q)
laid_after d a p q h k = (omega (arith, h.0, k.0, length-append p q), k.1 ∙ rw (h.0, h.1) (sym (sets_append d a p q)))

-- a part of the buffer that a piece is copied over
overwritten : (d q : List ℕ) (e k : ℕ) → e + length q ≤ length d → k ≡ length q → put_mid e k d q ≡ sets d e q
overwritten d q e k h z =
    sym (sets-eq q d e h ∙ append_assoc (take e d) q (drop (e + length q) d)
    ∙ ap (λ (t : List ℕ). take e d ++ (q ++ t)) (sym (drop-drop (length q) e d))
    ∙ ap (λ (n : ℕ). take e d ++ (q ++ drop n (drop e d))) (sym z))

-- one piece more
joined_more : (ps : List (Bor (List ℕ))) (k : ℕ) (x : Bor (List ℕ)) → k < length ps → joined (take (k + 1) ps) ≡ joined (take k ps) ++ (get_or ps k x).now
joined_more [] k x h = absurd (not-suc-le-zero h)
joined_more (p ∷ ps) zero x h = append-nil p.now
joined_more (p ∷ ps) (suc k) x h =
    ap (λ (n : ℕ). joined (take n (p ∷ ps))) (suc-add k 1)
    ∙ ap (λ (t : List ℕ). p.now ++ t) (joined_more ps k x (le_of_suc-le-suc h))
    ∙ sym (append_assoc p.now (joined (take k ps)) (get_or ps k x).now)

-- and the whole is no shorter
joined_within : (ps : List (Bor (List ℕ))) (k : ℕ) → length (joined (take k ps)) ≤ length (joined ps)
joined_within [] zero = omega arith
joined_within [] (suc k) = omega arith
joined_within (p ∷ ps) zero = omega arith
joined_within (p ∷ ps) (suc k) =
    omega (arith, joined_within ps k, length-append p.now (joined (take k ps)), length-append p.now (joined ps))

-- a reference to no bytes, as what stands past the last piece
abbrev none : Bor (List ℕ)
none = record { ref_ptr = (0, 0); now = [] }

-- ---- the loop that lays the pieces: what stands is the first k

module _ (d : List ℕ) (a k : ℕ) (ps : List (Bor (List ℕ))) (h : k < length ps) {e : List ℕ} {b : ℕ} (l : Laid d a e b (joined (take k ps))) (r : a + length (joined ps) ≤ length d) (z : length e ≡ length d) where
  pub piece_room : b + length (get_or ps k none).now ≤ length e
  piece_room =
      omega (arith, l.0, joined_within ps (k + 1), ap length (joined_more ps k none h), length-append (joined (take k ps)) (get_or ps k none).now)

  pub piece_more : {q : List ℕ} → q ≡ (get_or ps k none).now
      → (length (put_mid b (b + length (get_or ps k none).now - b) e q) ≡ length d) × Laid d a (put_mid b (b + length (get_or ps k none).now - b) e q) (b + length (get_or ps k none).now) (joined (take (k + 1) ps))
  piece_more {q} s =
      let p = (get_or ps k none).now in
      let more = joined_more ps k none h in
      let laid : put_mid b (b + length p - b) e q ≡ sets e b p = rw s (overwritten e p b (b + length p - b) piece_room (omega arith)) in (
        rw laid (omega (arith, length-sets e b p)),
        (
          omega (arith, l.0, ap length more, length-append (joined (take k ps)) p),
          laid ∙ rw (l.0, l.1, more) (sym (sets_append d a (joined (take k ps)) p)),
        ),
      )

-- ---- a whole line, from the buffer's start

pub line_stands : (d s : List ℕ) → length s ≤ length d → sets d 0 s ≡ s ++ drop (length s) d
line_stands d s h =
    let start : 0 + length s ≡ length s = omega arith in
    sets-eq s d 0 (omega arith) ∙ ap (λ (k : ℕ). s ++ drop k d) start
