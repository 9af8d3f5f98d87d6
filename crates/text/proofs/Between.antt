-- A text in a place of a buffer.
-- Assumes nothing.
use mathlib.Core.Path.{◌≡◌, sym, ◌∙◌}
use mathlib.Core.List.{List, [], ◌∷◌, ◌++◌, append-nil, append_assoc}
use Prim.Native.Nat.{ℕ, suc, ◌+◌, ◌≤◌, ◌<◌}
use native.Mathlib.Numerals.{add-one}
use native.Mathlib.Omega.{arith}
use lib.ListN.{length, take, drop, set, length-append, length-drop, take-append-drop}
use lib.Seq.{set_split, take_at, drop_at, drop-drop, length-take-le, append_snoc, drop-length}

-- the buffer d with the text s from a up to e
unfoldable pub between : List ℕ → ℕ → List ℕ → ℕ → List ℕ
between d a s e = take a d ++ s ++ drop e d

-- no text changes nothing
pub between_none : (d : List ℕ) (a : ℕ) → between d a [] a ≡ d
unfolding between
between_none d a = simp append-nil (take-append-drop a d)

-- one byte
pub between_byte : (d : List ℕ) (a b : ℕ) → a < length d → set d a b ≡ between d a (b ∷ []) (a + 1)
unfolding between
between_byte d a b h = set_split d a b h ∙ rw (add-one a) (sym (append_snoc (take a d) b (drop (suc a) d)))

-- a text after the one that was written last
module _ (d : List ℕ) (a m : ℕ) (s : List ℕ) (h : a + length s ≡ m) (l : m ≤ length d) where
  front : length (take a d ++ s) ≡ m
  front = rw (length-append, length-take-le a d (omega arith)) h

  pub between_after : (n : ℕ) (t : List ℕ) → between (between d a s m) m t (m + n) ≡ between d a (s ++ t) (m + n)
  unfolding between
  between_after n t =
      rw (take_at (take a d ++ s) (drop m d) m front, ← drop-drop n m (take a d ++ s ++ drop m d), drop_at (take a d ++ s) (drop m d) m front, drop-drop n m d, append_assoc (take a d) s t)

  -- no byte is lost
  pub between_length : length (between d a s m) ≡ length d
  unfolding between
  between_length = rw (length-append, front, length-drop) (omega arith)

-- up to the end of the buffer
pub between_end : (d : List ℕ) (a : ℕ) (s : List ℕ) → between d a s (length d) ≡ take a d ++ s
unfolding between
between_end d a s = rw (drop-length d, append-nil)
