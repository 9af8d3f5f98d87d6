-- Bytes taken one after another: those so far, and then the rest.
-- Assumes nothing.
use mathlib.Core.Path.{◌≡◌, refl, sym, ap, ◌∙◌}
use mathlib.Core.Bool.{Bool, true, false, not, ◌||◌, cond, or-true, or-false, or_assoc, and-false, true≢false}
use mathlib.Core.List.{List, [], ◌∷◌, append_assoc}
use Prim.Native.Nat.{ℕ, zero, suc, ◌+◌, ◌-◌, ◌≤◌, ◌<◌, min}
use native.Mathlib.Nat.{zero-add, add-zero}
use native.Mathlib.Numerals.{add-one}
use native.Mathlib.Omega.{arith}
use borrow.Author.Tests.{lt-ltb, leb-true, leb-false}
use lib.Dec.{leb, ltb, eqb, leb-suc-suc}
use lib.ListN.{length, get_or, take, drop, drop_of_length-le, length-drop, take-append-drop}
use lib.Seq.{drop-drop, length-take-le, sets, sets-eq}
use borrow.Rule.Slice.PartMut.{put_mid}
use Rattle.std.specs.List.{fold}
use Rattle.line.specs.declared.receive.Line.{Line}
use Rattle.line.specs.declared.run.Run.{Run}
use Rattle.line.specs.Receiving.{continued_line, joined_line, settled_line, ends_line, received_byte, carriage_return, line_limit}
use Rattle.line.specs.Runs.{marked_by, marked_bytes, one_more, received_run, any_mark_set, after_bytes, SoFar}
use Rattle.line.specs.Unbounded.{Marked}
use Rattle.line.proofs.Joining.{no_room, next_cell}
use Rattle.text.specs.Searching.{FirstAt, before_first, has_byte}

-- ---- bytes with their marks

-- as many as both reach
pub marked_length : (bs ms : List ℕ) → length (marked_bytes bs ms) ≡ min (length bs) (length ms)
unfolding marked_bytes
marked_length [] ms = omega arith
marked_length (b ∷ bs) [] = omega arith
marked_length (b ∷ bs) (m ∷ ms) = let rest = marked_length bs ms in omega arith

pub fewer_bytes : (bs ms : List ℕ) → length bs ≤ length ms → length bs ≡ length (marked_bytes bs ms)
fewer_bytes bs ms h = omega (arith, marked_length bs ms)

-- the next one
pub marked_at : (bs ms : List ℕ) (i : ℕ) → i < length (marked_bytes bs ms)
    → drop i (marked_bytes bs ms) ≡ marked_by (get_or bs i 0) (get_or ms i 0) ∷ drop (suc i) (marked_bytes bs ms)
unfolding marked_bytes
marked_at [] ms i h = absurd (omega arith)
marked_at (b ∷ bs) [] i h = absurd (omega arith)
marked_at (b ∷ bs) (m ∷ ms) zero h = refl
marked_at (b ∷ bs) (m ∷ ms) (suc i) h = marked_at bs ms i (omega arith)

marked_none : (bs : List ℕ) → marked_bytes bs [] ≡ []
unfolding marked_bytes
marked_none [] = refl
marked_none (b ∷ bs) = refl

-- those from a place on
pub marked_from : (i : ℕ) (bs ms : List ℕ) → marked_bytes (drop i bs) (drop i ms) ≡ drop i (marked_bytes bs ms)
unfolding marked_bytes
marked_from zero bs ms = refl
marked_from (suc i) [] ms = refl
marked_from (suc i) (b ∷ bs) [] = marked_none (drop i bs)
marked_from (suc i) (b ∷ bs) (m ∷ ms) = marked_from i bs ms

-- ---- those that join the line

abbrev run_of : Line → ℕ → Bool → Run
run_of l n ended = record { line = l; taken = n; ended = ended }

-- a byte that does not end the line
one_joined : (k : Line) (m : Marked) (rest : List Marked) {all : List Marked} → all ≡ m ∷ rest → ends_line k m.byte m.faulty ≡ false
    → received_run k all ≡ one_more (received_run (continued_line k m.byte m.faulty) rest)
unfolding received_run received_byte
one_joined k m rest e f = rw (e, f)

module _ (l : Line) (ms : List Marked) where
  pub none_yet : SoFar l ms l 0
  none_yet = record { within = omega arith; same = ap (λ (n : ℕ). run_of (received_run l ms).line n (received_run l ms).ended) (sym (zero-add _)) }

  module _ (k : Line) (i : ℕ) (h : SoFar l ms k i) where
    -- there are no more
    pub all_joined : length ms ≤ i → record { line = k; taken = i; ended = false } ≡ received_run l ms
    unfolding received_run
    all_joined f = rw (h.same, drop_of_length-le ms f, add-zero i)

    module _ (m : Marked) (next : drop i ms ≡ m ∷ drop (suc i) ms) where
      -- the next one ends the line
      pub ends_here : ends_line k m.byte m.faulty ≡ true → record { line = k; taken = i; ended = true } ≡ received_run l ms
      unfolding received_run received_byte
      ends_here e = rw (h.same, next, e, add-zero i)

      -- or joins it
      pub joins_here : {t : Line} → ends_line k m.byte m.faulty ≡ false → t ≡ continued_line k m.byte m.faulty → i < length ms
          → SoFar l ms t (i + 1)
      joins_here {t} e f less =
          let after : Run = received_run (continued_line k m.byte m.faulty) (drop (suc i) ms) in
          record {
            within = omega arith;
            same =
                h.same
                ∙ ap (after_bytes i) (one_joined k m (drop (suc i) ms) next e)
                ∙ ap (λ (n : ℕ). run_of after.line n after.ended) {y = suc i + after.taken} (omega arith)
                ∙ rw (f, add-one i);
          }

-- ---- marks

-- the marks one after another
any_along : (any : Bool) (ks : List ℕ) → fold (λ (a : Bool) (k : ℕ). a || not (eqb k 0)) any ks ≡ (any || any_mark_set ks)
any_along any [] = sym (or-false any)
any_along any (k ∷ ks) = any_along (any || not (eqb k 0)) ks ∙ or_assoc any (not (eqb k 0)) (any_mark_set ks)

pub any_told : (ks : List ℕ) {r : Bool} → r ≡ fold (λ (a : Bool) (k : ℕ). a || not (eqb k 0)) false ks → r ≡ any_mark_set ks
any_told ks e = e ∙ any_along false ks

-- ---- bytes other than CR, with no CR kept apart before them

-- what is known of the line after n of them
abbrev pub filled : Line → ℕ → List ℕ → List ℕ → Line
filled l n bs ks =
    let k = min n (line_limit - l.len) in
    record {
      bytes = sets l.bytes l.len (take k bs);
      len = l.len + k;
      over = l.over || ltb k n;
      faulty = l.faulty || any_mark_set (take n ks);
      returned = false;
    }

filled_none : (l : Line) (bs ks : List ℕ) → l.returned ≡ false → l ≡ filled l 0 bs ks
filled_none l bs ks e =
    let k : min 0 (line_limit - l.len) ≡ 0 = omega arith in
    ap (λ (x : Bool). record l { returned = x }) e ∙ rw (k, or-false l.over, or-false l.faulty, add-zero l.len)

-- one more at their front
filled_more : (l : Line) (b k n : ℕ) (bs ks : List ℕ) → filled (joined_line l b (not (eqb k 0))) n bs ks ≡ filled l (suc n) (b ∷ bs) (k ∷ ks)
filled_more l b k n bs ks = by (leb line_limit l.len) refl
  where
    bad : Bool
    bad = not (eqb k 0)

    by : (full : Bool) → leb line_limit l.len ≡ full → filled (joined_line l b (not (eqb k 0))) n bs ks ≡ filled l (suc n) (b ∷ bs) (k ∷ ks)
    by true e =
        let h : line_limit ≤ l.len = leb-true line_limit l.len e in
        let none : min n (line_limit - l.len) ≡ 0 = omega arith in
        let none_more : min (suc n) (line_limit - l.len) ≡ 0 = omega arith in
        rw (← no_room l b bad h, none, none_more, lt-ltb 0 (suc n) (omega arith), or-true l.over, or_assoc l.faulty bad (any_mark_set (take n ks)))
    by false e =
        let h : l.len < line_limit = leb-false line_limit l.len e in
        let more : min (suc n) (line_limit - l.len) ≡ suc (min n (line_limit - (l.len + 1))) = omega arith in
        let m : ℕ = min n (line_limit - (l.len + 1)) in
        let count : l.len + 1 + m ≡ l.len + suc m = omega arith in
        rw (← next_cell l b bad h, more) (cc (add-one l.len, count, leb-suc-suc (suc m) n, or_assoc l.faulty bad (any_mark_set (take n ks))))

-- a byte that is no CR joins the line, and ends none
module _ (l : Line) (b : ℕ) (bad : Bool) (none : l.returned ≡ false) (other : eqb b carriage_return ≡ false) where
  no_end : ends_line l b bad ≡ false
  no_end = rw (none, and-false (not bad))

  joins_plain : continued_line l b bad ≡ joined_line l b bad
  unfolding settled_line
  joins_plain = rw (other, and-false (not bad), none)

  stays_plain : (joined_line l b bad).returned ≡ false
  unfolding joined_line
  stays_plain = refl

neither : (x y : Bool) → (x || y) ≡ false → (x ≡ false) × (y ≡ false)
neither false y e = (refl, e)
neither true y e = absurd (true≢false e)

-- the first n of them
plain_run : (l : Line) (n : ℕ) (bs ks : List ℕ) → l.returned ≡ false → n ≤ length bs → n ≤ length ks → has_byte carriage_return (take n bs) ≡ false
    → received_run l (marked_bytes bs ks) ≡ after_bytes n (received_run (filled l n bs ks) (drop n (marked_bytes bs ks)))
unfolding marked_bytes
plain_run l zero bs ks e in_b in_k none =
    (none_yet l (marked_bytes bs ks)).same
    ∙ ap (λ (x : Line). after_bytes 0 (received_run x (marked_bytes bs ks))) (filled_none l bs ks e)
plain_run l (suc n) [] ks e in_b in_k none = absurd (omega arith)
plain_run l (suc n) (b ∷ bs) [] e in_b in_k none = absurd (omega arith)
plain_run l (suc n) (b ∷ bs) (k ∷ ks) e in_b in_k none =
    let bad : Bool = not (eqb k 0) in
    let rest : List Marked = marked_bytes bs ks in
    let two = neither (eqb b carriage_return) (has_byte carriage_return (take n bs)) none in
    let next : Line = joined_line l b bad in
    let after : Run = received_run (filled next n bs ks) (drop n rest) in
    one_joined l (marked_by b k) rest refl (no_end l b bad e two.0)
    ∙ ap (λ (x : Line). one_more (received_run x rest)) (joins_plain l b bad e two.0)
    ∙ ap one_more (plain_run next n bs ks (stays_plain l b bad e two.0) (omega arith) (omega arith) two.1)
    ∙ ap (λ (m : ℕ). run_of after.line m after.ended) {y = suc n + after.taken} (omega arith)
    ∙ ap (λ (x : Line). after_bytes (suc n) (received_run x (drop n rest))) (filled_more l b k n bs ks)

-- the bytes before the first CR have none
none_before : (b : ℕ) (t : List ℕ) → has_byte b (before_first b t) ≡ false
none_before b [] = refl
none_before b (c ∷ t) = go (eqb c b) refl (none_before b t)
  where
    go : (x : Bool) → eqb c b ≡ x → has_byte b (before_first b t) ≡ false → has_byte b (cond x [] (c ∷ before_first b t)) ≡ false
    go true e f = refl
    go false e f = rw (e, f)

-- the cells from a place on, as the code writes them
cells_put : (l : Line) (s k : ℕ) (ys : List ℕ) → s ≡ min l.len line_limit → length ys ≡ k → s + k ≤ length l.bytes → length l.bytes ≡ line_limit
    → put_mid s k l.bytes ys ≡ sets l.bytes l.len ys
cells_put l s k [] start count room cells = rw (← count) (take-append-drop s l.bytes)
cells_put l s k (y ∷ ys) start count room cells =
    let same : l.len ≡ s = omega arith in
    rw (drop-drop k s l.bytes, ← count, same, sets-eq (y ∷ ys) l.bytes s (omega arith)) (sym (append_assoc (take s l.bytes) (y ∷ ys) _))

module _ (l : Line) (n : ℕ) (bs ks : List ℕ) (cells : length l.bytes ≡ line_limit) (e : l.returned ≡ false) (equal : length bs ≡ length ks)
    (first : FirstAt carriage_return bs n) where
  pub filled_so_far : {s k : ℕ} {written : List ℕ} {any : Bool} → s ≡ min l.len line_limit → k ≡ min n (line_limit - s) → written ≡ take k bs
      → any ≡ any_mark_set (take n ks)
      → SoFar l (marked_bytes bs ks)
      (record {
        bytes = put_mid s (s + k - s) l.bytes written;
        len = l.len + k;
        over = l.over || ltb k n;
        faulty = l.faulty || any;
        returned = l.returned;
      })
      n
  filled_so_far {s} {k} {written} {any} start kept w f =
      let within : n ≤ length bs = first.in_text in
      let part : s + k - s ≡ k = omega arith in
      let count : k ≡ min n (line_limit - l.len) = omega arith in
      let long : length (take k bs) ≡ k = length-take-le k bs (omega arith) in
      record {
        within = omega (arith, marked_length bs ks);
        same =
            plain_run l n bs ks e within (omega arith) (rw first.before (none_before carriage_return bs))
            ∙ rw (part, w, f, e, cells_put l s k (take k bs) start long (omega arith) cells, count);
      }

-- ---- several at once

-- one stretch after another
pub then_so_far : (l : Line) (ms : List Marked) (k : Line) (i : ℕ) (t : Line) (j : ℕ) → SoFar l ms k i → SoFar k (drop i ms) t j → SoFar l ms t (i + j)
then_so_far l ms k i t j h g =
    let last : Run = received_run t (drop j (drop i ms)) in
    record {
      within = omega (arith, h.within, g.within, length-drop i ms);
      same =
          h.same
          ∙ ap (after_bytes i) g.same
          ∙ ap (λ (n : ℕ). run_of last.line n last.ended) {y = (i + j) + last.taken} (omega arith)
          ∙ ap (λ (x : List Marked). after_bytes (i + j) (received_run t x)) (drop-drop j i ms);
    }

-- ---- as many bytes as marks

pub marked_clip : (bs ks : List ℕ) (n : ℕ) → n ≡ min (length bs) (length ks) → marked_bytes (take n bs) (take n ks) ≡ marked_bytes bs ks
unfolding marked_bytes
marked_clip [] ks zero e = refl
marked_clip [] ks (suc n) e = refl
marked_clip (b ∷ bs) [] zero e = refl
marked_clip (b ∷ bs) [] (suc n) e = refl
marked_clip (b ∷ bs) (k ∷ ks) zero e = absurd (omega arith)
marked_clip (b ∷ bs) (k ∷ ks) (suc n) e = ap (λ (x : List Marked). marked_by b k ∷ x) (marked_clip bs ks n (omega arith))

module _ (l : Line) (bs ks : List ℕ) {n : ℕ} (count : n ≡ min (length bs) (length ks)) {k : Line} {i : ℕ} (h : SoFar l (marked_bytes bs ks) k i) where
  -- a stretch from a place on, by the two buffers
  pub stretch_more : {t : Line} {j : ℕ} → SoFar k (marked_bytes (take (n - i) (drop i bs)) (take (n - i) (drop i ks))) t j
      → SoFar l (marked_bytes bs ks) t (i + j)
  stretch_more {t} {j} g =
      let left : n - i ≡ min (length (drop i bs)) (length (drop i ks)) = omega (arith, length-drop i bs, length-drop i ks) in
      then_so_far l (marked_bytes bs ks) k i t j h (rw (marked_clip (drop i bs) (drop i ks) (n - i) left, marked_from i bs ks) at g)

  pub no_more : n ≤ i → record { line = k; taken = i; ended = false } ≡ received_run l (marked_bytes bs ks)
  no_more f = all_joined l (marked_bytes bs ks) k i h (omega (arith, marked_length bs ks))

  module _ (less : i < n) where
    less_marked : i < length (marked_bytes bs ks)
    less_marked = omega (arith, marked_length bs ks)

    -- the next byte ends the line
    pub next_ends : ends_line k (get_or bs i 0) (not (eqb (get_or ks i 0) 0)) ≡ true
        → record { line = k; taken = i; ended = true } ≡ received_run l (marked_bytes bs ks)
    next_ends e = ends_here l (marked_bytes bs ks) k i h _ (marked_at bs ks i less_marked) e

    -- or joins it
    pub next_joins : {t : Line} → ends_line k (get_or bs i 0) (not (eqb (get_or ks i 0) 0)) ≡ false
        → t ≡ continued_line k (get_or bs i 0) (not (eqb (get_or ks i 0) 0)) → SoFar l (marked_bytes bs ks) t (i + 1)
    next_joins e f = joins_here l (marked_bytes bs ks) k i h _ (marked_at bs ks i less_marked) e f less_marked
