-- The 64 cells against the line as the tally keeps it: what the judgement sees is the same.
-- Assumes nothing.
use mathlib.Core.Path.{◌≡◌, refl, sym, ap, ap₂, ◌∙◌}
use mathlib.Core.Bool.{Bool, true, false, cond, not, ◌&&◌, ◌||◌, or-false, or_assoc, and-false, and-eq-true_iff}
use mathlib.Core.List.{List, [], ◌∷◌, ◌++◌, map, reverse, reverse-cons}
use mathlib.Core.Logic.{◌⊎◌, inl, inr}
use Prim.Native.Nat.{ℕ, ◌+◌, ◌≤◌, ◌<◌, min}
use native.Mathlib.Numerals.{add-one}
use native.Mathlib.Omega.{arith}
use lib.Dec.{ltb, eqb}
use lib.ListN.{length, take, drop, set, length-append, length-set, length-map}
use lib.Seq.{take_all, take-append-le, take-suc-set}
use borrow.Author.Tests.{lt-ltb, le-ltb, ltb-true, ltb-false, eqb-true, not-true}
use Rattle.line.specs.declared.receive.Line.{Line}
use Rattle.line.specs.Receiving.{carriage_return, line_feed, content_of, cleared_line, empty_line, joined_line, settled_line, chosen_line, with_return, ends_line, received_byte, line_limit}
use Rattle.line.specs.Judging.{judgement}
use Rattle.line.specs.Parts.{text_rows}
use Rattle.line.specs.Unbounded.{
  Marked,
  is_good,
  ends_in_return,
  ends_unbounded,
  after_marked,
  finished_line,
  byte_in,
  any_faulty,
  judgement_of,
}
use Rattle.line.proofs.Joining.{no_room, next_cell}
use Rattle.line.specs.declared.judge.Situation.{Situation}

-- the line l holds the bytes f, the oldest first: the first 64 of them, and of the others that they came and whether one was faulty
pub record Holds (l : Line) (f : List Marked) : Type 0 where
  pub cells : length l.bytes ≡ line_limit
  pub content : content_of l ≡ take line_limit (map byte_in f)
  pub len : l.len ≡ min line_limit (length f)
  pub over : l.over ≡ ltb line_limit (length f)
  pub faulty : l.faulty ≡ any_faulty f

-- the bytes of u, the newest first, without a good CR at its end
abbrev pub without_return : List Marked → List Marked
without_return u = drop (cond (ends_in_return u) 1 0) u

-- the line l is that of the bytes u, the newest first, of which a good CR at the end is kept apart
pub record Keeps (l : Line) (u : List Marked) : Type 0 where
  pub returned : l.returned ≡ ends_in_return u
  pub held : Holds l (reverse (without_return u))

-- ---- nothing received

pub keeps_cleared : (l : Line) → length l.bytes ≡ line_limit → Keeps (cleared_line l) []
keeps_cleared l h = record { returned = refl; held = record { cells = h; content = refl; len = refl; over = refl; faulty = refl } }

pub keeps_empty : Keeps empty_line []
keeps_empty = record { returned = refl; held = record { cells = refl; content = refl; len = refl; over = refl; faulty = refl } }

-- ---- one more byte

map_append : (f g : List Marked) → map byte_in (f ++ g) ≡ map byte_in f ++ map byte_in g
map_append [] g = refl
map_append (m ∷ f) g = ap (λ (t : List ℕ). m.byte ∷ t) (map_append f g)

faulty_append : (f : List Marked) (m : Marked) → any_faulty (f ++ (m ∷ [])) ≡ (any_faulty f || m.faulty)
faulty_append [] m = or-false m.faulty
faulty_append (n ∷ f) m = rw (faulty_append f m) (sym (or_assoc n.faulty (any_faulty f) m.faulty))

module _ (l : Line) (f : List Marked) (h : Holds l f) (m : Marked) where
  more : length (f ++ (m ∷ [])) ≡ length f + 1
  more = length-append f (m ∷ [])

  faults : (l.faulty || m.faulty) ≡ any_faulty (f ++ (m ∷ []))
  faults = ap (λ (b : Bool). b || m.faulty) h.faulty ∙ sym (faulty_append f m)

  -- the byte takes the next cell
  holds_next : l.len < line_limit → Holds (joined_line l m.byte m.faulty) (f ++ (m ∷ []))
  holds_next room =
      let count : l.len ≡ length f = omega (arith, h.len) in
      let all : take line_limit (map byte_in f) ≡ map byte_in f = take_all line_limit (map byte_in f) (omega (arith, length-map f byte_in)) in
      let both : take line_limit (map byte_in (f ++ (m ∷ []))) ≡ map byte_in f ++ (m.byte ∷ []) =
      take_all line_limit (map byte_in (f ++ (m ∷ []))) (omega (arith, length-map (f ++ (m ∷ [])) byte_in, more)) ∙ map_append f (m ∷ []) in
      rw (← next_cell l m.byte m.faulty room)
      (record {
        cells = length-set l.bytes l.len m.byte ∙ h.cells;
        content =
            ap (λ (n : ℕ). take n (set l.bytes l.len m.byte)) (add-one l.len)
            ∙ take-suc-set l.bytes l.len m.byte (omega (arith, h.cells))
            ∙ ap (λ (t : List ℕ). t ++ (m.byte ∷ [])) (h.content ∙ all)
            ∙ sym both;
        len = omega (arith, more);
        over = h.over ∙ le-ltb line_limit (length f) (omega arith) ∙ sym (le-ltb line_limit (length (f ++ (m ∷ []))) (omega (arith, more)));
        faulty = faults;
      })

  -- the byte has no cell
  holds_full : line_limit ≤ l.len → Holds (joined_line l m.byte m.faulty) (f ++ (m ∷ []))
  holds_full full =
      let many : line_limit ≤ length f = omega (arith, h.len) in
      rw (← no_room l m.byte m.faulty full)
      (record {
        cells = h.cells;
        content =
            h.content
            ∙ sym (take-append-le line_limit (map byte_in f) (m.byte ∷ []) (omega (arith, length-map f byte_in)))
            ∙ ap (take line_limit) (sym (map_append f (m ∷ [])));
        len = omega (arith, h.len, more);
        over = sym (lt-ltb line_limit (length (f ++ (m ∷ []))) (omega (arith, more)));
        faulty = faults;
      })

  joins_by : (room : Bool) → ltb l.len line_limit ≡ room → Holds (joined_line l m.byte m.faulty) (f ++ (m ∷ []))
  joins_by true e = holds_next (ltb-true l.len line_limit e)
  joins_by false e = holds_full (ltb-false l.len line_limit e)

  -- a byte that joins the cells joins the line
  pub holds_joined : Holds (joined_line l m.byte m.faulty) (f ++ (m ∷ []))
  holds_joined = joins_by (ltb l.len line_limit) refl

-- ---- a byte received

abbrev pub marked_as : ℕ → Bool → Marked
marked_as b bad = record { byte = b; faulty = bad }

holds_with : {l : Line} {f : List Marked} (r : Bool) → Holds l f → Holds (with_return l r) f
holds_with r h = record { cells = h.cells; content = h.content; len = h.len; over = h.over; faulty = h.faulty }

-- a CR that was kept apart joins the line
settled_returned : (l : Line) → l.returned ≡ true → settled_line l ≡ joined_line l carriage_return false
unfolding settled_line
settled_returned l e = ap (λ (r : Bool). chosen_line r (joined_line l carriage_return false) l) e

settled_same : (l : Line) → l.returned ≡ false → settled_line l ≡ l
unfolding settled_line
settled_same l e = ap (λ (r : Bool). chosen_line r (joined_line l carriage_return false) l) e

settles : (l : Line) (m : Marked) (u : List Marked) (g : Bool) → is_good carriage_return m ≡ g → l.returned ≡ g
    → Holds l (reverse (drop (cond g 1 0) (m ∷ u))) → Holds (settled_line l) (reverse (m ∷ u))
settles l m u true e r h =
    let both = (and-eq-true_iff (not m.faulty) (eqb m.byte carriage_return)).0 e in
    let good : m.faulty ≡ false = not-true m.faulty both.0 in
    let cr : m.byte ≡ 13 = eqb-true m.byte carriage_return both.1 in
    rw (settled_returned l r ∙ sym (ap₂ (joined_line l) cr good), reverse-cons m u) (holds_joined l (reverse u) h m)
settles l m u false e r h = rw (settled_same l r) h

holds_settled : (l : Line) (u : List Marked) → Keeps l u → Holds (settled_line l) (reverse u)
holds_settled l [] k = rw (settled_same l k.returned) k.held
holds_settled l (m ∷ u) k = settles l m u (is_good carriage_return m) refl k.returned k.held

joins_apart : (l : Line) (b : ℕ) (bad : Bool) → (joined_line l b bad).returned ≡ false
unfolding joined_line
joins_apart l b bad = refl

exchange : (x y z : Bool) → (x && (y && z)) ≡ (y && (x && z))
exchange true y z = refl
exchange false y z = sym (and-false y)

-- the good CR at the end was kept apart
finished : (l : Line) (u : List Marked) → ends_in_return u ≡ true → Keeps l u → Holds l (finished_line u)
finished l u e k = rw e at k.held

module _ (l : Line) (u : List Marked) (k : Keeps l u) (b : ℕ) (bad : Bool) where
  -- the line ends as the tally's does
  pub ends_alike : (received_byte l b bad).ended ≡ ends_unbounded u (marked_as b bad)
  unfolding received_byte
  ends_alike = rw k.returned (exchange (not bad) (ends_in_return u) (eqb b line_feed))

  -- the finished line is the tally's
  pub holds_finished : ends_unbounded u (marked_as b bad) ≡ true → Holds (received_byte l b bad).line (finished_line u)
  unfolding received_byte
  holds_finished e =
      let returned : ends_in_return u ≡ true = ((and-eq-true_iff (ends_in_return u) (is_good line_feed (marked_as b bad))).0 e).0 in
      rw (ends_alike ∙ e) (holds_with false (finished l u returned k))

  going_by : (cr : Bool) → is_good carriage_return (marked_as b bad) ≡ cr → ends_line l b bad ≡ false → Keeps (received_byte l b bad).line (marked_as b bad ∷ u)
  unfolding received_byte
  going_by true g e = rw (e, g) (record { returned = sym g; held = rw g (holds_with true (holds_settled l u k)) })
  going_by false g e =
      rw (e, g)
      (record {
        returned = joins_apart (settled_line l) b bad ∙ sym g;
        held = rw (g, reverse-cons (marked_as b bad) u) (holds_joined (settled_line l) (reverse u) (holds_settled l u k) (marked_as b bad));
      })

  -- and so is the line so far
  pub keeps_byte : ends_unbounded u (marked_as b bad) ≡ false → Keeps (received_byte l b bad).line (after_marked u (marked_as b bad))
  unfolding received_byte
  keeps_byte e = rw e (going_by (is_good carriage_return (marked_as b bad)) refl (ends_alike ∙ e))

  -- after the end a new line starts
  pub keeps_next : ends_unbounded u (marked_as b bad) ≡ true → Keeps (cleared_line (received_byte l b bad).line) (after_marked u (marked_as b bad))
  keeps_next e = rw e (keeps_cleared (received_byte l b bad).line (holds_finished e).cells)

-- ---- the judgement

module _ (j : Situation) where
  -- of a line over 64 bytes only its marks count
  same_rows : (faulty over : Bool) (s t : List ℕ) → over ≡ true ⊎ s ≡ t
      → text_rows j faulty over s ≡ text_rows j faulty over t
  unfolding text_rows
  same_rows faulty over s t (inl e) = rw e
  same_rows faulty over s t (inr e) = rw e

  content_or_over : (f : List Marked) (over : Bool) → ltb line_limit (length f) ≡ over → over ≡ true ⊎ take line_limit (map byte_in f) ≡ map byte_in f
  content_or_over f true e = inl refl
  content_or_over f false e = inr (take_all line_limit (map byte_in f) (omega (arith, ltb-false line_limit (length f) e, length-map f byte_in)))

  -- both judgements are the table over the line's marks and bytes
  tally_judged_by : (f : List Marked)
      → judgement_of j f ≡ text_rows j (any_faulty f) (ltb line_limit (length f)) (map byte_in f)
  unfolding text_rows judgement_of
  tally_judged_by f = refl

  judged_by : (l : Line) → judgement j l ≡ text_rows j l.faulty l.over (content_of l)
  unfolding text_rows judgement
  judged_by l = refl

  -- what the judgement sees of the cells is what the tally's line shows
  pub holds_judged : (l : Line) (f : List Marked) → Holds l f → judgement j l ≡ judgement_of j f
  holds_judged l f h =
      judged_by l
      ∙ rw (h.faulty, h.over, h.content)
      (same_rows (any_faulty f) (ltb line_limit (length f)) (take line_limit (map byte_in f)) (map byte_in f) (content_or_over f (ltb line_limit (length f)) refl)
      ∙ sym (tally_judged_by f))
