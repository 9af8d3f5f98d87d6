-- Document 01, "The tally of demand 3": the line as the tally keeps it, every byte with its mark, the newest first; and the
-- judging table over a finished line of any length.
-- Assumes nothing.
use Rattle.std.specs.Prelude.{ℕ, Bool, false, cond, not, ◌&&◌, ◌||◌, List, [], ◌∷◌, map, reverse, ltb, eqb, length, drop}
use Rattle.line.specs.declared.judge.Situation.{Situation}
use Rattle.line.specs.declared.judge.Verdict.{Verdict}
use Rattle.line.specs.Receiving.{carriage_return, line_feed, line_limit}
use Rattle.line.specs.Judging.{table}

pub record Marked : Type 0 where
  pub byte : ℕ
  pub faulty : Bool

-- a good byte of this value
abbrev pub is_good : ℕ → Marked → Bool
is_good b m = not m.faulty && eqb m.byte b

-- the newest byte is a good CR
abbrev pub ends_in_return : List Marked → Bool
ends_in_return [] = false
ends_in_return (m ∷ u) = is_good carriage_return m

-- a good CR, then at once a good LF end the line
abbrev pub ends_unbounded : List Marked → Marked → Bool
ends_unbounded u m = ends_in_return u && is_good line_feed m

-- the line after a byte; the next byte after an end starts a new one
abbrev pub after_marked : List Marked → Marked → List Marked
after_marked u m = cond (ends_unbounded u m) [] (m ∷ u)

-- what a finished line held, oldest first: CR and LF are no part of it
abbrev pub finished_line : List Marked → List Marked
finished_line u = reverse (drop 1 u)

abbrev pub byte_in : Marked → ℕ
byte_in m = m.byte

abbrev pub any_faulty : List Marked → Bool
any_faulty [] = false
any_faulty (m ∷ u) = m.faulty || any_faulty u

-- the judging table over a finished line
unfoldable pub judgement_of : Situation → List Marked → Verdict
judgement_of j f = table j (any_faulty f) (ltb line_limit (length f)) (map byte_in f)
