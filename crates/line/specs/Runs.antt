-- Document 02, No. 2: bytes that are received together, taken singly as far as none ends the line.
-- Assumes nothing.
use Rattle.std.specs.Prelude.{ℕ, suc, ◌+◌, ◌≤◌, ◌≡◌, Bool, true, false, not, ◌||◌, List, [], ◌∷◌, eqb, length, drop}
use Rattle.line.specs.declared.receive.Line.{Line}
use Rattle.line.specs.declared.run.Run.{Run}
use Rattle.line.specs.Receiving.{received_byte}
use Rattle.line.specs.Unbounded.{Marked}

-- a byte with its mark: 0 is good
abbrev pub marked_by : ℕ → ℕ → Marked
marked_by b m = record { byte = b; faulty = not (eqb m 0) }

-- bytes with their marks, as far as both reach
unfoldable pub marked_bytes : List ℕ → List ℕ → List Marked
marked_bytes [] ms = []
marked_bytes (b ∷ bs) [] = []
marked_bytes (b ∷ bs) (m ∷ ms) = marked_by b m ∷ marked_bytes bs ms

abbrev pub chosen_run : Bool → Run → Run → Run
chosen_run true a b = a
chosen_run false a b = b

abbrev pub one_more : Run → Run
one_more r = record { line = r.line; taken = suc r.taken; ended = r.ended }

-- the bytes before the first one that ends the line
unfoldable pub received_run : Line → List Marked → Run
received_run l [] = record { line = l; taken = 0; ended = false }
received_run l (m ∷ ms) =
    let r = received_byte l m.byte m.faulty in
    chosen_run r.ended (record { line = l; taken = 0; ended = true }) (one_more (received_run r.line ms))

-- ---- what the parts of the code promise each other

-- one of the marks is not 0, and so is that of a faulty byte
abbrev pub any_mark_set : List ℕ → Bool
any_mark_set [] = false
any_mark_set (m ∷ ms) = not (eqb m 0) || any_mark_set ms

-- n bytes joined it before
abbrev pub after_bytes : ℕ → Run → Run
after_bytes n r = record { line = r.line; taken = n + r.taken; ended = r.ended }

-- what l makes of all of them is what k makes of those from the i-th on
pub record SoFar (l : Line) (ms : List Marked) (k : Line) (i : ℕ) : Type 0 where
  pub within : i ≤ length ms
  pub same : received_run l ms ≡ after_bytes i (received_run k (drop i ms))
