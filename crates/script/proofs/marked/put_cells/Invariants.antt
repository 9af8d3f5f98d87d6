use Rattle.std.proofs.Common.{◌≡◌, ℕ, List, take}
use Rattle.script.specs.Marked.{first_of}
use Rattle.script.specs.Words.{after_word, after_words, word_at}
use Rattle.script.proofs.marked.put_cells.Given as goal

abbrev pub invariant-loop-i : goal.invariant-loop-i
invariant-loop-i g l =
    (l.rest ≡ after_words l.i (after_word l.line))
    × ((at : List ℕ → ℕ → ℕ) → ((w : _) (k r : ℕ) → goal.F-post g l.cell w k r → r ≡ at w.now k) → take l.i l.cells ≡ first_of (λ k. at (word_at k (after_word l.line)) k) l.i)
