-- Cells laid into a buffer, one at a time.
-- Assumes nothing.
use Rattle.std.proofs.Common.{◌≡◌, ℕ, List, ◌+◌, ◌<◌, ◌≤◌, length, take, set, sym, ap, ◌∙◌, add-one, arith}
use Rattle.std.proofs.lemmas.List.{take_all, take_more_set}
use Rattle.script.specs.Marked.{first_of}

module _ (at : ℕ → ℕ) (l : List ℕ) (i : ℕ) (put : take i l ≡ first_of at i) where
  pub one_put : (y : ℕ) → i < length l → y ≡ at i → take (i + 1) (set l i y) ≡ first_of at (i + 1)
  one_put y h e = rw (take_more_set l i y h, put, e, add-one i)

  pub all_put : (n : ℕ) → length l ≤ i → i ≤ n → n ≡ length l → l ≡ first_of at n
  all_put n h b e = let whole : i ≡ n = omega (arith, h, b, e) in sym (take_all i l h) ∙ put ∙ ap (first_of at) whole
