-- What a whole-buffer call stands for: its bytes and answers are its own.
-- Assumes nothing.
use Prim.Native.Nat.{ℕ, ◌≤◌}
use mathlib.Core.Path.{◌≡◌, refl, sym, ap, ◌∙◌}
use mathlib.Core.List.{List, [], ◌∷◌, map}
use native.Mathlib.Omega.{arith}
use lib.ListN.{length, take}
use Rattle.device.specs.Buffers.{Singly, joined, taken_singly}
use Rattle.device.proofs.Took.{TookSingly, took_singly, taken_within}
use Rattle.line.specs.Runs.{marked_bytes}
use Rattle.line.specs.Unbounded.{Marked}
use Rattle.history.specs.Claim.{taken_events, StandsForBytes}
use Rattle.history.specs.Tally.{Event, Input, byte_is}

inputs_are : (ms : List Marked) (ls : List (List ℕ)) → length ls ≤ length ms
    → map (λ (e : Event). e.input) (taken_events ms ls) ≡ map byte_is (take (length ls) ms)
unfolding taken_events
inputs_are ms [] h = refl
inputs_are [] (l ∷ ls) h = absurd (omega (arith, h))
inputs_are (m ∷ ms) (l ∷ ls) h = ap (λ (is : List Input). byte_is m ∷ is) (inputs_are ms ls (omega (arith, h)))

answers_are : (ms : List Marked) (ls : List (List ℕ)) → length ls ≤ length ms → map (λ (e : Event). e.answer) (taken_events ms ls) ≡ ls
unfolding taken_events
answers_are ms [] h = refl
answers_are [] (l ∷ ls) h = absurd (omega (arith, h))
answers_are (m ∷ ms) (l ∷ ls) h = ap (λ (rest : List (List ℕ)). l ∷ rest) (answers_are ms ls (omega (arith, h)))

pub stands_for_bytes : StandsForBytes
stands_for_bytes p s bytes marks room r buffer call =
    let ms : List Marked = marked_bytes bytes marks in
    let q : Singly = taken_singly p s bytes marks room in
    let took : TookSingly q r buffer = took_singly p s bytes marks room call in
    let within : length q.answers ≤ length ms = taken_within p s bytes marks room in (
      inputs_are ms q.answers within ∙ ap (λ (n : ℕ). map byte_is (take n ms)) (sym took.taken),
      ap joined (answers_are ms q.answers within) ∙ sym took.answers,
    )
