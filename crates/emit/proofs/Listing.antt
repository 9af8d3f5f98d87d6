-- The lines of I0, up to a command and from it on.
-- Assumes nothing.
use mathlib.Core.Path.{◌≡◌, refl, sym, ap, ◌∙◌}
use mathlib.Core.Bool.{Bool, true, false}
use mathlib.Core.List.{List, [], ◌++◌, append_assoc, append-nil}
use Prim.Native.Nat.{ℕ, zero, suc, ◌+◌, ◌-◌, ◌≤◌, ◌<◌}
use native.Mathlib.Omega.{arith}
use native.Mathlib.Numerals.{add-one}
use borrow.Author.Tests.{eq-eqb, ne_eqb, eqb-true, eqb-false}
use lib.Dec.{eqb}
use lib.ListN.{length, length-append}
use Rattle.answer.specs.Commands.{command_count, last_place}
use Rattle.answer.specs.Lines.{listed_line, listed_from}
use Rattle.emit.specs.Pieces.{Laid}
use Rattle.emit.proofs.Laying.{laid_after}

-- the lines before command c
unfoldable pub listed_to : ℕ → List ℕ
listed_to zero = []
listed_to (suc c) = listed_to c ++ listed_line (eqb c last_place) c

-- the last command is the one after which none is left
last_by : (b : Bool) (c n : ℕ) → suc c + n ≡ command_count → eqb c last_place ≡ b → eqb c last_place ≡ eqb n 0
last_by true c n h e = e ∙ sym (eq-eqb n 0 (omega (arith, eqb-true c last_place e)))
last_by false c n h e = e ∙ sym (ne_eqb n 0 (λ z. eqb-false c last_place e (omega arith)))

-- the lines before a command and those from it on are all
pub listed_split : (c n : ℕ) → c + n ≡ command_count → listed_to c ++ listed_from n c ≡ listed_from command_count 0
unfolding listed_to listed_from
listed_split zero n h =
    let all : n ≡ command_count = omega arith in
    ap (λ (k : ℕ). listed_from k 0) all
listed_split (suc c) n h =
    append_assoc (listed_to c) (listed_line (eqb c last_place) c) (listed_from n (suc c))
    ∙ ap (λ (b : Bool). listed_to c ++ (listed_line b c ++ listed_from n (suc c))) (last_by (eqb c last_place) c n h refl)
    ∙ listed_split c (suc n) (omega arith)

-- ---- the loop that lays them: what stands is the lines before c

module _ (d : List ℕ) (c : ℕ) {e : List ℕ} {b : ℕ} (l : Laid d 0 e b (listed_to c)) where
  pub line_room : c < command_count → length (listed_from command_count 0) ≤ length d → length e ≡ length d → b + length (listed_line (eqb c last_place) c) ≤ length e
  unfolding listed_to
  line_room h r z =
      let all = ap length (listed_split (suc c) (last_place - c) (omega arith)) in
      omega (arith, l.0, all, length-append (listed_to (suc c)) (listed_from (last_place - c) (suc c)), length-append (listed_to c) (listed_line (eqb c last_place) c))

  pub line_more : {f : List ℕ} {g : ℕ} → Laid e b f g (listed_line (eqb c last_place) c) → Laid d 0 f g (listed_to (c + 1))
  unfolding listed_to
  line_more m = rw (add-one c) (laid_after d 0 (listed_to c) (listed_line (eqb c last_place) c) l m)

pub listed_all : (c : ℕ) → c ≡ command_count → listed_to c ≡ listed_from command_count 0
unfolding listed_from
listed_all c h = ap listed_to h ∙ sym (append-nil (listed_to command_count)) ∙ listed_split command_count 0 refl
