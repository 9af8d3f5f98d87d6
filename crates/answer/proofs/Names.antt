-- The names of the commands: a command is the place of its name, and no other word is one.
-- Assumes nothing.
use mathlib.Core.Path.{◌≡◌, refl, sym, ◌∙◌}
use mathlib.Core.Bool.{Bool, true, false, cond, ◌&&◌, and-eq-true_iff}
use mathlib.Core.List.{List, [], ◌∷◌}
use Prim.Native.Nat.{ℕ, zero, suc, ◌+◌, ◌≤◌, ◌<◌, zero-le}
use native.Mathlib.Nat.{le_of_suc-le-suc, not-suc-le-zero, add-zero, add-suc, suc-add, zero-add}
use native.Mathlib.Omega.{arith}
use borrow.Author.Tests.{eqb-true, leb-true}
use lib.Dec.{leb, eqb}
use lib.ListN.{length, get_or, get_or-eq_default}
use Rattle.text.specs.Ascii.{same_text}
use Rattle.weight.proofs.Allowed.{both_left, both_right}
use Rattle.text.proofs.Named.{same_is}
use Rattle.answer.specs.Commands.{names, name_of, place_in, place_of, command_count}

-- past the end there is no name
pub no_name : (c : ℕ) → length names ≤ c → name_of c ≡ []
no_name c h = get_or-eq_default names [] h

-- ---- what callers use

-- a test of every name, and of no name
abbrev pub every_name : (List ℕ → Bool) → List (List ℕ) → Bool
every_name f [] = f []
every_name f (n ∷ ns) = f n && every_name f ns

-- it is passed at every place, past the end too
pub at_name : (f : List ℕ → Bool) (ns : List (List ℕ)) (c : ℕ) → every_name f ns ≡ true → f (get_or ns c []) ≡ true
at_name f [] c e = e
at_name f (n ∷ ns) zero e = both_left (f n) (every_name f ns) e
at_name f (n ∷ ns) (suc c) e = at_name f ns c (both_right (f n) (every_name f ns) e)

-- no name is over three characters
pub name_short : (c : ℕ) → length (name_of c) ≤ 3
name_short c = leb-true (length (name_of c)) 3 (at_name (λ n. leb (length n) 3) names c refl)

-- one test of the whole table: each name is found at its place, counted from i
abbrev all_found : (List ℕ → ℕ) → List (List ℕ) → ℕ → Bool
all_found f [] i = true
all_found f (n ∷ ns) i = eqb (f n) i && all_found f ns (suc i)

found_in : (f : List ℕ → ℕ) (ns : List (List ℕ)) (i c : ℕ) → all_found f ns i ≡ true → c < length ns → f (get_or ns c []) ≡ i + c
found_in f [] i c t h = absurd (not-suc-le-zero h)
found_in f (n ∷ ns) i zero t h = eqb-true (f n) i ((and-eq-true_iff (eqb (f n) i) (all_found f ns (suc i))).0 t).0 ∙ sym (add-zero i)
found_in f (n ∷ ns) i (suc c) t h =
    found_in f ns (suc i) c ((and-eq-true_iff (eqb (f n) i) (all_found f ns (suc i))).0 t).1 (le_of_suc-le-suc h) ∙ suc-add i c ∙ sym (add-suc i c)

-- a command's name is found as that command
pub name_found : (c : ℕ) → c < command_count → place_of (name_of c) ≡ c
unfolding place_of place_in
name_found c h = found_in place_of names 0 c refl h ∙ zero-add c

-- by the test of the first name, and else by those after it
name_by : (b : Bool) (w n : List ℕ) (ns : List (List ℕ)) → same_text w n ≡ b → (place_in ns w < length ns → get_or ns (place_in ns w) [] ≡ w)
    → cond b 0 (suc (place_in ns w)) < suc (length ns) → get_or (n ∷ ns) (cond b 0 (suc (place_in ns w))) [] ≡ w
name_by true w n ns s later h = sym (same_is w n s)
name_by false w n ns s later h = later (le_of_suc-le-suc h)

name_in_lem : (ns : List (List ℕ)) (w : List ℕ) → place_in ns w < length ns → get_or ns (place_in ns w) [] ≡ w
unfolding place_in
name_in_lem [] w h = absurd (not-suc-le-zero h)
name_in_lem (n ∷ ns) w h = name_by (same_text w n) w n ns refl (name_in_lem ns w) h

-- only a command's own name is found as it
pub found_name : (w : List ℕ) → place_of w < command_count → name_of (place_of w) ≡ w
unfolding place_of
found_name w h = name_in_lem names w h

limit_by : (b : Bool) (p l : ℕ) → p ≤ l → cond b 0 (suc p) ≤ suc l
limit_by true p l h = zero-le
limit_by false p l h = omega arith

limit_in : (ns : List (List ℕ)) (w : List ℕ) → place_in ns w ≤ length ns
unfolding place_in
limit_in [] w = zero-le
limit_in (n ∷ ns) w = limit_by (same_text w n) (place_in ns w) (length ns) (limit_in ns w)

-- a place is at most the number of commands, which is no name's
pub place_limit : (w : List ℕ) → place_of w ≤ command_count
unfolding place_of
place_limit w = limit_in names w
