-- The names table: it is in byte order, has each name once and no others, and a word is found in it by its number.
-- Assumes nothing.
use mathlib.Core.Path.{◌≡◌, refl, sym, ap, ◌∙◌}
use mathlib.Core.Bool.{Bool, true, false, false≢true}
use mathlib.Core.List.{List, [], ◌∷◌, ◌++◌, map}
use mathlib.Core.Logic.{⊎_elim}
use Prim.Native.Nat.{ℕ, zero, suc, ◌≤◌, ◌<◌}
use native.Mathlib.Nat.{le_of_suc-le-suc, not-suc-le-zero, eq-or-lt_of_le}
use native.Mathlib.Omega.{arith}
use borrow.Author.Tests.{le-leb, lt-leb, le-ltb, ltb-true, leb-true, leb-false, eq-eqb}
use lib.Dec.{leb, ltb}
use lib.ListN.{length, get_or, get_or-map, get_or-eq_default}
use lib.Seq.{ext_get_or}
use denote.Ref.{Bor}
use Rattle.std.specs.Option.{MatchOption}
use Rattle.std.specs.Prelude.{Option, Some, None}
use Rattle.std.specs.List.{AllWithin, HoldsAt}
use Rattle.text.specs.Ascii.{ascii, same_text}
use Rattle.text.proofs.Named.{same_is}
use Rattle.weight.proofs.Allowed.{both_left, both_right, either_holds}
use Rattle.answer.specs.declared.name_table.Name.{Name}
use Rattle.answer.specs.Commands.{names, name_of, place_in, place_of, command_count}
use Rattle.answer.specs.NameTable.{NameRow, name_row, name_rows, every, before, is_before, rises, is_named, has_row, exactly_names, number_of, word_number}
use Rattle.answer.proofs.Names.{name_found, found_name, place_limit}

-- ---- the rules of the table, two computed tests

pub in_order : rises name_rows ≡ true
in_order = refl

pub exactly_names_lem : exactly_names name_rows ≡ true
exactly_names_lem = refl

-- ---- what they say of each row and each name

-- past the end there is none
abbrev pub no_row : NameRow
no_row = name_row "" 0

abbrev row_in : List NameRow → ℕ → NameRow
row_in rs i = get_or rs i no_row

abbrev pub row_at : ℕ → NameRow
row_at i = row_in name_rows i

every_at : {A : Type 0} (d : A) (f : A → Bool) (l : List A) (i : ℕ) → every f l ≡ true → i < length l → f (get_or l i d) ≡ true
every_at d f [] i e h = absurd (not-suc-le-zero h)
every_at d f (x ∷ l) zero e h = both_left (f x) (every f l) e
every_at d f (x ∷ l) (suc i) e h = every_at d f l i (both_right (f x) (every f l) e) (le_of_suc-le-suc h)

rises_at : (rs : List NameRow) (i j : ℕ) → rises rs ≡ true → i < j → j < length rs → before (row_in rs i).name (row_in rs j).name ≡ true
rises_at [] i j e h k = absurd (not-suc-le-zero k)
rises_at (r ∷ rs) i zero e h k = absurd (not-suc-le-zero h)
rises_at (r ∷ rs) zero (suc j) e h k =
    every_at no_row (is_before r) rs j (both_left (every (is_before r) rs) (rises rs) e) (le_of_suc-le-suc k)
rises_at (r ∷ rs) (suc i) (suc j) e h k =
    rises_at rs i j (both_right (every (is_before r) rs) (rises rs) e) (le_of_suc-le-suc h) (le_of_suc-le-suc k)

before_self : (w : List ℕ) → before w w ≡ false
before_self [] = refl
before_self (a ∷ w) = rw (le-ltb a a (omega arith), eq-eqb a a refl) (before_self w)

-- a name comes before that of every later row
pub rows_rise : (i j : ℕ) → i < j → j < length name_rows → before (row_at i).name (row_at j).name ≡ true
rows_rise i j = rises_at name_rows i j in_order

-- each once: no later row has the same name
pub each_once : (i j : ℕ) → i < j → j < length name_rows → (row_at i).name ≡ (row_at j).name → ⊥
each_once i j h k e =
    false≢true (sym (before_self (row_at i).name) ∙ ap (before (row_at i).name) e ∙ rows_rise i j h k)

-- each row has the name of a command, the one at its place
pub row_named : (i : ℕ) → i < length name_rows → ((row_at i).place < command_count) × ((row_at i).name ≡ name_of (row_at i).place)
row_named i h =
    let r = row_at i in
    let named : is_named r ≡ true = every_at no_row is_named name_rows i (both_left (every is_named name_rows) (every (has_row name_rows) names) exactly_names_lem) h in (
      ltb-true r.place command_count (both_left (ltb r.place command_count) (same_text r.name (name_of r.place)) named),
      same_is r.name (name_of r.place) (both_right (ltb r.place command_count) (same_text r.name (name_of r.place)) named),
    )

has_at : (rs : List NameRow) (w : List ℕ) → has_row rs w ≡ true → (i : ℕ) × (i < length rs) × ((row_in rs i).name ≡ w)
has_at [] w e = absurd (false≢true e)
has_at (r ∷ rs) w e =
    ⊎_elim
    (λ here. (0, omega arith, same_is r.name w here))
    (λ later. let at = has_at rs w later in (suc at.0, omega (arith, at.1), at.2))
    (either_holds (same_text r.name w) (has_row rs w) e)

-- each command's name has a row
pub name_row_lem : (c : ℕ) → c < command_count → (i : ℕ) × (i < length name_rows) × ((row_at i).name ≡ name_of c)
name_row_lem c h =
    has_at name_rows (name_of c)
    (every_at [] (has_row name_rows) names c (both_right (every is_named name_rows) (every (has_row name_rows) names) exactly_names_lem) h)

-- words that only look like a name have none, nor has the empty word
pub no_names : (place_of (ascii "SIRX") ≡ command_count) × (place_of (ascii "S" ++ (0 ∷ [])) ≡ command_count) × (place_of [] ≡ command_count)
unfolding place_of place_in
no_names = (refl, refl, refl)

-- ---- a word's number

module _ (w : List ℕ) where
  short_number : length w ≤ 3 → word_number w ≡ number_of (length w) (get_or w 0 0) (get_or w 1 0) (get_or w 2 0)
  unfolding word_number
  short_number h = rw (le-leb (length w) 3 h)

  long_number : 3 < length w → word_number w ≡ 0
  unfolding word_number
  long_number h = rw (lt-leb (length w) 3 h)

  past : (k : ℕ) → length w ≤ k → get_or w k 0 ≡ 0
  past k h = get_or-eq_default w 0 h

  pub one_byte : length w ≡ 1 → number_of 1 (get_or w 0 0) 0 0 ≡ word_number w
  one_byte h = rw (short_number (omega arith), past 1 (omega arith), past 2 (omega arith), h)

  pub two_bytes : length w ≡ 2 → number_of 2 (get_or w 0 0) (get_or w 1 0) 0 ≡ word_number w
  two_bytes h = rw (short_number (omega arith), past 2 (omega arith), h)

  pub three_bytes : length w ≡ 3 → number_of 3 (get_or w 0 0) (get_or w 1 0) (get_or w 2 0) ≡ word_number w
  three_bytes h = rw (short_number (omega arith), h)

-- any other word has the number 0
pub no_number_lem : (w : List ℕ) → (length w ≡ 1 → ⊥) → (length w ≡ 2 → ⊥) → (length w ≡ 3 → ⊥) → 0 ≡ word_number w
unfolding word_number
no_number_lem [] x y z = refl
no_number_lem (a ∷ []) x y z = absurd (x refl)
no_number_lem (a ∷ b ∷ []) x y z = absurd (y refl)
no_number_lem (a ∷ b ∷ c ∷ []) x y z = absurd (z refl)
no_number_lem (a ∷ b ∷ c ∷ d ∷ w) x y z = sym (long_number (a ∷ b ∷ c ∷ d ∷ w) (omega arith))

-- its first three cells are bytes
abbrev OfBytes : List ℕ → Type 0
OfBytes w = (get_or w 0 0 < 256) × (get_or w 1 0 < 256) × (get_or w 2 0 < 256)

-- words of at most three bytes with the same number are the same word
same_word : (v w : List ℕ) → length v ≤ 3 → length w ≤ 3 → OfBytes v → OfBytes w → word_number v ≡ word_number w → v ≡ w
same_word v w h k p q e =
    let same = sym (short_number v h) ∙ e ∙ short_number w k in
    ext_get_or 0 v w (omega (arith, same, p, q)) (at (omega (arith, same, p, q)) (omega (arith, same, p, q)) (omega (arith, same, p, q)))
  where
    at : get_or v 0 0 ≡ get_or w 0 0 → get_or v 1 0 ≡ get_or w 1 0 → get_or v 2 0 ≡ get_or w 2 0 → (i : ℕ) → i < length v → get_or v i 0 ≡ get_or w i 0
    at x y z zero l = x
    at x y z (suc zero) l = y
    at x y z (suc (suc zero)) l = z
    at x y z (suc (suc (suc i))) l = absurd (omega arith)

-- only a word of at most three bytes has another number than 0
number_short : (w : List ℕ) → 0 < word_number w → length w ≤ 3
number_short w h = go (leb (length w) 3) refl
  where
    go : (b : Bool) → leb (length w) 3 ≡ b → length w ≤ 3
    go true e = leb-true (length w) 3 e
    go false e = absurd (omega (arith, long_number w (leb-false (length w) 3 e)))

-- no name has the number 0
name_number : (i : ℕ) → i < length name_rows → 0 < word_number (row_at i).name
unfolding word_number
name_number i h = ltb-true 0 (word_number (row_at i).name) (every_at no_row (λ r. ltb 0 (word_number r.name)) name_rows i refl h)

-- the bytes of the names are below 256, by a test for each place
byte_at : (k : ℕ) → every (λ r. ltb (get_or r.name k 0) 256) name_rows ≡ true → (i : ℕ) → i < length name_rows → get_or (row_at i).name k 0 < 256
byte_at k e i h = ltb-true (get_or (row_at i).name k 0) 256 (every_at no_row (λ r. ltb (get_or r.name k 0) 256) name_rows i e h)

-- a word with a name's number is that name
number_name
    : (w : List ℕ)
    → ((k : ℕ) → get_or w k 0 < 256)
    → (i : ℕ)
    → i < length name_rows
    → word_number (row_at i).name ≡ word_number w
    → (row_at i).name ≡ w
number_name w bytes i h e =
    let n = (row_at i).name in
    let some : 0 < word_number n = name_number i h in
    same_word n w (number_short n some) (number_short w (omega arith))
    (byte_at 0 refl i h, byte_at 1 refl i h, byte_at 2 refl i h)
    (bytes 0, bytes 1, bytes 2)
    e

-- ---- the table as the code has it

-- a row as a number and a place
abbrev code_of : NameRow → Name
code_of r = record { 0 = word_number r.name; 1 = r.place }

abbrev pub codes : List Name
codes = map code_of name_rows

abbrev pub code_in : List Name → ℕ → Name
code_in table i = get_or table i (record { 0 = 0; 1 = 0 })

code_row : (i : ℕ) → code_in codes i ≡ code_of (row_at i)
unfolding word_number
code_row i = get_or-map code_of name_rows i no_row

module _ (w : List ℕ) (key : ℕ) (e : key ≡ word_number w) where
  -- the row with the word's number has its place
  pub found_row : ((k : ℕ) → get_or w k 0 < 256) → (i : ℕ) → i < length name_rows → (code_in codes i).0 ≡ key → (code_in codes i).1 ≡ place_of w
  found_row bytes i h found =
      let code = code_row i in
      let name : (row_at i).name ≡ w = number_name w bytes i h (sym (sym e ∙ sym found ∙ ap (λ (n : Name). n.0) code)) in
      let place : place_of w ≡ (row_at i).place = ap place_of (sym name ∙ (row_named i h).1) ∙ name_found (row_at i).place (row_named i h).0 in
      ap (λ (n : Name). n.1) code ∙ sym place

  -- a word whose number no row has is no name
  pub no_row_found : ((i : ℕ) → i < length name_rows → (code_in codes i).0 ≡ key → ⊥) → command_count ≡ place_of w
  no_row_found none =
      ⊎_elim
      (λ last. sym last)
      (λ h.
      let at = name_row_lem (place_of w) h in
      let word : w ≡ (row_at at.0).name = sym (at.2 ∙ found_name w h) in
      absurd (none at.0 at.1 (sym (e ∙ ap word_number word ∙ sym (ap (λ (n : Name). n.0) (code_row at.0))))))
      (eq-or-lt_of_le (place_limit w))

  -- the place by the first row with the word's number, if there is one
  pub found_by
      : ((k : ℕ) → get_or w k 0 < 256)
      → (r : Option (Bor Name)) (place : ℕ) {Q : Bor Name → Type 0}
      → MatchOption r (AllWithin (λ n. n.0 ≡ key → ⊥) codes 0 (length codes)) (λ x. (x.now.0 ≡ key) × (i : ℕ) × (i < length codes) × HoldsAt (λ y. y ≡ x.now) codes i × AllWithin (λ n. n.0 ≡ key → ⊥) codes 0 i)
      → MatchOption r (place ≡ command_count) Q
      → ((x : Bor Name) → Q x → place ≡ x.now.1)
      → place ≡ place_of w
  found_by bytes None place none p of = p ∙ no_row_found (λ i h. none i (record { 0 = 0; 1 = 0 }) (omega arith) h)
  found_by bytes (Some x) place first p of =
      let row : code_in codes first.1 ≡ x.now = first.3 (record { 0 = 0; 1 = 0 }) in
      of x p ∙ sym (ap (λ (n : Name). n.1) row) ∙ found_row bytes first.1 first.2 (ap (λ (n : Name). n.0) row ∙ first.0)
