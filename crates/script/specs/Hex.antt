-- Bytes of two hexadecimal digits each, with one space between them.
-- Assumes nothing.
use Rattle.std.specs.Prelude.{ℕ, suc, ◌+◌, ◌-◌, ◌*◌, ◌%◌, Bool, true, cond, ◌&&◌, List, [], ◌∷◌, Option, Some, None, option_and_then, option_map, is_some, leb, eqb, length, get_or}
use Rattle.weight.specs.Characters.{space}

-- 48 is "0", 65 is "A", 97 is "a"
abbrev pub hex_digit : ℕ → Option ℕ
hex_digit c =
    cond (leb 48 c && leb c 57) (Some (c - 48))
    (cond (leb 65 c && leb c 70) (Some (c - 65 + 10))
    (cond (leb 97 c && leb c 102) (Some (c - 97 + 10)) None))

-- whether a byte can stand at place i: a digit, a digit, a space, again and again
abbrev pub can_stand : ℕ → ℕ → Bool
can_stand i c = cond (eqb (i % 3) 2) (eqb c space) (is_some (hex_digit c))

abbrev pub all_stand : ℕ → List ℕ → Bool
all_stand i [] = true
all_stand i (c ∷ t) = can_stand i c && all_stand (suc i) t

abbrev pub are_hex : List ℕ → Bool
are_hex t = eqb (length t % 3) 2 && all_stand 0 t

abbrev pub two_digits : ℕ → ℕ → Option ℕ
two_digits high low = option_and_then (λ h. option_map (λ l. h * 16 + l) (hex_digit low)) (hex_digit high)

-- the byte whose digits stand at 3 x i; none past the end
abbrev pub hex_byte : List ℕ → ℕ → Option ℕ
hex_byte t i = two_digits (get_or t (i * 3) 0) (get_or t (i * 3 + 1) 0)
