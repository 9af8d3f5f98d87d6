-- Document 01, "Weights", how the printed number is written: d decimals, one zero before the point if nothing else stands
-- there, no other leading zeros, no point when d = 0, a minus directly before the first digit only if the number is below
-- zero; and whether it fits ten characters, in the coarse range (document 02, No. 7) nine.
-- Assumes nothing.
use Rattle.std.specs.Prelude.{ℕ, zero, suc, ◌/◌, ◌%◌, ◌^◌, Bool, true, false, cond, ◌&&◌, List, [], ◌∷◌, ◌++◌, leb, ltb, ℤ, pos, negsuc, neg_ℤ, length}
use Rattle.weight.specs.Characters.{minus, point, digit}

-- the last d digits of m
unfoldable pub last_digits : ℕ → ℕ → List ℕ
last_digits zero m = []
last_digits (suc d) m = last_digits d (m / 10) ++ (digit (m % 10) ∷ [])

-- all digits of m, one at least and no leading zero; the count f only ends the recursion, and m is always enough
unfoldable pub digits_in : ℕ → ℕ → List ℕ
digits_in zero m = digit m ∷ []
digits_in (suc f) m = elim (ltb m 10) [ true ↦ digit m ∷ [] | false ↦ digits_in f (m / 10) ++ (digit (m % 10) ∷ []) ]

unfoldable pub digits_of : ℕ → List ℕ
digits_of m = digits_in m m

-- m last places with d decimals
unfoldable pub decimal_of : ℕ → ℕ → List ℕ
decimal_of zero m = digits_of m
decimal_of (suc d) m = digits_of (m / 10 ^ suc d) ++ (point ∷ last_digits (suc d) m)

-- a signed number
unfoldable pub number_text : ℕ → ℤ → List ℕ
number_text d (pos m) = decimal_of d m
number_text d (negsuc m) = minus ∷ decimal_of d (suc m)

unfoldable pub width_of : ℕ → ℤ → ℕ
width_of d n = length (number_text d n)

-- ten characters; in the coarse range the last of them is a space
abbrev pub characters_in : Bool → ℕ
characters_in coarse = cond coarse 9 10

-- 0 to 6 decimals; in the coarse range, which has one fewer than the two or more of a profile, 1 to 5
abbrev pub decimals_fit : Bool → ℕ → Bool
decimals_fit coarse d = cond coarse (leb 1 d && leb d 5) (leb d 6)

unfoldable pub fits_field : Bool → ℕ → ℤ → Bool
fits_field coarse d n = decimals_fit coarse d && leb (width_of d n) (characters_in coarse)

-- ---- a number from its sign and its size

abbrev pub signed : Bool → ℕ → ℤ
signed negative m = cond negative (neg_ℤ (pos m)) (pos m)

-- 0 for a size of over ten digits
unfoldable pub signed_places : Bool → ℕ → ℤ
signed_places negative m = cond (leb 10_000_000_000 m) (pos 0) (signed negative m)
