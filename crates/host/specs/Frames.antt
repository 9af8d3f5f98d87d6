-- The bytes of a line that its guess does not look at: separators, quotes and CR LF. Where the guess can be formed, they alone decide
-- whether its line is the line read (law `framed_confirms`).
-- Assumes nothing.
use Rattle.std.specs.Prelude.{ℕ, ◌+◌, ◌-◌, Bool, false, ◌&&◌, ◌||◌, List, leb, eqb, length, get_or}
use Rattle.answer.specs.Commands.{level_of}
use Rattle.answer.specs.Lines.{line_of}
use Rattle.answer.specs.declared.answer.Answer.{Answer}
use Rattle.answer.specs.declared.answer.Answer.TheVariants.{Nothing, Plain, Weight, ErrorLine, Text, Listed, CommandList, Versions, HostUnit}
use Rattle.weight.specs.Characters.{quote}
use Rattle.text.specs.Searching.{before_space}
use Rattle.weight.specs.Characters.{digit}
use Rattle.text.specs.Ascii.{same_text}

-- CR LF
abbrev pub is_ended : List ℕ → Bool
is_ended l = eqb (get_or l (length l - 2) 0) 13 && eqb (get_or l (length l - 2 + 1) 0) 10

-- the spaces on both sides of the ten characters, after a name of n bytes
abbrev pub weight_frame : ℕ → List ℕ → Bool
weight_frame n l = eqb (get_or l (n + 2) 0) 32 && eqb (get_or l (n + 13) 0) 32

abbrev pub error_frame : List ℕ → Bool
error_frame l = eqb (length l) 4 && eqb (get_or l 0 0) 69

-- a space and a quote from i on, and the quote before CR LF
abbrev pub quote_frame : ℕ → List ℕ → Bool
quote_frame i l = eqb (get_or l i 0) 32 && eqb (get_or l (i + 1) 0) quote && eqb (get_or l (length l - 3) 0) quote

abbrev pub text_frame : List ℕ → Bool
text_frame l = leb 9 (length l) && eqb (get_or l 3 0) 65 && quote_frame 4 l

abbrev pub listed_frame : Bool → ℕ → List ℕ → Bool
listed_frame last c l =
    (last || eqb (get_or l 3 0) 66) && eqb (get_or l 4 0) 32 && eqb (get_or l 5 0) (digit (level_of c)) && quote_frame 6 l

-- A, a space, the zero and a space, before the code of M21's answer
abbrev pub host_unit_frame : List ℕ → Bool
host_unit_frame l = eqb (get_or l 4 0) 65 && eqb (get_or l 5 0) 32 && eqb (get_or l 6 0) 48 && eqb (get_or l 7 0) 32

-- what is guessed stands between them
abbrev pub frame_of : Answer → List ℕ → Bool
frame_of Nothing l = false
frame_of (Plain h) l = is_ended l
frame_of (Weight h n) l = weight_frame (length (before_space l)) l && is_ended l
frame_of (ErrorLine e) l = error_frame l && is_ended l
frame_of (Text c) l = text_frame l && is_ended l
frame_of (Listed last c) l = listed_frame last c l && is_ended l
frame_of CommandList l = false
frame_of Versions l = same_text (line_of Versions l) l
frame_of (HostUnit u) l = host_unit_frame l && is_ended l
