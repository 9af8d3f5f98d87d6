-- Document 01, "Receiving": a line ends at a good CR followed at once by a good LF. It holds at most 64 bytes before the CR;
-- the rest of a longer one is dropped until its end, though a faulty byte there still counts.
-- Assumes nothing.
use Rattle.std.specs.Prelude.{ℕ, ◌+◌, Bool, true, false, cond, not, ◌&&◌, ◌||◌, List, ltb, eqb, take, set, replicate}
use Rattle.line.specs.declared.receive.Line.{Line}
use Rattle.line.specs.declared.receive.Received.{Received}

abbrev pub line_limit : ℕ
line_limit = 64

abbrev pub carriage_return : ℕ
carriage_return = 13

abbrev pub line_feed : ℕ
line_feed = 10

-- the bytes that the line holds
abbrev pub content_of : Line → List ℕ
content_of l = take l.len l.bytes

-- nothing received; what the cells held does not count
abbrev pub cleared_line : Line → Line
cleared_line l = record { bytes = l.bytes; len = 0; over = false; faulty = false; returned = false }

abbrev pub empty_line : Line
empty_line = record { bytes = replicate line_limit 0; len = 0; over = false; faulty = false; returned = false }

-- a byte, faulty or not, is part of the line
unfoldable pub joined_line : Line → ℕ → Bool → Line
joined_line l b bad =
    let room = ltb l.len line_limit in
    record {
      bytes = cond room (set l.bytes l.len b) l.bytes;
      len = cond room (l.len + 1) l.len;
      over = l.over || not room;
      faulty = l.faulty || bad;
      returned = false;
    }

abbrev pub chosen_line : Bool → Line → Line → Line
chosen_line true a b = a
chosen_line false a b = b

-- a CR that no LF followed is part of the line
unfoldable pub settled_line : Line → Line
settled_line l = chosen_line l.returned (joined_line l carriage_return false) l

-- the same line, with or without a good CR as its last byte
abbrev pub with_return : Line → Bool → Line
with_return l r = record { bytes = l.bytes; len = l.len; over = l.over; faulty = l.faulty; returned = r }

-- a byte that does not end the line: a good CR is kept apart, any other joins it
abbrev pub continued_line : Line → ℕ → Bool → Line
continued_line l b bad =
    chosen_line (not bad && eqb b carriage_return) (with_return (settled_line l) true) (joined_line (settled_line l) b bad)

-- a good LF after a good CR
abbrev pub ends_after : Bool → ℕ → Bool → Bool
ends_after returned b bad = not bad && (returned && eqb b line_feed)

-- it ends the line
abbrev pub ends_line : Line → ℕ → Bool → Bool
ends_line l b bad = ends_after l.returned b bad

unfoldable pub received_byte : Line → ℕ → Bool → Received
received_byte l b bad =
    record { ended = ends_line l b bad; line = chosen_line (ends_line l b bad) (with_return l false) (continued_line l b bad) }
