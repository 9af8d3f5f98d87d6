-- What a line of the script asks for; none for every other line. The README has its words.
-- Assumes nothing.
use Rattle.std.specs.Prelude.{ℕ, ◌+◌, ◌-◌, ◌/◌, Bool, true, false, cond, ◌&&◌, ◌||◌, List, Option, Some, None, option_map, unwrap_or, ltb, eqb, length, get_or, drop}
use Rattle.weight.specs.Characters.{space}
use Rattle.text.specs.Ascii.{ascii, same_text}
use Rattle.text.specs.Searching.{has_byte}
use Rattle.script.specs.declared.order.Order.{Order}
use Rattle.script.specs.declared.order.Order.TheVariants.{Nothing, On, State, Numbers, Fine, Unit, Text, Room, Bytes, Buffer, Sample}
use Rattle.script.specs.Hex.{are_hex, hex_byte}
use Rattle.script.specs.Marked.{are_marked}
use Rattle.script.specs.Numbers.{number_up_to, load_of}
use Rattle.script.specs.Settings.{word_number, numbers_in, unit_numbers_in, text_fits}
use Rattle.script.specs.Words.{first_word, after_word, spaces_in}

-- ---- the lines that set

abbrev pub numbers_order : List ℕ → Option Order
numbers_order rest = option_map Numbers (numbers_in rest)

-- F (document 02, No. 7)
abbrev pub fine_order : List ℕ → Option Order
fine_order rest = option_map Fine (word_number rest)

abbrev pub unit_order : List ℕ → Option Order
unit_order rest = option_map Unit (unit_numbers_in rest)

abbrev pub text_order : List ℕ → Option Order
text_order rest = cond (text_fits rest) (Some Text) None

abbrev pub room_order : List ℕ → Option Order
room_order rest = option_map Room (number_up_to 4096 rest)

-- ---- the lines that call a module that is on: a letter, a space and the rest

-- n bytes of two digits have n - 1 spaces between them
abbrev pub hex_order : Bool → List ℕ → Option Order
hex_order faulty rest = cond (are_hex rest) (Some (Bytes (length rest / 3 + 1) faulty)) None

abbrev pub load_order : Bool → List ℕ → Option Order
load_order stable rest = option_map (λ load. Sample load stable) (load_of rest)

-- b, f, >, s and u; the bytes of a command are as many as those of its line, with CR LF for the arrow and the space
abbrev pub call_order : List ℕ → Option Order
call_order l =
    cond (eqb (get_or l 0 0) 98) (hex_order false (drop 2 l))
    (cond (eqb (get_or l 0 0) 102) (hex_order true (drop 2 l))
    (cond (eqb (get_or l 0 0) 62) (Some (Bytes (length l) false))
    (cond (eqb (get_or l 0 0) 115) (load_order true (drop 2 l))
    (cond (eqb (get_or l 0 0) 117) (load_order false (drop 2 l)) None))))

-- ---- the lines that lend a module that is on a whole buffer: w, w- or w+, and a word a byte

-- as many marks as n bytes, one fewer or one more
abbrev pub lent_order : List ℕ → ℕ → Option Order
lent_order name n =
    cond (same_text name (ascii "w")) (Some (Buffer n n))
    (cond (same_text name (ascii "w-")) (cond (ltb n 1) None (Some (Buffer n (n - 1))))
    (cond (same_text name (ascii "w+")) (Some (Buffer n (n + 1))) None))

-- a line without a space has no bytes
abbrev pub buffer_order : List ℕ → Option Order
buffer_order l = cond (are_marked (spaces_in l) (after_word l)) (lent_order (first_word l) (spaces_in l)) None

-- ---- any line

-- by its first word
abbrev pub named_order : Bool → List ℕ → Option Order
named_order on l =
    cond (same_text (first_word l) (ascii "profile")) (numbers_order (after_word l))
    (cond (same_text (first_word l) (ascii "unit")) (unit_order (after_word l))
    (cond (same_text (first_word l) (ascii "text")) (text_order (after_word l))
    (cond (same_text (first_word l) (ascii "room")) (room_order (after_word l))
    (cond (same_text (first_word l) (ascii "fine")) (fine_order (after_word l))
    (cond (on && eqb (length (first_word l)) 1) (call_order l) None)))))

-- an empty line or a comment
abbrev pub is_passed_over : List ℕ → Bool
is_passed_over l = ltb (length l) 1 || eqb (get_or l 0 0) 35

-- on: whether a power-on was granted. 119 is "w", with which no other line that calls or sets begins
abbrev pub order_of : Bool → List ℕ → Option Order
order_of on l =
    cond (is_passed_over l) (Some Nothing)
    (cond (same_text l (ascii "on")) (Some On)
    (cond (on && same_text l (ascii "state")) (Some State)
    (cond (on && eqb (get_or l 0 0) 119) (buffer_order l)
    (cond (has_byte space l) (named_order on l) None))))

-- ---- the bytes that a line of b, f or > sends

-- the rest of the line, then CR and LF
abbrev pub command_byte : List ℕ → ℕ → ℕ
command_byte rest i = cond (ltb i (length rest)) (get_or rest i 0) (cond (eqb i (length rest)) 13 10)

abbrev pub sent_byte : List ℕ → ℕ → ℕ
sent_byte l i = cond (eqb (get_or l 0 0) 62) (command_byte (drop 2 l) i) (unwrap_or (hex_byte (drop 2 l) i) 0)
