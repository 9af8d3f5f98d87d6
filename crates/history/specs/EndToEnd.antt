-- End to end, over the lists of calls of demand 3: each line of each answer that the device sends, power-on's own included, is read by
-- the host's reader, and the value that the reader hands back for a weight is as near to the exact weight as demand 3 asks of the
-- sent one.
-- Assumes nothing.
use Rattle.std.specs.Prelude.{ℕ, ◌*◌, ◌≡◌, Bool, true, false, not, ◌&&◌, ◌||◌, List, [], ◌∷◌, reverse, leb, eqb, nat_abs, ◌-ℤ◌, Result, Ok, Err}
use Rattle.answer.specs.declared.answer.Answer.{Answer}
use Rattle.answer.specs.declared.answer.Answer.TheVariants.{Nothing, Plain, Weight, ErrorLine, Text, Listed, CommandList, Versions, HostUnit}
use Rattle.model.specs.declared.profile.Profile.{Profile}
use Rattle.history.specs.Claim.{OverCalls}
use Rattle.history.specs.Tally.{Event, Tally, start_tally, in_force_at, in_same_range, number_femtograms, exact_weight, allowance, tallied, after_event}
use Rattle.host.specs.declared.reader.ReadLine.{ReadLine}
use Rattle.host.specs.declared.refusal.Refusal.{Refusal}
use Rattle.host.specs.Reads.{read_line}
use Rattle.text.specs.Ascii.{same_text}
use Rattle.weight.specs.declared.rounding.Resolution.{Resolution}
use Rattle.text.specs.UnitTexts.{unit_text}

-- ---- an answer is split after every CR LF, a last unfinished piece included

abbrev pub ends_with_return : List ℕ → Bool
ends_with_return [] = false
ends_with_return (c ∷ l) = eqb c 13

-- acc is the piece so far, its newest byte first
unfoldable pub pieces_after : List ℕ → List ℕ → List (List ℕ)
pieces_after [] [] = []
pieces_after (b ∷ acc) [] = reverse (b ∷ acc) ∷ []
pieces_after acc (c ∷ l) =
    elim (eqb c 10 && ends_with_return acc) [ true ↦ reverse (c ∷ acc) ∷ pieces_after [] l | false ↦ pieces_after (c ∷ acc) l ]

unfoldable pub pieces_of : List ℕ → List (List ℕ)
pieces_of l = pieces_after [] l

-- ---- what the reader hands back

-- the value of a weight may be as far off as the sent one
abbrev pub value_allowance : Resolution → Tally → ℕ
value_allowance r t = allowance r t

-- of a weight: the unit and the range in force, and a value within half a step (and half a microgram if the tare is typed) of the exact
-- weight; of what M21 tells: the unit in force
abbrev pub value_holds : Resolution → Tally → List ℕ → Answer → Bool
value_holds r t l Nothing = true
value_holds r t l (Plain h) = true
value_holds r t l (Weight h n) =
    in_same_range r.coarse n.coarse
    && same_text (unit_text n.unit) (unit_text r.unit)
    && leb (2 * nat_abs (number_femtograms r.unit n.decimals n.places.0 -ℤ exact_weight t l)) (value_allowance r t)
value_holds r t l (ErrorLine e) = true
value_holds r t l (Text c) = true
value_holds r t l (Listed last c) = true
value_holds r t l CommandList = true
value_holds r t l Versions = true
value_holds r t l (HostUnit u) = same_text (unit_text u) (unit_text r.unit)

abbrev pub piece_holds : Profile → Tally → List ℕ → Result ReadLine Refusal → Bool
piece_holds p t l (Ok read) = value_holds (in_force_at p t l) t l read.answer
piece_holds p t l (Err refusal) = false

unfoldable pub pieces_hold : Profile → Tally → List (List ℕ) → Bool
pieces_hold p t [] = true
pieces_hold p t (l ∷ ls) = piece_holds p t l (read_line l) && pieces_hold p t ls

-- ---- a list of calls

unfoldable pub host_accepts : Profile → Tally → List Event → Bool
host_accepts p t [] = true
host_accepts p t (e ∷ es) =
    let after = tallied p t e.input e.answer in
    (not (eqb e.refusal 0) || pieces_hold p after (pieces_of e.answer))
    && host_accepts p (after_event p t e) es

-- what power-on sent is read too
abbrev pub EndToEnd : Type 0
EndToEnd = OverCalls (λ p sent es. (pieces_hold p start_tally (pieces_of sent) && host_accepts p start_tally es) ≡ true)
