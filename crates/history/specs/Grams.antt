-- Document 02, No. 5, over the lists of calls of demand 3 and from calls and answers alone: where no line was answered M21 A, g is in
-- force at every answer and every weight is told in g. A cabinet that never asks for another unit sees none.
-- Assumes nothing.
use Rattle.std.specs.Prelude.{◌≡◌, Bool, true, not, ◌&&◌, ◌||◌, List, [], ◌∷◌, eqb, ℕ}
use Rattle.model.specs.declared.profile.Profile.{Profile}
use Rattle.text.specs.Ascii.{ascii, same_text}
use Rattle.text.specs.UnitTexts.{unit_text}
use Rattle.weight.specs.declared.units.WeightUnit.{WeightUnit}
use Rattle.weight.specs.declared.units.WeightUnit.TheVariants.{G}
use Rattle.history.specs.Claim.{OverCalls}
use Rattle.history.specs.Tally.{Event, Tally, start_tally, sets_unit, is_weight_answer, is_whole, after_event}

-- no line was answered M21 A
unfoldable pub never_set : List Event → Bool
never_set [] = true
never_set (e ∷ es) = not (sets_unit e.answer) && never_set es

abbrev pub is_grams : WeightUnit → Bool
is_grams u = same_text (unit_text u) (ascii "g")

-- a weight answer ends in g
abbrev pub tells_grams : List ℕ → Bool
tells_grams l = not (is_weight_answer l) || is_whole G l

unfoldable pub stays_in_grams : Profile → Tally → List Event → Bool
stays_in_grams p t [] = true
stays_in_grams p t (e ∷ es) =
    is_grams (after_event p t e).unit
    && (not (eqb e.refusal 0) || tells_grams e.answer)
    && stays_in_grams p (after_event p t e) es

abbrev pub InGrams : Type 0
InGrams = OverCalls (λ p sent es. never_set es ≡ true → stays_in_grams p start_tally es ≡ true)
