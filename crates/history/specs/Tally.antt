-- Document 01, "The tally of demand 3", and document 02, No. 3, No. 5 and No. 7. It reads calls and answers alone, never the module's state.
-- Assumes nothing.
use Rattle.std.specs.Prelude.{ℕ, ◌+◌, ◌-◌, ◌*◌, ◌^◌, Bool, true, false, cond, not, ◌&&◌, ◌||◌, List, [], ◌∷◌, ◌++◌, map, Option, Some, None, leb, eqb, ℤ, pos, nat_abs, ◌-ℤ◌, ◌*ℤ◌, length, take, drop}
use Rattle.model.specs.declared.profile.Profile.{Profile}
use Rattle.model.specs.Profiles.{resolution_of}
use Rattle.line.specs.Judging.{unit_in, is_coded, unit_of}
use Rattle.line.specs.Unbounded.{Marked, ends_unbounded, after_marked, finished_line, byte_in, any_faulty}
use Rattle.text.specs.Searching.{before_space, after_space}
use Rattle.text.specs.Ascii.{ascii, same_text}
use Rattle.weight.specs.declared.units.WeightUnit.{WeightUnit}
use Rattle.weight.specs.declared.units.WeightUnit.TheVariants.{G}
use Rattle.weight.specs.declared.rounding.Resolution.{Resolution}
use Rattle.weight.specs.Units.{nanograms_of}
use Rattle.text.specs.UnitTexts.{unit_text}
use Rattle.weight.specs.Ranges.{resolution_at}
use Rattle.weight.specs.Rounding.{half_up, step_femtograms, exact_femtograms}
use Rattle.text.specs.Reading.{read_field, is_decimal, decimals_in, value_in}
use Rattle.text.specs.Typed.{preset_resolution}
use Rattle.weight.specs.Presets.{preset_femtograms}
use Rattle.text.specs.declared.reading.FieldNumber.{FieldNumber}

-- ---- what it is fed: each call's byte or sample with its mark, its refusal number and its answer

pub data Input : Type 0 where
  byte_is : Marked → Input
  sample_is : ℤ → Bool → Input

pub record Event : Type 0 where
  pub input : Input
  pub refusal : ℕ
  pub answer : List ℕ

-- ---- what it keeps

-- the latest load, if there is one
pub data Latest : Type 0 where
  none : Latest
  load : ℤ → Latest

-- the line so far (the newest byte first), the latest load, zero in micrograms, tare in femtograms (so that a typed one is not
-- rounded to the microgram), whether the tare is typed, and the unit in force (No. 5)
pub record Tally : Type 0 where
  pub line : List Marked
  pub latest : Latest
  pub zero : ℤ
  pub tare : ℤ
  pub typed : Bool
  pub unit : WeightUnit

-- it starts with an empty line, no load, zero 0, tare 0, not typed, and g
abbrev pub start_tally : Tally
start_tally = record { line = []; latest = none; zero = pos 0; tare = pos 0; typed = false; unit = G }

-- the fine resolution of the unit in force
unfoldable pub in_force : Profile → Tally → Resolution
in_force p t = resolution_of p t.unit

abbrev pub with_tare_of : Tally → ℤ → Bool → Tally
with_tare_of t tare typed = record { line = t.line; latest = t.latest; zero = t.zero; tare = tare; typed = typed; unit = t.unit }

abbrev pub with_zero_of : Tally → ℤ → Tally
with_zero_of t z = record { line = t.line; latest = t.latest; zero = z; tare = pos 0; typed = false; unit = t.unit }

abbrev pub with_unit_of : Tally → WeightUnit → Tally
with_unit_of t u = record { line = t.line; latest = t.latest; zero = t.zero; tare = t.tare; typed = t.typed; unit = u }

abbrev pub chosen_tally : Bool → Tally → Tally → Tally
chosen_tally true a b = a
chosen_tally false a b = b

-- ---- A sample: its load becomes the latest load. A byte joins the line with its mark

abbrev pub taken : Tally → Input → Tally
taken t (byte_is m) =
    record { line = after_marked t.line m; latest = t.latest; zero = t.zero; tare = t.tare; typed = t.typed; unit = t.unit }
taken t (sample_is z stable) = record { line = t.line; latest = load z; zero = t.zero; tare = t.tare; typed = t.typed; unit = t.unit }

-- whether this call ended a line, and what that line held
abbrev pub ends : Tally → Input → Bool
ends t (byte_is m) = ends_unbounded t.line m
ends t (sample_is z stable) = false

abbrev pub ended : Tally → Input → List Marked
ended t (byte_is m) = finished_line t.line
ended t (sample_is z stable) = []

-- the bytes of the line that this call ended
abbrev pub ended_text : Tally → Input → List ℕ
ended_text t i = map byte_in (ended t i)

-- ---- If this call ended a line that is the one good byte @: tare 0

abbrev pub is_reset_line : List Marked → Bool
is_reset_line f = not (any_faulty f) && same_text (map byte_in f) (ascii "@")

unfoldable pub after_reset : Tally → Input → Tally → Tally
after_reset before i t = chosen_tally (ends before i && is_reset_line (ended before i)) (with_tare_of t (pos 0) false) t

-- ---- A command is granted by an answer that begins as follows

abbrev pub begins : List ℕ → List ℕ → Bool
begins [] l = true
begins (c ∷ h) [] = false
begins (c ∷ h) (b ∷ l) = eqb c b && begins h l

-- Z A, ZI S, ZI D
abbrev pub grants_zero : List ℕ → Bool
grants_zero l = begins (ascii "Z A") l || begins (ascii "ZI S") l || begins (ascii "ZI D") l

-- T S, TI S, TI D
abbrev pub grants_tare : List ℕ → Bool
grants_tare l = begins (ascii "T S") l || begins (ascii "TI S") l || begins (ascii "TI D") l

-- TAC A
abbrev pub grants_clear : List ℕ → Bool
grants_clear l = begins (ascii "TAC A") l

-- TA A
abbrev pub tells_tare : List ℕ → Bool
tells_tare l = begins (ascii "TA A") l

-- S S, S D
abbrev pub tells_net : List ℕ → Bool
tells_net l = begins (ascii "S S") l || begins (ascii "S D") l

-- + and - of the commands that judge a load
abbrev pub tells_limit : List ℕ → Bool
tells_limit l =
    begins (ascii "S +") l
    || begins (ascii "S -") l
    || begins (ascii "Z +") l
    || begins (ascii "Z -") l
    || begins (ascii "ZI +") l
    || begins (ascii "ZI -") l
    || begins (ascii "T +") l
    || begins (ascii "T -") l
    || begins (ascii "TI +") l
    || begins (ascii "TI -") l

-- the latest load; 0 where there is none, which `loaded` excludes
abbrev pub latest_of : Tally → ℤ
latest_of t = elim t.latest [ none ↦ pos 0 | load z ↦ z ]

abbrev pub is_loaded : Tally → Bool
is_loaded t = elim t.latest [ none ↦ false | load z ↦ true ]

-- ---- the weight that decides the range (No. 7)

-- the latest load less zero
abbrev pub gross_in : Tally → ℤ
gross_in t = latest_of t -ℤ t.zero

-- the tare to the nearest microgram, a tie upwards; only a typed one is not one of whole micrograms
abbrev pub rounded_tare : Tally → ℕ
rounded_tare t = half_up (nat_abs t.tare) 1_000_000_000

-- gross after S S and S D, the tare after the others
abbrev pub deciding_weight : Tally → List ℕ → ℤ
deciding_weight t l = cond (tells_net l) (gross_in t) (pos (rounded_tare t))

-- the resolution in force at an answer: the step is that of the range, whatever the answer's last place holds
abbrev pub in_force_at : Profile → Tally → List ℕ → Resolution
in_force_at p t l = resolution_at p.fine (in_force p t) (deciding_weight t l)

-- ---- a typed tare

-- the number in the line TA number unit
abbrev pub typed_text : List ℕ → List ℕ
typed_text l = before_space (after_space l)

-- the decimal that it is rounded to, exact in femtograms (No. 3); above F it is one of coarse steps, if F is below C (No. 7)
abbrev pub typed_tare : Profile → Resolution → List ℕ → ℤ
typed_tare p r l =
    let t = typed_text l in
    pos (preset_femtograms (preset_resolution p.capacity p.fine r t) (decimals_in t) (value_in t))

-- TA A to a line other than TA
abbrev pub grants_typed : Tally → Input → List ℕ → Bool
grants_typed t i l = tells_tare l && not (same_text (ended_text t i) (ascii "TA"))

-- M21 A, and not the query's longer line
abbrev pub sets_unit : List ℕ → Bool
sets_unit l = same_text l (ascii "M21 A\r\n")

-- the good line M21 0 code, and the unit of its code
abbrev pub is_unit_line : List Marked → Bool
is_unit_line f =
    not (any_faulty f) && (same_text (before_space (map byte_in f)) (ascii "M21") && is_coded (unit_in (after_space (map byte_in f))))

abbrev pub unit_set : List ℕ → WeightUnit
unit_set l = unit_of (unit_in (after_space l))

-- the unit is set by the last M21 0 code that was answered M21 A
abbrev pub grants_unit : Tally → Input → List ℕ → Bool
grants_unit t i l = sets_unit l && is_unit_line (ended t i)

unfoldable pub granted : Profile → Tally → Input → List ℕ → Tally → Tally
granted p before i l t =
    chosen_tally (grants_zero l) (with_zero_of t (latest_of t))
    (chosen_tally (grants_tare l) (with_tare_of t (exact_femtograms (latest_of t -ℤ t.zero)) false)
    (chosen_tally (grants_clear l) (with_tare_of t (pos 0) false)
    (chosen_tally (grants_typed before i l) (with_tare_of t (typed_tare p (in_force p before) (ended_text before i)) true)
    (chosen_tally (grants_unit before i l) (with_unit_of t (unit_set (ended_text before i))) t))))

-- ---- Then a weight answer is compared

abbrev pub is_weight_answer : List ℕ → Bool
is_weight_answer l = tells_net l || grants_tare l || tells_tare l

-- the identification and the status, up to the second space
abbrev pub head_length : List ℕ → ℕ
head_length l = length (before_space l) + 1 + length (before_space (after_space l))

-- its ten characters, and what follows them
abbrev pub ten_of : List ℕ → List ℕ
ten_of l = take 10 (drop (head_length l + 1) l)

abbrev pub rest_of : List ℕ → List ℕ
rest_of l = drop (head_length l + 11) l

-- identification, space, status, space, ten characters, space, the unit, CR LF
abbrev pub is_whole : WeightUnit → List ℕ → Bool
is_whole u l = same_text (rest_of l) (ascii " " ++ unit_text u ++ ascii "\r\n")

-- a number of last places with d decimals, in femtograms
abbrev pub number_femtograms : WeightUnit → ℕ → ℤ → ℤ
number_femtograms u d n = n *ℤ pos (nanograms_of u * 10 ^ (6 - d))

-- the exact weight: the latest load - zero - tare after S S and S D, the tare after the others
abbrev pub exact_weight : Tally → List ℕ → ℤ
exact_weight t l = cond (tells_net l) (exact_femtograms (latest_of t -ℤ t.zero) -ℤ t.tare) t.tare

-- half a step, plus half a microgram if the tare is typed; doubled
abbrev pub allowance : Resolution → Tally → ℕ
allowance r t = step_femtograms r + cond t.typed 1_000_000_000 0

-- the last place is a space exactly in the coarse range
abbrev pub in_same_range : Bool → Bool → Bool
in_same_range coarse c = cond coarse c (not c)

-- number and exact weight differ by at most that
abbrev pub compares : Resolution → Tally → List ℕ → Option FieldNumber → Bool
compares r t l (Some n) =
    in_same_range r.coarse n.coarse && leb (2 * nat_abs (number_femtograms r.unit n.decimals n.places.0 -ℤ exact_weight t l)) (allowance r t)
compares r t l None = false

-- an answer that begins like a weight and is none is refused
unfoldable pub weight_holds : Resolution → Tally → List ℕ → Bool
weight_holds r t l = not (is_weight_answer l) || (is_whole r.unit l && compares r t l (read_field (ten_of l)))

-- No answer that needs the latest load comes before one
unfoldable pub load_holds : Tally → List ℕ → Bool
load_holds t l = not (grants_zero l || grants_tare l || tells_net l || tells_limit l) || is_loaded t

-- TA A comes at the end of a line, and one that sets a tare has a number in it
unfoldable pub typed_holds : Tally → Input → List ℕ → Bool
typed_holds t i l =
    not (tells_tare l) || (ends t i && (not (grants_typed t i l) || is_decimal (typed_text (ended_text t i))))

-- M21 A comes at the end of a line M21 0 code
unfoldable pub unit_holds : Tally → Input → List ℕ → Bool
unit_holds t i l = not (sets_unit l) || (ends t i && is_unit_line (ended t i))

-- ---- one call, and a list of them

-- the tally after a call that was not refused; the resolution in force before it rounds a typed tare
unfoldable pub tallied : Profile → Tally → Input → List ℕ → Tally
tallied p t i l = granted p t i l (after_reset t i (taken t i))

unfoldable pub holds : Profile → Tally → Input → List ℕ → Bool
holds p t i l =
    load_holds (taken t i) l && typed_holds t i l && unit_holds t i l && weight_holds (in_force_at p (tallied p t i l) l) (tallied p t i l) l

-- A refused call changes nothing in it
unfoldable pub after_event : Profile → Tally → Event → Tally
after_event p t e = chosen_tally (eqb e.refusal 0) (tallied p t e.input e.answer) t

unfoldable pub event_holds : Profile → Tally → Event → Bool
event_holds p t e = not (eqb e.refusal 0) || holds p t e.input e.answer

-- the tally accepts a list of calls
unfoldable pub accepts : Profile → Tally → List Event → Bool
accepts p t [] = true
accepts p t (e ∷ es) = event_holds p t e && accepts p (after_event p t e) es
