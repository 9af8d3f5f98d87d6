-- What the followers of histories refuse: short lists of calls with profile A, or a case of it, each with a twin that is right and accepted. A rule
-- that a follower lacked would show here, as a wrong history that it accepts.
-- Assumes nothing.
use Rattle.std.specs.Prelude.{ℕ, Bool, true, false, not, ◌&&◌, List, [], ◌∷◌, ◌++◌, map, ℤ, pos, neg_ℤ}
use Prim.Native.String.{String}
use Rattle.model.specs.declared.profile.Profile.{Profile}
use Rattle.profiles.specs.ProfileA.{profile_a, profile_fine, profile_ranged, profile_with}
use Rattle.text.specs.Ascii.{ascii}
use Rattle.weight.specs.declared.rounding.Resolution.{Resolution}
use Rattle.weight.specs.declared.units.WeightUnit.TheVariants.{Mg, Ct, Oz, Gn}
use Rattle.history.specs.Claim.{taken_events}
use Rattle.history.specs.EndToEnd.{host_accepts}
use Rattle.history.specs.OnChange.{start_sender, sender_holds}
use Rattle.history.specs.Tally.{Event, Input, byte_is, sample_is, start_tally, accepts}
use Rattle.history.specs.TypedTares.{shown_as_typed}
use Rattle.history.specs.Waits.{start_waits, waits_hold}

-- ---- calls, as the followers are fed them

abbrev pub taken : Input → String → List Event
taken i answer = record { input = i; refusal = 0; answer = ascii answer } ∷ []

abbrev pub refused : ℕ → Input → List Event
refused n i = record { input = i; refusal = n; answer = [] } ∷ []

abbrev pub good : ℕ → Input
good b = byte_is (record { byte = b; faulty = false })

abbrev pub stable : ℤ → Input
stable z = sample_is z true

abbrev pub unstable : ℤ → Input
unstable z = sample_is z false

abbrev pub unanswered : ℕ → Event
unanswered b = record { input = good b; refusal = 0; answer = [] }

-- a command's bytes and CR have no answer; LF has this one
abbrev pub line : String → String → List Event
line command answer = map unanswered (ascii command ++ ascii "\r") ++ taken (good 10) answer

-- what a whole-buffer call stands for: good bytes that it took, each with its own answer
abbrev pub whole : String → List String → List Event
whole bytes answers = taken_events (map (λ (b : ℕ). record { byte = b; faulty = false }) (ascii bytes)) (map ascii answers)

-- two unstable samples without an answer: one fewer than profile A waits for
abbrev pub swings : List Event
swings = taken (unstable (pos 0)) "" ++ taken (unstable (pos 0)) ""

-- ---- the table

pub data Follower : Type 0 where
  tally : Follower
  waits : Follower
  host : Follower
  sender : Follower
  typed_tares : Follower

pub record Row : Type 0 where
  pub follower : Follower
  pub profile : Profile
  pub wrong : List Event
  pub right : List Event

abbrev pub accepted : Follower → Profile → List Event → Bool
accepted tally p es = accepts p start_tally es
accepted waits p es = waits_hold p start_waits es
accepted host p es = host_accepts p start_tally es
accepted sender p es = sender_holds p start_sender es
accepted typed_tares p es = shown_as_typed p start_tally es

-- M21 with a code, granted
abbrev pub set : String → List Event
set command = line command "M21 A\r\n"

-- profile A, in grams with four decimals, in ounces with five, in grains with four, in milligrams with three and in carats with two
abbrev pub in_grams : Follower → List Event → List Event → Row
in_grams f wrong right = record { follower = f; profile = profile_a; wrong = wrong; right = right }

abbrev pub in_unit : Resolution → String → Follower → List Event → List Event → Row
in_unit r command f wrong right = record { follower = f; profile = profile_with r; wrong = set command ++ wrong; right = set command ++ right }

abbrev pub in_ounces : Follower → List Event → List Event → Row
in_ounces = in_unit (record { unit = Oz; decimals = 5; step = 1; coarse = false }) "M21 0 8"

abbrev pub in_grains : Follower → List Event → List Event → Row
in_grains = in_unit (record { unit = Gn; decimals = 4; step = 1; coarse = false }) "M21 0 10"

abbrev pub in_milligrams : Follower → List Event → List Event → Row
in_milligrams = in_unit (record { unit = Mg; decimals = 3; step = 1; coarse = false }) "M21 0 3"

abbrev pub in_carats : Follower → List Event → List Event → Row
in_carats = in_unit (record { unit = Ct; decimals = 2; step = 1; coarse = false }) "M21 0 5"

unfoldable pub weight_rows : List Row
weight_rows =
    -- one microgram over half a step, and half a step
    in_grams tally
    (taken (stable (pos 51)) "" ++ line "SI" "S S     0.0000 g\r\n")
    (taken (stable (pos 50)) "" ++ line "SI" "S S     0.0000 g\r\n")
    -- 500 femtograms over half a step and half a microgram, after a tie in the typed number; and 500 under
    ∷ in_grains tally
    (line "TA 38.66055 GN" "TA A    38.6606 GN\r\n" ++ taken (stable (pos 2_505_161)) "" ++ line "SI" "S S     0.0000 GN\r\n")
    (line "TA 38.66054 GN" "TA A    38.6605 GN\r\n" ++ taken (stable (pos 2_505_162)) "" ++ line "SI" "S S     0.0000 GN\r\n")
    -- a typed tare is the rounded decimal, here 0: what would hold of the number as it was typed, and what would not
    ∷ in_grams tally
    (line "TA 0.000049 g" "TA A     0.0000 g\r\n" ++ taken (stable (pos 10_000_099)) "" ++ line "SI" "S S    10.0000 g\r\n")
    (line "TA 0.000049 g" "TA A     0.0000 g\r\n" ++ taken (stable (pos 9_999_951)) "" ++ line "SI" "S S    10.0000 g\r\n")
    -- its answer has the characters of that decimal, also where the allowance would have room for others
    ∷ in_milligrams typed_tares
    (line "TA 0.0005 mg" "TA A      0.002 mg\r\n")
    (line "TA 0.0005 mg" "TA A      0.001 mg\r\n")
    -- the half microgram is for a typed tare alone
    ∷ in_ounces tally
    (taken (stable (pos 142)) "" ++ line "SI" "S S    0.00000 oz\r\n")
    (taken (stable (pos 142)) "" ++ line "TA 0 oz" "TA A    0.00000 oz\r\n" ++ line "SI" "S S    0.00000 oz\r\n")
    -- TA A with another number than the one typed
    ∷ in_grams tally
    (line "TA 1 g" "TA A     1.0001 g\r\n")
    (line "TA 1 g" "TA A     1.0000 g\r\n")
    -- the reader's value is off by one in the last place
    ∷ in_grams host
    (taken (stable (pos 1_000_000)) "" ++ line "SI" "S S     1.0001 g\r\n")
    (taken (stable (pos 1_000_000)) "" ++ line "SI" "S S     1.0000 g\r\n")
    -- a line that the reader does not know
    ∷ in_grams host
    (taken (stable (pos 0)) "" ++ line "SI" "S S    0.0000 g\r\n")
    (taken (stable (pos 0)) "" ++ line "SI" "S S     0.0000 g\r\n")
    ∷ []

unfoldable pub state_rows : List Row
state_rows =
    -- S S before a load
    in_grams tally
    (line "SI" "S S     0.0000 g\r\n")
    (taken (stable (pos 0)) "" ++ line "SI" "S S     0.0000 g\r\n")
    -- S + before a load
    ∷ in_grams tally
    (line "SI" "S +\r\n")
    (taken (stable (pos 220_000_001)) "" ++ line "SI" "S +\r\n")
    -- the first load weighed again
    ∷ in_grams tally
    (taken (stable (pos 0)) "" ++ taken (stable (pos 1_000_000)) "" ++ line "SI" "S S     0.0000 g\r\n")
    (taken (stable (pos 0)) "" ++ taken (stable (pos 1_000_000)) "" ++ line "SI" "S S     1.0000 g\r\n")
    -- a tare kept over Z A
    ∷ in_grams tally
    (taken (stable (pos 1_000_000)) "" ++ line "T" "T S     1.0000 g\r\n" ++ line "Z" "Z A\r\n" ++ line "SI" "S S    -1.0000 g\r\n")
    (taken (stable (pos 1_000_000)) "" ++ line "T" "T S     1.0000 g\r\n" ++ line "Z" "Z A\r\n" ++ line "SI" "S S     0.0000 g\r\n")
    -- a tare kept over @
    ∷ in_grams tally
    (taken (stable (pos 1_000_000)) "" ++ line "T" "T S     1.0000 g\r\n" ++ line "@" "I4 A \"VA-0001\"\r\n" ++ line "SI" "S S     0.0000 g\r\n")
    (taken (stable (pos 1_000_000)) "" ++ line "T" "T S     1.0000 g\r\n" ++ line "@" "I4 A \"VA-0001\"\r\n" ++ line "SI" "S S     1.0000 g\r\n")
    -- a tare stored though its wait ended in I
    ∷ in_grams tally
    (line "T" "" ++ swings ++ taken (unstable (pos 1_000_000)) "T I\r\n" ++ line "SI" "S D     0.0000 g\r\n")
    (line "T" "" ++ swings ++ taken (unstable (pos 1_000_000)) "T I\r\n" ++ line "SI" "S D     1.0000 g\r\n")
    -- a refused sample that is weighed
    ∷ in_grams tally
    (taken (stable (pos 0)) "" ++ refused 3 (stable (pos 1_000_000)) ++ line "SI" "S S     1.0000 g\r\n")
    (taken (stable (pos 0)) "" ++ refused 3 (stable (pos 1_000_000)) ++ line "SI" "S S     0.0000 g\r\n")
    ∷ []

unfoldable pub wait_rows : List Row
wait_rows =
    -- an ended line without an answer
    in_grams waits (line "SI" "") (line "S" "")
    -- the answer one sample early, and one late; profile A waits for three
    ∷ in_grams waits
    (line "S" "" ++ taken (unstable (pos 0)) "" ++ taken (unstable (pos 0)) "S I\r\n")
    (line "S" "" ++ swings ++ taken (unstable (pos 0)) "S I\r\n")
    ∷ in_grams waits
    (line "S" "" ++ swings ++ taken (unstable (pos 0)) "" ++ taken (unstable (pos 0)) "S I\r\n")
    (line "S" "" ++ swings ++ taken (unstable (pos 0)) "S I\r\n" ++ taken (unstable (pos 0)) "")
    -- a refused sample that counts
    ∷ in_grams waits
    (line "S" "" ++ taken (unstable (pos 0)) "" ++ refused 3 (unstable (pos 0)) ++ taken (unstable (pos 0)) "S I\r\n")
    (line "S" "" ++ taken (unstable (pos 0)) "" ++ refused 3 (unstable (pos 0)) ++ taken (unstable (pos 0)) "" ++ taken (unstable (pos 0)) "S I\r\n")
    -- T closed as S, by I and by a weight
    ∷ in_grams waits
    (line "T" "" ++ swings ++ taken (unstable (pos 0)) "S I\r\n")
    (line "T" "" ++ swings ++ taken (unstable (pos 0)) "T I\r\n")
    ∷ in_grams waits
    (line "T" "" ++ taken (stable (pos 0)) "S S     0.0000 g\r\n")
    (line "T" "" ++ taken (stable (pos 0)) "T S     0.0000 g\r\n")
    -- a stable sample that leaves a command waiting
    ∷ in_grams waits
    (line "Z" "" ++ taken (stable (pos 0)) "")
    (line "Z" "" ++ taken (stable (pos 0)) "Z A\r\n")
    -- SR closed by its name
    ∷ in_grams waits
    (line "SR" "" ++ swings ++ taken (unstable (pos 0)) "SR I\r\n")
    (line "SR" "" ++ swings ++ taken (unstable (pos 0)) "S I\r\n")
    -- a word that begins with SR and waits
    ∷ in_grams waits (line "SRX" "") (line "SR 1 g" "")
    -- a refusal by 2 along a list of calls
    ∷ in_grams waits (refused 2 (stable (pos 0))) (refused 3 (stable (pos 0)))
    ∷ []

-- SR runs, from a load of nothing
abbrev pub runs : List Event
runs = taken (stable (pos 0)) "" ++ line "SR" "S S     0.0000 g\r\n"

-- and has sent S D: an S S is owed
abbrev pub owes : List Event
owes = runs ++ taken (unstable (pos 5_000)) "S D     0.0050 g\r\n"

unfoldable pub sent_rows : List Row
sent_rows =
    -- 30 display steps passed by in silence, and one microgram less sent
    in_grams sender
    (runs ++ taken (stable (pos 3_000)) "")
    (runs ++ taken (stable (pos 3_000)) "S S     0.0030 g\r\n")
    ∷ in_grams sender
    (runs ++ taken (stable (pos 2_999)) "S S     0.0030 g\r\n")
    (runs ++ taken (stable (pos 2_999)) "")
    -- an eighth of the present net, which the last one's is not
    ∷ in_grams sender
    (taken (stable (pos 24_001)) "" ++ line "SR" "S S     0.0240 g\r\n" ++ taken (stable (pos 27_001)) "S S     0.0270 g\r\n")
    (taken (stable (pos 24_001)) "" ++ line "SR" "S S     0.0240 g\r\n" ++ taken (stable (pos 27_001)) "")
    -- a set threshold, and one microgram less
    ∷ in_grams sender
    (taken (stable (pos 0)) "" ++ line "SR 0.01 g" "S S     0.0000 g\r\n" ++ taken (stable (pos 9_999)) "S S     0.0100 g\r\n")
    (taken (stable (pos 0)) "" ++ line "SR 0.01 g" "S S     0.0000 g\r\n" ++ taken (stable (pos 10_000)) "S S     0.0100 g\r\n")
    -- S S of a sample that is not stable
    ∷ in_grams sender
    (runs ++ taken (unstable (pos 5_000)) "S S     0.0050 g\r\n")
    owes
    -- a second S D before an S S
    ∷ in_grams sender
    (owes ++ taken (unstable (pos 90_000)) "S D     0.0900 g\r\n")
    (owes ++ taken (unstable (pos 90_000)) "")
    -- an S S that was owed, dropped when the net came back, or over an excursion
    ∷ in_grams sender (owes ++ taken (stable (pos 0)) "") (owes ++ taken (stable (pos 0)) "S S     0.0000 g\r\n")
    ∷ in_grams sender
    (owes ++ taken (stable (pos 220_000_001)) "S +\r\n" ++ taken (stable (pos 10)) "")
    (owes ++ taken (stable (pos 220_000_001)) "S +\r\n" ++ taken (stable (pos 10)) "S S     0.0000 g\r\n")
    -- out of range not told, and told twice
    ∷ in_grams sender
    (runs ++ taken (stable (pos 220_000_001)) "")
    (runs ++ taken (stable (pos 220_000_001)) "S +\r\n")
    ∷ in_grams sender
    (runs ++ taken (stable (pos 220_000_001)) "S +\r\n" ++ taken (unstable (neg_ℤ (pos 1_000_001))) "S -\r\n")
    (runs ++ taken (stable (pos 220_000_001)) "S +\r\n" ++ taken (unstable (neg_ℤ (pos 1_000_001))) "")
    -- a refused sample that is taken for sent
    ∷ in_grams sender
    (runs ++ refused 3 (stable (pos 5_000)) ++ taken (stable (pos 5_000)) "")
    (runs ++ refused 3 (stable (pos 5_000)) ++ taken (stable (pos 5_000)) "S S     0.0050 g\r\n")
    ∷ []

-- a load of 10 g is the last net, and then the tare or, while T waits, one of 20 g
abbrev pub tare_at_once : List Event
tare_at_once = taken (stable (pos 10_000_000)) "" ++ line "SR" "S S    10.0000 g\r\n" ++ line "T" "T S    10.0000 g\r\n"

abbrev pub tare_awaited : List Event
tare_awaited =
    taken (stable (pos 10_000_000)) ""
    ++ line "SR" "S S    10.0000 g\r\n"
    ++ taken (unstable (pos 10_000_001)) ""
    ++ line "T" ""
    ++ taken (stable (pos 20_000_000)) "T S    20.0000 g\r\n"

-- T waits while SR runs, and SI finds it so
abbrev pub busy_now : List Event
busy_now = runs ++ taken (unstable (pos 1)) "" ++ line "T" "" ++ line "SI" "S I\r\n" ++ taken (stable (pos 3_000)) "T S     0.0030 g\r\n"

unfoldable pub sending_rows : List Row
sending_rows =
    -- a weight that nothing asked for, and a repetition that misses one
    in_grams sender
    (taken (stable (pos 0)) "S S     0.0000 g\r\n")
    (taken (stable (pos 0)) "")
    ∷ in_grams sender
    (taken (stable (pos 0)) "" ++ line "SIR" "S S     0.0000 g\r\n" ++ taken (stable (pos 0)) "")
    (taken (stable (pos 0)) "" ++ line "SIR" "S S     0.0000 g\r\n" ++ taken (stable (pos 0)) "S S     0.0000 g\r\n")
    -- re-based by T, and by the sample that T waited for
    ∷ in_grams sender
    (tare_at_once ++ taken (stable (pos 10_000_000)) "")
    (tare_at_once ++ taken (stable (pos 10_000_000)) "S S     0.0000 g\r\n")
    ∷ in_grams sender
    (tare_awaited ++ taken (stable (pos 20_000_000)) "")
    (tare_awaited ++ taken (stable (pos 20_000_000)) "S S     0.0000 g\r\n")
    -- on after S + and after a timeout
    ∷ in_grams sender
    (taken (stable (pos 220_000_001)) "" ++ line "SR" "S +\r\n" ++ taken (stable (pos 0)) "S S     0.0000 g\r\n")
    (taken (stable (pos 220_000_001)) "" ++ line "SR" "S +\r\n" ++ taken (stable (pos 0)) "")
    ∷ in_grams sender
    (line "SR" "" ++ swings ++ taken (unstable (pos 0)) "S I\r\n" ++ taken (stable (pos 100_000_000)) "S S   100.0000 g\r\n")
    (line "SR" "" ++ swings ++ taken (unstable (pos 0)) "S I\r\n" ++ taken (stable (pos 100_000_000)) "")
    -- not ended by SI, by S that waits, and by @
    ∷ in_grams sender
    (runs ++ line "SI" "S S     0.0000 g\r\n" ++ taken (stable (pos 5_000)) "S S     0.0050 g\r\n")
    (runs ++ line "SI" "S S     0.0000 g\r\n" ++ taken (stable (pos 5_000)) "")
    ∷ in_grams sender
    (runs ++ taken (unstable (pos 1)) "" ++ line "S" "" ++ taken (stable (pos 1)) "S S     0.0000 g\r\n" ++ taken (stable (pos 5_000)) "S S     0.0050 g\r\n")
    (runs ++ taken (unstable (pos 1)) "" ++ line "S" "" ++ taken (stable (pos 1)) "S S     0.0000 g\r\n" ++ taken (stable (pos 5_000)) "")
    ∷ in_grams sender
    (runs ++ line "@" "I4 A \"VA-0001\"\r\n" ++ taken (stable (pos 5_000)) "S S     0.0050 g\r\n")
    (runs ++ line "@" "I4 A \"VA-0001\"\r\n" ++ taken (stable (pos 5_000)) "")
    -- ended by a line that is not carried out: SI while T waits, SI with a parameter, SR with a wrong one
    ∷ in_grams sender
    (busy_now ++ taken (stable (pos 6_000)) "")
    (busy_now ++ taken (stable (pos 6_000)) "S S     0.0030 g\r\n")
    ∷ in_grams sender
    (runs ++ line "SI 1" "EL\r\n" ++ taken (stable (pos 5_000)) "")
    (runs ++ line "SI 1" "EL\r\n" ++ taken (stable (pos 5_000)) "S S     0.0050 g\r\n")
    ∷ in_grams sender
    (runs ++ line "SR x" "S L\r\n" ++ taken (stable (pos 5_000)) "")
    (runs ++ line "SR x" "S L\r\n" ++ taken (stable (pos 5_000)) "S S     0.0050 g\r\n")
    ∷ []

abbrev pub none : String
none = ""

unfoldable pub buffer_rows : List Row
buffer_rows =
    -- all answers of a whole buffer at its last byte
    in_grams waits
    (whole "SI\r\nSI\r\n" (none ∷ none ∷ none ∷ none ∷ none ∷ none ∷ none ∷ "S I\r\nS I\r\n" ∷ []))
    (whole "SI\r\nSI\r\n" (none ∷ none ∷ none ∷ "S I\r\n" ∷ none ∷ none ∷ none ∷ "S I\r\n" ∷ []))
    -- an LF whose answer did not fit, taken all the same
    ∷ in_grams waits
    (whole "SI\r\n" (none ∷ none ∷ none ∷ none ∷ []))
    (whole "SI\r\n" (none ∷ none ∷ none ∷ []))
    -- a tare set earlier in the same buffer does not count
    ∷ in_grams tally
    (taken (stable (pos 1_000_000)) "" ++ whole "TI\r\nSI\r\n" (none ∷ none ∷ none ∷ "T S     1.0000 g\r\n" ∷ none ∷ none ∷ none ∷ "S S     1.0000 g\r\n" ∷ []))
    (taken (stable (pos 1_000_000)) "" ++ whole "TI\r\nSI\r\n" (none ∷ none ∷ none ∷ "T S     1.0000 g\r\n" ∷ none ∷ none ∷ none ∷ "S S     0.0000 g\r\n" ∷ []))
    ∷ []

unfoldable pub unit_rows : List Row
unit_rows =
    -- one microgram over half a step of carats, which is ten steps of grams, and half a step
    in_carats tally
    (taken (stable (pos 1_001)) "" ++ line "SI" "S S       0.00 ct\r\n")
    (taken (stable (pos 1_000)) "" ++ line "SI" "S S       0.00 ct\r\n")
    -- a weight in the unit before
    ∷ in_carats tally
    (taken (stable (pos 14_256_050)) "" ++ line "SI" "S S    14.2561 g\r\n")
    (taken (stable (pos 14_256_050)) "" ++ line "SI" "S S      71.28 ct\r\n")
    -- the unit reset by @
    ∷ in_carats tally
    (taken (stable (pos 14_256_050)) "" ++ line "@" "I4 A \"VA-0001\"\r\n" ++ line "SI" "S S    14.2561 g\r\n")
    (taken (stable (pos 14_256_050)) "" ++ line "@" "I4 A \"VA-0001\"\r\n" ++ line "SI" "S S      71.28 ct\r\n")
    -- a unit set though M21 was refused, and one that no M21 asked for
    ∷ in_grams tally
    (taken (stable (pos 14_256_050)) "" ++ line "M21 0 05" "M21 L\r\n" ++ line "SI" "S S      71.28 ct\r\n")
    (taken (stable (pos 14_256_050)) "" ++ line "M21 0 05" "M21 L\r\n" ++ line "SI" "S S    14.2561 g\r\n")
    ∷ in_grams tally
    (taken (stable (pos 14_256_050)) "" ++ line "SI" "S S      71.28 ct\r\n")
    (taken (stable (pos 14_256_050)) "" ++ line "SI" "S S    14.2561 g\r\n")
    -- M21 A to the query, to a code that is none, and to a line of another command
    ∷ in_grams tally (line "M21" "M21 A\r\n") (line "M21" "M21 A 0 0\r\n")
    ∷ in_grams tally (line "M21 0 20" "M21 A\r\n") (line "M21 0 7" "M21 A\r\n")
    ∷ in_grams tally (line "TAC" "M21 A\r\n") (line "TAC" "TAC A\r\n")
    -- a tare of 10 g taken for one of 10 ct
    ∷ in_grams tally
    (taken (stable (pos 10_000_000)) "" ++ line "T" "T S    10.0000 g\r\n" ++ set "M21 0 5" ++ line "TA" "TA A      10.00 ct\r\n")
    (taken (stable (pos 10_000_000)) "" ++ line "T" "T S    10.0000 g\r\n" ++ set "M21 0 5" ++ line "TA" "TA A      50.00 ct\r\n")
    -- a typed tare rounded to the step of grams, 0.0002 g, and not to that of carats
    ∷ in_carats typed_tares
    (line "TA 0.014 ct" "TA A       0.02 ct\r\n")
    (line "TA 0.014 ct" "TA A       0.01 ct\r\n")
    -- the query tells another unit, and the display unit's place
    ∷ in_carats host (line "M21" "M21 A 0 0\r\n") (line "M21" "M21 A 0 5\r\n")
    ∷ in_carats host (line "M21" "M21 A 1 5\r\n") (line "M21" "M21 A 0 5\r\n")
    -- 30 steps of grams, where carats are in force; and back
    ∷ in_grams sender
    (runs ++ set "M21 0 5" ++ taken (stable (pos 59_999)) "S S       0.30 ct\r\n")
    (runs ++ set "M21 0 5" ++ taken (stable (pos 59_999)) "")
    ∷ in_grams sender
    (runs ++ set "M21 0 5" ++ set "M21 0 0" ++ taken (stable (pos 3_000)) "")
    (runs ++ set "M21 0 5" ++ set "M21 0 0" ++ taken (stable (pos 3_000)) "S S     0.0030 g\r\n")
    -- SR ended by M21
    ∷ in_grams sender
    (runs ++ set "M21 0 5" ++ taken (stable (pos 60_000)) "")
    (runs ++ set "M21 0 5" ++ taken (stable (pos 60_000)) "S S       0.30 ct\r\n")
    -- a threshold of 0.05 ct taken for one of 0.05 g
    ∷ in_carats sender
    (taken (stable (pos 0)) "" ++ line "SR 0.05 ct" "S S       0.00 ct\r\n" ++ taken (stable (pos 10_000)) "")
    (taken (stable (pos 0)) "" ++ line "SR 0.05 ct" "S S       0.00 ct\r\n" ++ taken (stable (pos 10_000)) "S S       0.05 ct\r\n")
    ∷ []

-- profile A with this F, in grams; and in ounces with five decimals
abbrev pub in_fine : ℕ → Follower → List Event → List Event → Row
in_fine fine f wrong right = record { follower = f; profile = profile_fine fine; wrong = wrong; right = right }

abbrev pub in_fine_ounces : ℕ → Follower → List Event → List Event → Row
in_fine_ounces fine f wrong right =
    record {
      follower = f;
      profile = profile_ranged fine (record { unit = Oz; decimals = 5; step = 1; coarse = false });
      wrong = set "M21 0 8" ++ wrong;
      right = set "M21 0 8" ++ right;
    }

abbrev pub hundred : ℕ
hundred = 100_000_000

unfoldable pub range_rows : List Row
range_rows =
    -- at F told coarse, and above it fine
    in_fine hundred tally
    (taken (stable (pos 100_000_000)) "" ++ line "SI" "S S   100.000  g\r\n")
    (taken (stable (pos 100_000_000)) "" ++ line "SI" "S S   100.0000 g\r\n")
    ∷ in_fine hundred tally
    (taken (stable (pos 100_000_001)) "" ++ line "SI" "S S   100.0000 g\r\n")
    (taken (stable (pos 100_000_001)) "" ++ line "SI" "S S   100.000  g\r\n")
    -- a space that claims ten times the allowance below F
    ∷ in_fine hundred tally
    (taken (stable (pos 99_999_600)) "" ++ line "SI" "S S   100.000  g\r\n")
    (taken (stable (pos 99_999_600)) "" ++ line "SI" "S S    99.9996 g\r\n")
    -- one microgram over half a coarse step, and half a coarse step
    ∷ in_fine hundred tally
    (taken (stable (pos 150_000_501)) "" ++ line "SI" "S S   150.000  g\r\n")
    (taken (stable (pos 150_000_500)) "" ++ line "SI" "S S   150.000  g\r\n")
    -- the net decides in place of gross
    ∷ in_fine hundred tally
    (taken (stable (pos 150_000_000)) "" ++ line "T" "T S   150.000  g\r\n" ++ taken (stable (pos 150_000_500)) "" ++ line "SI" "S S     0.0005 g\r\n")
    (taken (stable (pos 150_000_000)) "" ++ line "T" "T S   150.000  g\r\n" ++ taken (stable (pos 150_000_500)) "" ++ line "SI" "S S     0.001  g\r\n")
    -- gross in place of the tare
    ∷ in_fine hundred tally
    (taken (stable (pos 50_000_000)) "" ++ line "T" "T S    50.0000 g\r\n" ++ taken (stable (pos 200_000_000)) "" ++ line "TA" "TA A    50.000  g\r\n")
    (taken (stable (pos 50_000_000)) "" ++ line "T" "T S    50.0000 g\r\n" ++ taken (stable (pos 200_000_000)) "" ++ line "TA" "TA A    50.0000 g\r\n")
    -- a typed tare decides by its microgram, and not by its exact decimal
    ∷ in_fine_ounces 28_349_523 tally
    (line "TA 1.00000 oz" "TA A    1.0000  oz\r\n")
    (line "TA 1.00000 oz" "TA A    1.00000 oz\r\n")
    -- it is rounded to the coarse step
    ∷ in_fine hundred tally
    (line "TA 100.0004 g" "TA A   100.0000 g\r\n" ++ taken (stable (pos 100_000_000)) "" ++ line "SI" "S S    -0.0004 g\r\n")
    (line "TA 100.0004 g" "TA A   100.0000 g\r\n" ++ taken (stable (pos 100_000_000)) "" ++ line "SI" "S S     0.0000 g\r\n")
    -- and told in the range of what is stored
    ∷ in_fine 100_000_050 typed_tares
    (line "TA 100.00005 g" "TA A   100.0001 g\r\n")
    (line "TA 100.00005 g" "TA A   100.000  g\r\n")
    ∷ in_fine hundred typed_tares
    (line "TA 100.0005 g" "TA A   100.0005 g\r\n")
    (line "TA 100.0005 g" "TA A   100.001  g\r\n")
    -- SR counts fine steps
    ∷ in_fine 0 sender
    (runs ++ taken (stable (pos 3_000)) "")
    (runs ++ taken (stable (pos 3_000)) "S S     0.003  g\r\n")
    ∷ in_fine 0 sender
    (runs ++ taken (stable (pos 2_999)) "S S     0.003  g\r\n")
    (runs ++ taken (stable (pos 2_999)) "")
    -- the reader hands back another range, and a coarse line without its space
    ∷ in_fine hundred host
    (taken (stable (pos 150_000_000)) "" ++ line "SI" "S S   150.0000 g\r\n")
    (taken (stable (pos 150_000_000)) "" ++ line "SI" "S S   150.000  g\r\n")
    ∷ in_fine hundred host
    (taken (stable (pos 150_000_000)) "" ++ line "SI" "S S   150.000 g\r\n")
    (taken (stable (pos 150_000_000)) "" ++ line "SI" "S S   150.000  g\r\n")
    -- without a coarse range nothing is coarse
    ∷ in_grams tally
    (taken (stable (pos 220_000_000)) "" ++ line "SI" "S S   220.000  g\r\n")
    (taken (stable (pos 220_000_000)) "" ++ line "SI" "S S   220.0000 g\r\n")
    ∷ []

unfoldable pub rows : List Row
rows = weight_rows ++ state_rows ++ wait_rows ++ sent_rows ++ sending_rows ++ buffer_rows ++ unit_rows ++ range_rows

-- the wrong one is rejected, the right one accepted
abbrev pub tells : Row → Bool
tells r = not (accepted r.follower r.profile r.wrong) && accepted r.follower r.profile r.right

unfoldable pub all_tell : List Row → Bool
all_tell [] = true
all_tell (r ∷ rs) = tells r && all_tell rs
