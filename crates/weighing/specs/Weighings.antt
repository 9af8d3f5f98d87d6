-- Document 01, "Weights" and "What each command does", and document 02, No. 7: gross and net, and what S, Z, T and their kin make of them.
-- Assumes nothing.
use Rattle.std.specs.Prelude.{ℕ, Bool, true, false, cond, ◌||◌, ℤ, pos, neg_ℤ, nat_abs, ◌-ℤ◌, Option, Some, None, unwrap_or}
use Rattle.std.specs.Int.Signed.{lt_z}
use Rattle.answer.specs.Commands.{place_s, place_ta}
use Rattle.answer.specs.declared.answer.Answer.{Answer}
use Rattle.answer.specs.declared.answer.Answer.TheVariants.{Plain, Weight}
use Rattle.answer.specs.Lines.{head_of}
use Rattle.answer.specs.declared.answer.Number.{Number}
use Rattle.answer.specs.declared.answer.Status.{Status}
use Rattle.answer.specs.declared.answer.Status.TheVariants.{A, S, D, Over, Under}
use Rattle.model.specs.declared.profile.Profile.{Profile}
use Rattle.model.specs.declared.profile.Scale.{Scale}
use Rattle.model.specs.Profiles.{scale_of}
use Rattle.weight.specs.declared.loads.Load.{Load}
use Rattle.weight.specs.declared.units.WeightUnit.{WeightUnit}
use Rattle.model.specs.declared.weighing.Weighing.{Weighing}
use Rattle.weighing.specs.declared.weighing.Measured.{Measured}
use Rattle.weight.specs.Printing.{printed_number}
use Rattle.weight.specs.Ranges.{resolution_at}
use Rattle.weight.specs.declared.rounding.Resolution.{Resolution}

-- ---- weights

-- Gross = load - zero
abbrev pub gross_of : Weighing → ℤ
gross_of w = w.load.0 -ℤ w.zero.0

-- Net = gross - tare
abbrev pub net_of : Weighing → ℤ
net_of w = gross_of w -ℤ pos w.tare.0

-- a weight as it is printed
abbrev pub number_in : Resolution → ℤ → Number
number_in r weight = record { decimals = r.decimals; places = unwrap_or (printed_number r weight) (record { 0 = pos 0 }); unit = r.unit; coarse = r.coarse }

-- the resolution in force, by the weight that decides (document 02, No. 7)
abbrev pub resolution_by : Scale → ℤ → Resolution
resolution_by s weight = resolution_at s.fine s.resolution weight

-- S for a stable sample, D for one that is not
abbrev pub stability : Weighing → Status
stability w = cond w.stable S D

abbrev pub chosen_weighing : Bool → Weighing → Weighing → Weighing
chosen_weighing true a b = a
chosen_weighing false a b = b

-- the status by two tests: + or -, if any
abbrev pub beyond : Bool → Bool → Option Status
beyond over under = cond over (Some Over) (cond under (Some Under) None)

-- the answer by two tests: +, - or what is granted
abbrev pub in_limits : ℕ → Bool → Bool → Answer → Answer
in_limits c over under granted = cond over (Plain (head_of c Over)) (cond under (Plain (head_of c Under)) granted)

-- gross > C or gross < -U
abbrev pub outside_by : Scale → Weighing → Bool
outside_by s w = lt_z (pos s.capacity) (gross_of w) || lt_z (gross_of w) (neg_ℤ (pos s.underload))

abbrev pub is_outside : Profile → Weighing → Bool
is_outside p w = outside_by (scale_of p w) w

-- S, SI, SIR: gross > C gives S +, gross < -U gives S -, else the net; gross decides the range
unfoldable pub weighed_by : Scale → Weighing → Answer
weighed_by s w =
    in_limits place_s (lt_z (pos s.capacity) (gross_of w)) (lt_z (gross_of w) (neg_ℤ (pos s.underload)))
    (Weight (head_of place_s (stability w)) (number_in (resolution_by s (gross_of w)) (net_of w)))

abbrev pub weighed : Profile → Weighing → Answer
weighed p w = weighed_by (scale_of p w) w

-- zero becomes the load, and tare becomes 0
abbrev pub with_zero : Weighing → Weighing
with_zero w = record { zero = w.load; tare = record { 0 = 0 }; unit = w.unit; sampled = w.sampled; load = w.load; stable = w.stable }

abbrev pub with_tare : Weighing → ℕ → Weighing
with_tare w tare = record { zero = w.zero; tare = record { 0 = tare }; unit = w.unit; sampled = w.sampled; load = w.load; stable = w.stable }

abbrev pub with_sample : Weighing → Load → Bool → Weighing
with_sample w load stable = record { zero = w.zero; tare = w.tare; unit = w.unit; sampled = true; load = load; stable = stable }

-- M21 sets the unit in force; zero, tare and sample are in micrograms, and stay
abbrev pub with_unit : Weighing → WeightUnit → Weighing
with_unit w u = record { zero = w.zero; tare = w.tare; unit = u; sampled = w.sampled; load = w.load; stable = w.stable }

-- Z, ZI: load > R gives +, load < -R gives -; else zero becomes the load and tare becomes 0
unfoldable pub zeroed_by : Scale → Weighing → ℕ → Status → Measured
zeroed_by s w c granted =
    let over = lt_z (pos s.zeroing) w.load.0 in
    let under = lt_z w.load.0 (neg_ℤ (pos s.zeroing)) in
    record {
      weighing = chosen_weighing (over || under) w (with_zero w);
      answer = in_limits c over under (Plain (head_of c granted));
    }

abbrev pub zeroed : Profile → Weighing → ℕ → Status → Measured
zeroed p w c granted = zeroed_by (scale_of p w) w c granted

-- T, TI: gross > C gives +, gross < 0 gives -; else tare becomes gross, which has no sign then, and is the weight of the answer
unfoldable pub tared_by : Scale → Weighing → ℕ → Measured
tared_by s w c =
    let over = lt_z (pos s.capacity) (gross_of w) in
    let under = lt_z (gross_of w) (pos 0) in
    record {
      weighing = chosen_weighing (over || under) w (with_tare w (nat_abs (gross_of w)));
      answer = in_limits c over under (Weight (head_of c (stability w)) (number_in (resolution_by s (gross_of w)) (gross_of w)));
    }

abbrev pub tared : Profile → Weighing → ℕ → Measured
tared p w c = tared_by (scale_of p w) w c

-- TA: the tare as a weight, and the tare decides the range
abbrev pub tare_answer : Scale → ℕ → Answer
tare_answer s tare = Weight (head_of place_ta A) (number_in (resolution_by s (pos tare)) (pos tare))
