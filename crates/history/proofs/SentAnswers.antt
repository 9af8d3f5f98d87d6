-- Which answers have bytes: all but Nothing; and those of S, Z and T at a stable sample.
-- Assumes nothing.
use mathlib.Core.Path.{◌≡◌, refl}
use mathlib.Core.Bool.{Bool, true, false, cond}
use mathlib.Core.List.{List, [], ◌∷◌, ◌++◌}
use Prim.Native.Nat.{ℕ}
use lib.IntN.{pos, neg_ℤ}
use lib.Signed.{lt_z}
use Rattle.answer.specs.declared.answer.Answer.{Answer}
use Rattle.answer.specs.declared.answer.Answer.TheVariants.{Nothing, Plain, Weight, ErrorLine, Text, Listed, CommandList, Versions, HostUnit}
use Rattle.answer.specs.Commands.{name_of, level_of, place_s, place_z, place_t}
use Rattle.answer.specs.Lines.{line_end, quoted, head_text, weight_text, error_text, listed_line, listed_from, line_of, head_of}
use Rattle.model.specs.declared.profile.Profile.{Profile}
use Rattle.model.specs.declared.weighing.Weighing.{Weighing}
use Rattle.device.specs.Calls.{answer_bytes}
use Rattle.model.specs.Profiles.{information_text, scale_of}
use Rattle.weighing.specs.Weighings.{gross_of, net_of, number_in, resolution_by, stability, in_limits, weighed, zeroed, tared, zeroed_by, weighed_by, tared_by}
use Rattle.answer.specs.declared.answer.Number.{Number}
use Rattle.answer.specs.declared.answer.Status.{Status}
use Rattle.answer.specs.declared.answer.Status.TheVariants.{A, S, Over, Under}
use Rattle.weight.specs.Characters.{digit}
use Rattle.text.specs.Ascii.{ascii}
use Rattle.text.specs.UnitTexts.{unit_code}
use Rattle.history.specs.Waits.{is_empty, settles}

-- nothing is sent
abbrev pub is_silent : Answer → Bool
is_silent Nothing = true
is_silent (Plain h) = false
is_silent (Weight h n) = false
is_silent (ErrorLine e) = false
is_silent (Text c) = false
is_silent (Listed last c) = false
is_silent CommandList = false
is_silent Versions = false
is_silent (HostUnit u) = false

-- a line has at least its CR LF
line_full : (l : List ℕ) → is_empty (l ++ line_end) ≡ false
line_full [] = refl
line_full (c ∷ l) = refl

-- an answer has no bytes exactly where nothing is sent
pub silent_empty : (p : Profile) (a : Answer) → is_empty (answer_bytes p a) ≡ is_silent a
unfolding answer_bytes line_of listed_line listed_from
silent_empty p Nothing = refl
silent_empty p (Plain h) = line_full (head_text h)
silent_empty p (Weight h n) = line_full (head_text h ++ ascii " " ++ weight_text n)
silent_empty p (ErrorLine e) = line_full (error_text e)
silent_empty p (Text c) = line_full (name_of c ++ ascii " A " ++ quoted (information_text p c))
silent_empty p (Listed last c) = line_full (ascii "I0 " ++ cond last (ascii "A") (ascii "B") ++ ascii " " ++ (digit (level_of c) ∷ []) ++ ascii " " ++ quoted (name_of c))
silent_empty p CommandList = refl
silent_empty p Versions = refl
silent_empty p (HostUnit u) = line_full (ascii "M21 A 0 " ++ unit_code u)

-- ---- the answers of S, Z and T

-- +, - or what is granted
pub in_limits_lem
    : (P : Answer → Type 0) (c : ℕ) (over under : Bool) (a : Answer)
    → P (Plain (head_of c Over))
    → P (Plain (head_of c Under))
    → (over ≡ false → under ≡ false → P a)
    → P (in_limits c over under a)
in_limits_lem P c true under a o u h = o
in_limits_lem P c false true a o u h = u
in_limits_lem P c false false a o u h = h refl refl

-- an answer that is sent
abbrev IsSent : Answer → Type 0
IsSent a = is_silent a ≡ false

module _ (p : Profile) (w : Weighing) where
  pub weighed_sent : is_silent (weighed p w) ≡ false
  unfolding weighed_by
  weighed_sent =
      in_limits_lem IsSent place_s (lt_z (pos p.capacity) (gross_of w)) (lt_z (gross_of w) (neg_ℤ (pos p.underload)))
      (Weight (head_of place_s (stability w)) (number_in (resolution_by (scale_of p w) (gross_of w)) (net_of w)))
      refl refl (λ o u. refl)

  pub zeroed_sent : (c : ℕ) (granted : Status) → is_silent (zeroed p w c granted).answer ≡ false
  unfolding zeroed_by
  zeroed_sent c granted =
      in_limits_lem IsSent c (lt_z (pos p.zeroing) w.load.0) (lt_z w.load.0 (neg_ℤ (pos p.zeroing))) (Plain (head_of c granted)) refl refl (λ o u. refl)

  pub tared_sent : (c : ℕ) → is_silent (tared p w c).answer ≡ false
  unfolding tared_by
  tared_sent c =
      in_limits_lem IsSent c (lt_z (pos p.capacity) (gross_of w)) (lt_z (gross_of w) (pos 0))
      (Weight (head_of c (stability w)) (number_in (resolution_by (scale_of p w) (gross_of w)) (gross_of w)))
      refl refl (λ o u. refl)

-- ---- at a stable sample each is an answer of the command itself

-- a name's answer with a limit's status
abbrev Own : Profile → List ℕ → Answer → Type 0
Own p name a = settles name (answer_bytes p a) ≡ true

-- S S, T S: the head of a weight says whose it is
weight_own : (p : Profile) (n : Number) → Own p (ascii "S") (Weight (head_of place_s S) n) × Own p (ascii "T") (Weight (head_of place_t S) n)
unfolding answer_bytes line_of head_text
weight_own p n = (refl, refl)

module _ (p : Profile) (w : Weighing) where
  pub weighed_own : w.stable ≡ true → Own p (ascii "S") (weighed p w)
  unfolding weighed_by answer_bytes line_of head_text
  weighed_own stable =
      in_limits_lem (Own p (ascii "S")) place_s (lt_z (pos p.capacity) (gross_of w)) (lt_z (gross_of w) (neg_ℤ (pos p.underload)))
      (Weight (head_of place_s (stability w)) (number_in (resolution_by (scale_of p w) (gross_of w)) (net_of w)))
      refl refl (λ o u. rw stable (weight_own p (number_in (resolution_by (scale_of p w) (gross_of w)) (net_of w))).0)

  pub zeroed_own : Own p (ascii "Z") (zeroed p w place_z A).answer
  unfolding zeroed_by answer_bytes line_of head_text
  zeroed_own =
      in_limits_lem (Own p (ascii "Z")) place_z (lt_z (pos p.zeroing) w.load.0) (lt_z w.load.0 (neg_ℤ (pos p.zeroing))) (Plain (head_of place_z A))
      refl refl (λ o u. refl)

  pub tared_own : w.stable ≡ true → Own p (ascii "T") (tared p w place_t).answer
  unfolding tared_by answer_bytes line_of head_text
  tared_own stable =
      in_limits_lem (Own p (ascii "T")) place_t (lt_z (pos p.capacity) (gross_of w)) (lt_z (gross_of w) (pos 0))
      (Weight (head_of place_t (stability w)) (number_in (resolution_by (scale_of p w) (gross_of w)) (gross_of w)))
      refl refl (λ o u. rw stable (weight_own p (number_in (resolution_by (scale_of p w) (gross_of w)) (gross_of w))).1)
