-- Document 02, No. 1, over the lists of calls of demand 3 and from calls and answers alone: what is sent without being asked for is
-- what it should be. While SR runs no sample is passed by in silence that the request says is sent, none is sent that it does not
-- say, no S D is followed by a second one before an S S, and a load out of range is told once.
-- Assumes nothing.
use Rattle.std.specs.Prelude.{ℕ, ◌≡◌, Bool, true, false, cond, not, ◌&&◌, ◌||◌, List, [], ◌∷◌, map, eqb, ℤ, pos, neg_ℤ, nat_abs, ◌-ℤ◌}
use Rattle.std.specs.Int.Signed.{lt_z}
use Rattle.line.specs.Judging.{amount_in}
use Rattle.line.specs.Unbounded.{Marked, byte_in, ends_unbounded, finished_line}
use Rattle.model.specs.declared.profile.Profile.{Profile}
use Rattle.text.specs.Ascii.{ascii, same_text}
use Rattle.text.specs.Searching.{before_space, has_space}
use Rattle.text.specs.Typed.{read_typed}
use Rattle.weight.specs.Changes.{reaches_threshold}
use Rattle.weight.specs.declared.units.WeightUnit.{WeightUnit}
use Rattle.history.specs.Claim.{OverCalls}
use Rattle.history.specs.Tally.{Event, Input, byte_is, sample_is, Tally, start_tally, in_force, gross_in, rounded_tare, begins, tells_net, typed_text, is_reset_line, after_event}
use Rattle.history.specs.Waits.{Waits, start_waits, is_awaiting, is_empty, after_input}

-- ---- what it keeps

-- the last stable net that SR sent, its set threshold, 0 for none, whether an S S is owed, and whether + or - was sent and the load
-- has not come back
pub record Running : Type 0 where
  pub last : ℤ
  pub threshold : ℕ
  pub owed : Bool
  pub outside : Bool

-- what is sent unasked: nothing; each sample, after SIR; nothing yet, while SR waits with this threshold; or as SR says
pub data Sends : Type 0 where
  off : Sends
  always : Sends
  asked : ℕ → Sends
  running : Running → Sends

-- beside the tally, which has the net, and the record of waits, which says whether a sample finds a command waiting
pub record Sender : Type 0 where
  pub tally : Tally
  pub waits : Waits
  pub sends : Sends

abbrev pub start_sender : Sender
start_sender = record { tally = start_tally; waits = start_waits; sends = off }

-- ---- the net of the latest load

-- a typed tare to the nearest microgram
abbrev pub net_in : Tally → ℤ
net_in t = gross_in t -ℤ pos (rounded_tare t)

abbrev pub is_over : Profile → Tally → Bool
is_over p t = lt_z (pos p.capacity) (gross_in t)

abbrev pub is_under : Profile → Tally → Bool
is_under p t = lt_z (gross_in t) (neg_ℤ (pos p.underload))

-- ---- a line ended

abbrev pub name_in : List Marked → List ℕ
name_in f = before_space (map byte_in f)

-- S, SI, SIR or SR is carried out: it waits, or its answer is a weight, + or -
abbrev pub is_carried_out : List ℕ → Bool
is_carried_out l = is_empty l || tells_net l || begins (ascii "S +") l || begins (ascii "S -") l

-- the number of SR number unit, read as TA reads its own; 0 for SR alone
abbrev pub threshold_in : WeightUnit → List ℕ → ℕ
threshold_in u l = cond (has_space l) (amount_in (read_typed u (typed_text l))).0 0

-- SR answered: with S S it runs from now on, else it is off
abbrev pub started_by : Tally → ℕ → List ℕ → Sends
started_by t threshold l =
    cond (begins (ascii "S S") l) (running (record { last = net_in t; threshold = threshold; owed = false; outside = false })) off

-- @ ends all of it; S, SI, SIR and SR that are carried out end what was, and the last two start their own
unfoldable pub sends_after_line : Profile → Tally → List Marked → List ℕ → Sends → Sends
sends_after_line p t f l s =
    cond (is_reset_line f) off
    (cond (is_carried_out l && (same_text (name_in f) (ascii "S") || same_text (name_in f) (ascii "SI"))) off
    (cond (is_carried_out l && same_text (name_in f) (ascii "SIR")) always
    (cond (is_carried_out l && same_text (name_in f) (ascii "SR"))
    (cond (is_empty l) (asked (threshold_in (in_force p t).unit (map byte_in f))) (started_by t (threshold_in (in_force p t).unit (map byte_in f)) l))
    s)))

-- ---- a sample

-- one that finds a command waiting moves nothing, unless it is SR's first answer
abbrev pub after_awaited : Tally → List ℕ → Sends → Sends
after_awaited t l off = off
after_awaited t l always = always
after_awaited t l (asked threshold) = cond (is_empty l) (asked threshold) (started_by t threshold l)
after_awaited t l (running r) = running r

-- another one, by what SR sent of it
abbrev pub after_sent : Profile → Tally → List ℕ → Running → Running
after_sent p t l r =
    record {
      last = cond (begins (ascii "S S") l) (net_in t) r.last;
      threshold = r.threshold;
      owed = cond (begins (ascii "S S") l) false (r.owed || begins (ascii "S D") l);
      outside = is_over p t || is_under p t;
    }

abbrev pub after_unasked : Profile → Tally → List ℕ → Sends → Sends
after_unasked p t l off = off
after_unasked p t l always = always
after_unasked p t l (asked threshold) = asked threshold
after_unasked p t l (running r) = running (after_sent p t l r)

-- SR sends: out of range once; in range an S S that is owed, and else a net that has moved by the threshold
abbrev pub is_due : Profile → Tally → Bool → Running → Bool
is_due p t stable r =
    cond (is_over p t || is_under p t) (not r.outside)
    (cond r.owed stable (reaches_threshold (in_force p t) r.threshold r.last (nat_abs (net_in t -ℤ r.last))))

-- the latest load is sent: + or - out of range, else S S of a stable sample and S D of another
abbrev pub is_sent : Profile → Tally → Bool → List ℕ → Bool
is_sent p t stable l =
    cond (is_over p t) (same_text l (ascii "S +\r\n"))
    (cond (is_under p t) (same_text l (ascii "S -\r\n"))
    (begins (cond stable (ascii "S S ") (ascii "S D ")) l))

abbrev pub unasked_holds : Profile → Tally → Bool → List ℕ → Sends → Bool
unasked_holds p t stable l off = is_empty l
unasked_holds p t stable l always = is_sent p t stable l
unasked_holds p t stable l (asked threshold) = is_empty l
unasked_holds p t stable l (running r) = cond (is_due p t stable r) (is_sent p t stable l) (is_empty l)

-- ---- a call that was not refused; t is the tally after it

unfoldable pub sends_after : Profile → Waits → Tally → Input → List ℕ → Sends → Sends
sends_after p w t (byte_is m) l s = cond (ends_unbounded w.line m) (sends_after_line p t (finished_line w.line) l s) s
sends_after p w t (sample_is z stable) l s = cond (is_awaiting w.waiting) (after_awaited t l s) (after_unasked p t l s)

unfoldable pub sends_hold : Profile → Waits → Tally → Input → List ℕ → Sends → Bool
sends_hold p w t (byte_is m) l s = true
sends_hold p w t (sample_is z stable) l s = is_awaiting w.waiting || unasked_holds p t stable l s

abbrev pub after_call : Profile → Sender → Event → Sender
after_call p f e =
    let t = after_event p f.tally e in
    record {
      tally = t;
      waits = after_input f.waits e.input e.answer;
      sends = sends_after p f.waits t e.input e.answer f.sends;
    }

-- a refused call changes nothing
unfoldable pub sender_holds : Profile → Sender → List Event → Bool
sender_holds p f [] = true
sender_holds p f (e ∷ es) =
    elim (eqb e.refusal 0) [
      | true ↦ sends_hold p f.waits (after_event p f.tally e) e.input e.answer f.sends && sender_holds p (after_call p f e) es
      | false ↦ sender_holds p f es
    ]

abbrev pub SentOnChange : Type 0
SentOnChange = OverCalls (λ p sent es. sender_holds p start_sender es ≡ true)
