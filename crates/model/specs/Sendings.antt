-- Document 02, No. 1: what is sent without being asked for each time, by SIR or by SR, and what of it is allowed.
-- Assumes nothing.
use Rattle.std.specs.Prelude.{ℕ, ◌+◌, Bool, true, false, not, ◌&&◌, ◌||◌, leb, pos, neg_ℤ}
use Rattle.std.specs.Int.Signed.{le_z}
use Rattle.model.specs.declared.sending.Mode.{Mode}
use Rattle.model.specs.declared.sending.Mode.TheVariants.{Off, EachSample, OnChange}
use Rattle.model.specs.declared.sending.Sending.{Sending}

abbrev pub is_off : Mode → Bool
is_off Off = true
is_off EachSample = false
is_off OnChange = false

abbrev pub is_on_change : Mode → Bool
is_on_change Off = false
is_on_change EachSample = false
is_on_change OnChange = true

-- not SR running with a last net outside -(U+C)..C
abbrev pub last_allowed : ℕ → ℕ → Sending → Bool
last_allowed underload capacity c =
    not (is_on_change c.mode) || (le_z (neg_ℤ (pos (underload + capacity))) c.last.0 && le_z c.last.0 (pos capacity))

-- not SR running or waiting with a set threshold above C; 0 is none set
abbrev pub threshold_allowed : ℕ → Sending → Bool → Bool
threshold_allowed capacity c waits = not (is_on_change c.mode || waits) || leb c.threshold.0 capacity

-- what SR keeps
unfoldable pub change_allowed : ℕ → ℕ → Sending → Bool → Bool
change_allowed underload capacity c waits = last_allowed underload capacity c && threshold_allowed capacity c waits
