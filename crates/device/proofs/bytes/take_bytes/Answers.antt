use mathlib.Core.Path.{◌≡◌}
use mathlib.Core.Bool.{false, and-false}
use mathlib.Core.List.{List}
use mathlib.Core.Logic.{◌⊎◌, inl, inr}
use Prim.Native.Nat.{ℕ, ◌<◌}
use native.Mathlib.Omega.{arith}
use borrow.Author.Rules.{rules}
use borrow.Author.Tests.{ne_eqb, lt-leb}
use lib.Dec.{eqb}
use lib.ListN.{length}
use Rattle.device.specs.Buffers.{buffer_limit, lengths_allowed}
use Rattle.device.proofs.Refusals.{asked_of}
use Rattle.device.proofs.BufferRefusals.{bytes_refused, bytes_lengths, bytes_taken}
use Rattle.device.proofs.bytes.take_bytes.Goals as goal

-- as many marks as bytes are needed, and not too many
lengths_by : (bytes marks : List ℕ) → (length bytes ≡ length marks → ⊥) ⊎ ((length bytes ≡ length marks) × (buffer_limit < length bytes))
    → lengths_allowed bytes marks ≡ false
lengths_by bytes marks (inl e) = rw (ne_eqb (length bytes) (length marks) e)
lengths_by bytes marks (inr e) = rw (lt-leb (length bytes) buffer_limit e.1, and-false (eqb (length bytes) (length marks)))

pub returns-in-Err : goal.returns-in-Err
returns-in-Err c =
    let asked = asked_of c.args.profile c.args.state c.is_profile_allowed.ensures c.is_state_allowed.ensures c.admitted-asked.ensures in
    search (rules, bytes_refused)

pub returns-then-bytes-marks : goal.returns-then-bytes-marks
returns-then-bytes-marks c =
    bytes_lengths _ _ _ _ _ (asked_of _ _ c.is_profile_allowed.ensures c.is_state_allowed.ensures c.admitted-asked.ensures) c.in_default.is (lengths_by _ _ c.then-bytes-marks.either) c.refused_bytes-then-bytes-marks.ensures

pub returns : goal.returns
returns c = bytes_taken _ _ _ _ _ (asked_of _ _ c.is_profile_allowed.ensures c.is_state_allowed.ensures c.admitted-asked.ensures) c.in_default.is c.if-bytes-marks.false (omega arith) c.take_lines.ensures
