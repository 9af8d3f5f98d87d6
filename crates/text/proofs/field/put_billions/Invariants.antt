use mathlib.Core.Path.{◌≡◌}
use Prim.Native.Nat.{◌+◌, ◌-◌, ◌*◌, ◌≤◌, ◌<◌}
use Rattle.text.proofs.field.put_billions.Given as goal

abbrev pub invariant-loop : goal.invariant-loop
invariant-loop l =
    (48 ≤ l.byte) × (l.rest + 1_000_000_000 * (l.byte - 48) ≡ l.value) × (l.rest < 1_000_000_000 * (10 - l.counter)) × (l.counter ≤ 9)
