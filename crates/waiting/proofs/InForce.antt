-- The unit in force does not move with what a waiting command makes of a stable sample.
-- Assumes nothing.
use mathlib.Core.Path.{◌≡◌, refl}
use Rattle.answer.specs.Commands.{place_t, place_z}
use Rattle.answer.specs.declared.answer.Status.TheVariants.{A}
use Rattle.model.specs.declared.profile.Profile.{Profile}
use Rattle.model.specs.declared.state.Pending.{Pending}
use Rattle.model.specs.declared.state.Pending.TheVariants.{Weigh, Zero, Tare, Change}
use Rattle.model.specs.declared.weighing.Weighing.{Weighing}
use Rattle.waiting.specs.Waits.{settled}
use Rattle.weighing.proofs.InForce.{unit_after_tare, unit_after_zero}

pub unit_settled : (p : Profile) (pending : Pending) (w : Weighing) → (settled p pending w).weighing.unit ≡ w.unit
unit_settled p Weigh w = refl
unit_settled p Zero w = unit_after_zero p w place_z A
unit_settled p Tare w = unit_after_tare p w place_t
unit_settled p Change w = refl
