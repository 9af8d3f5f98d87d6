-- A byte and a sample leave the tally's resolution in force.
-- Assumes nothing.
use mathlib.Core.Path.{◌≡◌, refl}
use Rattle.model.specs.declared.profile.Profile.{Profile}
use Rattle.history.specs.Tally.{Input, byte_is, sample_is, Tally, in_force, taken}

pub in_force_taken : (p : Profile) (t : Tally) (i : Input) → in_force p (taken t i) ≡ in_force p t
unfolding in_force
in_force_taken p t (byte_is m) = refl
in_force_taken p t (sample_is z stable) = refl
