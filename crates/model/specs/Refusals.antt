-- Document 01, "Refusal numbers", and document 02: the number of each refusal of a call.
-- Assumes nothing.
use Rattle.std.specs.Prelude.{ℕ, Result, Ok, Err}
use Rattle.model.specs.declared.refusal.Refusal.{Refusal}
use Rattle.model.specs.declared.refusal.Refusal.TheVariants.{Profile, State, Room, Lengths}

-- the paper's number
abbrev pub number_of_refusal : Refusal → ℕ
number_of_refusal Profile = 1
number_of_refusal State = 2
number_of_refusal Room = 3
number_of_refusal Lengths = 5

-- and 0 for no refusal
abbrev pub number_of_outcome : {A : Type 0} → Result A Refusal → ℕ
number_of_outcome (Ok a) = 0
number_of_outcome (Err e) = number_of_refusal e
