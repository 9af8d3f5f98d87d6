-- Document 01, "Refusal numbers": 3, the buffer is shorter than the line; 4, no answer forms the line; 0 is no refusal.
-- Assumes nothing.
use Rattle.std.specs.Prelude.{ℕ, Result, Ok, Err}
use Rattle.host.specs.declared.refusal.Refusal.{Refusal}
use Rattle.host.specs.declared.refusal.Refusal.TheVariants.{Room, Form}

abbrev pub number_of_refusal : Refusal → ℕ
number_of_refusal Room = 3
number_of_refusal Form = 4

-- of what is read or written
abbrev pub number_of : {A : Type 0} → Result A Refusal → ℕ
number_of (Ok a) = 0
number_of (Err e) = number_of_refusal e
