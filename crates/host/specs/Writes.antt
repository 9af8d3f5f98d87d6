-- Writing the line of an answer: 4 where it cannot be formed, 3 where the buffer is shorter than the line.
-- Assumes nothing.
use Rattle.std.specs.Prelude.{ℕ, ◌≡◌, Bool, true, false, Result, Ok, Err, List, length}
use Rattle.answer.specs.Lines.{line_of}
use Rattle.emit.specs.Rooms.{fits_room, laid_in}
use Rattle.answer.specs.declared.answer.Answer.{Answer}
use Rattle.forms.specs.Forms.{can_form}
use Rattle.host.specs.declared.refusal.Refusal.{Refusal}
use Rattle.host.specs.Refusals.{number_of}

-- the count of a result: 0 on a refusal
abbrev pub count_of : Result ℕ Refusal → ℕ
count_of (Ok n) = n
count_of (Err e) = 0

-- what the writer gives: the paper's refusal number, n, and its buffer at the end
pub record Writing : Type 0 where
  pub number : ℕ
  pub count : ℕ
  pub buffer : List ℕ

-- on a refusal: n = 0, buffer untouched
abbrev pub refused : ℕ → List ℕ → Writing
refused n room = record { number = n; count = 0; buffer = room }

abbrev pub chosen_writing : Bool → Writing → Writing → Writing
chosen_writing true a b = a
chosen_writing false a b = b

-- 4: an answer that it can't form; 3: buffer shorter than the line; else the first n bytes are the line and the rest is as before
unfoldable pub writing : Answer → List ℕ → List ℕ → Writing
writing a t room =
    let line = line_of a t in
    chosen_writing (can_form a t)
    (chosen_writing (fits_room line room) (record { number = 0; count = length line; buffer = laid_in line room }) (refused 3 room))
    (refused 4 room)

-- what the writer's contract says: the refusal number, the result and the whole buffer at exit, for every input
pub record WritesLine (a : Answer) (t room : List ℕ) (r : Result ℕ Refusal) (buffer : List ℕ) : Type 0 where
  pub numbered : number_of r ≡ (writing a t room).number
  pub counted : count_of r ≡ (writing a t room).count
  pub left : buffer ≡ (writing a t room).buffer
