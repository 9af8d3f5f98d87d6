use mathlib.Core.List.{List, [], ◌++◌, append_assoc, append-nil}
use mathlib.Core.Path.{◌≡◌}
use Prim.Native.Nat.{ℕ}
use Rattle.text.specs.Ascii.{ascii}
use Rattle.answer.specs.Commands.{name_of}
use Rattle.answer.specs.Lines.{quoted, line_end}
use Rattle.emit.proofs.Laying.{laid_after}
use Rattle.emit.proofs.emit.put_text.Goals as goal

text_whole : (n m t : List ℕ) → n ≡ m → n ++ ascii " A \"" ++ (t ++ []) ++ ascii "\"\r\n" ≡ m ++ ascii " A " ++ quoted t ++ line_end
text_whole n m t e = rw (e, append-nil t) (simp append_assoc)

pub returns : goal.returns
returns c =
    let d = c.args.out.now in
    let n = c.name_of.result.now in
    let t = c.args.text.now in
    let all = laid_after d 0 (n ++ ascii " A \"" ++ (t ++ [])) (ascii "\"\r\n") (laid_after d 0 (n ++ ascii " A \"") (t ++ []) c.put-next.ensures c.put-end.ensures) c.put.ensures in
    rw (text_whole n (name_of c.args.command) t c.name_of.ensures) at all
