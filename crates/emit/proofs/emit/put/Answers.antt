use borrow.Author.Rules.{rules}
use Rattle.emit.proofs.Laying.{piece_room, piece_more}
use Rattle.emit.proofs.emit.put.Goals as goal

pub overflow_add-end : goal.overflow_add-end
overflow_add-end c =
    let room = piece_room c.args.out.now c.args.at c.loop-piece.piece-index c.args.pieces.now c.loop-piece-test.true c.loop-piece.invariant.1 c.requires c.loop-piece.invariant.0 in
    search rules

pub slice_bounds-copy-end : goal.slice_bounds-copy-end
slice_bounds-copy-end c =
    let room = piece_room c.args.out.now c.args.at c.loop-piece.piece-index c.args.pieces.now c.loop-piece-test.true c.loop-piece.invariant.1 c.requires c.loop-piece.invariant.0 in
    search rules

pub loop-piece-preserved : goal.loop-piece-preserved
loop-piece-preserved c =
    piece_more c.args.out.now c.args.at c.loop-piece.piece-index c.args.pieces.now c.loop-piece-test.true c.loop-piece.invariant.1 c.requires c.loop-piece.invariant.0 c.copy.ensures
