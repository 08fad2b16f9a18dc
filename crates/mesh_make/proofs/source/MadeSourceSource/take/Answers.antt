use Rattle.std.proofs.Common.{◌≡◌, ◌-◌, take, drop, length, length-drop, ap, ◌∙◌, arith}
use Rattle.std.proofs.lemmas.List.{drop-drop, take_rest}
use Rattle.mesh_make.proofs.Pieces.{filled_more}
use Rattle.mesh_make.proofs.source.MadeSourceSource.take.Goals as goal

pub loop-given-preserved : goal.loop-given-preserved
loop-given-preserved c =
    let i = c.loop-given.given in
    let n = c.give_piece-n.result in
    let so_far = c.loop-given.invariant in
    let piece = c.give_piece-n.ensures in
    let more : length (drop i c.args.self.now) ≡ length c.args.self.now - i = length-drop i c.args.self.now in
    let some : length c.loop-given.self ≡ length (drop i c.args.self.now) = ap length so_far.left in
    let room : length (take (length c.loop-given.buf - i) (drop i c.loop-given.buf)) ≡ length c.loop-given.buf - i = rw take_rest (length-drop i c.loop-given.buf) in
    record {
      within = omega (arith, so_far.within, piece.within);
      room = omega (arith, so_far.room, piece.room, c.loop-given.auto.buf);
      left = piece.left ∙ ap (drop n) so_far.left ∙ drop-drop n i c.args.self.now;
      buffer = filled_more c.args.self.now c.args.buf.now c.loop-given.buf c.loop-given.self c.give_piece-n.new.buf i n so_far.within so_far.left so_far.buffer piece.buffer;
    }
