use Rattle.std.proofs.Common.{sym, take-append-drop}
use Rattle.mesh_io.proofs.put.put_in_parts.Goals as goal

pub returns-then-put_prefix-piece-clause-text : goal.returns-then-put_prefix-piece-clause-text
returns-then-put_prefix-piece-clause-text g c = record
    { prefix = _; rest = _; whole = sym (take-append-drop c.put_prefix.result c.args.piece.now); grown = c.put_prefix.ensures.text }
