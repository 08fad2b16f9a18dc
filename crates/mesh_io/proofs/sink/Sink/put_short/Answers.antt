use Rattle.std.proofs.Common.{◌∙◌, ap, sym, take, drop, take-append-drop, rules}
use Rattle.mesh_io.proofs.Writing.{Appends-join, Appends-keeps, take_on}
use Rattle.mesh_io.proofs.sink.Sink.put_short.Goals as goal

pub loop-taken-preserved : goal.loop-taken-preserved
loop-taken-preserved g c = record {
  within = search rules;
  text = Appends-join _ _ _ _ _ _ (take_on c.loop-taken.taken c.in-Ok.n c.as_slice-bytes.result.now) c.loop-taken.invariant.text c.in-Ok.ensures.bytes;
  none = search rules;
}

pub returns-in-Err-clause-text : goal.returns-in-Err-clause-text
returns-in-Err-clause-text g c = record {
  prefix = take c.loop-taken.taken c.as_slice-bytes.result.now;
  rest = drop c.loop-taken.taken c.as_slice-bytes.result.now;
  whole = sym c.as_slice-bytes.ensures.value ∙ sym (take-append-drop c.loop-taken.taken c.as_slice-bytes.result.now);
  grown = Appends-keeps _ _ _ _ c.loop-taken.invariant.text c.in-Err.ensures.bytes;
}
