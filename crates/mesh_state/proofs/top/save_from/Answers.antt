use Rattle.std.proofs.Common.{◌≡◌, rules}
use Rattle.mesh_run.specs.declared.status.Status.TheVariants as status
use Rattle.mesh_state.proofs.Small.{small_end}
use Rattle.mesh_state.proofs.Told.{saved_told}
use Rattle.mesh_state.proofs.top.save_from.Goals as goal

pub put_state-requires : goal.put_state-requires
put_state-requires g c =
    let done : c.do_input.result ≡ status.Done = search rules in
    small_end c.args.running.now.at c.do_input.new.running.at c.requires.start (c.do_input.ensures.grown done) (c.do_input.ensures.lines done) (c.do_input.ensures.steps done)

pub returns-in-Done-clause-known : goal.returns-in-Done-clause-known
returns-in-Done-clause-known g c =
    let done : c.do_input.result ≡ status.Done = search rules in
    saved_told c.args.running.now.say c.args.running.now.at c.do_input.new.running.at _ _ _ _ _ c.do_input.result c.put_state.result c.requires.say c.requires.start done c.do_input.ensures.known (c.do_input.ensures.after done)
    c.put_state.ensures.saved c.put_state.ensures.cut c.put_state.ensures.too_big c.put_state.ensures.one
