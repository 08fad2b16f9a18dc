use Rattle.std.proofs.Common.{ap, sym, refl, ◌∙◌, Some, None}
use Rattle.std.specs.Prelude.{option_map}
use Rattle.std.proofs.lemmas.Option.{slice_get_read}
use Rattle.mesh_world.proofs.Choosing.{send_first, send_within, send_dest, send_dest_in}
use Rattle.mesh_world.proofs.choices.first_send.Goals as goal

pub returns-in_err-x-clause-first : goal.returns-in_err-x-clause-first
returns-in_err-x-clause-first c = λ mesh radio are. c.from_residual.ensures ∙ send_first mesh c.args.nodes.now c.args.ready.now are radio None c.in_err-x.ensures.least

pub bounds-nodes-x : goal.bounds-nodes-x
bounds-nodes-x c = send_within c.requires.ready.0 c.args.nodes.now c.args.ready.now c.requires.ready.1 c.in_ok-x.x c.in_ok-x.ensures.least.1

pub returns-in_err-dest-clause-first : goal.returns-in_err-dest-clause-first
returns-in_err-dest-clause-first c = λ mesh radio are.
    let there = slice_get_read c.args.nodes.now _ c.in_ok-x.x c.index-nodes-x.result refl (send_within mesh c.args.nodes.now c.args.ready.now are c.in_ok-x.x c.in_ok-x.ensures.least.1) c.index-nodes-x.is in
    c.from_residual-in_err-dest.ensures
    ∙ (sym (ap (option_map (λ d. (c.in_ok-x.x, d))) (send_dest mesh c.args.nodes.now c.args.ready.now are c.in_ok-x.x c.index-nodes-x.result c.sendable.result None there c.in_ok-x.ensures.least.1 c.sendable.ensures c.in_err-dest.ensures.least))
    ∙ send_first mesh c.args.nodes.now c.args.ready.now are radio (Some c.in_ok-x.x) c.in_ok-x.ensures.least)

pub returns-clause-first : goal.returns-clause-first
returns-clause-first c = λ mesh radio are.
    let there = slice_get_read c.args.nodes.now _ c.in_ok-x.x c.index-nodes-x.result refl (send_within mesh c.args.nodes.now c.args.ready.now are c.in_ok-x.x c.in_ok-x.ensures.least.1) c.index-nodes-x.is in
    sym (ap (option_map (λ d. (c.in_ok-x.x, d))) (send_dest mesh c.args.nodes.now c.args.ready.now are c.in_ok-x.x c.index-nodes-x.result c.sendable.result (Some c.in_ok-dest.dest) there c.in_ok-x.ensures.least.1 c.sendable.ensures c.in_ok-dest.ensures.least))
    ∙ send_first mesh c.args.nodes.now c.args.ready.now are radio (Some c.in_ok-x.x) c.in_ok-x.ensures.least

pub returns-clause-within : goal.returns-clause-within
returns-clause-within c =
    let mesh = c.requires.ready.0 in
    let are = c.requires.ready.1 in
    let within = send_within mesh c.args.nodes.now c.args.ready.now are c.in_ok-x.x c.in_ok-x.ensures.least.1 in
    let there = slice_get_read c.args.nodes.now _ c.in_ok-x.x c.index-nodes-x.result refl within c.index-nodes-x.is in (
      within,
      send_dest_in mesh c.args.nodes.now c.args.ready.now are c.in_ok-x.x c.in_ok-dest.dest
          (send_dest mesh c.args.nodes.now c.args.ready.now are c.in_ok-x.x c.index-nodes-x.result c.sendable.result (Some c.in_ok-dest.dest) there c.in_ok-x.ensures.least.1 c.sendable.ensures c.in_ok-dest.ensures.least),
    )
