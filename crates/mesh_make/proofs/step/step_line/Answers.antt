use Rattle.std.proofs.Common.{ap, arith}
use Rattle.mesh_make.proofs.Seen.{link, cut, give, lose, deliver, turn, route, ask, auto}
use Rattle.mesh_make.proofs.step.step_line.Goals as goal

pub returns-in-0-clause-line : goal.returns-in-0-clause-line
returns-in-0-clause-line c =
    let d = c.draw_two-a-in-0 in
    ap (λ drawn. drawn.value) (link c.args.nodes c.args.step c.args.rng.now _ _ _ c.next.ensures.word c.next.ensures.after _ _ d.ensures.first d.ensures.second d.ensures.after c.requires.two (omega (arith, c.in-0)))

pub returns-in-0-clause-after : goal.returns-in-0-clause-after
returns-in-0-clause-after c =
    let d = c.draw_two-a-in-0 in
    ap (λ drawn. drawn.rng) (link c.args.nodes c.args.step c.args.rng.now _ _ _ c.next.ensures.word c.next.ensures.after _ _ d.ensures.first d.ensures.second d.ensures.after c.requires.two (omega (arith, c.in-0)))

pub returns-in-2-clause-line : goal.returns-in-2-clause-line
returns-in-2-clause-line c =
    let d = c.draw_two-a in
    ap (λ drawn. drawn.value) (cut c.args.nodes c.args.step c.args.rng.now _ _ _ c.next.ensures.word c.next.ensures.after _ _ d.ensures.first d.ensures.second d.ensures.after c.requires.two c.in-2.is)

pub returns-in-2-clause-after : goal.returns-in-2-clause-after
returns-in-2-clause-after c =
    let d = c.draw_two-a in
    ap (λ drawn. drawn.rng) (cut c.args.nodes c.args.step c.args.rng.now _ _ _ c.next.ensures.word c.next.ensures.after _ _ d.ensures.first d.ensures.second d.ensures.after c.requires.two c.in-2.is)

pub returns-in-3-to-5-clause-line : goal.returns-in-3-to-5-clause-line
returns-in-3-to-5-clause-line c =
    let d = c.draw_two-node-in-3-to-5 in
    ap (λ drawn. drawn.value) (give c.args.nodes c.args.step c.args.rng.now _ _ _ c.next.ensures.word c.next.ensures.after _ _ d.ensures.first d.ensures.second d.ensures.after _ c.write_text-body.ensures (omega (arith, c.in-3-to-5)) (omega (arith, c.in-3-to-5)))

pub returns-in-3-to-5-clause-after : goal.returns-in-3-to-5-clause-after
returns-in-3-to-5-clause-after c =
    let d = c.draw_two-node-in-3-to-5 in
    ap (λ drawn. drawn.rng) (give c.args.nodes c.args.step c.args.rng.now _ _ _ c.next.ensures.word c.next.ensures.after _ _ d.ensures.first d.ensures.second d.ensures.after _ c.write_text-body.ensures (omega (arith, c.in-3-to-5)) (omega (arith, c.in-3-to-5)))

pub returns-in-6-clause-line : goal.returns-in-6-clause-line
returns-in-6-clause-line c =
    let d = c.draw_copy in
    ap (λ drawn. drawn.value) (lose c.args.nodes c.args.step c.args.rng.now _ _ _ c.next.ensures.word c.next.ensures.after _ d.ensures.after d.ensures.copy c.in-6.is)

pub returns-in-6-clause-after : goal.returns-in-6-clause-after
returns-in-6-clause-after c =
    let d = c.draw_copy in
    ap (λ drawn. drawn.rng) (lose c.args.nodes c.args.step c.args.rng.now _ _ _ c.next.ensures.word c.next.ensures.after _ d.ensures.after d.ensures.copy c.in-6.is)

pub returns-in-7-clause-line : goal.returns-in-7-clause-line
returns-in-7-clause-line c =
    let d = c.draw_copy-in-7 in
    ap (λ drawn. drawn.value) (deliver c.args.nodes c.args.step c.args.rng.now _ _ _ c.next.ensures.word c.next.ensures.after _ d.ensures.after d.ensures.copy c.in-7.is)

pub returns-in-7-clause-after : goal.returns-in-7-clause-after
returns-in-7-clause-after c =
    let d = c.draw_copy-in-7 in
    ap (λ drawn. drawn.rng) (deliver c.args.nodes c.args.step c.args.rng.now _ _ _ c.next.ensures.word c.next.ensures.after _ d.ensures.after d.ensures.copy c.in-7.is)

pub returns-in-8-clause-line : goal.returns-in-8-clause-line
returns-in-8-clause-line c =
    let d = c.draw_node in
    ap (λ drawn. drawn.value) (turn c.args.nodes c.args.step c.args.rng.now _ _ _ c.next.ensures.word c.next.ensures.after _ d.ensures.after d.ensures.node (omega (arith, c.in-8)) (omega (arith, c.in-8)))

pub returns-in-8-clause-after : goal.returns-in-8-clause-after
returns-in-8-clause-after c =
    let d = c.draw_node in
    ap (λ drawn. drawn.rng) (turn c.args.nodes c.args.step c.args.rng.now _ _ _ c.next.ensures.word c.next.ensures.after _ d.ensures.after d.ensures.node (omega (arith, c.in-8)) (omega (arith, c.in-8)))

pub returns-in-10-clause-line : goal.returns-in-10-clause-line
returns-in-10-clause-line c =
    let d = c.draw_two-node in
    ap (λ drawn. drawn.value) (route c.args.nodes c.args.step c.args.rng.now _ _ _ c.next.ensures.word c.next.ensures.after _ _ d.ensures.first d.ensures.second d.ensures.after c.in-10.is)

pub returns-in-10-clause-after : goal.returns-in-10-clause-after
returns-in-10-clause-after c =
    let d = c.draw_two-node in
    ap (λ drawn. drawn.rng) (route c.args.nodes c.args.step c.args.rng.now _ _ _ c.next.ensures.word c.next.ensures.after _ _ d.ensures.first d.ensures.second d.ensures.after c.in-10.is)

pub returns-in-11-clause-line : goal.returns-in-11-clause-line
returns-in-11-clause-line c =
    let d = c.draw_two-node-in-11 in
    ap (λ drawn. drawn.value) (ask c.args.nodes c.args.step c.args.rng.now _ _ _ c.next.ensures.word c.next.ensures.after _ _ d.ensures.first d.ensures.second d.ensures.after c.in-11.is)

pub returns-in-11-clause-after : goal.returns-in-11-clause-after
returns-in-11-clause-after c =
    let d = c.draw_two-node-in-11 in
    ap (λ drawn. drawn.rng) (ask c.args.nodes c.args.step c.args.rng.now _ _ _ c.next.ensures.word c.next.ensures.after _ _ d.ensures.first d.ensures.second d.ensures.after c.in-11.is)

pub returns-in_default-clause-line : goal.returns-in_default-clause-line
returns-in_default-clause-line c =
    ap (λ drawn. drawn.value) (auto c.args.nodes c.args.step c.args.rng.now _ _ c.next.ensures.word c.next.ensures.after (omega (arith, c.in_default)))

pub returns-in_default-clause-after : goal.returns-in_default-clause-after
returns-in_default-clause-after c =
    ap (λ drawn. drawn.rng) (auto c.args.nodes c.args.step c.args.rng.now _ _ c.next.ensures.word c.next.ensures.after (omega (arith, c.in_default)))
