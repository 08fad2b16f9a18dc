use Rattle.std.proofs.Common.{List, ℕ, sym, subst}
use Rattle.mesh_trail.specs.Lists.{IsPushed}
use Rattle.mesh_trail.proofs.Arrivals.{given}
use Rattle.mesh_trail.proofs.parts.Parts.follow_give.Goals as goal

pub returns-clause-kept : goal.returns-clause-kept
returns-clause-kept c =
    let p = c.args.self.now in
    let old = c.requires.3.0 in
    let a = c.requires.3.1 in
    given c.args.x c.requires.0 c.requires.1 old p.world c.args.done.now c.requires.2 p.nodes.items c.push_list.new.nodes.items p.casts.items a.sound a.step (sym c.if-is_idle.ensures) a.prepared.0
    (subst (λ (l : List ℕ). IsPushed c.args.x l p.nodes.items c.push_list.new.nodes.items) c.new.ensures c.push_list.ensures) a.kept
