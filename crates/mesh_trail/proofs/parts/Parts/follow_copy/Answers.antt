use Rattle.std.proofs.Common.{ℕ, ◌<◌, length, sym, subst, ◌∙◌}
use Rattle.mesh_trail.specs.Lists.{HasRoom, IsPushed}
use Rattle.mesh_trail.proofs.Arrivals.{heard, heard_flew, receiver_below, unheard}
use Rattle.mesh_trail.proofs.Nodes.{is_there}
use Rattle.mesh_trail.proofs.parts.Parts.follow_copy.Goals as goal

pub returns-then-not-is_heard-clause-kept : goal.returns-then-not-is_heard-clause-kept
returns-then-not-is_heard-clause-kept c =
    let p = c.args.self.now in
    let a = c.requires.2.1 in
    unheard c.requires.0 c.requires.2.0 p.world c.args.done.now c.requires.1 p.nodes.items p.casts.items a.sound a.step (sym c.if-not-is_heard.ensures) a.kept

pub push_list-requires-clause-node : goal.push_list-requires-clause-node
push_list-requires-clause-node c =
    let p = c.args.self.now in
    let old = c.requires.2.0 in
    let a = c.requires.2.1 in
    let k = heard_flew c.requires.0 old p.world c.args.done.now c.requires.1 a.step (sym c.if-not-is_heard.ensures) in
    subst (λ (to : ℕ). to < length p.nodes.items) (sym (a.prepared k.0 k.1).receiver) (is_there old p.nodes.items p.casts.items k.0.to a.kept (receiver_below old c.requires.0 k.0 a.kept.sound k.1))

pub push_list-requires-clause-room : goal.push_list-requires-clause-room
push_list-requires-clause-room c =
    let p = c.args.self.now in
    let old = c.requires.2.0 in
    let a = c.requires.2.1 in
    let k = heard_flew c.requires.0 old p.world c.args.done.now c.requires.1 a.step (sym c.if-not-is_heard.ensures) in
    let r = a.prepared k.0 k.1 in
    subst (λ (to : ℕ). HasRoom to p.nodes.items) (sym r.receiver) r.room

pub returns-clause-kept : goal.returns-clause-kept
returns-clause-kept c =
    let p = c.args.self.now in
    let old = c.requires.2.0 in
    let a = c.requires.2.1 in
    let k = heard_flew c.requires.0 old p.world c.args.done.now c.requires.1 a.step (sym c.if-not-is_heard.ensures) in
    let r = a.prepared k.0 k.1 in
    let list = c.replace-list.result in
    heard c.requires.0 k.0 old p.world c.args.done.now c.requires.1 p.nodes.items c.push_list.new.nodes.items p.casts.items list a.sound a.step (sym c.if-not-is_heard.ensures) k.1 (c.replace-list.ensures.value ∙ r.list)
    (subst (λ (to : ℕ). IsPushed to list p.nodes.items c.push_list.new.nodes.items) r.receiver c.push_list.ensures) a.kept
