use Rattle.std.proofs.Common.{◌≡◌, Result, refl, sym, ap, subst, inl, inr}
use Rattle.mesh_base.specs.declared.events.Done.{Done}
use Rattle.mesh_base.specs.declared.events.Event as events
use Rattle.mesh_model.specs.Worlds as model
use Rattle.mesh_meaning.specs.Events.{event_of}
use Rattle.mesh_world.specs.declared.steps.StepError.{StepError}
use Rattle.mesh_trail.specs.Steps.{MovesNothing}
use Rattle.mesh_trail.specs.Preparations.{IsAnsweredIn}
use Rattle.mesh_trail.proofs.Moves.{fills}
use Rattle.mesh_trail.proofs.Nodes.{passed}
use Rattle.mesh_trail.proofs.Prepared.{done_so}
use Rattle.mesh_trail.proofs.parts.Parts.follow.Goals as goal

pub returns-in_default-clause-number : goal.returns-in_default-clause-number
returns-in_default-clause-number c =
    let a = c.requires.1 in
    fills a.kept.variant (event_of c.args.e.now) c.requires.0 c.args.self.now.world c.args.answer.now c.args.out.now.items a.kept.ran a.step

pub follow_give-requires : goal.follow_give-requires
follow_give-requires c = (c.in-Give.dest, c.in-Give.body.now, c.args.out.now.items, done_so (event_of c.args.e.now) (model.Give c.in-Give.node c.in-Give.dest c.in-Give.body.now) c.args.self.now c.args.answer.now c.in-Ok.done c.args.out.now.items (ap event_of c.in-Give.is) c.in-Ok.is c.requires)

pub follow_turn-requires : goal.follow_turn-requires
follow_turn-requires c = done_so (event_of c.args.e.now) (model.Turn c.in-Turn.node) c.args.self.now c.args.answer.now c.in-Ok.done c.args.out.now.items (ap event_of c.in-Turn.is) c.in-Ok.is c.requires

pub follow_own-requires : goal.follow_own-requires
follow_own-requires c = (model.Send c.in-Send.node c.in-Send.dest, c.in-Ok.done, refl, done_so (event_of c.args.e.now) (model.Send c.in-Send.node c.in-Send.dest) c.args.self.now c.args.answer.now c.in-Ok.done c.args.out.now.items (ap event_of c.in-Send.is) c.in-Ok.is c.requires)

pub follow_own-requires-in-Ask : goal.follow_own-requires-in-Ask
follow_own-requires-in-Ask c = (model.Ask c.in-Ask.node c.in-Ask.dest, c.in-Ok.done, refl, done_so (event_of c.args.e.now) (model.Ask c.in-Ask.node c.in-Ask.dest) c.args.self.now c.args.answer.now c.in-Ok.done c.args.out.now.items (ap event_of c.in-Ask.is) c.in-Ok.is c.requires)

pub follow_copy-requires : goal.follow_copy-requires
follow_copy-requires c = (c.in-Deliver.id, c.args.out.now.items, done_so (event_of c.args.e.now) (model.Deliver c.in-Deliver.id) c.args.self.now c.args.answer.now c.in-Ok.done c.args.out.now.items (ap event_of c.in-Deliver.is) c.in-Ok.is c.requires)

pub follow_double-requires : goal.follow_double-requires
follow_double-requires c = (c.in-Double.id, c.in-Ok.done, c.args.out.now.items, done_so (event_of c.args.e.now) (model.Double c.in-Double.id) c.args.self.now c.args.answer.now c.in-Ok.done c.args.out.now.items (ap event_of c.in-Double.is) c.in-Ok.is c.requires)

pub returns-in-Link-clause-kept : goal.returns-in-Link-clause-kept
returns-in-Link-clause-kept c =
    let e = event_of c.args.e.now in
    let p = c.args.self.now in
    let still : MovesNothing e = elim c.in-Link.is [
      | inl l ↦ nothing (sym l.2) tt
      | inr r ↦ elim r [ inl l ↦ nothing (sym l.2) tt | inr l ↦ nothing (sym l.1) tt ]
    ] in
    let a = subst (λ (r : Result Done StepError). IsAnsweredIn e c.requires.0 p r c.args.out.now.items) c.in-Ok.is c.requires.1 in
    passed e c.requires.0 p.world c.in-Ok.done c.args.out.now.items p.nodes.items p.casts.items still a.sound a.step a.kept
  where
    nothing : {e f : events.Event} → e ≡ f → MovesNothing (event_of e) → MovesNothing (event_of f)
    nothing same still = subst (λ (g : events.Event). MovesNothing (event_of g)) same still
