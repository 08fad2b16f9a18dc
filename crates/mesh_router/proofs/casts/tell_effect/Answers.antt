use Rattle.std.proofs.Common.{◌≡◌, ℕ, List, length, refl, ap, ◌∙◌, sym, subst}
use Rattle.mesh_base.specs.Meshes.{Nodes}
use Rattle.mesh_report.specs.Nodes.{IsTookOfMesh, IsCastOfMesh}
use Rattle.mesh_report.specs.Packets.{step_lines}
use Rattle.mesh_report.proofs.Messages.{cast_of_mesh}
use Rattle.mesh_router.specs.Peers.{code_text}
use Rattle.mesh_router.proofs.Peers.{effect_is, taken_of_mesh}
use Rattle.std.specs.Prelude.{option_map, IfSome}
use Rattle.std.specs.Borrow.{Bor}
use Rattle.mesh_base.specs.declared.events.Took.{Took}
use Rattle.mesh_model.specs.Worlds.{members_below, receivers}
use Rattle.mesh_model.proofs.MeshSteps.{receivers_in}
use Rattle.std.specs.FinSet as sets
use Rattle.std.specs.Io.KnownBytes.{Appends}
use Rattle.mesh_base.specs.Members.{NodeIds}
use Rattle.mesh_meaning.specs.Answers.{cast_in}
use Rattle.mesh_io.specs.Puts.{AppendsPrefix}
use Rattle.mesh_router.specs.Casts.{sent_to_each}
use Rattle.mesh_router.specs.Logs.{Log, text_log, followed_by}
use Rattle.mesh_router.specs.Outputs.{Says}
use Rattle.mesh_router.proofs.Logging.{says-fault, prefix-more, prefix-text, adds-text, says-join}
use Rattle.mesh_router.proofs.casts.tell_effect.Goals as goal

pub put_effect-requires-clause-took : goal.put_effect-requires-clause-took
put_effect-requires-clause-took g c =
    let p = c.args.peers.now in
    subst (λ (m : Nodes). IfSome c.args.took (λ (t : Bor Took). IsTookOfMesh m t.now)) (sym c.mesh-2.ensures.mesh) (taken_of_mesh p.mesh c.args.took c.requires.took)

pub put_effect-requires-clause-cast : goal.put_effect-requires-clause-cast
put_effect-requires-clause-cast g c =
    let p = c.args.peers.now in
    subst (λ (m : Nodes). IsCastOfMesh m c.args.effect.now.cast) (sym c.mesh-2.ensures.mesh) (cast_of_mesh p.mesh c.args.effect.now.cast c.args.packet.now.items c.requires.cast)

pub returns-in_err-put_effect-clause-says : goal.returns-in_err-put_effect-clause-says
returns-in_err-put_effect-clause-says g c =
    let p = c.args.peers.now in
    let packet = c.args.packet.now.items in
    let text : Nodes → List ℕ = λ m. step_lines m c.args.me c.args.took c.args.effect.now packet in
    let log = code_text p.mesh c.args.me (option_map (λ (t : Bor Took). t.now) c.args.took) c.args.effect.now packet in
    let e : text c.mesh-2.result.now ≡ log = ap text c.mesh-2.ensures.mesh ∙ effect_is p.mesh c.args.me c.args.took c.args.effect.now packet c.requires.took c.requires.cast in
    says-fault _ _ _ c.from_residual.result c.from_residual.ensures.0
    (prefix-more _ _ (text_log log) (sent_to_each p packet (members_below (length p.mesh) (receivers c.args.range.now (cast_in p.mesh c.args.effect.now.cast packet))))
    (prefix-text _ _ _ _ log refl
    (subst (λ (l : List ℕ). AppendsPrefix (g.O.Sink.held c.args.out.now) (g.O.Sink.held c.put_effect.new.out) l) e c.in_err-put_effect.ensures.text)))

pub send_to_each-requires-clause-peers : goal.send_to_each-requires-clause-peers
send_to_each-requires-clause-peers g c = λ x is.
    let p = c.args.peers.now in
    let packet = c.args.packet.now.items in
    let cast = cast_in p.mesh c.args.effect.now.cast packet in
    c.requires.range x (receivers_in c.args.range.now cast x
    (ap (λ (s : NodeIds). sets.contains s x) (sym (c.receivers-to.ensures p.mesh packet)) ∙ is))

pub returns-clause-says : goal.returns-clause-says
returns-clause-says g c =
    let p = c.args.peers.now in
    let packet = c.args.packet.now.items in
    let cast = cast_in p.mesh c.args.effect.now.cast packet in
    let text : Nodes → List ℕ = λ m. step_lines m c.args.me c.args.took c.args.effect.now packet in
    let log = code_text p.mesh c.args.me (option_map (λ (t : Bor Took). t.now) c.args.took) c.args.effect.now packet in
    let e : text c.mesh-2.result.now ≡ log = ap text c.mesh-2.ensures.mesh ∙ effect_is p.mesh c.args.me c.args.took c.args.effect.now packet c.requires.took c.requires.cast in
    let to : NodeIds → Log = λ s. sent_to_each p packet (members_below (length p.mesh) s) in
    let q : to c.receivers-to.result ≡ to (receivers c.args.range.now cast) = ap to (c.receivers-to.ensures p.mesh packet) in
    subst (λ (s : Log). Says (g.O.Sink.held c.args.out.now, g.L.Link.sent c.args.link.now) (g.O.Sink.held c.send_to_each.new.out, g.L.Link.sent c.send_to_each.new.link) (followed_by (text_log log) s) c.send_to_each.result) q
    (says-join _ (g.O.Sink.held c.put_effect.new.out, g.L.Link.sent c.args.link.now) _ (text_log log) (to c.receivers-to.result) c.send_to_each.result
    (adds-text _ _ _ _ log refl (subst (λ (l : List ℕ). Appends (g.O.Sink.held c.args.out.now) (g.O.Sink.held c.put_effect.new.out) l) e c.in_ok-put_effect.ensures.text))
    c.send_to_each.ensures.says)
