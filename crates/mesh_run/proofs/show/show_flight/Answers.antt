use Rattle.std.proofs.Common.{◌≡◌, ◌∙◌, true, refl, ap, sym}
use Rattle.std.proofs.lemmas.Result.{err_from_is_err_and}
use Rattle.mesh_base.specs.Meshes.{Nodes}
use Rattle.mesh_model.specs.Worlds.{World}
use Rattle.mesh_text.specs.Schedule.{RunState, world_of}
use Rattle.mesh_grammar.specs.Written.{line}
use Rattle.mesh_text.specs.Tables.{flight_text}
use Rattle.mesh_meaning.specs.Packets.{copy_in}
use Rattle.std.proofs.Common.{map}
use Rattle.mesh_world.specs.Seen.{WorldSeen}
use Rattle.mesh_run.proofs.Tables.{shows_whole, shows_front}
use Rattle.mesh_run.proofs.show.show_flight.Goals as goal

pub returns-in_err-put_echo-clause-text : goal.returns-in_err-put_echo-clause-text
returns-in_err-put_echo-clause-text g c =
    let p = err_from_is_err_and c.from_residual.result c.from_residual.ensures.1 in
    let words = ap line c.requires.echo.1 in
    rw p.1 (shows_front true _ _ _ _ _ refl words c.in_err-put_echo.ensures.text)

pub returns-clause-text : goal.returns-clause-text
returns-clause-text g c =
    let again : c.mesh.result.now ≡ c.args.at.now.mesh = c.mesh.ensures.value ∙ (ap (λ (w : WorldSeen). w.mesh) c.world-world.ensures ∙ (c.in-Some.ensures.mesh ∙ ap (λ (m : RunState). m.mesh) c.at.view_is)) in
    let words = ap line c.requires.echo.1 in
    let output_if : flight_text c.mesh.result.now (map (copy_in c.mesh.result.now) c.radio.result.now.flying) ≡ flight_text c.args.at.now.mesh (world_of c.args.at.now).flying =
    ap (λ (m : Nodes). flight_text m (map (copy_in m) c.radio.result.now.flying)) again
    ∙ ap (λ (m : Nodes). flight_text c.args.at.now.mesh (map (copy_in m) c.radio.result.now.flying)) (sym (ap (λ (w : WorldSeen). w.mesh) c.world-world.ensures ∙ (c.in-Some.ensures.mesh ∙ ap (λ (m : RunState). m.mesh) c.at.view_is)))
    ∙ ap (flight_text c.args.at.now.mesh) c.radio.ensures.flying
    ∙ ap (λ (w : World). flight_text c.args.at.now.mesh w.flying) (ap (λ (w : WorldSeen). w.world) c.world-world.ensures ∙ (c.in-Some.ensures.world ∙ ap (λ (m : RunState). world_of m) c.at.view_is)) in
    shows_whole true _ _ _ _ _ (g.O.Sink.held c.put_echo.new.out) _ c.put_copies.result refl words output_if c.in_ok-put_echo.ensures.text c.put_copies.ensures.text
