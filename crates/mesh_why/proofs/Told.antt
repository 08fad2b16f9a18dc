-- What was written, from the run's last line and that of the route.
use Rattle.std.proofs.Common.{◌≡◌, ◌∙◌, ℕ, ◌++◌, List, Option, Some, None, IfSome, sym, ap, subst, inr}
use Rattle.std.specs.Io.KnownBytes.{Appends}
use Rattle.mesh_base.specs.Meshes.{Nodes}
use Rattle.mesh_base.specs.declared.events.Variant.TheVariants.{Base}
use Rattle.mesh_io.specs.Puts.{AppendsPrefix}
use Rattle.mesh_io.proofs.Writing.{Appends-join, AppendsPrefix-join}
use Rattle.mesh_text.specs.Schedule.{RunState, opening}
use Rattle.mesh_text.specs.Text.{RunText, text_on}
use Rattle.mesh_text.specs.declared.verdict.Verdict.TheVariants.{Finished}
use Rattle.mesh_run.specs.declared.say.Say.{Say}
use Rattle.mesh_run.specs.declared.say.Say.TheVariants.{Last}
use Rattle.mesh_run.specs.declared.status.Status.{Status}
use Rattle.mesh_run.specs.declared.status.Status.TheVariants as status
use Rattle.mesh_run.specs.Outputs.{IsOutputFrom}
use Rattle.mesh_why.specs.Routes.{IsRoute, route_line}
use Rattle.mesh_why.specs.Answers.{IsDone, IsCut, IsAnswered}

-- the mesh of the last state
line_there : (w : RunText) (at : RunState) (mesh : Nodes) (route : Option (List ℕ)) → at ≡ w.after → mesh ≡ at.mesh → w.last ++ route_line (w.after).mesh route ≡ w.last ++ route_line mesh route
line_there w at mesh route e m = ap (λ n. w.last ++ route_line n route) (sym (m ∙ ap (λ x. x.mesh) e))

both : (asked : ℕ × ℕ) (w : RunText) (at : RunState) (mesh : Nodes) (a b c : Option (List ℕ)) (route : Option (List ℕ)) → at ≡ w.after → mesh ≡ at.mesh → w.verdict ≡ Finished → Appends a b w.last → IsRoute at asked route
    → Appends b c (route_line mesh route) → IsDone asked w a c
both asked w at mesh a b c route e m finished p is q = record {
  finished = finished;
  route = route;
  is = subst (λ x. IsRoute x asked route) e is;
  grown = Appends-join a b c w.last (route_line mesh route) _ (line_there w at mesh route e m) p q;
}

one : (asked : ℕ × ℕ) (w : RunText) (at : RunState) (mesh : Nodes) (a b c : Option (List ℕ)) (route : Option (List ℕ)) → at ≡ w.after → mesh ≡ at.mesh → w.verdict ≡ Finished → Appends a b w.last → IsRoute at asked route
    → AppendsPrefix b c (route_line mesh route) → IsCut asked w a c
one asked w at mesh a b c route e m finished p is q = record {
  finished = finished;
  route = route;
  is = subst (λ x. IsRoute x asked route) e is;
  grown = AppendsPrefix-join a b c w.last (route_line mesh route) _ (line_there w at mesh route e m) p q;
}

-- the run came to this state, and its last line was written
record CameTo (bytes : List ℕ) (at : RunState) (a b : Option (List ℕ)) : Type 0 where
  finished : (text_on (opening Base) bytes).verdict ≡ Finished
  after : at ≡ (text_on (opening Base) bytes).after
  grown : Appends a b (text_on (opening Base) bytes).last

came_to : (say : Say) (start at : RunState) (bytes : List ℕ) (after a b : Option (List ℕ)) (s : Status) → say ≡ Last → start ≡ opening Base → s ≡ status.Done
    → IsOutputFrom say start bytes after a b s → at ≡ (text_on start bytes).after → CameTo bytes at a b
came_to say start at bytes after a b s l e d told past =
    let last : IsOutputFrom Last start bytes after a b s = subst (λ x. IsOutputFrom x start bytes after a b s) l told in
    let opened : IsOutputFrom Last (opening Base) bytes after a b s = subst (λ x. IsOutputFrom Last x bytes after a b s) e last in
    let so : IsOutputFrom Last (opening Base) bytes after a b status.Done = subst (λ x. IsOutputFrom Last (opening Base) bytes after a b x) d opened in
    record { finished = so.0; after = past ∙ ap (λ x. (text_on x bytes).after) e; grown = so.1 }

-- the line of the route was written after it
pub done_told : (asked : ℕ × ℕ) (say : Say) (start at : RunState) (mesh : Nodes) (left after a b c : Option (List ℕ)) (s : Status) (route : Option (List ℕ)) → say ≡ Last → start ≡ opening Base → s ≡ status.Done → mesh ≡ at.mesh
    → IfSome left (λ bytes. IsOutputFrom say start bytes after a b s) → IfSome left (λ bytes. at ≡ (text_on start bytes).after) → IsRoute at asked route → Appends b c (route_line mesh route)
    → IfSome left (λ bytes. IsAnswered asked bytes after a c status.Done)
done_told asked say start at mesh None after a b c s route l e d m told past is q = tt
done_told asked say start at mesh (Some bytes) after a b c s route l e d m told past is q =
    let came = came_to say start at bytes after a b s l e d told past in
    both asked (text_on (opening Base) bytes) at mesh a b c route came.after m came.finished came.grown is q

-- the same, and a prefix of that line was written
pub cut_told : (asked : ℕ × ℕ) (say : Say) (start at : RunState) (mesh : Nodes) (left after a b c : Option (List ℕ)) (s : Status) (route : Option (List ℕ)) → say ≡ Last → start ≡ opening Base → s ≡ status.Done → mesh ≡ at.mesh
    → IfSome left (λ bytes. IsOutputFrom say start bytes after a b s) → IfSome left (λ bytes. at ≡ (text_on start bytes).after) → IsRoute at asked route → AppendsPrefix b c (route_line mesh route)
    → IfSome left (λ bytes. IsAnswered asked bytes after a c status.WriteFault)
cut_told asked say start at mesh None after a b c s route l e d m told past is q = tt
cut_told asked say start at mesh (Some bytes) after a b c s route l e d m told past is q =
    let came = came_to say start at bytes after a b s l e d told past in
    inr (one asked (text_on (opening Base) bytes) at mesh a b c route came.after m came.finished came.grown is q)
