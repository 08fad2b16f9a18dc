-- A link that comes to stand or falls is the model's.
use Rattle.std.proofs.Common.{◌≡◌, ℕ, ◌+◌, Bool, true, false, not, List, length, Ok, refl, ap, sym, ◌∙◌, subst, arith, ◌<◌, ◌^◌}
use Rattle.std.specs.Prelude.{if◌then◌else◌}
use Rattle.mesh_base.specs.Meshes.{Nodes}
use Rattle.mesh_base.specs.declared.events.Done.TheVariants as done
use Rattle.aodv_node.specs.Seen.{NodeSeen}
use Rattle.mesh_model.specs.Worlds as worlds
use Rattle.mesh_model.specs.Worlds.{World, Link, Cut, Idle, Next, Changed, step, are_linked}
use Rattle.mesh_model.specs.InMesh.{IsEvent}
use Rattle.mesh_radio.specs.Radios.{RadioState, with_link, without_link}
use Rattle.mesh_world.specs.Kept.{Ready, IsKept, world_in}
use Rattle.mesh_world.proofs.Frames.{Ends, Beside, ends_done, ends_idle, beside, later}

not_linked : (b : Bool) → true ≡ not b → b ≡ false
not_linked true e = e
not_linked false e = refl

linked : (b : Bool) → false ≡ not b → b ≡ true
linked true e = refl
linked false e = e

shown_linked : (mesh : Nodes) (nodes : List NodeSeen) (radio : RadioState) (a b : ℕ) → are_linked (world_in mesh nodes radio).links a b ≡ are_linked radio.links a b
unfolding world_in
shown_linked mesh nodes radio a b = refl

link_at : (w : World) (a b : ℕ) (l : Bool) → are_linked w.links a b ≡ l → step w (Link a b) ≡ (if l then Idle else Next (worlds.with_link w a b) Changed)
unfolding step
link_at w a b l e = ap (λ (l : Bool). if l then Idle else Next (worlds.with_link w a b) Changed) e

cut_at : (w : World) (a b : ℕ) (l : Bool) → are_linked w.links a b ≡ l → step w (Cut a b) ≡ (if l then Next (worlds.without_link w a b) Changed else Idle)
unfolding step
cut_at w a b l e = ap (λ (l : Bool). if l then Next (worlds.without_link w a b) Changed else Idle) e

with_shown : (mesh : Nodes) (nodes : List NodeSeen) (old new : RadioState) (a b : ℕ) → new ≡ with_link old a b → worlds.with_link (world_in mesh nodes old) a b ≡ world_in mesh nodes new
unfolding world_in
with_shown mesh nodes old new a b is = ap (world_in mesh nodes) (sym is)

without_shown : (mesh : Nodes) (nodes : List NodeSeen) (old new : RadioState) (a b : ℕ) → new ≡ without_link old a b → worlds.without_link (world_in mesh nodes old) a b ≡ world_in mesh nodes new
unfolding world_in
without_shown mesh nodes old new a b is = ap (world_in mesh nodes) (sym is)

later_with : (mesh : Nodes) (nodes : List NodeSeen) (radio radio' : RadioState) (ready : Ready) (steps : ℕ) → IsKept mesh nodes radio ready steps → radio' ≡ radio → Beside mesh nodes radio' ready (steps + 1)
later_with mesh nodes radio radio' ready steps k same = subst (λ (r : RadioState). Beside mesh nodes r ready (steps + 1)) (sym same) (later mesh nodes radio ready steps (beside mesh nodes radio ready steps k))

pub link_done : (mesh : Nodes) (nodes : List NodeSeen) (radio radio' : RadioState) (ready : Ready) (steps a b : ℕ) (packet : List ℕ) → IsKept mesh nodes radio ready steps → steps < 2 ^ 48 → IsEvent (length mesh) (Link a b)
    → true ≡ not (are_linked radio.links a b) → radio' ≡ with_link radio a b → Ends (Link a b) mesh nodes radio steps (Ok done.Changed) nodes radio' ready (steps + 1) packet
link_done mesh nodes radio radio' ready steps a b packet k few ok none is =
    let w = world_in mesh nodes radio in
    let world : worlds.with_link w a b ≡ world_in mesh nodes radio' = with_shown mesh nodes radio radio' a b is in
    let old : Beside mesh nodes (with_link radio a b) ready (steps + 1) = (let b = later mesh nodes radio ready steps (beside mesh nodes radio ready steps k) in record { each = b.each; flying = b.flying; size = b.size; numbers = b.numbers; sets = b.sets }) in
    ends_done (Link a b) mesh nodes radio ready steps done.Changed nodes radio' ready packet (Next (worlds.with_link w a b) Changed)
    k few ok (link_at w a b false (shown_linked mesh nodes radio a b ∙ not_linked (are_linked radio.links a b) none)) (omega arith) world (λ i. Next (world i) Changed) tt
    (subst (λ (r : RadioState). Beside mesh nodes r ready (steps + 1)) (sym is) old)

pub link_idle : (mesh : Nodes) (nodes : List NodeSeen) (radio radio' : RadioState) (ready : Ready) (steps a b : ℕ) (packet : List ℕ) → IsKept mesh nodes radio ready steps → steps < 2 ^ 48 → false ≡ not (are_linked radio.links a b) → radio' ≡ radio → Ends (Link a b) mesh nodes radio steps (Ok done.Idle) nodes radio' ready (steps + 1) packet
link_idle mesh nodes radio radio' ready steps a b packet k few stood same =
    ends_idle (Link a b) mesh nodes radio ready steps nodes radio' packet k few
    (link_at (world_in mesh nodes radio) a b true (shown_linked mesh nodes radio a b ∙ linked (are_linked radio.links a b) stood)) (ap (world_in mesh nodes) same) (later_with mesh nodes radio radio' ready steps k same)

pub cut_done : (mesh : Nodes) (nodes : List NodeSeen) (radio radio' : RadioState) (ready : Ready) (steps a b : ℕ) (packet : List ℕ) → IsKept mesh nodes radio ready steps → steps < 2 ^ 48 → IsEvent (length mesh) (Cut a b)
    → true ≡ are_linked radio.links a b → radio' ≡ without_link radio a b → Ends (Cut a b) mesh nodes radio steps (Ok done.Changed) nodes radio' ready (steps + 1) packet
cut_done mesh nodes radio radio' ready steps a b packet k few ok stood is =
    let w = world_in mesh nodes radio in
    let world : worlds.without_link w a b ≡ world_in mesh nodes radio' = without_shown mesh nodes radio radio' a b is in
    let old : Beside mesh nodes (without_link radio a b) ready (steps + 1) = (let b = later mesh nodes radio ready steps (beside mesh nodes radio ready steps k) in record { each = b.each; flying = b.flying; size = b.size; numbers = b.numbers; sets = b.sets }) in
    ends_done (Cut a b) mesh nodes radio ready steps done.Changed nodes radio' ready packet (Next (worlds.without_link w a b) Changed)
    k few ok (cut_at w a b true (shown_linked mesh nodes radio a b ∙ sym stood)) (omega arith) world (λ i. Next (world i) Changed) tt
    (subst (λ (r : RadioState). Beside mesh nodes r ready (steps + 1)) (sym is) old)

pub cut_idle : (mesh : Nodes) (nodes : List NodeSeen) (radio radio' : RadioState) (ready : Ready) (steps a b : ℕ) (packet : List ℕ) → IsKept mesh nodes radio ready steps → steps < 2 ^ 48 → false ≡ are_linked radio.links a b → radio' ≡ radio → Ends (Cut a b) mesh nodes radio steps (Ok done.Idle) nodes radio' ready (steps + 1) packet
cut_idle mesh nodes radio radio' ready steps a b packet k few none same =
    ends_idle (Cut a b) mesh nodes radio ready steps nodes radio' packet k few
    (cut_at (world_in mesh nodes radio) a b false (shown_linked mesh nodes radio a b ∙ sym none)) (ap (world_in mesh nodes) same) (later_with mesh nodes radio radio' ready steps k same)
