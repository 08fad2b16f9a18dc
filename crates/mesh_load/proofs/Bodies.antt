-- The body of a state that was read is the body that it was read from.
use Rattle.std.proofs.Common.{◌≡◌, ℕ, List, [], ◌∷◌, map, Some, None, refl, sym, ap, ◌∙◌}
use Rattle.std.specs.List.{AllByRecursion}
use Rattle.mesh_base.specs.declared.events.Variant.{Variant}
use Rattle.mesh_base.specs.Meshes.{Nodes}
use Rattle.aodv_node.specs.Seen.{NodeSeen}
use Rattle.mesh_meaning.specs.Packets.{copy_in}
use Rattle.mesh_radio.specs.Radios.{RadioState}
use Rattle.mesh_sound.specs.Packets.{InItem}
use Rattle.mesh_sound.specs.Claims.{Holds}
use Rattle.mesh_sound.specs.declared.packets.Claim.TheVariants as claims
use Rattle.mesh_world.specs.Seen.{node_in}
use Rattle.mesh_world.specs.Kept.{world_in, seen_of}
use Rattle.mesh_world.specs.Restored.{AreWritten}
use Rattle.mesh_world.proofs.Restoring.{written_items}
use Rattle.mesh_text.specs.Schedule.{Sums}
use Rattle.mesh_run.specs.RunStates.{run_state_seen}
use Rattle.mesh_checkpoint.specs.declared.body.Head.{Head}
use Rattle.mesh_checkpoint.specs.Checkpoint.{World, Body}
use Rattle.mesh_checkpoint.specs.Points.{node_of, copy_of, links_of, world_after, body_of}
use Rattle.mesh_checkpoint.specs.Seen.{listed_node}
use Rattle.mesh_checkpoint.proofs.Written.{node_again, copies_again}

-- the head of a body whose run is of this variant, has these sums, and has read so many lines
abbrev pub head_with : Variant → Sums → ℕ → Head
head_with variant sums lines = record {
  variant = variant;
  lines = lines;
  events = sums.events;
  idle = sums.idle;
  given = sums.given;
  delivered = sums.delivered;
  lost = sums.lost;
  copied = sums.copied;
}

-- the world of a body is that of these nodes and this radio, after so many steps
pub record IsWorldOf (nodes : List NodeSeen) (radio : RadioState) (steps : ℕ) (w : World)
    : Type 0 where
  pub steps_are : w.steps ≡ steps
  pub nodes_are : w.nodes ≡ map listed_node nodes
  pub links_are : w.links ≡ links_of radio.ever radio.links
  pub next_is : w.next ≡ radio.next_copy
  pub copies_are : w.copies ≡ radio.flying

-- ---- packets

nodes_again : (mesh : Nodes) (nodes ns : List NodeSeen) → AllByRecursion (λ n. AllByRecursion (InItem (Holds claims.Written mesh nodes)) n.items) ns → map (node_of mesh) (map (node_in mesh) ns) ≡ map listed_node ns
nodes_again mesh nodes [] all = refl
nodes_again mesh nodes (n ∷ ns) all =
    let first : node_of mesh (node_in mesh n) ≡ listed_node n = node_again mesh n (written_items mesh nodes n.items all.0) in
    let others : map (node_of mesh) (map (node_in mesh) ns) ≡ map listed_node ns = nodes_again mesh nodes ns all.1 in
    λ i. first i ∷ others i

-- ---- the world

pub world_again : (mesh : Nodes) (nodes : List NodeSeen) (radio : RadioState) (steps : ℕ) (w : World) → IsWorldOf nodes radio steps w → AreWritten mesh nodes radio.flying → world_after steps mesh (world_in mesh nodes radio) ≡ w
unfolding world_in
world_again mesh nodes radio steps w is written =
    let nodes_are : map (node_of mesh) (map (node_in mesh) nodes) ≡ w.nodes = nodes_again mesh nodes nodes written.waits ∙ sym is.nodes_are in
    let copies_are : map (copy_of mesh) (map (copy_in mesh) radio.flying) ≡ w.copies = copies_again mesh radio.flying written.flies ∙ sym is.copies_are in
    λ i. record {
      steps = sym is.steps_are i;
      nodes = nodes_are i;
      links = sym is.links_are i;
      next = sym is.next_is i;
      copies = copies_are i;
    }

-- ---- the body

pub body_again : (mesh : Nodes) (nodes : List NodeSeen) (radio : RadioState) (steps : ℕ) (sums : Sums) (lines : ℕ) (variant : Variant) (x : Body) (w : World) → x.head ≡ head_with variant sums lines → x.mesh ≡ mesh → x.world ≡ Some w → IsWorldOf nodes radio steps w → AreWritten mesh nodes radio.flying
    → body_of (run_state_seen variant mesh (Some (seen_of mesh nodes radio steps)) sums lines) ≡ x
body_again mesh nodes radio steps sums lines variant x w head mesh_is world is written =
    let world_is : Some (world_after steps mesh (world_in mesh nodes radio)) ≡ x.world = ap (λ (v : World). Some v) (world_again mesh nodes radio steps w is written) ∙ sym world in
    λ i. record { head = sym head i; mesh = sym mesh_is i; world = world_is i }

pub body_without_world : (mesh : Nodes) (sums : Sums) (lines : ℕ) (variant : Variant) (x : Body) → x.head ≡ head_with variant sums lines → x.mesh ≡ mesh → x.world ≡ None → body_of (run_state_seen variant mesh None sums lines) ≡ x
body_without_world mesh sums lines variant x head mesh_is none = λ i. record { head = sym head i; mesh = sym mesh_is i; world = sym none i }
