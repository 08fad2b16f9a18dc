-- The receiver of a copy that may be delivered.
use Rattle.std.proofs.Common.{◌≡◌, ◌∙◌, ℕ, ◌<◌, List, [], map, length, Option, Some, None, IfSome, ap, sym, subst}
use Rattle.std.specs.Prelude.{option_map}
use Rattle.std.specs.List.{AllByRecursion}
use Rattle.std.proofs.lemmas.Option.{none-some}
use Rattle.mesh_base.specs.Meshes.{Nodes}
use Rattle.mesh_base.specs.declared.events.Flying.{Flying}
use Rattle.aodv_model.specs.Cores.{Heard}
use Rattle.mesh_model.specs.Worlds as worlds
use Rattle.mesh_model.specs.Worlds.{World, Deliver, Next, CopyHeard, at_copy, push, step}
use Rattle.mesh_model.specs.InMesh.{IsCopyInMesh}
use Rattle.mesh_model.proofs.Steps.{found_honest}
use Rattle.mesh_radio.specs.Copies as radios
use Rattle.mesh_meaning.specs.Packets.{copy_in}
use Rattle.mesh_world.specs.Seen.{WorldSeen, IsSoundWorld}
use Rattle.mesh_world.proofs.Arrivals.{deliver_at, find_shown}
use Rattle.mesh_blocks.specs.Blocks.{changed_by}

-- the copy of the world, by that of the radio
found : (mesh : Nodes) (w : World) (cs : List Flying) (id : ℕ) → map (copy_in mesh) cs ≡ w.flying → worlds.find_copy w.flying id ≡ option_map (copy_in mesh) (radios.find_copy cs id)
found mesh w cs id same = ap (λ fs. worlds.find_copy fs id) (sym same) ∙ find_shown mesh cs id

-- what a delivery changes, by the copy that is found
heard : (mesh : Nodes) (w : World) (id y : ℕ) (p : Option Flying)
    → changed_by (Deliver id) (at_copy (option_map (copy_in mesh) p) (λ c. Next (push (worlds.without_copy w id) c.to (Heard c.from c.message)) (CopyHeard c.from c.to))) ≡ Some y
    → option_map (λ f. f.to) p ≡ Some y
heard mesh w id y None is = absurd (none-some y is)
heard mesh w id y (Some f) is = is

pub receives : (mesh : Nodes) (w : World) (cs : List Flying) (id y : ℕ) (r : Option ℕ) → map (copy_in mesh) cs ≡ w.flying → r ≡ option_map (λ f. f.to) (radios.find_copy cs id)
    → changed_by (Deliver id) (step w (Deliver id)) ≡ Some y → r ≡ Some y
receives mesh w cs id y r same is changed =
    let p : Option Flying = radios.find_copy cs id in
    is ∙ heard mesh w id y p (ap (changed_by (Deliver id)) (sym (deliver_at w id (option_map (copy_in mesh) p) (found mesh w cs id same))) ∙ changed)

-- its receiver is a node
received : (mesh : Nodes) (w : World) (id size : ℕ) (p : Option Flying) → AllByRecursion (IsCopyInMesh size) w.flying → worlds.find_copy w.flying id ≡ option_map (copy_in mesh) p → IfSome (option_map (λ f. f.to) p) (λ x. x < size)
received mesh w id size None all is = tt
received mesh w id size (Some f) all is = (found_honest (IsCopyInMesh size) w.flying id (copy_in mesh f) all is).1

pub receives_within : (s : WorldSeen) (cs : List Flying) (id : ℕ) (r : Option ℕ) → IsSoundWorld s → map (copy_in s.mesh) cs ≡ (s.world).flying → r ≡ option_map (λ f. f.to) (radios.find_copy cs id)
    → IfSome r (λ x. x < length s.mesh)
receives_within s cs id r sound same is =
    subst (λ (o : Option ℕ). IfSome o (λ x. x < length s.mesh)) (sym is)
    (received s.mesh s.world id (length s.mesh) (radios.find_copy cs id)
    (subst (λ (n : ℕ). AllByRecursion (IsCopyInMesh n) (s.world).flying) sound.count (sound.invariant).in_mesh.flying) (found s.mesh s.world cs id same))
