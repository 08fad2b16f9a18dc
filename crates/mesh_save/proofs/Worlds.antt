-- The world of a state, as it is written.
use Rattle.std.proofs.Common.{◌≡◌, ℕ, ◌+◌, ◌<◌, true, false, List, [], ◌∷◌, Option, Some, None, refl, sym, ap, subst, ◌∙◌, arith, inl, inr}
use Rattle.std.specs.Prelude.{is_some, IfSome, unwrap_or, option_map, slice_get}
use Rattle.std.proofs.lemmas.Bool.{cases_lt}
use Rattle.std.proofs.lemmas.Option.{same_Some}
use Rattle.mesh_base.specs.Meshes.{Nodes}
use Rattle.mesh_model.specs.Worlds.{World, Node}
use Rattle.mesh_world.specs.Seen.{WorldSeen}
use Rattle.mesh_checkpoint.specs.Formats.{put_maybe}
use Rattle.mesh_checkpoint.specs.Points.{world_after}
use Rattle.mesh_save.specs.Bytes.{world_bytes}
use Rattle.mesh_save.specs.Narrow.{IsNarrow, IsNarrowWorld}

-- one node more
pub narrow_next : (size i : ℕ) (nodes : List Node) (m : Node) → slice_get nodes i ≡ Some m → IsNarrow size m.core → ((k : ℕ) (n : Node) → k < i → slice_get nodes k ≡ Some n → IsNarrow size n.core) → (k : ℕ) (n : Node) → k < i + 1 → slice_get nodes k ≡ Some n → IsNarrow size n.core
narrow_next size i nodes m at this before k n lt there = elim (cases_lt k i) [
  | inl less ↦ before k n less there
  | inr ge ↦
      let same : i ≡ k = omega (arith, lt, ge) in
      let is : m ≡ n = same_Some m n (sym at ∙ ap (slice_get nodes) same ∙ there) in
      subst (λ (x : Node). IsNarrow size x.core) is this
]

-- the world that is seen is the state's
pub some_put : (o : Option World) (d : World) (mesh : Nodes) (steps : ℕ) (seen : WorldSeen) → true ≡ is_some o → seen.world ≡ unwrap_or o d → seen.mesh ≡ mesh → seen.steps ≡ steps
    → put_maybe world_bytes (option_map (world_after steps mesh) o) ≡ 1 ∷ world_bytes (world_after seen.steps seen.mesh seen.world)
some_put None d mesh steps seen there w m s = cc
some_put (Some x) d mesh steps seen there w m s =
    ap (λ (v : World). 1 ∷ world_bytes (world_after steps mesh v)) (sym w)
    ∙ ap (λ (ns : Nodes). 1 ∷ world_bytes (world_after steps ns seen.world)) (sym m)
    ∙ ap (λ (k : ℕ). 1 ∷ world_bytes (world_after k seen.mesh seen.world)) (sym s)

pub some_narrow : (o : Option World) (d : World) (mesh : Nodes) (seen : WorldSeen) → true ≡ is_some o → seen.world ≡ unwrap_or o d → seen.mesh ≡ mesh → IsNarrowWorld seen.mesh seen.world → IfSome o (IsNarrowWorld mesh)
some_narrow None d mesh seen there w m is = tt
some_narrow (Some x) d mesh seen there w m is = subst (λ (v : World). IsNarrowWorld mesh v) w (subst (λ (ns : Nodes). IsNarrowWorld ns seen.world) m is)

pub none_put : (o : Option World) (mesh : Nodes) (steps : ℕ) → false ≡ is_some o → put_maybe world_bytes (option_map (world_after steps mesh) o) ≡ 0 ∷ []
none_put None mesh steps none = refl
none_put (Some x) mesh steps none = cc

pub none_narrow : (o : Option World) (mesh : Nodes) → false ≡ is_some o → IfSome o (IsNarrowWorld mesh)
none_narrow None mesh none = tt
none_narrow (Some x) mesh none = cc
