-- The states that a checkpoint holds in full.
use Rattle.std.specs.Prelude.{◌≡◌, ◌≤◌, ℕ, List, Option, Some, None, length, ⊤}
use Rattle.std.specs.List.{AllByRecursion}
use Rattle.mesh_base.specs.declared.limits.TheConstants.{MOST_NODES}
use Rattle.mesh_base.specs.declared.events.Variant.{Variant}
use Rattle.mesh_base.specs.Meshes.{Nodes}
use Rattle.aodv_model.specs.Cores.{Message, Item, New, Heard}
use Rattle.aodv_meaning.specs.Meaning.{meaning}
use Rattle.mesh_model.specs.Worlds as model
use Rattle.mesh_model.specs.InMesh.{IsInMesh}
use Rattle.mesh_meaning.specs.Packets.{packet_of}
use Rattle.mesh_text.specs.Schedule.{RunState}
use Rattle.mesh_text.specs.Text.{text_of_input}
use Rattle.mesh_run.specs.RunStates.{AreOfVariant}
use Rattle.mesh_checkpoint.specs.Points.{body_of, IsState}

-- the message is what its packet means, as is each message that was read from a packet
abbrev pub IsPlain : Nodes → Message → Type 0
IsPlain mesh m = meaning mesh (packet_of mesh m) ≡ m

-- a message that was heard is what its packet means; a datum that was given has no packet
abbrev pub IsPlainItem : Nodes → Item → Type 0
IsPlainItem mesh (New body dest) = ⊤
IsPlainItem mesh (Heard from m) = IsPlain mesh m

-- each message that waits or flies is what its packet means
pub record ArePlain (mesh : Nodes) (w : model.World) : Type 0 where
  pub waits : AllByRecursion (λ n. AllByRecursion (IsPlainItem mesh) n.queue) w.nodes
  pub flies : AllByRecursion (λ c. IsPlain mesh c.message) w.flying

-- all that the world names is in its mesh, its nodes run this variant, and its messages are plain
pub record IsPlainWorld (variant : Variant) (mesh : Nodes) (w : model.World) : Type 0 where
  pub in_mesh : IsInMesh w
  pub few : length w.nodes ≤ MOST_NODES
  pub variant_is : AreOfVariant variant w
  pub plain : ArePlain mesh w

-- if there is a world, it is such a world; without one no step was taken
abbrev pub HasPlainWorld : Variant → Nodes → ℕ → Option model.World → Type 0
HasPlainWorld variant mesh steps None = steps ≡ 0
HasPlainWorld variant mesh steps (Some w) = IsPlainWorld variant mesh w

abbrev pub IsPlainRunState : RunState → Type 0
IsPlainRunState m = HasPlainWorld m.variant m.mesh m.steps m.world

-- a body is that of at most one such state
abbrev pub OneRunState : Type 0
OneRunState =
    (m n : RunState) → IsPlainRunState m → IsPlainRunState n → body_of m ≡ body_of n → m ≡ n

-- a checkpoint is that of at most one such state
abbrev pub OneStart : Type 0
OneStart =
    (b : List ℕ) (m n : RunState) → IsPlainRunState m → IsPlainRunState n
    → IsState b m → IsState b n → m ≡ n

-- after the lines of any input, as far as they were done, the state is such a state
abbrev pub RunIsPlain : Type 0
RunIsPlain =
    (variant : Variant) (input : List ℕ) → IsPlainRunState (text_of_input variant input).after
