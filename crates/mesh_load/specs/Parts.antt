-- What a reader of a part of a body answers.
use Rattle.std.specs.Prelude.{◌≡◌, ◌<◌, ◌≤◌, ℕ, true, List, [], Option, Some, None, Result, Ok, Err, length, ⊤}
use Rattle.mesh_base.specs.Meshes.{Nodes}
use Rattle.mesh_base.specs.declared.events.Variant.{Variant}
use Rattle.aodv_node.specs.Seen.{NodeSeen}
use Rattle.mesh_radio.specs.Radios.{RadioState}
use Rattle.mesh_world.specs.Kept.{world_in, seen_of}
use Rattle.mesh_world.specs.Restored.{AreSoundParts}
use Rattle.mesh_world.specs.Seen.{WorldSeen, data_of, most_data_at_first}
use Rattle.mesh_world.specs.declared.restored.Part.{Part}
use Rattle.mesh_world.specs.declared.restored.Part.TheVariants as parts
use Rattle.mesh_text.specs.Schedule.{RunState, Sums}
use Rattle.mesh_checkpoint.specs.declared.body.Head.{Head}
use Rattle.mesh_checkpoint.specs.declared.limits.TheConstants.{SUMS_END, MOST_STEPS}
use Rattle.mesh_checkpoint.specs.Checkpoint.{Node, World, Body, world, body}
use Rattle.mesh_checkpoint.specs.Counts.{data_in, data_in_world, IsBalanced}
use Rattle.mesh_checkpoint.specs.Points.{links_of, body_of}
use Rattle.mesh_load.specs.declared.error.StateError.{StateError}
use Rattle.mesh_load.specs.declared.error.StateError.TheVariants as errors
use Rattle.mesh_load.specs.Nodes.{AreListed, IsLeastUnsound}
use Rattle.mesh_load.specs.Loading.{AreInPlace, IsUnsoundWorld}
use Rattle.mesh_load.specs.RunStates.{IsPlainRunState}

-- ---- any part

-- what was read became this value
pub record IsMade {A B : Type 0} (Is : A → B → Type 0) (read : Option (A × List ℕ)) (value : B)
    : Type 0 where
  pub found : A
  pub rest : List ℕ
  pub read_is : read ≡ Some (found, rest)
  pub made : Is found value

-- nothing can be read, or what can be read has that part; memory may run out at any time
abbrev pub IsRefusalOf : {A : Type 0} → (A → Part → Type 0) → Option (A × List ℕ) → StateError
    → Type 0
IsRefusalOf {A} Has read errors.Spelling = read ≡ None
IsRefusalOf {A} Has read (errors.Unsound part) =
    (found : A) (rest : List ℕ) → read ≡ Some (found, rest) → Has found part
IsRefusalOf {A} Has read errors.NoMemory = ⊤
IsRefusalOf {A} Has read others = ⊥

-- what was read became a value, or is refused
abbrev pub Makes : {A B : Type 0} → (A → B → Type 0) → (A → Part → Type 0)
    → Option (A × List ℕ) → Result B StateError → Type 0
Makes Is Has read (Ok value) = IsMade Is read value
Makes Is Has read (Err e) = IsRefusalOf Has read e

-- ---- nodes

-- the part is the least of these nodes whose state isn't in order
abbrev pub IsUnsoundNode : Variant → ℕ → List Node → Part → Type 0
IsUnsoundNode variant size lists (parts.Node x) = IsLeastUnsound variant size lists x
IsUnsoundNode variant size lists others = ⊥

-- ---- a world

-- the numbers of a world are in the table's ranges, and it has fewer data than `most_data_at_first`
pub record IsFitting (size : ℕ) (w : World) : Type 0 where
  pub fits : (world size).fits w ≡ true
  pub few : data_in_world w < most_data_at_first

-- this is the world of these parts, each of which is as in a run
pub record IsWorldFrom (mesh : Nodes) (variant : Variant) (found : World) (seen : WorldSeen)
    : Type 0 where
  pub nodes : List NodeSeen
  pub radio : RadioState
  pub seen_is : seen ≡ seen_of mesh nodes radio found.steps
  pub listed_are : AreListed variant (length mesh) found.nodes nodes
  pub count : length nodes ≡ length mesh
  pub links_are : found.links ≡ links_of radio.ever radio.links
  pub next_is : found.next ≡ radio.next_copy
  pub copies_are : found.copies ≡ radio.flying
  pub data_are : data_of (world_in mesh nodes radio) ≡ data_in_world found
  pub in_place : AreInPlace mesh nodes radio.flying
  pub sound : AreSoundParts mesh nodes radio.flying

-- as IsWorldFrom, for a world that may be missing
abbrev pub IsMaybeWorldFrom : Nodes → Variant → Option World → Option WorldSeen → Type 0
IsMaybeWorldFrom mesh variant None None = ⊤
IsMaybeWorldFrom mesh variant (Some found) (Some seen) = IsWorldFrom mesh variant found seen
IsMaybeWorldFrom mesh variant others seen = ⊥

abbrev pub IsUnsoundIfWorld : Nodes → Variant → Option World → Part → Type 0
IsUnsoundIfWorld mesh variant None part = ⊥
IsUnsoundIfWorld mesh variant (Some found) part = IsUnsoundWorld mesh variant found part

-- ---- a body

-- the bytes are a body to their end. Its numbers are in the table's ranges, its sums are balanced,
-- and it has fewer data than `most_data_at_first`
pub record IsBody (bytes : List ℕ) : Type 0 where
  pub found : Body
  pub read_is : body.get bytes ≡ Some (found, [])
  pub fits : body.fits found ≡ true
  pub balanced : IsBalanced found
  pub few : data_in found.world < most_data_at_first

-- the sums that a head has
abbrev pub sums_in : Head → Sums
sums_in h = record {
  events = h.events;
  idle = h.idle;
  given = h.given;
  delivered = h.delivered;
  lost = h.lost;
  copied = h.copied;
}

-- a part of the world isn't as in a run
abbrev pub IsUnsoundBody : Body → Part → Type 0
IsUnsoundBody x part = IsUnsoundIfWorld x.mesh (x.head).variant x.world part

-- the state has this body, each part of which is as in a run, and its numbers are in the table's
-- ranges; and it is plain, so no other plain state has this body
pub record IsRunStateOf (x : Body) (m : RunState) : Type 0 where
  pub body_is : body_of m ≡ x
  pub plain : IsPlainRunState m
  pub sound : (part : Part) → ¬ (IsUnsoundBody x part)
  pub lines : m.lines < SUMS_END
  pub steps : m.steps ≤ MOST_STEPS
