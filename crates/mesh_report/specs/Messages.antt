-- What an event and a node's step did, if each packet that was taken or lost can be read and names
-- only nodes of the mesh, whoever wrote it. Nothing that writes asks for this: by it, what is
-- written of a packet's bytes is the text of the message that they mean.
use Rattle.std.specs.Prelude.{◌≡◌, ◌<◌, ℕ, List, [], ◌++◌, length, Option, Some, None, ⊤}
use Rattle.std.specs.Borrow.{Bor}
use Rattle.mesh_base.specs.Meshes.{Nodes}
use Rattle.mesh_base.specs.declared.events.Effect as effects
use Rattle.mesh_base.specs.declared.events.Took as taken
use Rattle.mesh_base.specs.declared.events.Took.TheVariants as takes
use Rattle.mesh_base.specs.declared.events.Done.{Done}
use Rattle.mesh_base.specs.declared.events.Done.TheVariants as done
use Rattle.aodv_model.specs.Soundness.{IsDatum}
use Rattle.aodv_wire.specs.Encodes.{refusal, message_in_fields}
use Rattle.aodv_meaning.specs.Meaning.{meaning, stranger}
use Rattle.aodv_meaning.specs.Effects.{kind_of}
use Rattle.mesh_meaning.specs.Answers.{effect_in, took_in, IsEffectInMesh}
use Rattle.mesh_text.specs.Effects.{took_text, datum_fate, broken_text, cast_text}

-- the bytes encode a message that names only nodes of the mesh
pub record IsLegible (mesh : Nodes) (bytes : List ℕ) : Type 0 where
  pub allowed : refusal bytes ≡ None
  pub known : stranger mesh (message_in_fields bytes) ≡ None

-- what a turn may have taken: a datum for the node itself or for a node of the mesh, or a packet of
-- this kind from a node of the mesh
abbrev pub IsTookLegible : Nodes → taken.Took → Type 0
IsTookLegible mesh (takes.Own body) = IsDatum body
IsTookLegible mesh (takes.Stored dest) = dest < length mesh
IsTookLegible mesh (takes.Heard from kind bytes) =
    (from < length mesh) × (kind ≡ kind_of (meaning mesh bytes)) × IsLegible mesh bytes

-- what an event did, if a packet that was taken or lost may be anybody's
abbrev pub IsDoneLegible : Nodes → Done → List ℕ → Type 0
IsDoneLegible mesh done.Idle packet = ⊤
IsDoneLegible mesh done.Changed packet = ⊤
IsDoneLegible mesh (done.Taken took effect air) packet =
    IsTookLegible mesh took × IsEffectInMesh mesh effect air packet
IsDoneLegible mesh (done.Sent effect air) packet = IsEffectInMesh mesh effect air packet
IsDoneLegible mesh (done.Heard from to) packet = (from < length mesh) × (to < length mesh)
IsDoneLegible mesh (done.Lost flying) packet =
    (flying.from < length mesh) × (flying.to < length mesh) × IsLegible mesh flying.bytes
IsDoneLegible mesh (done.Doubled id to parcel) packet = to < length mesh

-- what node x took, if its step was a turn, and what became of that. It doesn't depend on the
-- packet that was cast
abbrev pub taken_text : Nodes → ℕ → Option (Bor taken.Took) → effects.Effect → List ℕ
taken_text mesh x None e = []
taken_text mesh x (Some took) e =
    took_text mesh x (took_in mesh took.now)
    ++ datum_fate mesh x (took_in mesh took.now) (effect_in mesh e [])

-- what node x took and what became of it, and then a failed unicast and what was cast
abbrev pub effect_text : Nodes → ℕ → Option (Bor taken.Took) → effects.Effect → List ℕ → List ℕ
effect_text mesh x took e packet =
    taken_text mesh x took e
    ++ (broken_text mesh e.broken ++ cast_text mesh (effect_in mesh e packet).cast)
