-- From a message to its packet, and back.
use Rattle.std.specs.Prelude.{◌≡◌, ◌≤◌, ◌↔◌, ℕ, List, None, length}
use Rattle.mesh_base.specs.Meshes.{Nodes, IsMesh}
use Rattle.aodv_model.specs.Cores.{Message}
use Rattle.aodv_model.specs.Soundness.{IsMessageInMesh}
use Rattle.aodv_wire.specs.Encodes.{refusal, message_in_fields}
use Rattle.aodv_meaning.specs.Meaning.{meaning, stranger}
use Rattle.aodv_meaning.specs.Sent.{IsSent, IsAsWritten}

-- what was written for a message means that message, and names nobody outside the mesh
abbrev pub SentMeans : Type 0
SentMeans =
    (mesh : Nodes) (b : List ℕ) (m : Message) → IsMesh mesh → IsMessageInMesh (length mesh) m
    → IsSent mesh b m
    → (meaning mesh b ≡ m) × (stranger mesh (message_in_fields b) ≡ None)

-- bytes that encode a message which names nobody outside the mesh mean a message of the mesh
abbrev pub SpelledIsInMesh : Type 0
SpelledIsInMesh =
    (mesh : Nodes) (b : List ℕ) → refusal b ≡ None → stranger mesh (message_in_fields b) ≡ None
    → IsMessageInMesh (length mesh) (meaning mesh b)

-- in a mesh that has a node, bytes are what is sent for their meaning exactly where they are as a
-- node writes them
abbrev pub WrittenIsSent : Type 0
WrittenIsSent =
    (mesh : Nodes) (b : List ℕ) → IsMesh mesh → 1 ≤ length mesh
    → IsAsWritten mesh b ↔ IsSent mesh b (meaning mesh b)
