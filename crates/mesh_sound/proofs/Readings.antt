-- Packets that are read, and what they mean.
use Rattle.std.proofs.Common.{◌≡◌, ℕ, ◌≤◌, List, length, None, sym, ap, subst, ◌∙◌}
use Rattle.mesh_base.specs.Meshes.{Nodes, IsMesh}
use Rattle.aodv_model.specs.Soundness.{IsMessageInMesh}
use Rattle.aodv_wire.specs.declared.message.Message as wire
use Rattle.aodv_wire.specs.Encodes.{Encodes, encoding}
use Rattle.aodv_meaning.specs.Meaning.{in_mesh, stranger}
use Rattle.aodv_meaning.specs.Sent.{IsWritable, IsAsWritten}
use Rattle.aodv_meaning.proofs.Means.{spelled_in}
use Rattle.aodv_meaning.proofs.Writings.{written_is_sent}
use Rattle.aodv_node.proofs.Readings.{means}
use Rattle.mesh_meaning.specs.Packets.{IsWritten}

-- ---- of bytes that are read, whether they are written

pub is_as_written : (mesh : Nodes) (b rewritten : List ℕ) (m : wire.Message) → IsMesh mesh → 1 ≤ length mesh → Encodes b m → stranger mesh m ≡ None → IsWritable m → rewritten ≡ encoding m → rewritten ≡ b → IsWritten mesh b
is_as_written mesh b rewritten m is some s known writable again_is same =
    (written_is_sent mesh b is some).0 (record {
      allowed = s.allowed;
      known = ap (stranger mesh) s.stands ∙ known;
      writable = subst IsWritable (sym s.stands) writable;
      same = sym same ∙ again_is ∙ ap encoding (sym s.stands);
    })

pub as_written : (mesh : Nodes) (b : List ℕ) → IsMesh mesh → 1 ≤ length mesh → IsWritten mesh b → IsAsWritten mesh b
as_written mesh b is some w = (written_is_sent mesh b is some).1 w

pub known_in : (mesh : Nodes) (b : List ℕ) (m : wire.Message) → IsMesh mesh → 1 ≤ length mesh → Encodes b m → IsWritten mesh b → stranger mesh m ≡ None
known_in mesh b m is some s w = ap (stranger mesh) (sym s.stands) ∙ (as_written mesh b is some w).known

pub writable_in : (mesh : Nodes) (b : List ℕ) (m : wire.Message) → IsMesh mesh → 1 ≤ length mesh → Encodes b m → IsWritten mesh b → IsWritable m
writable_in mesh b m is some s w = subst IsWritable s.stands (as_written mesh b is some w).writable

pub same_in : (mesh : Nodes) (b rewritten : List ℕ) (m : wire.Message) → IsMesh mesh → 1 ≤ length mesh → Encodes b m → rewritten ≡ encoding m → IsWritten mesh b → rewritten ≡ b
same_in mesh b rewritten m is some s again_is w = again_is ∙ ap encoding (sym s.stands) ∙ sym (as_written mesh b is some w).same

-- ---- what they say

pub says : (mesh : Nodes) (b : List ℕ) (m : wire.Message) → Encodes b m → stranger mesh m ≡ None → IsMessageInMesh (length mesh) (in_mesh mesh m)
says mesh b m s known = subst (IsMessageInMesh (length mesh)) (means mesh b m s) (spelled_in mesh b s.allowed (ap (stranger mesh) s.stands ∙ known))

-- the message of the arm that was taken
pub spelled : (b : List ℕ) (field m : wire.Message) → Encodes b field → field ≡ m → Encodes b m
spelled b field m s is = subst (Encodes b) is s
