-- A cast of the code is the model's, with the packet in place of its message.
use Rattle.std.proofs.Common.{◌≡◌, ℕ, ◌+◌, List, [], ◌∷◌, map, length, refl, ap, sym, subst, zero, suc}
use Rattle.std.specs.List.{AllByRecursion}
use Rattle.std.specs.Ordering.{nat_cmp}
use Rattle.std.specs.FinSet as sets
use Rattle.mesh_base.specs.Members.{NodeIds}
use Rattle.mesh_base.specs.Meshes.{Nodes, IsMesh}
use Rattle.aodv_model.specs.Cores.{Message}
use Rattle.aodv_model.specs.Handlers.{Cast, Nothing, One, Many, All}
use Rattle.aodv_model.specs.Soundness.{IsMessageInMesh, IsCastInMesh, IsAimed}
use Rattle.aodv_meaning.specs.Meaning.{meaning}
use Rattle.aodv_meaning.specs.Sent.{IsSent, IsPacket}
use Rattle.aodv_meaning.specs.Effects.{cast_of}
use Rattle.aodv_meaning.proofs.Means.{sent_means}
use Rattle.mesh_model.specs.Worlds as worlds
use Rattle.mesh_model.specs.Worlds.{copies_of, members_below, receivers}
use Rattle.mesh_radio.specs.Copies as radio
use Rattle.mesh_meaning.specs.Packets.{IsWritten, IsWrittenCopy, copy_in}
use Rattle.mesh_meaning.specs.Answers.{cast_in, IsPacketInMesh, IsCastWritten}

flights_shown : (mesh : Nodes) (tos : List ℕ) (id x : ℕ) (b : List ℕ) (m : Message) → meaning mesh b ≡ m → map (copy_in mesh) (radio.copies_to tos id x b) ≡ worlds.copies_to tos id x m
flights_shown mesh [] id x b m e = refl
flights_shown mesh (to ∷ tos) id x b m e = λ i. record { id = id; from = x; to = to; message = e i } ∷ flights_shown mesh tos (id + 1) x b m e i

flights_written : (mesh : Nodes) (tos : List ℕ) (id x : ℕ) (b : List ℕ) → IsWritten mesh b → AllByRecursion (IsWrittenCopy mesh) (radio.copies_to tos id x b)
flights_written mesh [] id x b h = tt
flights_written mesh (to ∷ tos) id x b h = (h, flights_written mesh tos (id + 1) x b h)

pub flights_length : (tos : List ℕ) (id x : ℕ) (b : List ℕ) → length (radio.copies_to tos id x b) ≡ length tos
flights_length [] id x b = refl
flights_length (to ∷ tos) id x b = ap suc (flights_length tos (id + 1) x b)

pub no_members : (n : ℕ) → members_below n sets.empty ≡ []
unfolding members_below
no_members zero = refl
no_members (suc n) = rw (sets.contains-empty nat_cmp n) (no_members n)

-- what flies after a cast
pub record Flies (mesh : Nodes) (near : NodeIds) (c : Cast) (id x : ℕ) (out : List ℕ) : Type 0 where
  pub shown : map (copy_in mesh) (radio.copies_to (members_below (length mesh) (receivers near c)) id x out) ≡ copies_of c (members_below (length mesh) (receivers near c)) id x
  pub written : AllByRecursion (IsWrittenCopy mesh) (radio.copies_to (members_below (length mesh) (receivers near c)) id x out)
  pub means : cast_in mesh (cast_of c) out ≡ c
  pub in_mesh : IsCastWritten mesh (cast_of c) out

means_it : (mesh : Nodes) (m : Message) (out : List ℕ) → IsMesh mesh → IsMessageInMesh (length mesh) m → IsSent mesh out m → meaning mesh out ≡ m
means_it mesh m out is in_mesh sent = (sent_means mesh out m is in_mesh sent).0

packet_in : (mesh : Nodes) (m : Message) (out : List ℕ) → IsMesh mesh → IsMessageInMesh (length mesh) m → IsSent mesh out m → IsPacketInMesh mesh out
packet_in mesh m out is in_mesh sent =
    let means : meaning mesh out ≡ m = means_it mesh m out is in_mesh sent in
    record { written = subst (IsSent mesh out) (sym means) sent; in_mesh = subst (IsMessageInMesh (length mesh)) (sym means) in_mesh }

pub flies : (mesh : Nodes) (near : NodeIds) (c : Cast) (id x : ℕ) (out : List ℕ) → IsMesh mesh → IsCastInMesh (length mesh) c → IsAimed (length mesh) c → IsPacket mesh out c → Flies mesh near c id x out
unfolding receivers
flies mesh near Nothing id x out is in_mesh aimed sent = record {
  shown = ap (λ (tos : List ℕ). map (copy_in mesh) (radio.copies_to tos id x out)) (no_members (length mesh));
  written = subst (λ (tos : List ℕ). AllByRecursion (IsWrittenCopy mesh) (radio.copies_to tos id x out)) (sym (no_members (length mesh))) tt;
  means = refl;
  in_mesh = sent;
}
flies mesh near (One y m) id x out is in_mesh aimed sent = record {
  shown = flights_shown mesh (members_below (length mesh) (receivers near (One y m))) id x out m (means_it mesh m out is in_mesh sent);
  written = flights_written mesh (members_below (length mesh) (receivers near (One y m))) id x out (packet_in mesh m out is in_mesh sent).written;
  means = ap (λ (k : Message). One y k) (means_it mesh m out is in_mesh sent);
  in_mesh = (aimed, packet_in mesh m out is in_mesh sent);
}
flies mesh near (Many s m) id x out is in_mesh aimed sent = record {
  shown = flights_shown mesh (members_below (length mesh) (receivers near (Many s m))) id x out m (means_it mesh m out is in_mesh sent);
  written = flights_written mesh (members_below (length mesh) (receivers near (Many s m))) id x out (packet_in mesh m out is in_mesh sent).written;
  means = ap (λ (k : Message). Many s k) (means_it mesh m out is in_mesh sent);
  in_mesh = (aimed, packet_in mesh m out is in_mesh sent);
}
flies mesh near (All m) id x out is in_mesh aimed sent = record {
  shown = flights_shown mesh (members_below (length mesh) (receivers near (All m))) id x out m (means_it mesh m out is in_mesh sent);
  written = flights_written mesh (members_below (length mesh) (receivers near (All m))) id x out (packet_in mesh m out is in_mesh sent).written;
  means = ap (λ (k : Message). All k) (means_it mesh m out is in_mesh sent);
  in_mesh = packet_in mesh m out is in_mesh sent;
}
