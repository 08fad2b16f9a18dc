-- What holds of nodes holds of others with the same listings.
use Rattle.std.proofs.Common.{◌≡◌, ℕ, zero, suc, ◌+◌, ◌≤◌, List, [], ◌∷◌, map, refl, sym, ap, subst, ◌∙◌}
use Rattle.std.specs.Prelude.{⊤, IfSome}
use Rattle.std.specs.FinMap as maps
use Rattle.std.specs.List.{AllByRecursion}
use Rattle.mesh_base.specs.Meshes.{Nodes}
use Rattle.mesh_base.specs.declared.events.Variant.{Variant}
use Rattle.mesh_base.specs.declared.events.Item.{Item}
use Rattle.mesh_base.specs.declared.events.Flying.{Flying}
use Rattle.aodv_model.specs.Tables.{Table}
use Rattle.aodv_model.specs.Cores.{Core}
use Rattle.aodv_model.specs.Soundness.{IsSoundCore}
use Rattle.aodv_node.specs.Seen.{NodeSeen, IsItemAt}
use Rattle.aodv_node.specs.Restored.{HasSoundCore, HasItemsAt}
use Rattle.aodv_meaning.specs.Meaning.{meaning}
use Rattle.mesh_model.specs.Invariants.{IsBacked}
use Rattle.mesh_meaning.specs.Packets.{IsWritten}
use Rattle.mesh_sound.specs.Packets.{InItem, InEachPacket}
use Rattle.mesh_sound.specs.Claims.{table, IsHonestIfRequest, IsHonestIfReply}
use Rattle.mesh_sound.specs.Edges.{IsBackedAt, IsFirstEdge}
use Rattle.mesh_world.specs.Restored.{AreWritten, AreRequestsHonest, AreRepliesHonest, IsFirstPart}
use Rattle.mesh_world.specs.declared.restored.Part.{Part}
use Rattle.mesh_world.specs.declared.restored.Part.TheVariants as parts
use Rattle.mesh_checkpoint.specs.Seen.{listed_node}
use Rattle.mesh_restore.specs.Nodes.{IsNodeAt, ArePrecursorsBelow}
use Rattle.mesh_load.specs.Nodes.{AllFrom, IsSoundNodeAt}
use Rattle.mesh_load.proofs.Listed.{precursors_below, one_node}

-- they have the same core and the same items, and are of meshes of one size. The room of their inboxes may differ
pub record IsAlike (a b : NodeSeen) : Type 0 where
  pub core : a.core ≡ b.core
  pub items : a.items ≡ b.items
  pub size : a.size ≡ b.size

-- as many nodes, each like the other of its index
abbrev pub AreAlike : List NodeSeen → List NodeSeen → Type 0
AreAlike [] [] = ⊤
AreAlike [] (n ∷ ms) = ⊥
AreAlike (m ∷ ns) [] = ⊥
AreAlike (m ∷ ns) (n ∷ ms) = IsAlike m n × AreAlike ns ms

pub alike_back : (ns ms : List NodeSeen) → AreAlike ns ms → AreAlike ms ns
alike_back [] [] alike = tt
alike_back [] (n ∷ ms) alike = absurd alike
alike_back (m ∷ ns) [] alike = absurd alike
alike_back (m ∷ ns) (n ∷ ms) alike = (record { core = sym alike.0.core; items = sym alike.0.items; size = sym alike.0.size }, alike_back ns ms alike.1)

-- ---- nodes with the same listings are alike

pub one_sound_node : (variant : Variant) (size x : ℕ) (m n : NodeSeen) → size ≤ 256 → IsSoundNodeAt variant size x m → IsSoundNodeAt variant size x n → listed_node m ≡ listed_node n → IsAlike m n
one_sound_node variant size x m n few is it same =
    let one = one_node variant x size m n few is.0 it.0 (precursors_below m size is.0.size_is is.1) (precursors_below n size it.0.size_is it.1) same in
    record { core = one.0; items = one.1; size = is.0.size_is ∙ sym it.0.size_is }

abbrev first_of_list : {X : Type 0} → X → List X → X
first_of_list d [] = d
first_of_list d (x ∷ xs) = x

abbrev others_of_list : {X : Type 0} → List X → List X
others_of_list [] = []
others_of_list (x ∷ xs) = xs

pub one_nodes : (variant : Variant) (size x : ℕ) (ns ms : List NodeSeen) → size ≤ 256 → AllFrom (IsSoundNodeAt variant size) x ns → AllFrom (IsSoundNodeAt variant size) x ms → map listed_node ns ≡ map listed_node ms → AreAlike ns ms
one_nodes variant size x [] [] few are they same = tt
one_nodes variant size x [] (n ∷ ms) few are they same = cc
one_nodes variant size x (m ∷ ns) [] few are they same = cc
one_nodes variant size x (m ∷ ns) (n ∷ ms) few are they same =
    (one_sound_node variant size x m n few are.0 they.0 (ap (first_of_list (listed_node m)) same), one_nodes variant size (x + 1) ns ms few are.1 they.1 (ap others_of_list same))

-- a node with the listing of one whose state is in order has a state in order
pub sound_again : (variant : Variant) (size x : ℕ) (m n : NodeSeen) → size ≤ 256 → IsSoundNodeAt variant size x m → IsNodeAt variant x size n → ArePrecursorsBelow size (n.core).rt → listed_node m ≡ listed_node n → HasSoundCore n
sound_again variant size x m n few is it below same =
    let one = one_node variant x size m n few is.0 it (precursors_below m size is.0.size_is is.1) below same in
    let sizes : m.size ≡ n.size = is.0.size_is ∙ sym it.size_is in
    subst (λ (k : ℕ). IsSoundCore k n.core) sizes (subst (λ (c : Core). IsSoundCore m.size c) one.0 is.1)

-- ---- what holds of them

items_of : (m n : NodeSeen) → IsAlike m n → HasItemsAt m → HasItemsAt n
items_of m n alike all =
    subst (λ (k : ℕ). AllByRecursion (IsItemAt k (n.core).ip) n.items) alike.size
    (subst (λ (c : Core). AllByRecursion (IsItemAt m.size c.ip) n.items) alike.core
    (subst (λ (is : List Item). AllByRecursion (IsItemAt m.size (m.core).ip) is) alike.items all))

pub items_alike : (ns ms : List NodeSeen) → AreAlike ns ms → AllByRecursion HasItemsAt ns → AllByRecursion HasItemsAt ms
items_alike [] [] alike all = tt
items_alike [] (n ∷ ms) alike all = absurd alike
items_alike (m ∷ ns) [] alike all = absurd alike
items_alike (m ∷ ns) (n ∷ ms) alike all = (items_of m n alike.0 all.0, items_alike ns ms alike.1 all.1)

table_alike : (ns ms : List NodeSeen) → AreAlike ns ms → (x : ℕ) → table ns x ≡ table ms x
table_alike [] [] alike x = refl
table_alike [] (n ∷ ms) alike x = absurd alike
table_alike (m ∷ ns) [] alike x = absurd alike
table_alike (m ∷ ns) (n ∷ ms) alike zero = ap (λ (c : Core). c.rt) alike.0.core
table_alike (m ∷ ns) (n ∷ ms) alike (suc x) = table_alike ns ms alike.1 x

pub tables_alike : (ns ms : List NodeSeen) → AreAlike ns ms → table ns ≡ table ms
tables_alike ns ms alike = λ i. λ x. table_alike ns ms alike x i

inboxes_alike : (P : ℕ → List ℕ → Type 0) (ns ms : List NodeSeen) → AreAlike ns ms → AllByRecursion (λ n. AllByRecursion (InItem P) n.items) ns → AllByRecursion (λ n. AllByRecursion (InItem P) n.items) ms
inboxes_alike P [] [] alike all = tt
inboxes_alike P [] (n ∷ ms) alike all = absurd alike
inboxes_alike P (m ∷ ns) [] alike all = absurd alike
inboxes_alike P (m ∷ ns) (n ∷ ms) alike all = (subst (λ (is : List Item). AllByRecursion (InItem P) is) alike.0.items all.0, inboxes_alike P ns ms alike.1 all.1)

packets_alike : (P : ℕ → List ℕ → Type 0) (ns ms : List NodeSeen) (flying : List Flying) → AreAlike ns ms → InEachPacket P ns flying → InEachPacket P ms flying
packets_alike P ns ms flying alike all = record { waits = inboxes_alike P ns ms alike all.waits; flies = all.flies }

pub written_alike : (mesh : Nodes) (ns ms : List NodeSeen) (flying : List Flying) → AreAlike ns ms → AreWritten mesh ns flying → AreWritten mesh ms flying
written_alike mesh ns ms flying alike all = record { waits = inboxes_alike (λ from bytes. IsWritten mesh bytes) ns ms alike all.waits; flies = all.flies }

-- the request is honest where these are the tables
abbrev IsRequest : Nodes → (ℕ → Table) → ℕ → List ℕ → Type 0
IsRequest mesh tables from bytes = IsHonestIfRequest (tables from) from (meaning mesh bytes)

abbrev IsReply : Nodes → (ℕ → Table) → ℕ → List ℕ → Type 0
IsReply mesh tables from bytes = IsHonestIfReply (tables from) from (meaning mesh bytes)

pub requests_alike : (mesh : Nodes) (ns ms : List NodeSeen) (flying : List Flying) → AreAlike ns ms → AreRequestsHonest mesh ns flying → AreRequestsHonest mesh ms flying
requests_alike mesh ns ms flying alike all =
    packets_alike (IsRequest mesh (table ms)) ns ms flying alike
    (subst (λ (t : ℕ → Table). InEachPacket (IsRequest mesh t) ns flying) (tables_alike ns ms alike) all)

pub replies_alike : (mesh : Nodes) (ns ms : List NodeSeen) (flying : List Flying) → AreAlike ns ms → AreRepliesHonest mesh ns flying → AreRepliesHonest mesh ms flying
replies_alike mesh ns ms flying alike all =
    packets_alike (IsReply mesh (table ms)) ns ms flying alike
    (subst (λ (t : ℕ → Table). InEachPacket (IsReply mesh t) ns flying) (tables_alike ns ms alike) all)

abbrev IsBackedIn : (ℕ → Table) → ℕ → ℕ → Type 0
IsBackedIn tables x d = IfSome (maps.get (tables x) d) (IsBacked tables d)

pub backed_alike : (ns ms : List NodeSeen) (x d : ℕ) → AreAlike ns ms → IsBackedAt ns x d → IsBackedAt ms x d
backed_alike ns ms x d alike backed = subst (λ (t : ℕ → Table). IsBackedIn t x d) (tables_alike ns ms alike) backed

pub first_edge_alike : (ns ms : List NodeSeen) (x d : ℕ) → AreAlike ns ms → IsFirstEdge ns x d → IsFirstEdge ms x d
first_edge_alike ns ms x d alike edge = record {
  fails = λ backed. edge.fails (backed_alike ms ns x d (alike_back ns ms alike) backed);
  first = λ y q before. backed_alike ns ms y q alike (edge.first y q before);
}

pub first_part_alike : (mesh : Nodes) (ns ms : List NodeSeen) (flying : List Flying) (part : Part) → AreAlike ns ms → IsFirstPart mesh ns flying part → IsFirstPart mesh ms flying part
first_part_alike mesh ns ms flying (parts.Node x) alike is = absurd is
first_part_alike mesh ns ms flying parts.Item alike is = λ all. is (written_alike mesh ms ns flying (alike_back ns ms alike) all)
first_part_alike mesh ns ms flying parts.Request alike is =
    (written_alike mesh ns ms flying alike is.0, λ all. is.1 (requests_alike mesh ms ns flying (alike_back ns ms alike) all))
first_part_alike mesh ns ms flying parts.Reply alike is =
    (written_alike mesh ns ms flying alike is.0, requests_alike mesh ns ms flying alike is.1, λ all. is.2 (replies_alike mesh ms ns flying (alike_back ns ms alike) all))
first_part_alike mesh ns ms flying (parts.Edge x d) alike is =
    (written_alike mesh ns ms flying alike is.0, requests_alike mesh ns ms flying alike is.1, replies_alike mesh ns ms flying alike is.2, first_edge_alike ns ms x d alike is.3)
