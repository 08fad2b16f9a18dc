-- Entries and the next hops that back them.
use Rattle.std.proofs.Common.{◌≡◌, ℕ, ◌<◌, ◌≤◌, List, length, Option, Some, None, refl, sym, ap, subst, ◌∙◌, arith}
use Rattle.std.specs.Prelude.{slice_get, IfSome}
use Rattle.std.specs.Ordering.{nat_cmp}
use Rattle.std.specs.FinMap as maps
use Rattle.std.proofs.lemmas.Option.{slice_get_past}
use Rattle.mesh_base.proofs.Lemmas.Lists.{each_at}
use Rattle.aodv_model.specs.declared.entry.Entry.{Entry}
use Rattle.aodv_model.specs.declared.entry.Flag.TheVariants.{Val, Inv}
use Rattle.aodv_node.specs.Seen.{NodeSeen, IsSoundNode}
use Rattle.mesh_model.specs.Invariants.{IsBacked}
use Rattle.mesh_sound.specs.Claims.{AreSized, table, table_in}
use Rattle.mesh_sound.specs.Edges.{IsBackedAt}

entry_at : (nodes : List NodeSeen) (x d : ℕ) (n : NodeSeen) (e : Entry) → slice_get nodes x ≡ Some n → maps.get (n.core).rt d ≡ Some e → maps.get (table nodes x) d ≡ Some e
entry_at nodes x d n e each_at there = ap (λ (o : Option NodeSeen). maps.get (table_in o) d) each_at ∙ there

pub backed_at : (nodes : List NodeSeen) (x d : ℕ) (n : NodeSeen) (e : Entry) → slice_get nodes x ≡ Some n → maps.get (n.core).rt d ≡ Some e → IsBacked (table nodes) d e → IsBackedAt nodes x d
backed_at nodes x d n e each_at there backed = subst (λ (o : Option Entry). IfSome o (IsBacked (table nodes) d)) (sym (entry_at nodes x d n e each_at there)) backed

pub at_backed : (nodes : List NodeSeen) (x d : ℕ) (n : NodeSeen) (e : Entry) → slice_get nodes x ≡ Some n → maps.get (n.core).rt d ≡ Some e → IsBackedAt nodes x d → IsBacked (table nodes) d e
at_backed nodes x d n e each_at there backed = subst (λ (o : Option Entry). IfSome o (IsBacked (table nodes) d)) (entry_at nodes x d n e each_at there) backed

-- a node is of a mesh of so many nodes
pub size_of : (nodes : List NodeSeen) (x : ℕ) (n : NodeSeen) → AreSized nodes → slice_get nodes x ≡ Some n → n.size ≡ length nodes
size_of nodes x n sizes is = each_at (λ (m : NodeSeen). m.size ≡ length nodes) nodes x n sizes is

-- the next hop is one of the nodes
pub next_near : (nodes : List NodeSeen) (x d : ℕ) (n : NodeSeen) (e : Entry) → AreSized nodes → slice_get nodes x ≡ Some n → IsSoundNode n → maps.get (n.core).rt d ≡ Some e → e.next < length nodes
next_near nodes x d n e sizes is sound there =
    let near = (sound.sound.table.in_mesh d e there).near in
    let size = size_of nodes x n sizes is in
    omega arith

-- no node has an entry for a destination outside the mesh
pub beyond : (nodes : List NodeSeen) (x d : ℕ) (n : NodeSeen) → AreSized nodes → slice_get nodes x ≡ Some n → IsSoundNode n → length nodes ≤ d → IsBackedAt nodes x d
beyond nodes x d n sizes is sound le = by_entry (maps.get (n.core).rt d) (λ e there. absurd (outside e there)) (ap (λ (o : Option NodeSeen). maps.get (table_in o) d) is)
  where
    outside : (e : Entry) → maps.get (n.core).rt d ≡ Some e → ⊥
    outside e there =
        let dest = (sound.sound.table.in_mesh d e there).dest in
        let size = size_of nodes x n sizes is in
        omega arith

    by_entry : (o : Option Entry) → ((e : Entry) → o ≡ Some e → ⊥) → maps.get (table nodes x) d ≡ o → IsBackedAt nodes x d
    by_entry None none is = subst (λ (o : Option Entry). IfSome o (IsBacked (table nodes) d)) (sym is) tt
    by_entry (Some e) none is = absurd (none e refl)

-- there is no node outside the mesh
pub nobody : (nodes : List NodeSeen) (x d : ℕ) → length nodes ≤ x → IsBackedAt nodes x d
nobody nodes x d le =
    let none : maps.get (table nodes x) d ≡ None = ap (λ (o : Option NodeSeen). maps.get (table_in o) d) (slice_get_past nodes x le) ∙ maps.get-empty nat_cmp d in
    subst (λ (o : Option Entry). IfSome o (IsBacked (table nodes) d)) (sym none) tt

pub inv_val : Inv ≡ Val → ⊥
inv_val e = cc
