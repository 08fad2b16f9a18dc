-- Tables of nodes, and what a table has at least.
use Rattle.std.proofs.Common.{◌≡◌, ℕ, ◌≤◌, Some, None, List, sym, ap, subst, ◌∙◌, inl, inr, arith}
use Rattle.std.specs.Prelude.{slice_get}
use Rattle.std.proofs.lemmas.Option.{none-some, same_Some}
use Rattle.std.specs.FinMap as maps
use Rattle.aodv_model.specs.declared.entry.Entry.{Entry}
use Rattle.aodv_model.specs.Tables.{Table}
use Rattle.aodv_node.specs.Seen.{NodeSeen}
use Rattle.mesh_model.specs.Invariants.{AtLeast, IsAtLeast}
use Rattle.mesh_sound.specs.Claims.{table, table_in}

-- the entry that is there decides
pub at_least : (rt : Table) (d n h : ℕ) (e : Entry) → maps.get rt d ≡ Some e → IsAtLeast e n h → AtLeast rt d n h
at_least rt d n h e there enough = record { entry = e; there = there; enough = enough }

pub of_entry : (rt : Table) (d n h : ℕ) (e : Entry) → maps.get rt d ≡ Some e → AtLeast rt d n h → IsAtLeast e n h
of_entry rt d n h e there least = subst (λ x. IsAtLeast x n h) (same_Some least.entry e (sym least.there ∙ there)) least.enough

pub no_entry : (rt : Table) (d n h : ℕ) → maps.get rt d ≡ None → AtLeast rt d n h → ⊥
no_entry rt d n h none least = none-some least.entry (sym none ∙ least.there)

-- the table of the node that stands there
pub table_is : (nodes : List NodeSeen) (x : ℕ) (n : NodeSeen) → slice_get nodes x ≡ Some n → table nodes x ≡ (n.core).rt
table_is nodes x n is = ap table_in is

pub least_in : (nodes : List NodeSeen) (x i j n h : ℕ) (node : NodeSeen) → slice_get nodes x ≡ Some node → i ≡ j → AtLeast (node.core).rt i n h → AtLeast (table nodes x) j n h
least_in nodes x i j n h node is same least =
    subst (λ (rt : Table). AtLeast rt j n h) (sym (table_is nodes x node is)) (subst (λ (d : ℕ). AtLeast (node.core).rt d n h) same least)

pub in_least : (nodes : List NodeSeen) (x i j n h : ℕ) (node : NodeSeen) → slice_get nodes x ≡ Some node → i ≡ j → AtLeast (table nodes x) j n h → AtLeast (node.core).rt i n h
in_least nodes x i j n h node is same least =
    subst (λ (d : ℕ). AtLeast (node.core).rt d n h) (sym same) (subst (λ (rt : Table). AtLeast rt j n h) (table_is nodes x node is) least)

-- an entry whose number isn't greater has no more hops
pub least_hops : (e : Entry) (n h : ℕ) → e.dsn ≤ n → IsAtLeast e n h → e.hops ≤ h
least_hops e n h le (inl lt) = absurd (omega arith)
least_hops e n h le (inr all) = all.2
