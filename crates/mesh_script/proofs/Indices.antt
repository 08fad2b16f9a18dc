-- Where one more node stands, and the ports of all.
use Rattle.std.proofs.Common.{◌≡◌, ℕ, ◌+◌, ◌-◌, ◌<◌, ◌≤◌, not, ltb, List, length, Option, Some, None, IfSome, insert, get_or, option_map, refl, sym, ap, subst, ◌∙◌, arith, inl, inr}
use Rattle.std.specs.Prelude.{◌↔◌}
use Rattle.std.proofs.lemmas.Bool.{cases_lt, cases_eq}
use Rattle.std.proofs.lemmas.Bool.Decides.{nat_tests}
use Rattle.std.proofs.lemmas.List.Edits.{length-insert, get_or-insert_at, get_or-insert_below, get_or-insert_above}
use Rattle.std.proofs.lemmas.Option.{same_Some}
use Rattle.std.proofs.lemmas.List.Sums.{prefix_len-le-length}
use Rattle.mesh_base.specs.Meshes.{Nodes, IsMesh, addr_at, index_of, with_node}
use Rattle.mesh_base.proofs.WrittenForms.{index_of-at}
use Rattle.mesh_script.specs.Peers.{PeersSeen, index_for, moved_index, with_self, with_peer, ArePeers}

pub index_within : (mesh : Nodes) (a : ℕ) → index_for mesh a ≤ length mesh
index_within mesh a = prefix_len-le-length (λ q. not (ltb a q.0)) mesh

-- one more node is found at its index
pub found_there : (mesh now : Nodes) (a first : ℕ) → now ≡ with_node mesh a first → IsMesh now → index_of now a ≡ Some (index_for mesh a)
unfolding with_node
found_there mesh now a first is mesh_is =
    let index : ℕ = index_for mesh a in
    let le : index ≤ length mesh = index_within mesh a in
    let there : addr_at now index ≡ a =
    ap (λ m. addr_at m index) is ∙ ap (λ q. q.0) (get_or-insert_at mesh index (a, first) (0, 0) le) in
    let lt : index < length now = omega (arith, ap length is, length-insert mesh index (a, first) le) in
    sym (ap (index_of now) there) ∙ index_of-at now index mesh_is lt

-- ---- the invariant

moved_up : (index i : ℕ) → index ≤ i → moved_index index i ≡ i + 1
moved_up index i le = grind (arith, nat_tests)

moved_not : (index i : ℕ) → i < index → moved_index index i ≡ i
moved_not index i lt = grind (arith, nat_tests)

no_index : (i : ℕ) → None ≡ Some i → ⊥
no_index i h = cc

-- a port after one more at this index: before it, at it, or after it
port_there : (P : ℕ → Type 0) (ports : List ℕ) (index port i : ℕ) → index ≤ length ports
    → (i < index → P (get_or ports i 0)) → (i ≡ index → P port) → ((j : ℕ) → index ≤ j → i ≡ j + 1 → P (get_or ports j 0)) → P (get_or (insert ports index port) i 0)
port_there P ports index port i le before at after =
    elim (cases_lt i index) [
      | inl early ↦ subst P (sym (get_or-insert_below ports index port 0 i early le)) (before early)
      | inr late ↦
          elim (cases_eq i index) [
            | inl same ↦
                subst P (sym (ap (λ k. get_or (insert ports index port) k 0) same ∙ get_or-insert_at ports index port 0 le)) (at same)
            | inr other ↦
                let next : i ≡ (i - 1) + 1 = omega arith in
                let from : index ≤ i - 1 = omega arith in
                subst P (sym (ap (λ k. get_or (insert ports index port) k 0) next ∙ get_or-insert_above ports index port 0 (i - 1) from le)) (after (i - 1) from next)
          ]
    ]

longer_mesh : (mesh : Nodes) (a first : ℕ) → length (insert mesh (index_for mesh a) (a, first)) ≡ length mesh + 1
longer_mesh mesh a first = length-insert mesh (index_for mesh a) (a, first) (index_within mesh a)

longer_ports : (mesh : Nodes) (ports : List ℕ) (a port : ℕ) → length ports ≡ length mesh → length (insert ports (index_for mesh a) port) ≡ length ports + 1
longer_ports mesh ports a port each = length-insert ports (index_for mesh a) port (omega (arith, index_within mesh a))

pub self_joins : (p : PeersSeen) (a first : ℕ) → p.me ≡ None → ArePeers p → ArePeers (with_self p a first)
unfolding with_self with_node
self_joins p a first none is =
    let index : ℕ = index_for p.mesh a in
    let le = index_within p.mesh a in
    let more = longer_mesh p.mesh a first in
    record {
      each = omega (arith, more, longer_ports p.mesh p.ports a 0 is.each, is.each);
      within = omega (arith, more, le);
      mine = λ i lt.
          port_there (λ q. (q ≡ 0) ↔ (Some index ≡ Some i)) p.ports index 0 i (omega (arith, le, is.each))
          (λ early. (λ zero. absurd (no_index i (sym none ∙ (is.mine i (omega (arith, le))).0 zero)), λ e. let same = same_Some index i e in absurd (omega arith)))
          (λ same. (λ zero. ap Some (sym same), λ e. refl))
          (λ j from next. (λ zero. absurd (no_index j (sym none ∙ (is.mine j (omega (arith, more, lt))).0 zero)), λ e. let same = same_Some index i e in absurd (omega arith)));
    }

-- where the node itself stands then
moved_here : (me : Option ℕ) (index i : ℕ) → i < index → (me ≡ Some i) ↔ (option_map (moved_index index) me ≡ Some i)
moved_here None index i lt = (λ h. absurd (no_index i h), λ h. absurd (no_index i h))
moved_here (Some k) index i lt = (
  λ h. let same = same_Some k i h in ap Some (ap (moved_index index) same ∙ moved_not index i lt),
  λ h.
      let same = same_Some (moved_index index k) i h in
      elim (cases_lt k index) [
        | inl early ↦ ap Some (sym (moved_not index k early) ∙ same)
        | inr late ↦ let up = moved_up index k late in absurd (omega arith)
      ],
)

moved_past : (me : Option ℕ) (index j i : ℕ) → index ≤ j → i ≡ j + 1 → (me ≡ Some j) ↔ (option_map (moved_index index) me ≡ Some i)
moved_past None index j i le next = (λ h. absurd (no_index j h), λ h. absurd (no_index i h))
moved_past (Some k) index j i le next = (
  λ h. let same = same_Some k j h in ap Some (ap (moved_index index) same ∙ moved_up index j le ∙ sym next),
  λ h.
      let same = same_Some (moved_index index k) i h in
      elim (cases_lt k index) [
        | inl early ↦ let not = moved_not index k early in absurd (omega arith)
        | inr late ↦ let up = moved_up index k late in let is : k ≡ j = omega arith in ap Some is
      ],
)

moved_not_there : (me : Option ℕ) (index i : ℕ) → i ≡ index → option_map (moved_index index) me ≡ Some i → ⊥
moved_not_there None index i is h = no_index i h
moved_not_there (Some k) index i is h =
    let same = same_Some (moved_index index k) i h in
    elim (cases_lt k index) [
      | inl early ↦ let not = moved_not index k early in omega arith
      | inr late ↦ let up = moved_up index k late in omega arith
    ]

both_ways : {A B C : Type 0} → A ↔ B → B ↔ C → A ↔ C
both_ways f g = (λ a. g.0 (f.0 a), λ c. f.1 (g.1 c))

moved_within : (me : Option ℕ) (index size : ℕ) → IfSome me (λ i. i < size) → IfSome (option_map (moved_index index) me) (λ i. i < size + 1)
moved_within None index size h = tt
moved_within (Some k) index size h =
    elim (cases_lt k index) [
      | inl early ↦ let not = moved_not index k early in omega arith
      | inr late ↦ let up = moved_up index k late in omega arith
    ]

pub peer_joins : (p : PeersSeen) (a port : ℕ) → 1 ≤ port → ArePeers p → ArePeers (with_peer p a port)
unfolding with_peer with_node
peer_joins p a port some is =
    let index : ℕ = index_for p.mesh a in
    let le = index_within p.mesh a in
    let more = longer_mesh p.mesh a 1 in
    record {
      each = omega (arith, more, longer_ports p.mesh p.ports a port is.each, is.each);
      within = subst (λ n. IfSome (option_map (moved_index index) p.me) (λ i. i < n)) (sym more) (moved_within p.me index (length p.mesh) is.within);
      mine = λ i lt.
          port_there (λ q. (q ≡ 0) ↔ (option_map (moved_index index) p.me ≡ Some i)) p.ports index port i (omega (arith, le, is.each))
          (λ early. both_ways (is.mine i (omega (arith, le))) (moved_here p.me index i early))
          (λ same. (λ zero. absurd (omega arith), λ e. absurd (moved_not_there p.me index i same e)))
          (λ j from next. both_ways (is.mine j (omega (arith, more, lt))) (moved_past p.me index j i from next));
    }

-- ---- the fields after it

pub with_self_is : (p : PeersSeen) (a first index : ℕ) (mesh : Nodes) (ports : List ℕ) → index ≡ index_for p.mesh a → mesh ≡ with_node p.mesh a first
    → ports ≡ insert p.ports index 0 → record { mesh = mesh; me = Some index; ports = ports } ≡ with_self p a first
unfolding with_self
with_self_is p a first index mesh ports at mesh_is ports_is = rw (ports_is, mesh_is, at) refl

pub with_peer_is : (p : PeersSeen) (a port index : ℕ) (mesh : Nodes) (me : Option ℕ) (ports : List ℕ) → index ≡ index_for p.mesh a → mesh ≡ with_node p.mesh a 1
    → me ≡ option_map (moved_index index) p.me → ports ≡ insert p.ports index port → record { mesh = mesh; me = me; ports = ports } ≡ with_peer p a port
unfolding with_peer
with_peer_is p a port index mesh me ports at mesh_is me_is ports_is = rw (ports_is, mesh_is, me_is, at) refl
