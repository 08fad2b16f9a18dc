-- What is seen of an owned list of nodes.
use Rattle.std.specs.Prelude.{ℕ, List, refl}
use Rattle.std.specs.Coded.{Coded, code_by, coded×, coded_ℕ, coded_list}
use Rattle.aodv_node.specs.Seen.{NodeSeen, node_code}

-- the nodes, and for how many more there is room
pub record NodeList : Type 0 where
  pub nodes : List NodeSeen
  pub room : ℕ

-- a code, by which proofs tell such values apart
abbrev pub list_code : Coded NodeList
list_code =
    code_by (List NodeSeen × ℕ) (coded× (coded_list node_code) coded_ℕ) (λ n. (n.nodes, n.room))
    (λ p. record { nodes = p.0; room = p.1 }) (λ _. refl)
