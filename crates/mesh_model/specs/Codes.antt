-- Codes of worlds, by which a type of the code can be viewed as one. They are no part of the
-- protocol.
use Rattle.std.specs.Prelude.{ℕ, List, refl}
use Rattle.std.specs.Coded.{Coded, code_by, coded×, coded_ℕ, coded_list}
use Rattle.aodv_model.specs.Pairs.{Pairs}
use Rattle.aodv_model.specs.Cores.{Message, Item, Core}
use Rattle.aodv_model.specs.Codes.{core_code, item_code, message_code, pairs_code}
use Rattle.mesh_model.specs.Worlds.{Node, Copy, World}

-- the code of nodes
abbrev pub node_code : Coded Node
node_code =
    code_by (Core × List Item) (coded× core_code (coded_list item_code)) (λ n. (n.core, n.queue))
    (λ p. record { core = p.0; queue = p.1 }) (λ _. refl)

-- the code of copies
abbrev pub copy_code : Coded Copy
copy_code =
    code_by (ℕ × (ℕ × (ℕ × Message)))
    (coded× coded_ℕ (coded× coded_ℕ (coded× coded_ℕ message_code)))
    (λ c. (c.id, (c.from, (c.to, c.message))))
    (λ p. record { id = p.0; from = p.1.0; to = p.1.1.0; message = p.1.1.1 })
    (λ _. refl)

-- the code of worlds
abbrev pub world_code : Coded World
world_code =
    code_by (List Node × (Pairs × (Pairs × (List Copy × ℕ))))
    (coded× (coded_list node_code)
    (coded× pairs_code (coded× pairs_code (coded× (coded_list copy_code) coded_ℕ))))
    (λ w. (w.nodes, (w.links, (w.ever, (w.flying, w.next_copy)))))
    (λ p. record {
      nodes = p.0;
      links = p.1.0;
      ever = p.1.1.0;
      flying = p.1.1.1.0;
      next_copy = p.1.1.1.1;
    })
    (λ _. refl)
