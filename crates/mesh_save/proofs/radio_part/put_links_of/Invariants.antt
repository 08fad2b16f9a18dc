use Rattle.std.specs.List.{flat_map}
use Rattle.mesh_save.specs.Bytes.{link_bytes}
use Rattle.mesh_save.specs.Links.{link_of, pairs_from}
use Rattle.mesh_save.proofs.radio_part.put_links_of.Given as goal

abbrev pub invariant-loop-b : goal.invariant-loop-b
invariant-loop-b g l = g.P.Encoder.wrote l.initial.encoder (flat_map (λ p. link_bytes (link_of l.radio.links p)) (pairs_from l.radio.ever l.a l.b)) l.encoder
