use Rattle.std.specs.List.{flat_map}
use Rattle.mesh_save.specs.Bytes.{link_bytes}
use Rattle.mesh_save.specs.Links.{link_of}
use Rattle.mesh_save.proofs.Rows.{rows_before}
use Rattle.mesh_save.proofs.radio_part.put_links.Given as goal

abbrev pub invariant-loop-a : goal.invariant-loop-a
invariant-loop-a g l = g.P.Encoder.wrote l.initial.encoder (flat_map (λ p. link_bytes (link_of l.radio.links p)) (rows_before l.radio.ever l.a)) l.encoder
