use Rattle.mesh_save.specs.Bytes.{link_bytes}
use Rattle.mesh_save.specs.Links.{link_of}
use Rattle.mesh_save.proofs.LinkRows.{none_up_to}
use Rattle.mesh_save.proofs.Puts.{pair}
use Rattle.mesh_save.proofs.radio_part.put_links_of.Goals as goal

pub loop-b-init : goal.loop-b-init
loop-b-init g c = rw (none_up_to c.args.radio.now.size c.args.radio.now.ever c.args.a (c.count-count.ensures.linked).earlier) (g.met.P.Encoder.nothing _)

pub loop-b-preserved : goal.loop-b-preserved
loop-b-preserved g c = pair g.P.Encoder.wrote g.met.P.Encoder.joins (λ p. link_bytes (link_of c.args.radio.now.links p)) c.args.radio.now.ever c.args.a c.loop-b.b _ _ _ c.loop-b.invariant c.put_link.ensures
