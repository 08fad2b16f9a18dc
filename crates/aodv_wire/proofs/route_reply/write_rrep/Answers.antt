use Rattle.std.proofs.Common.{◌≡◌, refl, sym, subst, ◌∙◌}
use Rattle.aodv_wire.specs.Encodes.{Encodes}
use Rattle.aodv_wire.specs.declared.message.Message.TheVariants.{Rrep as a_rrep}
use Rattle.aodv_wire.proofs.Writes.{rrep_cells, rrep_written, rrep_encodes}
use Rattle.aodv_wire.proofs.route_reply.write_rrep.Goals as goal

-- what was put is the whole packet
whole : (c : goal.After-put_line-4) → c.put_line-4.new.out.items ≡ rrep_cells c.args.m.now
whole c =
    rw (c.put_line-4.ensures.bytes, c.put_line-3.ensures.bytes, c.put_line-2.ensures.bytes, c.put_line.ensures.bytes, c.put_first_line.ensures.bytes, c.clear.ensures) refl

pub returns-clause-written : goal.returns-clause-written
returns-clause-written c = whole c ∙ sym (rrep_written c.args.m.now c.put_first_line.ensures.fits)

pub returns-clause-encodes : goal.returns-clause-encodes
returns-clause-encodes c =
    subst (λ b. Encodes b (a_rrep c.args.m.now)) (sym (whole c)) (rrep_encodes c.args.m.now c.put_first_line.ensures.fits c.put_line.ensures.fits c.put_line-2.ensures.fits c.put_line-3.ensures.fits c.requires)
