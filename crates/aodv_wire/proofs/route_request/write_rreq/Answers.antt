use Rattle.std.proofs.Common.{◌≡◌, cond, refl, sym, subst, ◌∙◌}
use Rattle.aodv_wire.specs.Encodes.{Encodes}
use Rattle.aodv_wire.specs.declared.message.Message.TheVariants.{Rreq as a_rreq}
use Rattle.aodv_wire.proofs.Writes.{rreq_cells, rreq_written, rreq_encodes}
use Rattle.aodv_wire.proofs.route_request.write_rreq.Goals as goal
use Rattle.aodv_wire.proofs.route_request.write_rreq.Goals.{then-m, else-m}

-- what was put is the whole packet
whole : (c : goal.After-put_line-5) → c.put_line-5.new.out.items ≡ rreq_cells c.args.m.now
whole c =
    let flag : c.if-m.flags ≡ cond c.args.m.now.known 0 8 = elim c.if-m.branch [
      | then-m w ↦ w.flags-is ∙ rw w.if-m.true refl
      | else-m w ↦ w.flags-is ∙ rw w.if-m.false refl
    ] in
    rw (c.put_line-5.ensures.bytes, c.put_line-4.ensures.bytes, c.put_line-3.ensures.bytes, c.put_line-2.ensures.bytes, c.put_line.ensures.bytes, c.put_first_line.ensures.bytes, c.clear.ensures, flag) refl

pub returns-clause-written : goal.returns-clause-written
returns-clause-written c = whole c ∙ sym (rreq_written c.args.m.now c.put_first_line.ensures.fits)

pub returns-clause-encodes : goal.returns-clause-encodes
returns-clause-encodes c =
    subst (λ b. Encodes b (a_rreq c.args.m.now)) (sym (whole c)) (rreq_encodes c.args.m.now c.put_first_line.ensures.fits c.put_line.ensures.fits c.put_line-2.ensures.fits c.put_line-3.ensures.fits c.put_line-4.ensures.fits c.put_line-5.ensures.fits c.requires)
