use Rattle.std.proofs.Common.{◌≡◌, refl, sym, subst, ◌∙◌}
use Rattle.aodv_wire.specs.Encodes.{Encodes}
use Rattle.aodv_wire.specs.declared.message.Message.TheVariants.{Parcel as a_parcel}
use Rattle.aodv_wire.proofs.Writes.{data_cells, data_written, data_encodes}
use Rattle.aodv_wire.proofs.data_packet.write_data.Goals as goal

-- what was put is the whole packet
whole : (c : goal.After-put_bytes) → c.put_bytes.new.out.items ≡ data_cells (record { dip = c.args.dip; oip = c.args.oip; body = c.args.body.now })
whole c =
    rw (c.put_bytes.ensures, c.put_line-2.ensures.bytes, c.put_line.ensures.bytes, c.put_first_line.ensures.bytes, c.clear.ensures) refl

pub returns-clause-written : goal.returns-clause-written
returns-clause-written c = whole c ∙ sym (data_written _)

pub returns-clause-encodes : goal.returns-clause-encodes
returns-clause-encodes c =
    subst (λ b. Encodes b (a_parcel (record { dip = c.args.dip; oip = c.args.oip; body = c.args.body.now }))) (sym (whole c)) (data_encodes _ c.put_line.ensures.fits c.put_line-2.ensures.fits c.requires.some c.requires.few)
