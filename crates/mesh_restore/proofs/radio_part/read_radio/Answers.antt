use Rattle.std.proofs.Common.{arith}
use Rattle.mesh_restore.proofs.LinksAndCopies.{radio_part_read}
use Rattle.mesh_restore.proofs.radio_part.read_radio.Goals as goal

pub returns : goal.returns
returns c =
    radio_part_read c.args.nodes c.in-Some.count c.in-Some-number64.next c.in-Some-number32.copies c.args.bytes.now c.in-Some.links.now c.in-Some-behind_links.rest.now c.in-Some-number64.rest.now c.in-Some-number32.rest.now c.in_ok-apart.rest.now c.in-Some-link_all.field-0.now
    c.in_ok-radio.radio c.link_all.new.radio c.fly_all.new.radio c.in_ok-apart.apart (omega (arith, c.in-Some-number64.ensures.below)) c.in-Some.ensures.value c.in-Some-behind_links.ensures c.in-Some-number64.ensures.value c.in-Some-number32.ensures.value c.in_ok-radio.ensures c.in-Some-link_all.ensures c.in_ok-apart.ensures
