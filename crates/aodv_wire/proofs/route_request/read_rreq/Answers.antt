use Rattle.std.proofs.Common.{refl, sym, ◌∙◌}
use Rattle.std.proofs.lemmas.Bool.{ne_eqb}
use Rattle.aodv_wire.proofs.Lines.{are_bytes, refusal_rreq, said_rreq}
use Rattle.aodv_wire.proofs.Profile.{rreq_outside, rreq_inside, rreq_unknown}
use Rattle.aodv_wire.proofs.route_request.read_rreq.Goals as goal

pub returns-then-bytes-ne0 : goal.returns-then-bytes-ne0
returns-then-bytes-ne0 c =
    refusal_rreq c.args.bytes.now c.requires.some c.requires.kind
    ∙ rreq_outside c.args.bytes.now (are_bytes c.args.bytes.now c.type_inv.bytes) c.if-bytes-ne-LENGTH.false c.if-bytes-ne0.true

pub returns-then-osn-eq0 : goal.returns-then-osn-eq0
returns-then-osn-eq0 c =
    refusal_rreq c.args.bytes.now c.requires.some c.requires.kind
    ∙ rreq_inside c.args.bytes.now (are_bytes c.args.bytes.now c.type_inv.bytes) c.if-bytes-ne-LENGTH.false c.if-bytes-ne0.false
    ∙ rw (sym c.line_at-osn.ensures, c.if-osn-eq0.true) refl

pub returns : goal.returns
returns c = record {
  allowed =
      refusal_rreq c.args.bytes.now c.requires.some c.requires.kind
      ∙ rreq_inside c.args.bytes.now (are_bytes c.args.bytes.now c.type_inv.bytes) c.if-bytes-ne-LENGTH.false c.if-bytes-ne0.false
      ∙ rw (sym c.line_at-osn.ensures, ne_eqb _ _ c.if-osn-eq0.false) refl;
  stands =
      said_rreq c.args.bytes.now c.requires.kind
      ∙ rw (c.last_octet.ensures, c.line_at.ensures, c.line_at-2.ensures, c.line_at-3.ensures, c.line_at-4.ensures, c.line_at-osn.ensures, rreq_unknown c.args.bytes.now (are_bytes c.args.bytes.now c.type_inv.bytes)) refl;
}
