use Rattle.std.proofs.Common.{refl, sym, ◌∙◌, arith}
use Rattle.std.proofs.lemmas.Bool.{ne_eqb}
use Rattle.aodv_wire.proofs.Lines.{are_bytes, refusal_rrep, said_rrep}
use Rattle.aodv_wire.proofs.Profile.{rrep_outside, rrep_inside}
use Rattle.aodv_wire.proofs.route_reply.read_rrep.Goals as goal
use Rattle.aodv_wire.proofs.route_reply.read_rrep.Goals.{then-bytes-ne0-via-then-bytes-ne0, then-bytes-ne0-via-else-bytes-ne0+then-bytes-ne0-2}

pub returns-then-bytes-ne0 : goal.returns-then-bytes-ne0
returns-then-bytes-ne0 c =
    refusal_rrep c.args.bytes.now c.requires.some c.requires.kind
    ∙ rrep_outside c.args.bytes.now (are_bytes c.args.bytes.now c.type_inv.bytes) c.if-bytes-ne-LENGTH.false (elim c.then-bytes-ne0.branch [
      | then-bytes-ne0-via-then-bytes-ne0 w ↦ omega (arith, w.if-bytes-ne0.true)
      | then-bytes-ne0-via-else-bytes-ne0+then-bytes-ne0-2 w ↦ omega (arith, w.if-bytes-ne0-2.true)
    ])

pub returns-then-dsn-eq0 : goal.returns-then-dsn-eq0
returns-then-dsn-eq0 c =
    refusal_rrep c.args.bytes.now c.requires.some c.requires.kind
    ∙ rrep_inside c.args.bytes.now (are_bytes c.args.bytes.now c.type_inv.bytes) c.if-bytes-ne-LENGTH.false c.if-bytes-ne0.false c.if-bytes-ne0-2.false
    ∙ rw (sym c.line_at-dsn.ensures, c.if-dsn-eq0.true) refl

pub returns : goal.returns
returns c = record {
  allowed =
      refusal_rrep c.args.bytes.now c.requires.some c.requires.kind
      ∙ rrep_inside c.args.bytes.now (are_bytes c.args.bytes.now c.type_inv.bytes) c.if-bytes-ne-LENGTH.false c.if-bytes-ne0.false c.if-bytes-ne0-2.false
      ∙ rw (sym c.line_at-dsn.ensures, ne_eqb _ _ c.if-dsn-eq0.false) refl;
  stands =
      said_rrep c.args.bytes.now c.requires.kind
      ∙ rw (c.last_octet.ensures, c.line_at.ensures, c.line_at-dsn.ensures, c.line_at-2.ensures) refl;
}
