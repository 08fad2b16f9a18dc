use Rattle.std.proofs.Common.{◌≡◌, ◌+◌, ◌*◌, length, ap, sym, ◌∙◌, arith}
use Rattle.std.specs.Prelude.{option_map}
use Rattle.aodv_wire.specs.declared.error.WireError.TheVariants.{Repeated}
use Rattle.aodv_wire.specs.declared.message.Message.TheVariants.{Rerr}
use Rattle.aodv_wire.specs.Layout.{number_at, field_at}
use Rattle.aodv_wire.specs.RouteError.{repeated_address}
use Rattle.aodv_wire.proofs.Lines.{are_bytes, refusal_rerr, said_rerr}
use Rattle.aodv_wire.proofs.Profile.{rerr_outside, rerr_nobody, rerr_repeated, destinations_behind}
use Rattle.aodv_wire.proofs.route_error.read_rerr.Goals as goal

pub returns-then-bytes-ne0 : goal.returns-then-bytes-ne0
returns-then-bytes-ne0 c =
    let b = c.args.bytes.now in
    let len : length b ≡ 4 + 8 * number_at b (field_at 0 24 8) = omega (arith, c.if-len-from.false, c.from.ensures, c.last_octet-count.ensures) in
    refusal_rerr b c.requires.some c.requires.kind
    ∙ rerr_outside b (are_bytes b c.type_inv.bytes) (omega arith) len c.if-bytes-ne0.true

pub returns-then-count-eq0 : goal.returns-then-count-eq0
returns-then-count-eq0 c =
    let b = c.args.bytes.now in
    let len : length b ≡ 4 + 8 * number_at b (field_at 0 24 8) = omega (arith, c.if-len-from.false, c.from.ensures, c.last_octet-count.ensures) in
    refusal_rerr b c.requires.some c.requires.kind
    ∙ rerr_nobody b (are_bytes b c.type_inv.bytes) (omega arith) len c.if-bytes-ne0.false (sym c.last_octet-count.ensures ∙ c.if-count-eq0.true)

pub returns-in-Some : goal.returns-in-Some
returns-in-Some c =
    let b = c.args.bytes.now in
    let len : length b ≡ 4 + 8 * number_at b (field_at 0 24 8) = omega (arith, c.if-len-from.false, c.from.ensures, c.last_octet-count.ensures) in
    refusal_rerr b c.requires.some c.requires.kind
    ∙ rerr_repeated b (are_bytes b c.type_inv.bytes) (omega arith) len c.if-bytes-ne0.false (λ e. c.if-count-eq0.false (c.last_octet-count.ensures ∙ e))
    ∙ ap (λ ps. option_map Repeated (repeated_address ps)) (sym (destinations_behind b _ len c.split_at.ensures.back))
    ∙ ap (option_map Repeated) (sym c.repeated_address.ensures ∙ c.in-Some.is)

pub returns-in-None : goal.returns-in-None
returns-in-None c =
    let b = c.args.bytes.now in
    let len : length b ≡ 4 + 8 * number_at b (field_at 0 24 8) = omega (arith, c.if-len-from.false, c.from.ensures, c.last_octet-count.ensures) in
    record {
      allowed =
          refusal_rerr b c.requires.some c.requires.kind
          ∙ rerr_repeated b (are_bytes b c.type_inv.bytes) (omega arith) len c.if-bytes-ne0.false (λ e. c.if-count-eq0.false (c.last_octet-count.ensures ∙ e))
          ∙ ap (λ ps. option_map Repeated (repeated_address ps)) (sym (destinations_behind b _ len c.split_at.ensures.back))
          ∙ ap (option_map Repeated) (sym c.repeated_address.ensures ∙ c.in-None.is);
      stands = said_rerr b c.requires.kind ∙ ap Rerr (sym (destinations_behind b _ len c.split_at.ensures.back));
    }
