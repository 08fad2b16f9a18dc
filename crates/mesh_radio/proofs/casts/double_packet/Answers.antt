use Rattle.std.proofs.Common.{◌∙◌, ap, sym}
use Rattle.indexmap.specs.IndexMap.{set_value_at}
use Rattle.mesh_radio.proofs.Entries.{set-same}
use Rattle.mesh_radio.proofs.casts.double_packet.Goals as goal

pub returns-in-Some-clause-entries : goal.returns-in-Some-clause-entries
returns-in-Some-clause-entries c =
    let es = c.args.casts.now.entries in
    let cast = c.in-Some.cast.now in
    ap (λ bs. set_value_at es c.args.index (record cast { bytes = bs })) c.double.ensures.same
    ∙ set-same es c.args.index cast (sym c.in-Some.ensures.value)
