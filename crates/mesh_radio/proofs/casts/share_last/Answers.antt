use Rattle.std.proofs.Common.{◌∙◌, ap, sym}
use Rattle.indexmap.specs.IndexMap.{set_value_at}
use Rattle.mesh_radio.proofs.Entries.{set-same}
use Rattle.mesh_radio.proofs.casts.share_last.Goals as goal

pub returns-then-ne-clause-entries : goal.returns-then-ne-clause-entries
returns-then-ne-clause-entries c = set-same c.args.casts.now.entries c.saturating_sub-last.result c.in_ok-cast.cast.now (sym c.in_ok-cast.ensures.value)

pub returns-clause-entries : goal.returns-clause-entries
returns-clause-entries c =
    let es = c.args.casts.now.entries in
    let last = c.saturating_sub-last.result in
    let cast = c.in_ok-cast.cast.now in
    ap (λ bs. set_value_at es last (record cast { bytes = bs })) c.share.ensures.same
    ∙ set-same es last cast (sym c.in_ok-cast.ensures.value)
