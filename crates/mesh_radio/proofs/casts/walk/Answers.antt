use Rattle.std.proofs.Common.{sym, rules}
use Rattle.std.proofs.lemmas.Option.{slice_get_past}
use Rattle.mesh_radio.proofs.Nexts.{later-next, later-none, none-after}
use Rattle.mesh_radio.proofs.casts.walk.Goals as goal

pub returns-in-Some-clause-some : goal.returns-in-Some-clause-some
returns-in-Some-clause-some c =
    let l = c.in-Some.ensures in
    later-next c.args.casts.now.entries c.requires.casts.0 c.args.id c.casts.index c.in-Some.to (c.in_ok-cast.field-0-0.now, c.in_ok-cast.cast.now)
    (c.requires.casts.1).rising (c.requires.casts.1).lefts c.casts.invariant.none c.casts.invariant.from (sym c.in_ok-cast.ensures.entry) l.least l.below

pub casts-preserved : goal.casts-preserved
casts-preserved c =
    let more = later-none c.args.casts.now.entries c.requires.casts.0 c.args.id c.casts.index (c.in_ok-cast.field-0-0.now, c.in_ok-cast.cast.now)
    (c.requires.casts.1).rising c.casts.invariant.none c.casts.invariant.from (sym c.in_ok-cast.ensures.entry) c.in_default.ensures.least in
    record { none = more.0; from = more.1 }

pub returns-clause-none : goal.returns-clause-none
returns-clause-none c =
    none-after c.args.casts.now.entries c.args.id c.casts.index c.casts.invariant.none (slice_get_past c.args.casts.now.entries c.casts.index (search rules))
