use Rattle.std.proofs.Common.{sym, rules}
use Rattle.mesh_radio.proofs.Entries.{first-low, none-or}
use Rattle.mesh_radio.proofs.Nexts.{none-at-start, rest-some, rest-none, rest-past}
use Rattle.mesh_radio.proofs.casts.rest_of.Goals as goal

pub returns-then-after-eq0-clause-none : goal.returns-then-after-eq0-clause-none
returns-then-after-eq0-clause-none c = none-at-start c.args.casts.now.entries c.args.id c.args.after (search rules)

pub overflow_sub-id : goal.overflow_sub-id
overflow_sub-id c =
    first-low c.args.casts.now.entries c.args.id c.args.after (c.in_ok-first.first.now, c.in_ok-first.cast.now) c.requires.split (search rules) (sym c.in_ok-first.ensures.entry)

pub returns-in_err-start-clause-none : goal.returns-in_err-start-clause-none
returns-in_err-start-clause-none c =
    let es = c.args.casts.now.entries in
    let at = sym c.in_ok-first.ensures.entry in
    none-or c.from_residual-in_err-start.result _
    (rest-past es c.requires.casts.0 c.args.id c.args.after (c.in_ok-first.first.now, c.in_ok-first.cast.now) (c.requires.casts.1).rising (search rules)
    (first-low es c.args.id c.args.after (c.in_ok-first.first.now, c.in_ok-first.cast.now) c.requires.split (search rules) at) at (sym c.in_err-start.ensures.value))

pub returns-clause-some : goal.returns-clause-some
returns-clause-some c =
    let es = c.args.casts.now.entries in
    let at = sym c.in_ok-first.ensures.entry in
    rest-some es c.requires.casts.0 c.args.id c.args.after c.in_ok-start.start (c.in_ok-first.first.now, c.in_ok-first.cast.now) (c.requires.casts.1).rising (c.requires.casts.1).lefts (search rules)
    (first-low es c.args.id c.args.after (c.in_ok-first.first.now, c.in_ok-first.cast.now) c.requires.split (search rules) at) at (sym c.in_ok-start.ensures.value)
    c.next_from.result c.next_from.ensures.least c.next_from.ensures.below

pub returns-clause-none : goal.returns-clause-none
returns-clause-none c =
    let es = c.args.casts.now.entries in
    let at = sym c.in_ok-first.ensures.entry in
    rest-none es c.requires.casts.0 c.args.id c.args.after c.in_ok-start.start (c.in_ok-first.first.now, c.in_ok-first.cast.now) (c.requires.casts.1).rising (c.requires.casts.1).lefts (search rules)
    (first-low es c.args.id c.args.after (c.in_ok-first.first.now, c.in_ok-first.cast.now) c.requires.split (search rules) at) at (sym c.in_ok-start.ensures.value)
    c.next_from.result c.next_from.ensures.least
