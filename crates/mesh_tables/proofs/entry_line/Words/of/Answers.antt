use Rattle.std.proofs.Common.{refl}
use Rattle.mesh_base.specs.Parts.{parts}
use Rattle.mesh_tables.specs.Printed.{entry_in}
use Rattle.mesh_tables.proofs.Lines.{unread, eight_words}
use Rattle.mesh_tables.proofs.entry_line.Words.of.Goals as goal

pub returns-in_err-dest-clause-none : goal.returns-in_err-dest-clause-none
unfolding entry_in
returns-in_err-dest-clause-none c = unread _ (parts 32 c.args.text.now) (rw c.in_err-dest.ensures.none refl)

pub returns-in_err-dsn-clause-none : goal.returns-in_err-dsn-clause-none
unfolding entry_in
returns-in_err-dsn-clause-none c = unread _ (parts 32 c.args.text.now) (rw (c.in_ok-dest.ensures.some, c.in_err-dsn.ensures.none) refl)

pub returns-in_err-known-clause-none : goal.returns-in_err-known-clause-none
unfolding entry_in
returns-in_err-known-clause-none c = unread _ (parts 32 c.args.text.now) (rw (c.in_ok-dest.ensures.some, c.in_ok-dsn.ensures.some, c.in_err-known.ensures.none) refl)

pub returns-in_err-flag-clause-none : goal.returns-in_err-flag-clause-none
unfolding entry_in
returns-in_err-flag-clause-none c = unread _ (parts 32 c.args.text.now) (rw (c.in_ok-dest.ensures.some, c.in_ok-dsn.ensures.some, c.in_ok-known.ensures.some, c.in_err-flag.ensures.none) refl)

pub returns-in_err-hops-clause-none : goal.returns-in_err-hops-clause-none
unfolding entry_in
returns-in_err-hops-clause-none c = unread _ (parts 32 c.args.text.now) (rw (c.in_ok-dest.ensures.some, c.in_ok-dsn.ensures.some, c.in_ok-known.ensures.some, c.in_ok-flag.ensures.some, c.in_err-hops.ensures.none) refl)

pub returns-in_err-next-clause-none : goal.returns-in_err-next-clause-none
unfolding entry_in
returns-in_err-next-clause-none c =
    unread _ (parts 32 c.args.text.now) (rw (c.in_ok-dest.ensures.some, c.in_ok-dsn.ensures.some, c.in_ok-known.ensures.some, c.in_ok-flag.ensures.some, c.in_ok-hops.ensures.some, c.in_err-next.ensures.none) refl)

pub returns-in_default-Some-clause-none : goal.returns-in_default-Some-clause-none
returns-in_default-Some-clause-none c =
    rw (c.in_ok-dest.ensures.some, c.in_ok-dsn.ensures.some, c.in_ok-known.ensures.some, c.in_ok-flag.ensures.some, c.in_ok-hops.ensures.some, c.in_ok-next.ensures.some, c.cut.ensures.parts, c.in_default-Some.is-1)
    (eight_words _ _ _ _ _ _ _ c.in_default-Some.field-0-1.now)
