use Rattle.std.proofs.Common.{◌≡◌, sym, subst, rules}
use Rattle.mesh_radio.specs.Casts.{IsFound, IsLeastOf}
use Rattle.mesh_radio.proofs.Entries.{found-again, found-below}
use Rattle.mesh_radio.proofs.Leasts.{none-there, least-found}
use Rattle.mesh_radio.proofs.casts.find_again.Goals as goal

pub returns-in_default-clause-none : goal.returns-in_default-clause-none
returns-in_default-clause-none c =
    none-there c.args.casts.now.entries c.requires.casts.0 c.args.id (c.requires.casts.1).rising (subst (IsLeastOf c.args.casts.now.entries) c.in_default.is c.requires.least)

pub returns-then-id-least-clause-some : goal.returns-then-id-least-clause-some
returns-then-id-least-clause-some c =
    let es = c.args.casts.now.entries in
    let l = c.in-Some.least in
    let same : c.args.id ≡ l.id = search rules in
    subst (λ i. IsFound es i l.spot.index l.spot.to) (sym same)
    (least-found es c.requires.casts.0 l.spot.index l.id l.spot.to (c.requires.casts.1).rising (c.requires.casts.1).lefts (subst (IsLeastOf es) c.in-Some.is c.requires.least))

pub returns-clause-some : goal.returns-clause-some
returns-clause-some c =
    found-again c.args.casts.now.entries c.args.id c.cast_index-index.result c.args.to c.cast_index-index.ensures c.requires.to

pub returns-clause-below : goal.returns-clause-below
returns-clause-below c =
    found-below c.args.casts.now.entries c.args.id c.cast_index-index.result c.args.to
    (found-again c.args.casts.now.entries c.args.id c.cast_index-index.result c.args.to c.cast_index-index.ensures c.requires.to)
