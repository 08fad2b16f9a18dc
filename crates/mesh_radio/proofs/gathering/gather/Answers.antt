use Rattle.std.proofs.Common.{ℕ, ◌+◌, ◌-◌, ◌++◌, ◌∷◌, [], length, refl, ap, sym, subst, arith, ◌∙◌}
use Rattle.std.proofs.lemmas.Option.{slice_get_within}
use Rattle.std.specs.FinSet.{insert}
use Rattle.indexmap.specs.IndexMap.{IndexMap}
use Rattle.mesh_radio.specs.Casts.{AreCasts, IsLeastOf, copies_of}
use Rattle.mesh_radio.specs.declared.casts.Cast.{Cast}
use Rattle.mesh_radio.proofs.Changes.{size-one, copies-one}
use Rattle.mesh_radio.proofs.Gathers.{joined-copies, joined-casts, joined-least, same-packet}
use Rattle.mesh_radio.proofs.gathering.gather.Goals as goal

pub returns-then-is_next-clause-copies : goal.returns-then-is_next-clause-copies
returns-then-is_next-clause-copies c =
    let es = c.args.casts.now.entries in
    let n = c.if-is_next.ensures in
    let inside = slice_get_within es (length es - 1) n.0 n.1 in
    ap (λ (m : IndexMap ℕ Cast _). copies_of m.entries) (c.extend_last.ensures n.0 n.1)
    ∙ joined-copies es c.requires.casts.0 (length es - 1) n.0 c.args.f c.requires.casts.1 n.1 (omega arith) c.requires.receiver n.2

pub returns-then-is_next-clause-casts : goal.returns-then-is_next-clause-casts
returns-then-is_next-clause-casts c =
    let es = c.args.casts.now.entries in
    let n = c.if-is_next.ensures in
    let inside = slice_get_within es (length es - 1) n.0 n.1 in
    let now = ap (λ (m : IndexMap ℕ Cast _). m.entries) (c.extend_last.ensures n.0 n.1) in
    subst (λ xs. AreCasts xs (c.args.f.id + 1)) (sym now)
    (joined-casts es c.requires.casts.0 (length es - 1) n.0 c.args.f c.requires.casts.1 n.1 (omega arith) c.requires.receiver n.2 c.requires.id.1)

pub returns-then-is_next-clause-least : goal.returns-then-is_next-clause-least
returns-then-is_next-clause-least c =
    let es = c.args.casts.now.entries in
    let n = c.if-is_next.ensures in
    let inside = slice_get_within es (length es - 1) n.0 n.1 in
    let now = ap (λ (m : IndexMap ℕ Cast _). m.entries) (c.extend_last.ensures n.0 n.1) in
    subst (λ xs. IsLeastOf xs c.args.least) (sym now)
    (joined-least es c.requires.casts.0 (length es - 1) n.0 c.args.f c.requires.casts.1 n.1 (omega arith) c.requires.receiver n.2 c.args.least (sym c.is_some.ensures ∙ c.if-is_some.true) c.requires.least)

pub launch-requires-clause-some : goal.launch-requires-clause-some
launch-requires-clause-some c =
    let f = c.args.f in
    let cast : Cast = record { to = c.add.new.self; left = c.add.new.self; from = f.from; bytes = c.unwrap_or.result } in
    let one = size-one cast f.to c.requires.receiver (c.add.ensures ∙ ap (λ s. insert s f.to) c.new-to.ensures) in
    omega arith

pub launch-requires-clause-alone : goal.launch-requires-clause-alone
launch-requires-clause-alone c = λ _.
    let f = c.args.f in
    let cast : Cast = record { to = c.add.new.self; left = c.add.new.self; from = f.from; bytes = c.unwrap_or.result } in
    let one = size-one cast f.to c.requires.receiver (c.add.ensures ∙ ap (λ s. insert s f.to) c.new-to.ensures) in
    omega arith

pub launch-requires-clause-few : goal.launch-requires-clause-few
launch-requires-clause-few c =
    let f = c.args.f in
    let cast : Cast = record { to = c.add.new.self; left = c.add.new.self; from = f.from; bytes = c.unwrap_or.result } in
    let one = size-one cast f.to c.requires.receiver (c.add.ensures ∙ ap (λ s. insert s f.to) c.new-to.ensures) in
    omega (arith, c.requires.id.1)

pub returns-clause-copies : goal.returns-clause-copies
returns-clause-copies c =
    let f = c.args.f in
    let before = c.make_way-least.new.casts.entries in
    let cast : Cast = record { to = c.add.new.self; left = c.add.new.self; from = f.from; bytes = c.unwrap_or.result } in
    let only = c.add.ensures ∙ ap (λ s. insert s f.to) c.new-to.ensures in
    copies-one before c.launch.new.casts.entries f.id f.to cast c.launch.ensures.entries c.requires.receiver only refl
    ∙ ap (λ bs. copies_of before ++ record f { bytes = bs } ∷ []) (c.unwrap_or.ensures ∙ same-packet c.share_last-shared.result c.as_slice.result.now f.bytes c.share_last-shared.ensures.packet c.as_slice.ensures)
    ∙ ap (λ fs. fs ++ f ∷ []) (c.make_way-least.ensures.same ∙ ap copies_of (c.share_last-shared.ensures.entries ∙ c.reserve.ensures.entries))

pub returns-clause-casts : goal.returns-clause-casts
returns-clause-casts c =
    let f = c.args.f in
    let cast : Cast = record { to = c.add.new.self; left = c.add.new.self; from = f.from; bytes = c.unwrap_or.result } in
    let one = size-one cast f.to c.requires.receiver (c.add.ensures ∙ ap (λ s. insert s f.to) c.new-to.ensures) in
    subst (λ n. AreCasts c.launch.new.casts.entries (f.id + n)) one c.launch.ensures.casts
