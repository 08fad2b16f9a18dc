use Rattle.std.proofs.Common.{◌≤◌, ◌∙◌, refl, ap, sym, length, arith}
use Rattle.std.proofs.lemmas.Option.{none-some}
use Rattle.indexmap.specs.IndexMap.{set_value_at}
use Rattle.mesh_radio.specs.Casts.{without_packet}
use Rattle.mesh_radio.specs.declared.casts.Cast.{Cast}
use Rattle.mesh_radio.proofs.Entries.{set-same, value-at, found-value}
use Rattle.mesh_radio.proofs.clearing.take_packet.Goals as goal

pub returns-in-Some-clone_inline-clause-short : goal.returns-in-Some-clone_inline-clause-short
returns-in-Some-clone_inline-clause-short c e at few = set-same c.args.casts.now.entries c.args.index c.in-Some.cast.now (sym c.in-Some.ensures.value)

pub returns-in-Some-clone_inline-clause-long : goal.returns-in-Some-clone_inline-clause-long
returns-in-Some-clone_inline-clause-long c e at many =
    let same = value-at c.args.casts.now.entries c.args.index e c.in-Some.cast.now at (sym c.in-Some.ensures.value) in
    let long = ap (λ (x : Cast). length x.bytes) same in
    let short : length c.in-Some.cast.now.bytes ≤ 32 = c.in-Some-clone_inline.ensures.when.0 refl in
    absurd (omega arith)

pub returns-in-None-clone_inline-clause-packet : goal.returns-in-None-clone_inline-clause-packet
returns-in-None-clone_inline-clause-packet c e at =
    let same = value-at c.args.casts.now.entries c.args.index e c.in-Some.cast.now at (sym c.in-Some.ensures.value) in
    c.replace.ensures.value ∙ ap (λ (x : Cast). x.bytes) (sym same)

pub returns-in-None-clone_inline-clause-short : goal.returns-in-None-clone_inline-clause-short
returns-in-None-clone_inline-clause-short c e at few =
    let same = value-at c.args.casts.now.entries c.args.index e c.in-Some.cast.now at (sym c.in-Some.ensures.value) in
    let long = ap (λ (x : Cast). length x.bytes) same in
    let some = c.in-None-clone_inline.ensures.when.1 (omega arith) in absurd cc

pub returns-in-None-clone_inline-clause-long : goal.returns-in-None-clone_inline-clause-long
returns-in-None-clone_inline-clause-long c e at many =
    let es = c.args.casts.now.entries in
    let cast = c.in-Some.cast.now in
    let same = value-at es c.args.index e cast at (sym c.in-Some.ensures.value) in
    ap (λ bs. set_value_at es c.args.index (record cast { bytes = bs })) (c.replace.ensures.after ∙ c.empty.ensures)
    ∙ ap (λ (x : Cast). set_value_at es c.args.index (without_packet x)) (sym same)

pub returns-in-None-clause-packet : goal.returns-in-None-clause-packet
returns-in-None-clause-packet c e at = absurd (none-some e.1 (c.in-None.ensures.value ∙ found-value c.args.casts.now.entries c.args.index e at))

pub returns-in-None-clause-long : goal.returns-in-None-clause-long
returns-in-None-clause-long c e at many = absurd (none-some e.1 (c.in-None.ensures.value ∙ found-value c.args.casts.now.entries c.args.index e at))
