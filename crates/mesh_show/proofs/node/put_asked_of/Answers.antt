use Rattle.std.proofs.Common.{◌+◌, ◌∙◌, ℕ, List, Option, Err, subst, sym, rules}
use Rattle.std.proofs.lemmas.Result.{err_from_is_err_and}
use Rattle.mesh_io.specs.Puts.{AppendsPrefix, Puts}
use Rattle.mesh_show.proofs.Asked.{IsThere, left_text, there_is, id_goes, id_stops, first_left}
use Rattle.mesh_show.proofs.node.put_asked_of.Goals as goal

pub ids-init : goal.ids-init
ids-init g c = record {
  text = λ now r p.
      let P : List ℕ → Type 0 = λ l. Puts (g.O.Sink.held c.args.out.now) now l r in
      subst P (first_left c.args.mesh.now c.args.asked.now.pairs c.args.o c.first-next.result c.first-next.ensures) p;
  there = there_is c.args.asked.now.pairs c.args.o 0 c.first-next.result c.first-next.ensures;
  faults = search rules;
}

pub returns-in_err-put_asked-clause-text : goal.returns-in_err-put_asked-clause-text
returns-in_err-put_asked-clause-text g c =
    let p = err_from_is_err_and c.from_residual.result c.from_residual.ensures.1 in
    let P : Option ℕ → Type 0 = λ o. IsThere c.args.asked.now.pairs c.args.o o in
    let Q : Option ℕ → Type 0 = λ o. AppendsPrefix (g.O.Sink.held c.ids.out) (g.O.Sink.held c.put_asked.new.out) (left_text c.args.mesh.now c.args.asked.now.pairs c.args.o o) in
    let there = subst P c.in-Some.is c.ids.invariant.there in
    rw p.1 (c.ids.invariant.text (g.O.Sink.held c.put_asked.new.out) (Err p.0)
    (subst Q (sym c.in-Some.is) (id_stops c.args.mesh.now c.args.asked.now.pairs c.args.o c.in-Some.id _ _ there c.in_err-put_asked.ensures.text)))

pub ids-preserved : goal.ids-preserved
ids-preserved g c =
    let P : Option ℕ → Type 0 = λ o. IsThere c.args.asked.now.pairs c.args.o o in
    let there = subst P c.in-Some.is c.ids.invariant.there in
    record {
      text = λ now r p.
          let Q : Option ℕ → Type 0 = λ o. Puts (g.O.Sink.held c.ids.out) now (left_text c.args.mesh.now c.args.asked.now.pairs c.args.o o) r in
          c.ids.invariant.text now r (subst Q (sym c.in-Some.is)
          (id_goes c.args.mesh.now c.args.asked.now.pairs c.args.o c.in-Some.id c.after-next.result _ (g.O.Sink.held c.put_asked.new.out) now r there c.after-next.ensures c.in_ok-put_asked.ensures.text p));
      there = there_is c.args.asked.now.pairs c.args.o (c.in-Some.id + 1) c.after-next.result c.after-next.ensures;
      faults = c.in_ok-put_asked.ensures.cause.none ∙ c.ids.invariant.faults;
    }
