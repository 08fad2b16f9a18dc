use Rattle.std.proofs.Common.{◌≡◌, ◌<◌, ◌≤◌, ◌∙◌, ℕ, true, List, Ok, Err, length, subst, arith, rules}
use Rattle.std.specs.FinSet as sets
use Rattle.mesh_io.specs.Puts.{Puts}
use Rattle.std.proofs.lemmas.Result.{err_from_is_err_and}
use Rattle.mesh_show.proofs.Listed.{asked_of, asked_listed}
use Rattle.mesh_show.proofs.Tables.{each-goes, each-front, each-ends}
use Rattle.mesh_show.proofs.node.put_all_asked.Goals as goal

pub loop-o-init : goal.loop-o-init
loop-o-init g c =
    let n : ℕ = length c.args.mesh.now in
    let within : (o id : ℕ) → sets.contains c.args.asked.now.pairs (o, id) ≡ true → o < n = λ o id h. omega (arith, c.nodes-o-end.ensures.within o id h, c.nodes-o-end.ensures.value, c.requires) in
    record {
      text = λ now r p.
          let P : List ℕ → Type 0 = λ l. Puts (g.O.Sink.held c.args.out.now) now l r in
          subst P (asked_listed c.args.mesh.now c.args.asked.now.pairs n within) p;
      faults = search rules;
    }

pub returns-in_err-put_asked_of-clause-text : goal.returns-in_err-put_asked_of-clause-text
returns-in_err-put_asked_of-clause-text g c =
    let p = err_from_is_err_and c.from_residual.result c.from_residual.ensures.1 in
    let lt : c.loop-o.o < length c.args.mesh.now = omega (arith, c.loop-o-test.true, c.nodes-o-end.ensures.value, c.requires) in
    let f : ℕ → List ℕ = asked_of c.args.mesh.now c.args.asked.now.pairs in
    rw p.1 (c.loop-o.invariant.text (g.O.Sink.held c.put_asked_of.new.out) (Err p.0)
    (each-front (length c.args.mesh.now) c.loop-o.o f _ _ lt c.in_err-put_asked_of.ensures.text))

pub loop-o-preserved : goal.loop-o-preserved
loop-o-preserved g c =
    let lt : c.loop-o.o < length c.args.mesh.now = omega (arith, c.loop-o-test.true, c.nodes-o-end.ensures.value, c.requires) in
    let f : ℕ → List ℕ = asked_of c.args.mesh.now c.args.asked.now.pairs in
    record {
      text = λ now r p. c.loop-o.invariant.text now r
          (each-goes (length c.args.mesh.now) c.loop-o.o f (g.O.Sink.held c.loop-o.out) (g.O.Sink.held c.put_asked_of.new.out) now r lt c.in_ok-put_asked_of.ensures.text p);
      faults = c.in_ok-put_asked_of.ensures.cause.none ∙ c.loop-o.invariant.faults;
    }

pub returns-clause-text : goal.returns-clause-text
returns-clause-text g c =
    let le : length c.args.mesh.now ≤ c.loop-o.o = omega (arith, c.loop-o-test.false, c.nodes-o-end.ensures.value, c.requires) in
    let f : ℕ → List ℕ = asked_of c.args.mesh.now c.args.asked.now.pairs in
    c.loop-o.invariant.text _ (Ok tt) (each-ends (length c.args.mesh.now) c.loop-o.o f _ le)
