use Rattle.std.proofs.Common.{◌≡◌, ◌<◌, ◌≤◌, ◌∙◌, ℕ, List, Some, Ok, Err, length, subst, arith, rules}
use Rattle.mesh_io.specs.Puts.{Puts}
use Rattle.aodv_model.specs.declared.entry.Entry.{Entry}
use Rattle.std.proofs.lemmas.Result.{err_from_is_err_and}
use Rattle.std.specs.FinMap as maps
use Rattle.mesh_show.specs.Destinations.{entry_of}
use Rattle.mesh_show.proofs.Listed.{routes_listed}
use Rattle.mesh_show.proofs.Tables.{each-goes, each-front, each-ends}
use Rattle.mesh_show.proofs.node.put_entries.Goals as goal

pub loop-d-init : goal.loop-d-init
loop-d-init g c =
    let n : ℕ = length c.args.mesh.now in
    let within : (d : ℕ) (e : Entry) → maps.get (c.args.node.now.core).rt d ≡ Some e → d < n = λ d e is.
    let in_mesh = c.requires.sound.sound.table.in_mesh d e is in omega (arith, in_mesh.dest, c.requires.size) in
    record {
      text = λ now r p.
          let P : List ℕ → Type 0 = λ l. Puts (g.O.Sink.held c.args.out.now) now l r in
          subst P (routes_listed c.args.mesh.now (c.args.node.now.core).rt n within) p;
      faults = search rules;
    }

pub returns-in_err-put_entry_of-clause-text : goal.returns-in_err-put_entry_of-clause-text
returns-in_err-put_entry_of-clause-text g c =
    let p = err_from_is_err_and c.from_residual.result c.from_residual.ensures.1 in
    let lt : c.loop-d.d < length c.args.mesh.now = omega (arith, c.loop-d-test.true, c.len-d-end.ensures.value) in
    let f : ℕ → List ℕ = λ d. entry_of c.args.mesh.now d (maps.get (c.args.node.now.core).rt d) in
    rw p.1 (c.loop-d.invariant.text (g.O.Sink.held c.put_entry_of.new.out) (Err p.0)
    (each-front (length c.args.mesh.now) c.loop-d.d f _ _ lt c.in_err-put_entry_of.ensures.text))

pub loop-d-preserved : goal.loop-d-preserved
loop-d-preserved g c =
    let lt : c.loop-d.d < length c.args.mesh.now = omega (arith, c.loop-d-test.true, c.len-d-end.ensures.value) in
    let f : ℕ → List ℕ = λ d. entry_of c.args.mesh.now d (maps.get (c.args.node.now.core).rt d) in
    record {
      text = λ now r p. c.loop-d.invariant.text now r
          (each-goes (length c.args.mesh.now) c.loop-d.d f (g.O.Sink.held c.loop-d.out) (g.O.Sink.held c.put_entry_of.new.out) now r lt c.in_ok-put_entry_of.ensures.text p);
      faults = c.in_ok-put_entry_of.ensures.cause.none ∙ c.loop-d.invariant.faults;
    }

pub returns-clause-text : goal.returns-clause-text
returns-clause-text g c =
    let le : length c.args.mesh.now ≤ c.loop-d.d = omega (arith, c.loop-d-test.false, c.len-d-end.ensures.value) in
    let f : ℕ → List ℕ = λ d. entry_of c.args.mesh.now d (maps.get (c.args.node.now.core).rt d) in
    c.loop-d.invariant.text _ (Ok tt) (each-ends (length c.args.mesh.now) c.loop-d.d f _ le)
