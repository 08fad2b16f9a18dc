use Rattle.std.proofs.Common.{◌<◌, ◌∙◌, ◌+◌, ◌++◌, ℕ, List, length, ap, sym, subst, arith}
use Rattle.std.specs.Io.KnownBytes.{Appends}
use Rattle.mesh_io.specs.Puts.{Puts}
use Rattle.mesh_io.proofs.Writing.{Appends-join}
use Rattle.mesh_report.proofs.Pieces.{two-at-1, three-at-2}
use Rattle.mesh_report.proofs.Members.{first_name, next_name, front_names, no_name, all_names}
use Rattle.mesh_report.proofs.text.put_set.Goals as goal

pub returns-in_default-clause-text : goal.returns-in_default-clause-text
returns-in_default-clause-text g c =
    let P : List ℕ → Type 0 = λ l. Puts (g.O.Sink.held c.args.out.now) (g.O.Sink.held c.put_byte.new.out) l c.put_byte.result in
    subst P (sym (no_name c.args.mesh.now c.args.set.now c.in_default.ensures.least)) c.put_byte.ensures.text

pub returns-in_err-put_name-clause-text : goal.returns-in_err-put_name-clause-text
returns-in_err-put_name-clause-text g c =
    let is = c.in-Some.ensures.least in
    let below : c.in-Some.first < length c.args.mesh.now = c.requires c.in-Some.first is.1 in
    let one = first_name c.args.mesh.now c.in-Some.first c.args.set.now is.1 is.2 in
    let all = front_names c.args.mesh.now (c.in-Some.first + 1) c.args.set.now (omega arith) one.1 in
    two-at-1 (g.O.Sink.held c.args.out.now) (g.O.Sink.held c.put_name.new.out) _ all.0 _ _ c.from_residual.ensures.0 c.in_err-put_name.ensures.text
    (all.1 ∙ ap (λ (l : List ℕ). l ++ all.0) one.0)

pub loop-node-init : goal.loop-node-init
loop-node-init g c =
    let is = c.in-Some.ensures.least in
    let below : c.in-Some.first < length c.args.mesh.now = c.requires c.in-Some.first is.1 in
    let one = first_name c.args.mesh.now c.in-Some.first c.args.set.now is.1 is.2 in
    let P : List ℕ → Type 0 = λ l. Appends (g.O.Sink.held c.args.out.now) (g.O.Sink.held c.put_name.new.out) l in
    record { text = subst P (sym one.0) c.in_ok-put_name.ensures.text; none = c.in_ok-put_name.ensures.cause.none; some = one.1; within = omega arith }

pub returns-in_err-put_one-clause-text : goal.returns-in_err-put_one-clause-text
returns-in_err-put_one-clause-text g c =
    let is = c.in-Some-next_from.ensures.least in
    let at = c.loop-node.invariant in
    let below : c.in-Some-next_from.node < length c.args.mesh.now = c.requires c.in-Some-next_from.node is.1 in
    let one = next_name c.args.mesh.now c.in-Some-next_from.node c.loop-node.start c.args.set.now is.0 is.1 is.2 at.some in
    let all = front_names c.args.mesh.now (c.in-Some-next_from.node + 1) c.args.set.now (omega arith) one.1 in
    three-at-2 (g.O.Sink.held c.args.out.now) (g.O.Sink.held c.loop-node.out) (g.O.Sink.held c.put_one.new.out) _ _ all.0 _ _ c.from_residual-in_err-put_one.ensures.0 at.text c.in_err-put_one.ensures.text
    (all.1 ∙ ap (λ (l : List ℕ). l ++ all.0) one.0)

pub loop-node-preserved : goal.loop-node-preserved
loop-node-preserved g c =
    let is = c.in-Some-next_from.ensures.least in
    let at = c.loop-node.invariant in
    let below : c.in-Some-next_from.node < length c.args.mesh.now = c.requires c.in-Some-next_from.node is.1 in
    let one = next_name c.args.mesh.now c.in-Some-next_from.node c.loop-node.start c.args.set.now is.0 is.1 is.2 at.some in
    record {
      text = Appends-join (g.O.Sink.held c.args.out.now) (g.O.Sink.held c.loop-node.out) (g.O.Sink.held c.put_one.new.out) _ _ _ one.0 at.text c.in_ok-put_one.ensures.text;
      none = c.in_ok-put_one.ensures.cause.none ∙ at.none;
      some = one.1;
      within = omega arith;
    }

pub returns-clause-text : goal.returns-clause-text
returns-clause-text g c =
    let P : List ℕ → Type 0 = λ l. Appends (g.O.Sink.held c.args.out.now) (g.O.Sink.held c.loop-node.out) l in
    subst P (sym (all_names c.args.mesh.now c.loop-node.start c.args.set.now c.loop-node.invariant.within c.in_default-next_from.ensures.least)) c.loop-node.invariant.text
