use Rattle.std.proofs.Common.{◌∙◌, ap, List, ℕ, length, refl, subst}
use Rattle.std.proofs.lemmas.Result.{err_from_is_err_and}
use Rattle.mesh_io.specs.Puts.{AppendsPrefix, Puts}
use Rattle.mesh_show.proofs.Tables.{five-1, five-2, five-3, five-4, five-5, node_is}
use Rattle.mesh_show.proofs.node.put_node.Goals as goal

pub returns-in_err-put_number-clause-text : goal.returns-in_err-put_number-clause-text
returns-in_err-put_number-clause-text g c =
    let p = err_from_is_err_and c.from_residual.result c.from_residual.ensures.1 in
    let is = node_is c.args.mesh.now c.args.node.now.core (length c.args.node.now.items) c.from.result (length c.args.node.now.items) c.args.node.now.core.seen c.args.node.now.core.store (c.from.ensures ∙ c.sn.ensures.value) refl refl refl in
    let P : List ℕ → Type 0 = λ l. AppendsPrefix (g.O.Sink.held c.args.out.now) (g.O.Sink.held c.put_number.new.out) l in
    rw p.1 (subst P is (five-1 _ _ _ _ _ _ _ c.in_err-put_number.ensures.text))

pub returns-in_err-put_all_asked-clause-text : goal.returns-in_err-put_all_asked-clause-text
returns-in_err-put_all_asked-clause-text g c =
    let p = err_from_is_err_and c.from_residual-in_err-put_all_asked.result c.from_residual-in_err-put_all_asked.ensures.1 in
    let is = node_is c.args.mesh.now c.args.node.now.core (length c.args.node.now.items) c.from.result (length c.args.node.now.items) c.asked.result.now.pairs c.args.node.now.core.store (c.from.ensures ∙ c.sn.ensures.value) c.asked.ensures.pairs refl refl in
    let P : List ℕ → Type 0 = λ l. AppendsPrefix (g.O.Sink.held c.args.out.now) (g.O.Sink.held c.put_all_asked.new.out) l in
    rw p.1 (subst P is (five-2 _ (g.O.Sink.held c.put_number.new.out) _ _ _ _ _ _ c.in_ok-put_number.ensures.text c.in_err-put_all_asked.ensures.text))

pub returns-in_err-put_entries-clause-text : goal.returns-in_err-put_entries-clause-text
returns-in_err-put_entries-clause-text g c =
    let p = err_from_is_err_and c.from_residual-in_err-put_entries.result c.from_residual-in_err-put_entries.ensures.1 in
    let is = node_is c.args.mesh.now c.args.node.now.core (length c.args.node.now.items) c.from.result (length c.args.node.now.items) c.asked.result.now.pairs c.args.node.now.core.store (c.from.ensures ∙ c.sn.ensures.value) c.asked.ensures.pairs refl refl in
    let P : List ℕ → Type 0 = λ l. AppendsPrefix (g.O.Sink.held c.args.out.now) (g.O.Sink.held c.put_entries.new.out) l in
    rw p.1 (subst P is (five-3 _ (g.O.Sink.held c.put_number.new.out) (g.O.Sink.held c.put_all_asked.new.out) _ _ _ _ _ _ c.in_ok-put_number.ensures.text c.in_ok-put_all_asked.ensures.text c.in_err-put_entries.ensures.text))

pub returns-in_err-put_all_waits-clause-text : goal.returns-in_err-put_all_waits-clause-text
returns-in_err-put_all_waits-clause-text g c =
    let p = err_from_is_err_and c.from_residual-in_err-put_all_waits.result c.from_residual-in_err-put_all_waits.ensures.1 in
    let is = node_is c.args.mesh.now c.args.node.now.core (length c.args.node.now.items) c.from.result (length c.args.node.now.items) c.asked.result.now.pairs c.waiting.result.now.store (c.from.ensures ∙ c.sn.ensures.value) c.asked.ensures.pairs c.waiting.ensures.store refl in
    let P : List ℕ → Type 0 = λ l. AppendsPrefix (g.O.Sink.held c.args.out.now) (g.O.Sink.held c.put_all_waits.new.out) l in
    rw p.1 (subst P is (five-4 _ (g.O.Sink.held c.put_number.new.out) (g.O.Sink.held c.put_all_asked.new.out) (g.O.Sink.held c.put_entries.new.out) _ _ _ _ _ _ c.in_ok-put_number.ensures.text c.in_ok-put_all_asked.ensures.text c.in_ok-put_entries.ensures.text c.in_err-put_all_waits.ensures.text))

pub returns-clause-text : goal.returns-clause-text
returns-clause-text g c =
    let queue = c.len.ensures.value ∙ ap length c.inbox.ensures.items in
    let is = node_is c.args.mesh.now c.args.node.now.core (length c.args.node.now.items) c.from.result c.len.result c.asked.result.now.pairs c.waiting.result.now.store
    (c.from.ensures ∙ c.sn.ensures.value) c.asked.ensures.pairs c.waiting.ensures.store queue in
    let P : List ℕ → Type 0 = λ l. Puts (g.O.Sink.held c.args.out.now) (g.O.Sink.held c.put_number-2.new.out) l c.put_number-2.result in
    subst P is (five-5 _ (g.O.Sink.held c.put_number.new.out) (g.O.Sink.held c.put_all_asked.new.out) (g.O.Sink.held c.put_entries.new.out) (g.O.Sink.held c.put_all_waits.new.out) _ _ _ _ _ _ c.put_number-2.result c.in_ok-put_number.ensures.text c.in_ok-put_all_asked.ensures.text c.in_ok-put_entries.ensures.text c.in_ok-put_all_waits.ensures.text c.put_number-2.ensures.text)
