use Rattle.std.proofs.Common.{sym}
use Rattle.std.proofs.lemmas.Result.{err_from_is_err_and}
use Rattle.aodv_model.specs.Pairs.{pairs_in}
use Rattle.mesh_checkpoint.specs.Points.{routes_in, waits_in}
use Rattle.mesh_restore.proofs.NodeParts.{table_refused, asked_refused, store_refused, inbox_refused, node_read}
use Rattle.mesh_restore.proofs.node.read_node.Goals as goal

pub returns-in_err-table : goal.returns-in_err-table
returns-in_err-table c =
    let p = err_from_is_err_and c.from_residual.result c.from_residual.ensures.1 in
    rw (p.1, p.2, sym c.len-nodes.ensures.value) (table_refused c.len-nodes.result c.in-Some.sn c.args.bytes.now c.in-Some.rest.now c.in_err-table.field-0.0 c.in-Some.ensures.value c.in_err-table.ensures.value)

pub returns-in_err-asked : goal.returns-in_err-asked
returns-in_err-asked c =
    let p = err_from_is_err_and c.from_residual-in_err-asked.result c.from_residual-in_err-asked.ensures.1 in
    rw (p.1, p.2, sym c.len-nodes.ensures.value) (asked_refused c.len-nodes.result c.in-Some.sn c.args.bytes.now c.in-Some.rest.now c.in_ok-table.rest.now (routes_in (c.in_ok-table.table).entries) c.in_err-asked.field-0.0 c.in-Some.ensures.value c.in_ok-table.ensures.value c.in_err-asked.ensures.value)

pub returns-in_err-waiting : goal.returns-in_err-waiting
returns-in_err-waiting c =
    let p = err_from_is_err_and c.from_residual-in_err-waiting.result c.from_residual-in_err-waiting.ensures.1 in
    rw (p.1, p.2, sym c.len-nodes.ensures.value) (store_refused c.len-nodes.result c.in-Some.sn c.args.bytes.now c.in-Some.rest.now c.in_ok-table.rest.now c.in_ok-asked.rest.now (routes_in (c.in_ok-table.table).entries) (pairs_in (c.in_ok-asked.asked).pairs) c.in_err-waiting.field-0.0 c.in-Some.ensures.value c.in_ok-table.ensures.value c.in_ok-asked.ensures.value c.in_err-waiting.ensures.value)

pub returns-in_err-inbox : goal.returns-in_err-inbox
returns-in_err-inbox c =
    let p = err_from_is_err_and c.from_residual-in_err-inbox.result c.from_residual-in_err-inbox.ensures.1 in
    rw (p.1, p.2, sym c.len-nodes.ensures.value) (inbox_refused c.len-nodes.result c.in-Some.sn c.args.bytes.now c.in-Some.rest.now c.in_ok-table.rest.now c.in_ok-asked.rest.now c.in_ok-waiting.rest.now (routes_in (c.in_ok-table.table).entries) (pairs_in (c.in_ok-asked.asked).pairs) (waits_in (c.in_ok-waiting.waiting).store) c.in_err-inbox.field-0.0 c.in-Some.ensures.value c.in_ok-table.ensures.value c.in_ok-asked.ensures.value c.in_ok-waiting.ensures.value c.in_err-inbox.ensures)

pub returns : goal.returns
returns c =
    rw (sym c.len-nodes.ensures.value) (node_read c.args.variant c.len-nodes.result c.args.me c.in-Some.sn c.args.bytes.now c.in-Some.rest.now c.in_ok-table.rest.now c.in_ok-asked.rest.now c.in_ok-waiting.rest.now c.in_ok-inbox.rest.now c.in_ok-table.table c.in_ok-asked.asked c.in_ok-waiting.waiting c.in_ok-inbox.inbox c.from_parts-node.result
    c.in_ok-table.ensures.nodes c.in_ok-table.ensures.below c.in-Some.ensures.value c.in_ok-table.ensures.value c.in_ok-asked.ensures.value c.in_ok-waiting.ensures.value c.in_ok-inbox.ensures c.from_parts-node.ensures)
