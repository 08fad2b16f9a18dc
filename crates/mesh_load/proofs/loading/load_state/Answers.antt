use Rattle.mesh_load.proofs.Loaded.{is_body, all_behind, exact, none_refused, is_plain, few_lines, few_steps}
use Rattle.mesh_load.proofs.loading.load_state.Goals as goal

pub restore-requires : goal.restore-requires
restore-requires c = is_body c.args.b.now _ c.in_ok-_data._data c.written_is_read.ensures c.in_ok-_data.ensures (all_behind c.args.b.now)

pub returns-clause-exact : goal.returns-clause-exact
returns-clause-exact c = exact c.args.b.now _ c.in_ok-_data._data c.restore.result c.written_is_read.ensures c.in_ok-_data.ensures (all_behind c.args.b.now) c.restore.ensures

pub returns-clause-unrefused : goal.returns-clause-unrefused
returns-clause-unrefused c = none_refused c.args.b.now _ c.in_ok-_data._data c.restore.result c.written_is_read.ensures c.one_body.ensures c.balanced_is_taken.ensures c.in_ok-_data.ensures (all_behind c.args.b.now) c.restore.ensures

pub returns-clause-lines : goal.returns-clause-lines
returns-clause-lines c = few_lines _ c.restore.result c.restore.ensures

pub returns-clause-steps : goal.returns-clause-steps
returns-clause-steps c = few_steps _ c.restore.result c.restore.ensures

pub returns-clause-plain : goal.returns-clause-plain
returns-clause-plain c = is_plain _ c.restore.result c.restore.ensures
