use Rattle.std.proofs.Common.{arith, rules}
use Rattle.std.proofs.lemmas.Slice.{drop-put_mid}
use Rattle.mesh_page.proofs.sheet.lay.Goals as goal

pub returns-clause-behind : goal.returns-clause-behind
returns-clause-behind c =
    drop-put_mid c.args.at _ c.args.memory.now _ _ (omega arith) (omega arith) (search rules)
