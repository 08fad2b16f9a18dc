use Rattle.std.proofs.Common.{rules}
use Rattle.std.proofs.lemmas.Iterator.{YieldsList-from_slice, YieldsList-from_map_by}
use Rattle.std.proofs.lemmas.Iterator.Consumers.{map_from_collect}
use Rattle.std.proofs.lemmas.Result.{IfOk-at_ok}
use Rattle.mesh_shell.proofs.words.texts_of.Goals as goal

pub returns-in-Ok-clause-same : goal.returns-in-Ok-clause-same
returns-in-Ok-clause-same c =
    IfOk-at_ok _ c.in-Ok.is (map_from_collect _ c.collect.ensures.ran (YieldsList-from_map_by _ _ _ (YieldsList-from_slice c.args.words.now cc) c.map.ensures.closure (λ x r q k. search rules)))
