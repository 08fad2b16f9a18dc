use Rattle.std.proofs.Common.{◌∷◌, [], rules}
use Rattle.mesh_script.proofs.FastLines.{two_fours}
use Rattle.mesh_script.proofs.fast.after_deliver.Goals as goal

pub returns-then-are_equal-2 : goal.returns-then-are_equal-2
returns-then-are_equal-2 c =
    two_fours c.args.bytes.now c.in_ok-front.rest.now c.in_ok-back.word.now (100 ∷ 101 ∷ 108 ∷ 105 ∷ []) (118 ∷ 101 ∷ 114 ∷ 32 ∷ [])
    (search rules) (search rules) (search rules) (search rules)
