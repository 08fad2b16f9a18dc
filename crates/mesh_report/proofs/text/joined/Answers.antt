use Rattle.std.proofs.Common.{◌∙◌, ap, ◌++◌, List, ℕ}
use Rattle.mesh_report.proofs.text.joined.Goals as goal

pub returns : goal.returns
returns c = c.front_of.ensures ∙ c.join-2.ensures ∙ ap (λ (l : List ℕ). l ++ c.args.back.now) c.join.ensures
