use Rattle.std.proofs.Common.{ap, ◌∙◌, nat_cmp}
use Rattle.std.specs.FinMap as maps
use Rattle.mesh_tests.proofs.entry.finds_the_number_of_a_destination.Goals as goal

pub push-requires-clause-above : goal.push-requires-clause-above
push-requires-clause-above g c = λ q le. ap (λ m. maps.get m q) c.new-dests.ensures.map ∙ maps.get-empty nat_cmp q
