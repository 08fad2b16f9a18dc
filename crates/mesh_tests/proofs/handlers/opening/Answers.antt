use Rattle.std.proofs.Common.{◌≡◌, ℕ, sym, ap, ◌∙◌, length, arith}
use Rattle.std.specs.FinMap as maps
use Rattle.std.specs.Ordering.{nat_cmp}
use Rattle.std.proofs.lemmas.Option.{none-some}
use Rattle.aodv_model.specs.Tables.{Table}
use Rattle.aodv_model.specs.Soundness.{IsSoundTable}
use Rattle.mesh_tests.proofs.handlers.opening.Goals as goal

empty_table : (size ip : ℕ) (rt : Table) → rt ≡ maps.empty → IsSoundTable size ip rt
empty_table size ip rt is = record {
  numbers = λ d e there. absurd (none-some e (sym (ap (λ (t : Table). maps.get t d) is ∙ maps.get-empty nat_cmp d) ∙ there));
  in_mesh = λ d e there. absurd (none-some e (sym (ap (λ (t : Table). maps.get t d) is ∙ maps.get-empty nat_cmp d) ∙ there));
}

pub returns : goal.returns
returns g c = record {
  table = c.requires.nodes;
  asked = c.in_ok-asked.ensures.nodes ∙ c.len-nodes.ensures.value;
  waiting = c.in_ok-waiting.ensures.nodes ∙ c.len-nodes.ensures.value;
  mine = c.requires.mine;
  sound = record { own = omega arith; table = empty_table (length c.args.mesh.now) c.args.me (g.T.Table.entries c.args.table) c.requires.empty };
}
