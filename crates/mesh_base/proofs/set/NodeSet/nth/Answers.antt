use Rattle.std.proofs.Common.{◌≡◌, ◌≤◌, ◌*◌, length, slice_index, ap, sym, ◌∙◌, arith, rules}
use Rattle.std.specs.Prelude.{slice_get}
use Rattle.std.proofs.lemmas.Option.{slice_get_past}
use Rattle.std.specs.Int.RustNames.{count_ones}
use Rattle.mesh_base.specs.Members.{NodeIds, members, member_list, rank}
use Rattle.mesh_base.proofs.Ranks.{members-zero}
use Rattle.mesh_base.proofs.BitCounts.{whole-word, member-of-bit}
use Rattle.mesh_base.proofs.set.NodeSet.nth.Goals as goal

pub loop-at-init : goal.loop-at-init
loop-at-init c = let none = ap length (members-zero (members c.self.inside.words)) in omega arith

pub returns-then-rest-here-clause-value : goal.returns-then-rest-here-clause-value
returns-then-rest-here-clause-value c =
    let bit = c.nth_bit.ensures in
    sym (member-of-bit c.self.inside.words c.loop-at.at c.nth_bit.result c.loop-at.rest c.args.k c.self.invariant (search rules) bit.0 bit.1 bit.2 c.loop-at.invariant)
    ∙ ap (λ (s : NodeIds). slice_get (member_list s) c.args.k) c.self.view_is

pub loop-at-preserved : goal.loop-at-preserved
loop-at-preserved c =
    let ws = c.self.inside.words in
    let had = c.loop-at.invariant in
    let more = whole-word ws c.loop-at.at c.self.invariant in
    let up : count_ones (slice_index ws c.loop-at.at) ≤ c.loop-at.rest = omega (arith, c.if-rest-here.false) in
    omega arith

pub returns-clause-value : goal.returns-clause-value
returns-clause-value c =
    let ws = c.self.inside.words in
    let had = c.loop-at.invariant in
    let last : c.loop-at.at ≡ 4 = search rules in
    let all = ap (λ n. rank (members ws) (64 * n)) last in
    sym (slice_get_past (member_list (members ws)) c.args.k (omega arith)) ∙ ap (λ (s : NodeIds). slice_get (member_list s) c.args.k) c.self.view_is
