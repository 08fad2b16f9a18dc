use Rattle.std.proofs.Common.{◌≡◌, ◌*◌, ◌/◌, ◌%◌, length, slice_index, ap, sym, ◌∙◌, arith, rules}
use Rattle.std.proofs.lemmas.Nat.{ones-le}
use Rattle.std.specs.Int.RustNames.{count_ones}
use Rattle.mesh_base.specs.Members.{NodeIds, members, member_list, rank}
use Rattle.mesh_base.proofs.Ranks.{members-zero}
use Rattle.mesh_base.proofs.BitCounts.{whole-word, mask-is, count-part, count-past}
use Rattle.mesh_base.proofs.set.NodeSet.count_below.Goals as goal

pub returns-then-i-ge256-clause-value : goal.returns-then-i-ge256-clause-value
returns-then-i-ge256-clause-value c =
    c.count.ensures.value
    ∙ ap (λ (s : NodeIds). length (member_list s)) (sym c.self.view_is)
    ∙ count-past c.self.inside.words c.args.i c.self.invariant c.if-i-ge256.true
    ∙ ap (λ (s : NodeIds). rank s c.args.i) c.self.view_is

pub loop-k-init : goal.loop-k-init
loop-k-init c = (sym (ap length (members-zero (members c.self.inside.words))), omega arith)

pub loop-k-preserved : goal.loop-k-preserved
loop-k-preserved c =
    let ws = c.self.inside.words in
    let k = c.loop-k.k in
    let had = c.loop-k.invariant.0 in
    let few = c.loop-k.invariant.1 in
    let more = whole-word ws k c.self.invariant in
    let most = ones-le 64 (slice_index ws k) (c.self.invariant.fit k) in
    (omega arith, omega arith)

pub returns-clause-value : goal.returns-clause-value
returns-clause-value c =
    let ws = c.self.inside.words in
    let i = c.args.i in
    let word = i / 64 in
    let k : c.loop-k.k ≡ word = search rules in
    let mask = ap count_ones (mask-is (slice_index ws word) (i % 64) (omega arith)) in
    let part = count-part ws word i c.self.invariant (omega arith) in
    let had = c.loop-k.invariant.0 in
    let before = ap (λ n. rank (members ws) (64 * n)) k in
    let view = ap (λ (s : NodeIds). rank s i) c.self.view_is in
    omega arith
