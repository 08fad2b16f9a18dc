use Rattle.std.proofs.Common.{◌-◌, ◌∙◌, sym, subst, rules}
use Rattle.mesh_radio.specs.Casts.{AreSorted, IsSplit}
use Rattle.mesh_radio.proofs.Entries.{keys-sorted, index-there, no-index}
use Rattle.mesh_radio.proofs.casts.cast_index.Goals as goal

pub position_near-after-requires : goal.position_near-after-requires
position_near-after-requires c =
    subst AreSorted (sym (c.as_slice.ensures ∙ c.keys.ensures.rest)) (keys-sorted 1 c.requires.0 c.args.casts.now.entries (c.requires.1).rising)

pub returns-then-after-eq0 : goal.returns-then-after-eq0
returns-then-after-eq0 c = λ e there.
    let s = subst (λ ks. IsSplit ks c.args.id c.position_near-after.result) (c.as_slice.ensures ∙ c.keys.ensures.rest) c.position_near-after.ensures in
    absurd (no-index c.args.casts.now.entries c.args.id c.position_near-after.result e s (search rules) there)

pub returns-else-after-eq0 : goal.returns-else-after-eq0
returns-else-after-eq0 c = λ e there.
    let k = c.position_near-after.result in
    let s = subst (λ ks. IsSplit ks c.args.id k) (c.as_slice.ensures ∙ c.keys.ensures.rest) c.position_near-after.ensures in
    index-there c.args.casts.now.entries c.args.id k (k - 1) e s (search rules) there
