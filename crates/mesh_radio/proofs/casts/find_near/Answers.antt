use Rattle.std.proofs.Common.{◌∙◌, sym, subst, rules}
use Rattle.mesh_radio.specs.Casts.{AreSorted, IsSplit}
use Rattle.mesh_radio.proofs.Entries.{keys-sorted, none-at-first, entry-there, first-low, none-past, none-taken, none-or}
use Rattle.mesh_radio.proofs.casts.find_near.Goals as goal

pub position_near-after-requires : goal.position_near-after-requires
position_near-after-requires c =
    subst AreSorted (sym (c.as_slice.ensures ∙ c.keys.ensures.rest)) (keys-sorted 1 c.requires.0 c.args.casts.now.entries (c.requires.1).rising)

pub returns-then-after-eq0-clause-none : goal.returns-then-after-eq0-clause-none
returns-then-after-eq0-clause-none c =
    let s = subst (λ ks. IsSplit ks c.args.id c.position_near-after.result) (c.as_slice.ensures ∙ c.keys.ensures.rest) c.position_near-after.ensures in
    none-at-first c.args.casts.now.entries c.args.id c.position_near-after.result s (search rules)

pub returns-in_err-to-clause-none : goal.returns-in_err-to-clause-none
returns-in_err-to-clause-none c =
    let es = c.args.casts.now.entries in
    let k = c.position_near-after.result in
    let s = subst (λ ks. IsSplit ks c.args.id k) (c.as_slice.ensures ∙ c.keys.ensures.rest) c.position_near-after.ensures in
    let there = entry-there es c.args.id k (c.in_ok-first.first.now, c.in_ok-first.cast.now) s (search rules) (sym c.in_ok-first.ensures.entry) in
    none-or c.from_residual-in_err-to.result _ (none-past es c.args.id (c.in_ok-first.first.now, c.in_ok-first.cast.now) there (sym c.in_err-to.ensures.value))

pub returns-then-has-clause-some : goal.returns-then-has-clause-some
returns-then-has-clause-some c =
    let es = c.args.casts.now.entries in
    let k = c.position_near-after.result in
    let s = subst (λ ks. IsSplit ks c.args.id k) (c.as_slice.ensures ∙ c.keys.ensures.rest) c.position_near-after.ensures in
    let at = sym c.in_ok-first.ensures.entry in
    record {
      entry = (c.in_ok-first.first.now, c.in_ok-first.cast.now);
      at = at;
      is = entry-there es c.args.id k (c.in_ok-first.first.now, c.in_ok-first.cast.now) s (search rules) at;
      low = first-low es c.args.id k (c.in_ok-first.first.now, c.in_ok-first.cast.now) s (search rules) at;
      member = sym c.in_ok-to.ensures.value;
      left = search rules;
    }

pub returns-clause-none : goal.returns-clause-none
returns-clause-none c =
    let es = c.args.casts.now.entries in
    let k = c.position_near-after.result in
    let s = subst (λ ks. IsSplit ks c.args.id k) (c.as_slice.ensures ∙ c.keys.ensures.rest) c.position_near-after.ensures in
    let there = entry-there es c.args.id k (c.in_ok-first.first.now, c.in_ok-first.cast.now) s (search rules) (sym c.in_ok-first.ensures.entry) in
    none-taken es c.args.id c.in_ok-to.to (c.in_ok-first.first.now, c.in_ok-first.cast.now) there (sym c.in_ok-to.ensures.value) (search rules)
