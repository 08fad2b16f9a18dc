use Rattle.std.proofs.Common.{◌≡◌, ap, sym, ◌∙◌, length, arith}
use Rattle.std.proofs.lemmas.Option.{slice_get-get_or}
use Rattle.std.specs.FinMap as maps
use Rattle.aodv_model.proofs.RisingLaws.{entries_shown}
use Rattle.aodv_model.proofs.dests.Dests.pair.Goals as goal

pub bounds-as_slice-k : goal.bounds-as_slice-k
bounds-as_slice-k c =
    let e : maps.entries c.args.self.now ≡ c.as_slice.result.now = entries_shown c.self.inside.pairs.items c.args.self.now c.self.invariant c.self.view_is ∙ sym c.as_slice.ensures.value in
    omega (arith, ap length e)

pub offset_bounds-as_slice-k : goal.offset_bounds-as_slice-k
offset_bounds-as_slice-k c =
    let e : maps.entries c.args.self.now ≡ c.as_slice.result.now = entries_shown c.self.inside.pairs.items c.args.self.now c.self.invariant c.self.view_is ∙ sym c.as_slice.ensures.value in
    let f = c.as_slice.ensures.fits in
    omega (arith, ap length e, f)

pub returns : goal.returns
returns c =
    let e : maps.entries c.args.self.now ≡ c.as_slice.result.now = entries_shown c.self.inside.pairs.items c.args.self.now c.self.invariant c.self.view_is ∙ sym c.as_slice.ensures.value in
    let l = c.requires in
    rw e (let h = rw e at l in slice_get-get_or _ _ _ h)
