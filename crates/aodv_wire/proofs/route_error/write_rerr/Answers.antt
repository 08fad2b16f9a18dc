use Rattle.std.proofs.Common.{◌≡◌, ◌<◌, ◌∷◌, [], ◌++◌, length, ap, ◌∙◌, sym, subst, arith}
use Rattle.std.proofs.lemmas.List.{take_all}
use Rattle.std.specs.List.{flat_map}
use Rattle.aodv_wire.specs.declared.message.Message.TheVariants.{Rerr as a_rerr}
use Rattle.aodv_wire.specs.Encodes.{Encodes}
use Rattle.aodv_wire.proofs.Writes.{rerr_cells, pair_cells, rerr_written, rerr_encodes, each_fits}
use Rattle.aodv_wire.proofs.route_error.write_rerr.Goals as goal

-- what was put is the whole packet
whole : (c : goal.After-loop-a) → c.loop-a.out.items ≡ rerr_cells c.args.pairs.now
whole c =
    let ps = c.args.pairs.now in
    c.loop-a.invariant.bytes ∙ ap (λ qs. (3 ∷ 0 ∷ 0 ∷ length ps ∷ []) ++ flat_map pair_cells qs) (take_all c.loop-a.a-index ps (omega arith))

pub returns-clause-written : goal.returns-clause-written
returns-clause-written c =
    let few : length c.args.pairs.now < 256 = omega (arith, c.requires.few) in
    whole c ∙ sym (rerr_written c.args.pairs.now few)

pub returns-clause-encodes : goal.returns-clause-encodes
returns-clause-encodes c =
    subst (λ b. Encodes b (a_rerr c.args.pairs.now)) (sym (whole c)) (rerr_encodes c.args.pairs.now c.requires (each_fits c.args.pairs.now (λ k d h. c.loop-a.invariant.fits k d (omega arith))))
