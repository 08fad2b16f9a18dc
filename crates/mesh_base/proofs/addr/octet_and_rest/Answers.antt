use Rattle.std.proofs.Common.{◌∙◌, drop, sym, ap}
use Rattle.std.specs.Option.{option_map}
use Rattle.mesh_base.specs.Parts.{parts}
use Rattle.mesh_base.specs.Octets.{number_and}
use Rattle.mesh_base.proofs.PartLaws.{whole_rest}
use Rattle.mesh_base.proofs.OctetLaws.{after_one, after_two, after_three, nowhere}
use Rattle.mesh_base.proofs.addr.octet_and_rest.Goals as goal

pub returns-in_err-of_one-clause-value : goal.returns-in_err-of_one-clause-value
returns-in_err-of_one-clause-value c =
    let law = after_one c.args.text.now (c.is_dot.ensures.yes c.if-is_dot.true) in
    rw c.from_residual.ensures (sym (law ∙ ap (option_map (number_and (parts 46 (drop 2 c.args.text.now)))) (sym c.in_err-of_one.ensures.value)))

pub returns-then-is_dot-clause-value : goal.returns-then-is_dot-clause-value
returns-then-is_dot-clause-value c =
    let law = after_one c.args.text.now (c.is_dot.ensures.yes c.if-is_dot.true) in
    rw whole_rest (sym (law ∙ ap (option_map (number_and (parts 46 (drop 2 c.args.text.now)))) (sym c.in_ok-of_one.ensures.value)))

pub returns-in_err-of_two-clause-value : goal.returns-in_err-of_two-clause-value
returns-in_err-of_two-clause-value c =
    let law = after_two c.args.text.now (c.is_dot.ensures.no c.if-is_dot.false) (c.is_dot-2.ensures.yes c.if-is_dot-2.true) in
    rw c.from_residual-in_err-of_two.ensures (sym (law ∙ ap (option_map (number_and (parts 46 (drop 3 c.args.text.now)))) (sym c.in_err-of_two.ensures.value)))

pub returns-then-is_dot-2-clause-value : goal.returns-then-is_dot-2-clause-value
returns-then-is_dot-2-clause-value c =
    let law = after_two c.args.text.now (c.is_dot.ensures.no c.if-is_dot.false) (c.is_dot-2.ensures.yes c.if-is_dot-2.true) in
    rw whole_rest (sym (law ∙ ap (option_map (number_and (parts 46 (drop 3 c.args.text.now)))) (sym c.in_ok-of_two.ensures.value)))

pub returns-in_err-of_three-clause-value : goal.returns-in_err-of_three-clause-value
returns-in_err-of_three-clause-value c =
    let law = after_three c.args.text.now (c.is_dot.ensures.no c.if-is_dot.false) (c.is_dot-2.ensures.no c.if-is_dot-2.false) (c.is_dot-3.ensures.yes c.if-is_dot-3.true) in
    rw c.from_residual-in_err-of_three.ensures (sym (law ∙ ap (option_map (number_and (parts 46 (drop 4 c.args.text.now)))) (sym c.in_err-of_three.ensures.value)))

pub returns-then-is_dot-3-clause-value : goal.returns-then-is_dot-3-clause-value
returns-then-is_dot-3-clause-value c =
    let law = after_three c.args.text.now (c.is_dot.ensures.no c.if-is_dot.false) (c.is_dot-2.ensures.no c.if-is_dot-2.false) (c.is_dot-3.ensures.yes c.if-is_dot-3.true) in
    rw whole_rest (sym (law ∙ ap (option_map (number_and (parts 46 (drop 4 c.args.text.now)))) (sym c.in_ok-of_three.ensures.value)))

pub returns-clause-value : goal.returns-clause-value
returns-clause-value c = sym (nowhere c.args.text.now (c.is_dot.ensures.no c.if-is_dot.false) (c.is_dot-2.ensures.no c.if-is_dot-2.false) (c.is_dot-3.ensures.no c.if-is_dot-3.false))
