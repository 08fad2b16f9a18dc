use Rattle.std.proofs.Common.{arith, ◌∙◌, sym, ◌≡◌, get_or, drop, ◌+◌, ◌*◌, ◌-◌, ◌<◌, Some, ap, true}
use Rattle.std.specs.Str.{all_ascii_digits}
use Rattle.std.proofs.lemmas.List.{at_drop_all}
use Rattle.mesh_base.specs.Numbers.{read_on}
use Rattle.mesh_base.proofs.NumberLaws.{read_on-ge, digits_up_to-not_digits, digits_up_to-too_large, digits_up_to-fits, read_on-more, digits-more}
use Rattle.mesh_base.proofs.text.digits_up_to.Goals as goal

pub returns-then-not-is_ascii_digit-clause-value : goal.returns-then-not-is_ascii_digit-clause-value
returns-then-not-is_ascii_digit-clause-value c =
    let more = digits-more c.loop-b.b-index c.args.ds.now c.loop-b-test.true in
    sym (digits_up_to-not_digits c.args.most _ (grind (arith, c.loop-b.invariant.digits, more, c.if-not-is_ascii_digit.ensures.value)))

pub returns-in_err-checked_mul-clause-value : goal.returns-in_err-checked_mul-clause-value
returns-in_err-checked_mul-clause-value c =
    let more = read_on-more c.loop-b.n c.loop-b.b-index c.args.ds.now c.loop-b-test.true in
    let ge = read_on-ge (drop (c.loop-b.b-index + 1) c.args.ds.now) (10 * c.loop-b.n + (get_or c.args.ds.now c.loop-b.b-index 0 - 48)) in
    let big : c.args.most < read_on 0 c.args.ds.now = omega (arith, c.loop-b.invariant.value, more, ge, c.in_err-checked_mul.ensures) in
    c.from_residual.ensures ∙ sym (digits_up_to-too_large c.args.most _ big)

pub returns-in_err-n-clause-value : goal.returns-in_err-n-clause-value
returns-in_err-n-clause-value c =
    let more = read_on-more c.loop-b.n c.loop-b.b-index c.args.ds.now c.loop-b-test.true in
    let ge = read_on-ge (drop (c.loop-b.b-index + 1) c.args.ds.now) (10 * c.loop-b.n + (get_or c.args.ds.now c.loop-b.b-index 0 - 48)) in
    let big : c.args.most < read_on 0 c.args.ds.now = omega (arith, c.loop-b.invariant.value, more, ge, c.in_err-n.ensures, c.in_ok-checked_mul.ensures) in
    c.from_residual-in_err-n.ensures ∙ sym (digits_up_to-too_large c.args.most _ big)

pub returns-then-n-most-clause-value : goal.returns-then-n-most-clause-value
returns-then-n-most-clause-value c =
    let i = c.loop-b.b-index in
    let n : c.loop-b.n ≡ read_on 0 c.args.ds.now = sym (at_drop_all (read_on c.loop-b.n) c.args.ds.now i c.loop-b-test.false) ∙ c.loop-b.invariant.value in
    let digits : all_ascii_digits c.args.ds.now ≡ true = sym c.loop-b.invariant.digits ∙ at_drop_all all_ascii_digits c.args.ds.now i c.loop-b-test.false in
    ap Some n ∙ sym (digits_up_to-fits c.args.most c.args.ds.now digits (omega arith))

pub returns-else-n-most-clause-value : goal.returns-else-n-most-clause-value
returns-else-n-most-clause-value c =
    let n : c.loop-b.n ≡ read_on 0 c.args.ds.now = sym (at_drop_all (read_on c.loop-b.n) c.args.ds.now c.loop-b.b-index c.loop-b-test.false) ∙ c.loop-b.invariant.value in
    sym (digits_up_to-too_large c.args.most c.args.ds.now (omega arith))
