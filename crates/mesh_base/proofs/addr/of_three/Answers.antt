use Rattle.std.proofs.Common.{◌∙◌, ◌≡◌, ◌∷◌, [], None, sym, subst, arith}
use Rattle.mesh_base.specs.Numbers.{number_up_to}
use Rattle.mesh_base.proofs.OctetLaws.{three_are, three_too_large, zero_before, first_no_digit, second_no_digit, third_no_digit}
use Rattle.mesh_base.proofs.addr.of_three.Goals as goal

pub returns-then-a-eq48-clause-value : goal.returns-then-a-eq48-clause-value
returns-then-a-eq48-clause-value c =
    subst (λ x. None ≡ number_up_to 255 (x ∷ c.args.b ∷ c.args.c ∷ [])) (sym c.if-a-eq48.true) (sym (zero_before c.args.b (c.args.c ∷ [])))

pub returns-in_err-l-clause-value : goal.returns-in_err-l-clause-value
returns-in_err-l-clause-value c = c.from_residual.ensures ∙ sym (first_no_digit c.args.a _ c.in_err-l.ensures.none)

pub returns-in_err-m-clause-value : goal.returns-in_err-m-clause-value
returns-in_err-m-clause-value c = c.from_residual-in_err-m.ensures ∙ sym (second_no_digit c.args.a c.args.b _ c.in_err-m.ensures.none)

pub returns-in_err-n-clause-value : goal.returns-in_err-n-clause-value
returns-in_err-n-clause-value c =
    c.from_residual-in_err-n.ensures ∙ sym (third_no_digit c.args.a c.args.b c.args.c _ c.in_err-n.ensures.none)

pub returns-then-whole-gt255-clause-value : goal.returns-then-whole-gt255-clause-value
returns-then-whole-gt255-clause-value c =
    sym (three_too_large c.args.a c.args.b c.args.c c.in_ok-l.l c.in_ok-m.m c.in_ok-n.n
    c.in_ok-l.ensures.some.1 c.in_ok-m.ensures.some.1 c.in_ok-n.ensures.some.1 c.if-whole-gt255.true)

pub returns-clause-value : goal.returns-clause-value
returns-clause-value c =
    sym (three_are c.args.a c.args.b c.args.c c.in_ok-l.l c.in_ok-m.m c.in_ok-n.n c.if-a-eq48.false
    c.in_ok-l.ensures.some.0 c.in_ok-l.ensures.some.1 c.in_ok-m.ensures.some.0 c.in_ok-m.ensures.some.1
    c.in_ok-n.ensures.some.0 c.in_ok-n.ensures.some.1 (omega (arith, c.if-whole-gt255.false)))
