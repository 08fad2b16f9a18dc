use Rattle.std.proofs.Common.{◌∙◌, ◌≡◌, ◌∷◌, [], None, sym, subst}
use Rattle.mesh_base.specs.Numbers.{number_up_to}
use Rattle.mesh_base.proofs.OctetLaws.{two_are, zero_before, first_no_digit, second_no_digit}
use Rattle.mesh_base.proofs.addr.of_two.Goals as goal

pub returns-then-a-eq48-clause-value : goal.returns-then-a-eq48-clause-value
returns-then-a-eq48-clause-value c = subst (λ x. None ≡ number_up_to 255 (x ∷ c.args.b ∷ [])) (sym c.if-a-eq48.true) (sym (zero_before c.args.b []))

pub returns-in_err-m-clause-value : goal.returns-in_err-m-clause-value
returns-in_err-m-clause-value c = c.from_residual.ensures ∙ sym (first_no_digit c.args.a _ c.in_err-m.ensures.none)

pub returns-in_err-n-clause-value : goal.returns-in_err-n-clause-value
returns-in_err-n-clause-value c = c.from_residual-in_err-n.ensures ∙ sym (second_no_digit c.args.a c.args.b _ c.in_err-n.ensures.none)

pub returns-clause-value : goal.returns-clause-value
returns-clause-value c =
    sym (two_are c.args.a c.args.b c.in_ok-m.m c.in_ok-n.n c.if-a-eq48.false
    c.in_ok-m.ensures.some.0 c.in_ok-m.ensures.some.1 c.in_ok-n.ensures.some.0 c.in_ok-n.ensures.some.1
    c.in_ok-m.ensures.within c.in_ok-n.ensures.within)
