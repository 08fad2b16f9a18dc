use Rattle.std.proofs.Common.{◌≡◌, ◌+◌, ◌∙◌, ap, sym, take, arith}
use Rattle.mesh_base.proofs.NumberLaws.{joined_digits}
use Rattle.mesh_base.proofs.text.short_decimal.Goals as goal

pub returns : goal.returns
returns c =
    let width : c.width-3.result ≡ c.width-2.result = c.width-3.ensures.value ∙ sym c.width-2.ensures.value in
    let high = ap (λ w. take w c.whole-2.result.now) c.width-2.ensures.value ∙ c.whole-2.ensures.front ∙ c.up_to_four-high.ensures in
    c.front_of-2.ensures ∙ ap (λ w. take (w + 4) c.join-3.new.cells) width ∙ c.join-3.ensures
    ∙ joined_digits c.args.n c.width-2.result _ _ _ c.if-n-lt10000.false (omega (arith, c.requires)) c.width-2.ensures.short c.join-2.ensures high c.four_digits.ensures
