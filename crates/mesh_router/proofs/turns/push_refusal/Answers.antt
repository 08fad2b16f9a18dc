use Rattle.std.proofs.Common.{◌∙◌, ◌++◌, ap, sym, append_assoc}
use Rattle.std.specs.Fmt.{decimal}
use Rattle.std.specs.Prelude.{codes}
use Rattle.aodv_wire.specs.declared.error.WireError.{WireError}
use Rattle.mesh_router.specs.Turns.{refusal_words}
use Rattle.mesh_router.proofs.turns.push_refusal.Goals as goal

pub returns-in-UnknownType-clause-text : goal.returns-in-UnknownType-clause-text
returns-in-UnknownType-clause-text c =
    let old = (c.args.out.now).items in
    c.push_number.ensures.text
    ∙ (λ i. c.push_text-in-UnknownType.ensures.text i ++ decimal (c.from.ensures i))
    ∙ append_assoc old (codes "unknown type ") (decimal c.in-UnknownType.kind)
    ∙ ap (λ (w : WireError). old ++ refusal_words w) (sym c.in-UnknownType.is)

pub returns-in-WrongLength-clause-text : goal.returns-in-WrongLength-clause-text
returns-in-WrongLength-clause-text c =
    c.push_text-in-WrongLength.ensures.text ∙ ap (λ (w : WireError). (c.args.out.now).items ++ refusal_words w) (sym c.in-WrongLength.is)
