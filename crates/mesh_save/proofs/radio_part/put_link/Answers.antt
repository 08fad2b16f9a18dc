use Rattle.std.proofs.Common.{◌≡◌, true, ap, sym, ◌∙◌}
use Rattle.std.specs.FinSet as sets
use Rattle.mesh_base.specs.Members.{NodeIds}
use Rattle.mesh_model.proofs.Links.{below_has}
use Rattle.mesh_save.proofs.LinkRows.{in_order}
use Rattle.mesh_save.proofs.radio_part.put_link.Goals as goal

pub returns-then-stood : goal.returns-then-stood
returns-then-stood g c =
    let j = g.met.P.Encoder.joins in
    let a = c.args.a in
    let b = c.args.b in
    let yes : sets.contains c.args.radio.now.ever (a, b) ≡ true = sym (in_order c.args.radio.now.ever a b c.requires.rising) ∙ sym c.stood.ensures ∙ c.if-stood.true in
    let stands : c.has.result ≡ sets.contains c.args.radio.now.links (a, b) =
    c.has.ensures.value ∙ ap (λ (s : NodeIds). sets.contains s b) c.range.ensures.value ∙ below_has c.args.radio.now.links a c.args.radio.now.size b c.requires.within ∙ in_order c.args.radio.now.links a b c.requires.rising in
    rw (yes, ← stands) (j _ _ _ _ _ c.put16.ensures (j _ _ _ _ _ c.put16-then-stood.ensures c.put_truth.ensures))
