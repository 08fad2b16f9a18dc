use Rattle.std.proofs.Common.{◌≡◌, ◌<◌, ◌≤◌, max, Some, sym, ap, subst, ◌∙◌, arith}
use Rattle.mesh_base.specs.Members.{IsLeastFrom}
use Rattle.aodv_asked.specs.Tops.{ids_of}
use Rattle.aodv_asked.proofs.TopLaws.{least_none, least_some}
use Rattle.aodv_asked.proofs.interval.Interval.least_from.Goals as goal

pub returns-then-from-least : goal.returns-then-from-least
returns-then-from-least c =
    let least : c.max-least.result ≡ max c.args.from c.args.self.first = c.max-least.ensures ∙ ap (max c.args.from) c.from.ensures in
    let past : c.args.self.last < max c.args.from c.args.self.first = omega (arith, least) in
    least_none c.args.self c.args.from past

pub returns : goal.returns
returns c =
    let least : c.max-least.result ≡ max c.args.from c.args.self.first = c.max-least.ensures ∙ ap (max c.args.from) c.from.ensures in
    let within : max c.args.from c.args.self.first ≤ c.args.self.last = omega (arith, least) in
    subst (λ m. IsLeastFrom (ids_of c.args.self) c.args.from (Some m)) (sym (c.narrowed.ensures ∙ least)) (least_some c.args.self c.args.from within)
