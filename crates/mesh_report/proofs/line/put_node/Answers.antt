use Rattle.std.proofs.Common.{refl}
use Rattle.std.proofs.Common.{ℕ, sym, ap, ◌++◌}
use Rattle.std.specs.Prelude.{codes}
use Rattle.std.specs.Fmt.{decimal}
use Rattle.mesh_base.specs.Addresses.{dotted_decimal}
use Rattle.mesh_report.proofs.Pieces.{four-at-1, four-at-2, four-at-3, four}
use Rattle.mesh_report.proofs.line.put_node.Goals as goal

pub returns-in_err-put_text-clause-text : goal.returns-in_err-put_text-clause-text
returns-in_err-put_text-clause-text g c =
    four-at-1 (g.O.Sink.held c.args.out.now) (g.O.Sink.held c.put_text.new.out) _ (dotted_decimal c.args.addr.0) (codes " sn ") (decimal c.args.first) _ _ c.from_residual.ensures.0 c.in_err-put_text.ensures.text refl

pub returns-in_err-put_address-clause-text : goal.returns-in_err-put_address-clause-text
returns-in_err-put_address-clause-text g c =
    four-at-2 (g.O.Sink.held c.args.out.now) (g.O.Sink.held c.put_text.new.out) (g.O.Sink.held c.put_address.new.out) _ (dotted_decimal c.args.addr.0) (codes " sn ") (decimal c.args.first) _ _ c.from_residual-in_err-put_address.ensures.0 c.in_ok-put_text.ensures.text c.in_err-put_address.ensures.text refl

pub returns-in_err-put_text-2-clause-text : goal.returns-in_err-put_text-2-clause-text
returns-in_err-put_text-2-clause-text g c =
    four-at-3 (g.O.Sink.held c.args.out.now) (g.O.Sink.held c.put_text.new.out) (g.O.Sink.held c.put_address.new.out) (g.O.Sink.held c.put_text-2.new.out) _ (dotted_decimal c.args.addr.0) (codes " sn ") (decimal c.args.first) _ _ c.from_residual-in_err-put_text-2.ensures.0 c.in_ok-put_text.ensures.text c.in_ok-put_address.ensures.text c.in_err-put_text-2.ensures.text refl

pub returns-clause-text : goal.returns-clause-text
returns-clause-text g c =
    four (g.O.Sink.held c.args.out.now) (g.O.Sink.held c.put_text.new.out) (g.O.Sink.held c.put_address.new.out) (g.O.Sink.held c.put_text-2.new.out) (g.O.Sink.held c.put_decimal.new.out) _ (dotted_decimal c.args.addr.0) (codes " sn ") _ _ _ c.in_ok-put_text.ensures.text c.in_ok-put_address.ensures.text c.in_ok-put_text-2.ensures.text c.put_decimal.ensures.text (sym (ap (λ (n : ℕ). codes "node " ++ dotted_decimal c.args.addr.0 ++ codes " sn " ++ decimal n) c.from.ensures))
