use Rattle.std.proofs.Common.{◌∙◌, sym, ap, option_map}
use Rattle.std.specs.Prelude.{option_and_then}
use Rattle.mesh_tables.specs.Printed.{row_in}
use Rattle.mesh_tables.proofs.Kept.{table_in_shown}
use Rattle.mesh_tables.proofs.search.entry_at.Goals as goal

pub returns-in_err-rows : goal.returns-in_err-rows
returns-in_err-rows c =
    let none = table_in_shown c.args.closed.now.entries c.args.x in
    c.from_residual.ensures ∙ sym (ap (λ o. option_and_then (λ rows. row_in rows c.args.d) o) (none ∙ sym (ap (λ o. option_map (λ m. m.entries) o) c.in_err-rows.ensures.value)))

pub returns : goal.returns
returns c =
    let some = table_in_shown c.args.closed.now.entries c.args.x in
    c.copied.ensures ∙ (c.get-2.ensures.value ∙ sym (ap (λ o. option_and_then (λ rows. row_in rows c.args.d) o) (some ∙ sym (ap (λ o. option_map (λ m. m.entries) o) c.in_ok-rows.ensures.value))))
