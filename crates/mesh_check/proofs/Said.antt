-- What is said of the tables is said of the text.
use Rattle.std.proofs.Common.{◌≡◌, List, ℕ, Option, Some, None, Result, Ok, refl, sym, ap₂, subst}
use Rattle.std.specs.Prelude.{IfSome, IfOk}
use Rattle.mesh_io.specs.NextLines.{text_limits}
use Rattle.mesh_tables.specs.Printed.{Reading, nothing_read}
use Rattle.mesh_shell.specs.Outputs.{IsOutputFrom}
use Rattle.mesh_shell.specs.declared.fault.Fault.{Fault}
use Rattle.mesh_check.specs.Says.{Shows, says, said_by, reading, reading_of}
use Rattle.mesh_check.specs.Verdicts.{HasNoCycle}
use Rattle.mesh_check.specs.declared.reading.ReadVerdict.{ReadVerdict}
use Rattle.mesh_check.specs.declared.reading.ReadVerdict.TheVariants.{Read}

-- all lines were read, and these tables are shown
shown_said : (text : List ℕ) (new : Option (List ℕ)) (r : Reading) → IsOutputFrom reading text_limits nothing_read text new None None (Ok Read) → r ≡ (reading_of text).after → says text ≡ Shows r.closed
shown_said text new r told after = sym (ap₂ said_by told.0 after)

pub no_cycle_said : (left new : Option (List ℕ)) (r : Reading) (result : Result ReadVerdict Fault) → result ≡ Ok Read → IfSome left (λ text. IsOutputFrom reading text_limits nothing_read text new None None result)
    → IfOk result (λ v. v ≡ Read → IfSome left (λ text. r ≡ (reading_of text).after)) → HasNoCycle (Shows r.closed) → IfSome left (λ text. HasNoCycle (says text))
no_cycle_said left new r result is told after acyclic =
    by_known left
    (subst (λ (x : Result ReadVerdict Fault). IfSome left (λ text. IsOutputFrom reading text_limits nothing_read text new None None x)) is told)
    (subst (λ (x : Result ReadVerdict Fault). IfOk x (λ v. v ≡ Read → IfSome left (λ text. r ≡ (reading_of text).after))) is after refl)
  where
    by_known : (left : Option (List ℕ)) → IfSome left (λ text. IsOutputFrom reading text_limits nothing_read text new None None (Ok Read)) → IfSome left (λ text. r ≡ (reading_of text).after) → IfSome left (λ text. HasNoCycle (says text))
    by_known None told after = tt
    by_known (Some text) told after = subst HasNoCycle (sym (shown_said text new r told after)) acyclic
