-- Part of what the headline says.
-- The lines of a text that name a datum.
use Rattle.std.specs.Prelude.{◌≡◌, ◌==◌, ◌&&◌, ◌<◌, ℕ, List, length, codes}
use Rattle.std.specs.List.{count_by}
use Rattle.std.specs.Str.{bytes_eq}
use Rattle.mesh_base.specs.Parts.{parts}
use Rattle.mesh_base.specs.declared.events.Variant.{Variant}
use Rattle.aodv_model.specs.Cores.{Body}
use Rattle.mesh_model.specs.Accounts.{Test, delivered_data, dropped_data, over_run}
use Rattle.mesh_grammar.specs.Written.{line}
use Rattle.mesh_text.specs.Effects.{datum_text}
use Rattle.mesh_text.specs.Text.{text_of_input}
use Rattle.mesh_text.specs.Runs.{events_of_input, mesh_of_input}
use Rattle.mesh_text.specs.EveryWorld.{opening_world}

-- the datum of this originator, destination and body, and no other
abbrev pub only_datum : ℕ → ℕ → Body → Test
only_datum o d body = λ p q other. (p == o) && (q == d) && bytes_eq other body

-- how many lines of a text equal this one, which is given with its LF
abbrev pub lines_equal : List ℕ → List ℕ → ℕ
lines_equal whole text = count_by (λ l. bytes_eq (line l) whole) (parts 10 text)

-- however a run ends, its text has a line for each time that a datum between two of the nodes was
-- delivered, and one for each time that it was dropped
abbrev pub IsNamedRun : Variant → List ℕ → Type 0
IsNamedRun variant input = (o d : ℕ) (body : Body)
    → let mesh = mesh_of_input variant input in let text = (text_of_input variant input).lines in
    let w = opening_world variant input in let events = events_of_input variant input in
    o < length mesh → d < length mesh
    → (lines_equal (datum_text (codes "  delivered ") mesh o d body) text
    ≡ over_run (delivered_data (only_datum o d body)) w events)
    × (lines_equal (datum_text (codes "  dropped ") mesh o d body) text
    ≡ over_run (dropped_data (only_datum o d body)) w events)
