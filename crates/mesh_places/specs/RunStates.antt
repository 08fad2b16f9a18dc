-- A run with places between two lines, as the program has it, and what is written for one line.
use Rattle.std.specs.Prelude.{ℕ, ◌≡◌, ◌≤◌, ◌<◌, ◌≢◌, ◌+◌, ◌*◌, true, if◌then◌else◌, List, Option, Result, OnOk, length, codes, ⊤}
use Rattle.std.specs.List.{flat_map}
use Rattle.mesh_base.specs.declared.limits.TheConstants.{MOST_EVENTS}
use Rattle.mesh_base.specs.Meshes.{Nodes}
use Rattle.mesh_model.specs.Worlds.{Event, Link, Cut}
use Rattle.mesh_shell.specs.Pieces.{Whole}
use Rattle.mesh_grammar.specs.Written.{line}
use Rattle.mesh_run.specs.declared.stop.Stop.{Stop}
use Rattle.mesh_run.specs.declared.stop.Stop.TheVariants as stop
use Rattle.mesh_run.specs.Runs.{IsLineRun}
use Rattle.mesh_grid.specs.declared.line.Placing.{Placing}
use Rattle.mesh_grid.specs.Links.{may_come}
use Rattle.mesh_grid.specs.Text.{RunState, changes, change_line, outcome_of_piece, places_after}
use Rattle.mesh_places.specs.declared.placed.Placed.{Placed}

abbrev pub run_state_of : Placed → RunState
run_state_of p = record { run = p.point; places = p.places }

-- this run, moved to another state
abbrev pub moved : Placed → RunState → Placed
moved p n = record p { point = n.run; places = n.places }

-- changes, each on a line of its own
abbrev pub change_lines : Nodes → List Event → List ℕ
change_lines mesh es = flat_map (change_line mesh) es

-- what is written below a line about a place: the changes that follow, or `idle`
abbrev pub below : ℕ → RunState → Placing → List ℕ
below reach m new =
    if may_come m.places new then change_lines m.run.mesh (changes reach m new) else line
    (codes "  idle")

-- a link between two nodes of the mesh is made or cut
abbrev pub IsChange : ℕ → Event → Type 0
IsChange size (Link a b) = (a < size) × (b < size) × (a ≢ b)
IsChange size (Cut a b) = (a < size) × (b < size) × (a ≢ b)
IsChange size others = ⊥

-- a write failed, or memory ran out
abbrev pub IsWant : Stop → Type 0
IsWant stop.WriteFault = ⊤
IsWant stop.NoMemory = ⊤
IsWant others = ⊥

-- what was written and answered for a line that led the run from p to q, with only its state
-- changed
pub record IsRunOfLine (p q : Placed) (bytes : List ℕ) (before now : Option (List ℕ))
    (result : Result (Unit {0}) Stop) : Type 0 where
  pub comes : IsLineRun true p.point
      (outcome_of_piece p.reach (run_state_of p) (Whole bytes)) q.point before now result
  pub only : q ≡ moved p (run_state_of q)
  pub places : OnOk result (q.places ≡ places_after (run_state_of p) (Whole bytes))
  pub lines : OnOk result (q.point.lines ≡ p.point.lines + 1)
  pub steps : OnOk result (4 * q.point.steps ≤ 4 * p.point.steps + MOST_EVENTS * length bytes)
