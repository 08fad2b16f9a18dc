-- What a watched run adds to the text of a run: directly below the lines of each event that has
-- changed a node, whole lines that show that node in the state after the event, or what has changed
-- of it.
use Rattle.std.specs.Prelude.{ℕ, ◌≡◌, ◌≢◌, List, [], ◌∷◌, ◌++◌}
use Rattle.std.specs.List.{concat, AllByRecursion}
use Rattle.mesh_base.specs.Meshes.{Nodes}
use Rattle.mesh_base.specs.declared.events.Variant.{Variant}
use Rattle.mesh_model.specs.Worlds.{Event}
use Rattle.mesh_shell.specs.Outputs.{EndsWithLf}
use Rattle.mesh_text.specs.Schedule.{RunState, opening, with_world, outcome_at, next_state}
use Rattle.mesh_text.specs.Effects.{outcome_lines}
use Rattle.mesh_text.specs.Text.{text_of_input}
use Rattle.mesh_text.specs.Runs.{events_of_input, mesh_of_input}
use Rattle.mesh_text.specs.declared.verdict.Verdict.TheVariants.{FullAt}
use Rattle.mesh_blocks.specs.declared.below.Below.{Below}
use Rattle.mesh_blocks.specs.Forms.{below_text}
use Rattle.mesh_blocks.specs.Text.{watched_of_input}

-- ---- parts

-- a part of a text: the lines of an event that was done, or other text
pub data Part : Type 0 where
  Did : Event → Part
  Other : (text : List ℕ) → Part

-- the events that were done
abbrev pub events_in : List Part → List Event
events_in [] = []
events_in (Did e ∷ parts) = e ∷ events_in parts
events_in (Other text ∷ parts) = events_in parts

-- ---- the texts of parts, from a state on: each event leads to the state of the next part

-- an event that comes in a state, and below it what it did
abbrev pub event_text : RunState → Event → List ℕ
event_text m e = outcome_lines m.mesh e (outcome_at m e)

-- the texts of these parts, one after another, in the text of the run
abbrev pub run_texts : RunState → List Part → List (List ℕ)
run_texts m [] = []
run_texts m (Did e ∷ parts) = event_text m e ∷ run_texts (next_state m e) parts
run_texts m (Other text ∷ parts) = text ∷ run_texts m parts

-- in the watched text: each event has its block, or the changes of its block, directly below it
abbrev pub watched_texts : Below → RunState → List Part → List (List ℕ)
watched_texts below m [] = []
watched_texts below m (Did e ∷ parts) =
    event_text m e ∷ below_text below m e ∷ watched_texts below (next_state m e) parts
watched_texts below m (Other text ∷ parts) = text ∷ watched_texts below m parts

-- the text and the watched text of these events, from a state on, have the same parts, but for what
-- is below the events; each part, and what is below each event, is whole lines
pub record IsWithBlocks (below : Below) (m : RunState) (es : List Event) (text watched : List ℕ)
    : Type 0 where
  pub parts : List Part
  pub events : es ≡ events_in parts
  pub run : text ≡ concat (run_texts m parts)
  pub watched_run : watched ≡ concat (watched_texts below m parts)
  pub whole : AllByRecursion EndsWithLf (watched_texts below m parts)

-- ---- a run

-- the state before the first event: it has all nodes, and their world is made
abbrev pub before_events : Variant → Nodes → RunState
before_events variant mesh = with_world (record (opening variant) { mesh = mesh })

-- the events of the input come in order, each with what belongs below it: all of them or, if a full
-- counter has ended the run, a first part of them
pub record HasBlocksBelowEvents (below : Below) (variant : Variant) (input : List ℕ) : Type 0 where
  pub done : List Event
  pub rest : List Event
  pub events : events_of_input variant input ≡ done ++ rest
  pub all : ((number : ℕ) → (text_of_input variant input).verdict ≢ FullAt number) → rest ≡ []
  pub blocks : IsWithBlocks below (before_events variant (mesh_of_input variant input)) done
      (text_of_input variant input).lines (watched_of_input below variant input).lines
