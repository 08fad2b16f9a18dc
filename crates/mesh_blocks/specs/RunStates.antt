-- The states of a watched run: after each line, and after each event of the next.
use Rattle.std.specs.Prelude.{ℕ, ◌≡◌, List, take, slice_get}
use Rattle.mesh_base.specs.declared.events.Variant.{Variant}
use Rattle.mesh_model.specs.Worlds.{run, start, first_numbers}
use Rattle.mesh_text.specs.Schedule.{RunState, opening, world_of}
use Rattle.mesh_text.specs.Text.{RunText, pieces_of_input}
use Rattle.mesh_text.specs.Runs.{events_of_input, state_in_next}
use Rattle.mesh_text.specs.declared.verdict.Verdict.TheVariants.{Finished}
use Rattle.mesh_blocks.specs.declared.below.Below.{Below}
use Rattle.mesh_blocks.specs.Text.{watched_from}

-- the watched run of the first i lines of an input
abbrev pub watched_prefix : Below → Variant → List ℕ → ℕ → RunText
watched_prefix below variant input i =
    watched_from below (opening variant) (take i (pieces_of_input input))

-- each of these lines is allowed, and none is refused for a full counter
abbrev pub AreDone : Below → Variant → List ℕ → ℕ → Type 0
AreDone below variant input i = (watched_prefix below variant input i).verdict ≡ Finished

-- the state after these lines, and k events of the next
abbrev pub state_within : Below → Variant → List ℕ → (i k : ℕ) → RunState
state_within below variant input i k =
    let before = watched_prefix below variant input i in
    state_in_next before.after (slice_get (pieces_of_input input) i) k

-- the world of a state is the one to which the input's first events, as many as the state has
-- counted, lead from the opening world of its nodes
abbrev pub IsOfEvents : Variant → List ℕ → RunState → Type 0
IsOfEvents variant input m =
    world_of m
    ≡ run (start variant (first_numbers m.mesh))
    (take m.sums.events (events_of_input variant input))
