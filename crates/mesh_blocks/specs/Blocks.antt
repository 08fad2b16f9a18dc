-- The node that an event has changed, and the block that shows it below the event.
use Rattle.std.specs.Prelude.{ℕ, List, [], Option, Some, None}
use Rattle.mesh_model.specs.Worlds.{Event, Give, Turn, Send, Ask, Deliver, WorldEffect, CopyHeard, Outcome, Next}
use Rattle.mesh_text.specs.Schedule.{RunState, ShowsNode, outcome_at, next_state}
use Rattle.mesh_text.specs.Text.{outcome_of_line, text_in}

-- the node whose state an event has changed. A link that is made or cut, and a copy that is lost or
-- doubled, change none
abbrev pub changed_node : Event → WorldEffect → Option ℕ
changed_node (Give x d body) world_effect = Some x
changed_node (Turn x) world_effect = Some x
changed_node (Send x d) world_effect = Some x
changed_node (Ask x d) world_effect = Some x
changed_node (Deliver id) (CopyHeard from to) = Some to
changed_node others world_effect = None

-- the node that an event has changed, by its outcome; an event that is idle or refused changes none
abbrev pub changed_by : Event → Outcome → Option ℕ
changed_by e (Next w world_effect) = changed_node e world_effect
changed_by e others = None

-- what a line `show` of this node writes in this state
abbrev pub shown_node : RunState → ℕ → List ℕ
shown_node m x = text_in (outcome_of_line m (ShowsNode x))

abbrev pub shown_if : RunState → Option ℕ → List ℕ
shown_if m None = []
shown_if m (Some x) = shown_node m x

-- the block below an event that comes in state m: the node that the event has changed, if it has
-- changed one, in the state after the event
unfoldable pub block_below : RunState → Event → List ℕ
block_below m e = shown_if (next_state m e) (changed_by e (outcome_at m e))
