-- The events that a line may be.
use Rattle.std.specs.Prelude.{ℕ, ◌≤◌, ⊤}
use Rattle.mesh_grammar.specs.Forms.{IsText}
use Rattle.mesh_grammar.specs.Commands.{greatest_id}
use Rattle.mesh_model.specs.Worlds.{Event, Give, Deliver, Lose, Double}

-- an event that a line may be: by the number of its copy, or by the text of its datum
abbrev pub HasLine : Event → Type 0
HasLine (Give x d body) = IsText body
HasLine (Deliver id) = (1 ≤ id) × (id ≤ greatest_id)
HasLine (Lose id) = (1 ≤ id) × (id ≤ greatest_id)
HasLine (Double id) = (1 ≤ id) × (id ≤ greatest_id)
HasLine others = ⊤
