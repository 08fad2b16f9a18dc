-- The account of data: none is invented, and none is lost unseen.
use Rattle.std.specs.Prelude.{◌≡◌, ◌+◌, ◌==◌, ◌&&◌, ℕ, Bool, true, false, List, [], ◌∷◌}
use Rattle.std.specs.List.{count_by}
use Rattle.mesh_base.specs.Parts.{parts}
use Rattle.mesh_model.specs.Accounts.{any, waiting, queued_data, in_flight}
use Rattle.mesh_text.specs.Schedule.{RunState, world_of}

-- as many data were given and doubled as were delivered, wait in stores and queues, are in flight,
-- and were dropped
abbrev pub IsBalanced : RunState → Type 0
IsBalanced m =
    m.sums.given + m.sums.copied
    ≡ m.sums.delivered + waiting any (world_of m) + queued_data any (world_of m)
    + in_flight any (world_of m) + m.sums.lost

-- ---- lines of a text

-- the text begins with these bytes
abbrev pub begins : List ℕ → List ℕ → Bool
begins [] text = true
begins (c ∷ cs) [] = false
begins (c ∷ cs) (b ∷ bs) = (b == c) && begins cs bs

-- how many lines of a text begin with these bytes
abbrev pub lines_with : List ℕ → List ℕ → ℕ
lines_with front text = count_by (begins front) (parts 10 text)
