-- When the copies that aren't lost are due.
use Rattle.std.specs.Prelude.{◌==◌, nat_lt, Bool, ◌&&◌, ◌||◌, if◌then◌else◌, List, [], ◌∷◌}
use Rattle.mesh_fates.specs.declared.due.Due.{Due}

-- copies in the order of the tick in which they are due, and then of their numbers
abbrev pub Plan : Type 0
Plan = List Due

-- a is due in an earlier tick than b, or in the same tick with a smaller number
abbrev pub is_before : Due → Due → Bool
is_before a b = nat_lt a.tick b.tick || (a.tick == b.tick && nat_lt a.id b.id)

-- a plan with this copy added
unfoldable pub with_due : Plan → Due → Plan
with_due [] new = new ∷ []
with_due (d ∷ plan) new =
    if is_before new d then new ∷ d ∷ plan else
    if is_before d new then d ∷ with_due plan new else d ∷ plan
