-- Part of what the headline says.
-- The first refusal that applies.
use Rattle.std.specs.Prelude.{Bool, true, false, List, [], ◌∷◌, Option, Some, None}
use Rattle.aodv_wire.specs.declared.error.WireError.{WireError}

-- a refusal, if this holds
abbrev pub refuse_if : Bool → WireError → Option WireError
refuse_if true e = Some e
refuse_if false e = None

-- the first refusal of a list
abbrev pub first_of : List (Option WireError) → Option WireError
first_of [] = None
first_of (None ∷ others) = first_of others
first_of (Some e ∷ others) = Some e
