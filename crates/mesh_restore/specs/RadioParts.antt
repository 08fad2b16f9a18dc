-- The links and the copies in flight, as a checkpoint lists them.
use Rattle.std.specs.Prelude.{◌≡◌, ◌≢◌, ◌≤◌, ◌+◌, ℕ, Bool, true, false, List, Option, Some}
use Rattle.std.specs.List.{AllByRecursion}
use Rattle.std.specs.Int.{w64}
use Rattle.std.specs.FinSet as sets
use Rattle.mesh_base.specs.declared.events.Flying.{Flying}
use Rattle.mesh_radio.specs.Radios.{RadioState, with_copy}
use Rattle.mesh_checkpoint.specs.declared.limits.TheConstants.{GREATEST_NEXT_ID}
use Rattle.mesh_checkpoint.specs.Formats.{Format, number, seq}
use Rattle.mesh_checkpoint.specs.Checkpoint.{Link, links, copies}
use Rattle.mesh_checkpoint.specs.Points.{links_of}

-- the link of this pair was added to the others, as one that stands or as one that has stood
pub record IsLinkKept (before after : RadioState) (p : ℕ × ℕ) (stands : Bool) : Type 0 where
  pub ever : after.ever ≡ sets.insert before.ever p
  pub here : sets.contains after.links p ≡ stands
  pub elsewhere : (q : ℕ × ℕ) → q ≢ p → sets.contains after.links q ≡ sets.contains before.links q
  pub others : after ≡ record before { links = after.links; ever = after.ever }

-- links were read, and these bytes are left
pub record ArePassed (read : Option (List Link × List ℕ)) (rest : List ℕ) : Type 0 where
  pub found : List Link
  pub read_is : read ≡ Some (found, rest)

-- the links were read, and these bytes are left; nothing but the links has changed
pub record AreLinksRead (read : Option (List Link × List ℕ)) (before after : RadioState)
    (rest : List ℕ) : Type 0 where
  pub read_is : read ≡ Some (links_of after.ever after.links, rest)
  pub others : after ≡ record before { links = after.links; ever = after.ever }

-- a copy came into the radio after the others, unless it is from a node to itself
abbrev pub IsFlown : RadioState → RadioState → Flying → Bool → Type 0
IsFlown before after c true = (c.from ≢ c.to) × (after ≡ with_copy before c)
IsFlown before after c false = (c.from ≡ c.to) × (after ≡ before)

-- the copies were read, and these bytes are left. If none is from a node to itself, they are all in
-- flight; nothing but the copies in flight has changed
pub record AreCopiesRead (read : Option (List Flying × List ℕ)) (before after : RadioState)
    (apart : Bool) (rest : List ℕ) : Type 0 where
  pub found : List Flying
  pub read_is : read ≡ Some (found, rest)
  pub whole : apart ≡ true → after.flying ≡ found
  pub some_to_itself : apart ≡ false → ¬ (AllByRecursion (λ c. c.from ≢ c.to) found)
  pub others : after ≡ record before { flying = after.flying }

-- ---- all that is in the radio

-- the links, the id of the next copy, and the copies
abbrev pub RadioPart : Type 0
RadioPart = List Link × (ℕ × List Flying)

abbrev pub radio_part : ℕ → Format RadioPart
radio_part nodes =
    seq (links nodes) λ _. seq (number w64 1 (GREATEST_NEXT_ID + 1)) λ next. copies nodes next

-- the radio has the links and the next id that were read, and these bytes are left. If no copy is
-- from a node to itself, the copies are all in flight
pub record IsRadioPartRead (nodes : ℕ) (read : Option (RadioPart × List ℕ)) (radio : RadioState)
    (apart : Bool) (rest : List ℕ) : Type 0 where
  pub found : List Flying
  pub read_is : read ≡ Some ((links_of radio.ever radio.links, (radio.next_copy, found)), rest)
  pub whole : apart ≡ true → radio.flying ≡ found
  pub some_to_itself : apart ≡ false → ¬ (AllByRecursion (λ c. c.from ≢ c.to) found)
  pub size : radio.size ≡ nodes
  pub next : radio.next_copy ≤ GREATEST_NEXT_ID
