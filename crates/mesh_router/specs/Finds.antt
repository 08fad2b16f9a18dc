-- What the calls that receive datagrams find, one after another.
use Rattle.std.specs.Prelude.{◌≡◌, List, [], ◌∷◌, Option, Some, None, map, ⊤}
use Rattle.mesh_link.specs.Datagrams.{Datagram}

-- a datagram, or None if nothing is there at that moment
abbrev pub Find : Type 0
Find = Option Datagram

-- the next of these finds; after the last of them nothing is there
abbrev pub next_find : List Find → Find
next_find [] = None
next_find (f ∷ fs) = f

abbrev pub later_finds : List Find → List Find
later_finds [] = []
later_finds (f ∷ fs) = fs

-- the finds of the second list are the next of the first
abbrev pub AreNext : List Find → List Find → Type 0
AreNext all [] = ⊤
AreNext all (f ∷ fs) = (next_find all ≡ f) × AreNext (later_finds all) fs

-- what is left of the first list once as many finds are taken as the second has
abbrev pub left_after : List Find → List Find → List Find
left_after all [] = all
left_after all (f ∷ fs) = left_after (later_finds all) fs

-- the finds of datagrams that have arrived
abbrev pub arrivals : List Datagram → List Find
arrivals ds = map Some ds

-- calls have found these: if it is known which datagrams have arrived, these are the next of them,
-- and the others are left
pub record AreOf (ds : List Datagram) (now : Option (List Datagram)) (found : List Find)
    : Type 0 where
  pub left : List Datagram
  pub now_is : now ≡ Some left
  pub next : AreNext (arrivals ds) found
  pub others : left_after (arrivals ds) found ≡ arrivals left

abbrev pub AreFound : Option (List Datagram) → Option (List Datagram) → List Find → Type 0
AreFound None now found = now ≡ None
AreFound (Some ds) now found = AreOf ds now found
