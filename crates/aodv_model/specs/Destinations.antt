-- Destinations with a sequence number each, as a route error names them (RFC 3561, section 5.3).
use Rattle.std.specs.Prelude.{ℕ, List, IsTrue}
use Rattle.std.specs.Ordering.{nat_cmp}
use Rattle.std.specs.FinMap.{FinMap, is_sorted}

-- a number for each of finitely many destinations
abbrev pub Numbers : Type 0
Numbers = FinMap nat_cmp ℕ

-- the pairs are in strictly rising order of their destinations
pub record IsRising (pairs : List (ℕ × ℕ)) : Type 0 where
  pub sorted : IsTrue (is_sorted nat_cmp pairs)
