-- How the first failing edge is looked for: entry by entry, keeping the least edge that fails.
use Rattle.std.specs.Prelude.{ℕ, ◌==◌, Bool, ◌&&◌, ◌||◌, not, nat_lt, if◌then◌else◌, [], ◌∷◌, Option, Some, None}
use Rattle.aodv_model.specs.Quality.{is_val}
use Rattle.mesh_tables.specs.declared.row.Row.{Row}
use Rattle.mesh_tables.specs.declared.search.FailingEdge.{FailingEdge}
use Rattle.mesh_tables.specs.Tables.{Tables, is_better_row}
use Rattle.mesh_tables.specs.Printed.{Table, ShownTables}

-- ---- one edge

-- the next hop of r, if the next hop's entry is valid and isn't better than r
abbrev pub next_against : Row → Option Row → Option ℕ
next_against r None = None
next_against r (Some f) = if is_val f.flag && not (is_better_row f r) then Some r.next else None

-- the next hop of x's entry r for d, if the edge fails
unfoldable pub failing_next : Tables → ℕ → ℕ → Row → Option ℕ
failing_next t x d r =
    if (x == d) || (not (is_val r.flag) || (r.next == d)) then None else next_against r (t r.next d)

abbrev pub failing_by : Tables → ℕ → ℕ → Option Row → Option ℕ
failing_by t x d None = None
failing_by t x d (Some r) = failing_next t x d r

-- the next hop of the entry that x has for d, if the edge fails
abbrev pub failing_at : Tables → ℕ → ℕ → Option ℕ
failing_at t x d = failing_by t x d (t x d)

-- ---- all

abbrev pub is_before : ℕ → ℕ → FailingEdge → Bool
is_before d x e = nat_lt d e.dest || ((d == e.dest) && nat_lt x e.node)

-- the lesser of the edge found so far and one that fails, if there is one with this next hop
abbrev pub lesser : Option FailingEdge → ℕ → ℕ → Option ℕ → Option FailingEdge
lesser best d x None = best
lesser None d x (Some y) = Some (record { dest = d; node = x; next = y })
lesser (Some e) d x (Some y) =
    if is_before d x e then Some (record { dest = d; node = x; next = y }) else Some e

-- the least of the edge found so far and the failing edges of x for these destinations
abbrev pub search_rows : Tables → ℕ → Table → Option FailingEdge → Option FailingEdge
search_rows t x [] best = best
search_rows t x (e ∷ es) best = search_rows t x es (lesser best e.0 x (failing_at t x e.0))

abbrev pub search : Tables → ShownTables → Option FailingEdge → Option FailingEdge
search t [] best = best
search t (s ∷ ss) best = search t ss (search_rows t s.0 s.1 best)
