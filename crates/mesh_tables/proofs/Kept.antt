-- Maps of maps, as the lists that they are seen as.
use Rattle.std.proofs.Common.{◌≡◌, ℕ, ◌+◌, ◌≤◌, List, [], ◌∷◌, length, Option, Some, None, option_map, refl, ap, ◌∙◌, arith, eqb, ◌&&◌, not}
use Rattle.std.specs.Prelude.{is_some}
use Rattle.std.specs.Map.{lookup}
use Rattle.std.specs.Ordering.{nat_cmp, match_ordering}
use Rattle.std.specs.BTreeMap.{BTreeMap, insert_entry, is_at}
use Rattle.std.specs.declared.cmp.Ordering.{Ordering}
use Rattle.std.specs.declared.cmp.Ordering.TheVariants.{Less, Equal, Greater}
use Rattle.std.proofs.lemmas.List.{length-map}
use Rattle.std.proofs.lemmas.List.Sums.{count_by-le-length}
use Rattle.std.proofs.lemmas.Map.Made.{lookup-map_values}
use Rattle.aodv_model.specs.Quality.{is_val}
use Rattle.mesh_tables.specs.declared.row.Row.{Row}
use Rattle.mesh_tables.specs.Printed.{Table, ShownTables, table_in, edges_of, edges_in}
use Rattle.mesh_tables.specs.Kept.{shown_in, size_of}

pub table_in_shown : (ts : List (ℕ × BTreeMap ℕ Row)) (x : ℕ) → table_in (shown_in ts) x ≡ option_map (λ (m : BTreeMap ℕ Row). m.entries) (lookup (is_at (nat_cmp x)) ts)
table_in_shown ts x = lookup-map_values (λ (m : BTreeMap ℕ Row). m.entries) (is_at (nat_cmp x)) ts

pub shown_insert : (ts : List (ℕ × BTreeMap ℕ Row)) (x : ℕ) (m : BTreeMap ℕ Row) → shown_in (insert_entry nat_cmp ts x m) ≡ insert_entry nat_cmp (shown_in ts) x m.entries
shown_insert [] x m = refl
shown_insert (t ∷ ts) x m = by_order (nat_cmp x t.0) (shown_insert ts x m)
  where
    by_order : (o : Ordering) → shown_in (insert_entry nat_cmp ts x m) ≡ insert_entry nat_cmp (shown_in ts) x m.entries
        → shown_in (match_ordering o ((x, m) ∷ t ∷ ts) ((t.0, m) ∷ ts) (t ∷ insert_entry nat_cmp ts x m))
        ≡ match_ordering o ((x, m.entries) ∷ shown_in (t ∷ ts)) ((t.0, m.entries) ∷ shown_in ts) ((t.0, (t.1).entries) ∷ insert_entry nat_cmp (shown_in ts) x m.entries)
    by_order Less h = refl
    by_order Equal h = refl
    by_order Greater h = ap (λ s. (t.0, (t.1).entries) ∷ s) h

pub size_insert : (ts : ShownTables) (x : ℕ) (rows : Table) → size_of (insert_entry nat_cmp ts x rows) ≤ size_of ts + length rows
size_insert [] x rows = omega arith
size_insert (t ∷ ts) x rows = by_order (nat_cmp x t.0) (size_insert ts x rows)
  where
    by_order : (o : Ordering) → size_of (insert_entry nat_cmp ts x rows) ≤ size_of ts + length rows
        → size_of (match_ordering o ((x, rows) ∷ t ∷ ts) ((t.0, rows) ∷ ts) (t ∷ insert_entry nat_cmp ts x rows)) ≤ size_of (t ∷ ts) + length rows
    by_order Less h = let fits : length rows + (length t.1 + size_of ts) ≤ (length t.1 + size_of ts) + length rows = omega arith in fits
    by_order Equal h = let fits : length rows + size_of ts ≤ (length t.1 + size_of ts) + length rows = omega arith in fits
    by_order Greater h =
        let fits : length t.1 + size_of (insert_entry nat_cmp ts x rows) ≤ (length t.1 + size_of ts) + length rows = omega arith in fits

pub length_shown : (ts : List (ℕ × BTreeMap ℕ Row)) → length (shown_in ts) ≡ length ts
length_shown ts = simp length-map

-- ---- edges are entries

edges_fit : (x : ℕ) (rows : Table) → edges_of x rows ≤ length rows
edges_fit x rows = count_by-le-length (λ (e : ℕ × Row). is_val (e.1).flag && not (eqb e.0 x)) rows

pub edges_within : (ts : ShownTables) → edges_in ts ≤ size_of ts
edges_within [] = let zero : 0 ≤ 0 = omega arith in zero
edges_within (t ∷ ts) =
    let one = edges_fit t.0 t.1 in
    let rest = edges_within ts in
    let all : edges_of t.0 t.1 + edges_in ts ≤ length t.1 + size_of ts = omega arith in all

-- ---- whether a node was shown

pub has_table : (ts : List (ℕ × BTreeMap ℕ Row)) (x : ℕ) → is_some (table_in (shown_in ts) x) ≡ is_some (lookup (is_at (nat_cmp x)) ts)
has_table ts x = ap is_some (table_in_shown ts x) ∙ by_case (lookup (is_at (nat_cmp x)) ts)
  where
    by_case : (o : Option (BTreeMap ℕ Row)) → is_some (option_map (λ (m : BTreeMap ℕ Row). m.entries) o) ≡ is_some o
    by_case None = refl
    by_case (Some m) = refl
