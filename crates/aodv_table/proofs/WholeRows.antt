-- Rows of which the precursors are kept apart.
use Rattle.std.proofs.Common.{◌≡◌, ◌<◌, ℕ, zero, suc, List, [], ◌∷◌, length, get_or, slice_set, Option, None, Some, refl, ap, sym, ◌∙◌, arith}
use Rattle.std.proofs.lemmas.List.{length-set}
use Rattle.std.specs.FinSet as sets
use Rattle.mesh_base.specs.Members.{NodeIds}
use Rattle.aodv_model.specs.declared.entry.Entry.{Entry}
use Rattle.aodv_model.specs.Tables.{pre_in}
use Rattle.aodv_table.specs.Indexed.{with_precursors, whole_rows, AreEmpty}

abbrev Rows : Type 0
Rows = List (Option Entry)

-- a row without its precursors
abbrev pub bare : Option Entry → Option Entry
bare o = with_precursors o sets.empty

pub length_whole : (rows : Rows) (precursors : List NodeIds) → length precursors ≡ length rows → length (whole_rows rows precursors) ≡ length rows
unfolding whole_rows
length_whole [] precursors same = refl
length_whole (row ∷ rows) [] same = absurd (omega arith)
length_whole (row ∷ rows) (nodes ∷ precursors) same = ap suc (length_whole rows precursors (omega arith))

-- what is read at a row
pub whole_read : (rows : Rows) (precursors : List NodeIds) (d : ℕ) (row : Option Entry) (nodes : NodeIds) → length precursors ≡ length rows → d < length rows
    → row ≡ get_or rows d row → nodes ≡ get_or precursors d nodes → with_precursors row nodes ≡ get_or (whole_rows rows precursors) d None
unfolding whole_rows
whole_read [] precursors d row nodes same lt is_row is_nodes = absurd (omega arith)
whole_read (r ∷ rows) [] d row nodes same lt is_row is_nodes = absurd (omega arith)
whole_read (r ∷ rows) (p ∷ precursors) zero row nodes same lt is_row is_nodes = ap (λ (o : Option Entry). with_precursors o nodes) is_row ∙ ap (with_precursors r) is_nodes
whole_read (r ∷ rows) (p ∷ precursors) (suc d) row nodes same lt is_row is_nodes = whole_read rows precursors d row nodes (omega arith) (omega arith) is_row is_nodes

whole_again : (o : Option Entry) → with_precursors (bare o) (pre_in o) ≡ o
whole_again None = refl
whole_again (Some e) = refl

-- a row is written
pub whole_written : (rows : Rows) (precursors : List NodeIds) (d : ℕ) (o : Option Entry) → length precursors ≡ length rows → d < length rows
    → whole_rows (slice_set rows d (bare o)) (slice_set precursors d (pre_in o)) ≡ slice_set (whole_rows rows precursors) d o
unfolding whole_rows
whole_written [] precursors d o same lt = absurd (omega arith)
whole_written (r ∷ rows) [] d o same lt = absurd (omega arith)
whole_written (r ∷ rows) (p ∷ precursors) zero o same lt = ap (λ (x : Option Entry). x ∷ whole_rows rows precursors) (whole_again o)
whole_written (r ∷ rows) (p ∷ precursors) (suc d) o same lt = ap (λ (xs : Rows). with_precursors r p ∷ xs) (whole_written rows precursors d o (omega arith) (omega arith))

pub length_written : (rows : Rows) (precursors : List NodeIds) (d : ℕ) (o : Option Entry) (nodes : NodeIds) → length precursors ≡ length rows
    → length (slice_set precursors d nodes) ≡ length (slice_set rows d o)
length_written rows precursors d o nodes same = length-set precursors d nodes ∙ same ∙ sym (length-set rows d o)

pub whole_empty : (rows : Rows) (precursors : List NodeIds) → AreEmpty rows → AreEmpty (whole_rows rows precursors)
unfolding whole_rows
whole_empty [] precursors none = tt
whole_empty (r ∷ rows) [] none = tt
whole_empty (r ∷ rows) (p ∷ precursors) none = (ap (λ (x : Option Entry). with_precursors x p) none.0, whole_empty rows precursors none.1)
