-- What an event has changed of a node's block: the lines that went, and those that came.
use Rattle.std.specs.Prelude.{ℕ, Bool, true, false, if◌then◌else◌, List, [], ◌∷◌, ◌++◌, Option, Some, None, codes, drop, map, count_by}
use Rattle.std.specs.List.{flat_map}
use Rattle.std.specs.Str.{bytes_eq}
use Rattle.mesh_base.specs.Meshes.{Nodes}
use Rattle.mesh_base.specs.Parts.{parts}
use Rattle.mesh_model.specs.Worlds.{Event}
use Rattle.mesh_grammar.specs.Written.{line}
use Rattle.mesh_text.specs.Lines.{name_of}
use Rattle.mesh_text.specs.Schedule.{RunState, outcome_at, next_state}
use Rattle.mesh_blocks.specs.Blocks.{changed_by, shown_node}

-- ---- the lines of a text

-- all but the last
abbrev pub but_last : List (List ℕ) → List (List ℕ)
but_last [] = []
but_last (l ∷ []) = []
but_last (l ∷ k ∷ ks) = l ∷ but_last (k ∷ ks)

-- the lines of a text, each without its LF. What comes after the last LF is no line
unfoldable pub lines_of : List ℕ → List (List ℕ)
lines_of text = but_last (parts 10 text)

-- whether a line is among these
abbrev pub stands_in : List ℕ → List (List ℕ) → Bool
stands_in l [] = false
stands_in l (k ∷ ks) = if bytes_eq k l then true else stands_in l ks

-- those before its first occurrence, or all if it isn't among them
abbrev pub lines_before : List ℕ → List (List ℕ) → List (List ℕ)
lines_before l [] = []
lines_before l (k ∷ ks) = if bytes_eq k l then [] else k ∷ lines_before l ks

-- those after its first occurrence, or none if it isn't among them
abbrev pub lines_behind : List ℕ → List (List ℕ) → List (List ℕ)
lines_behind l [] = []
lines_behind l (k ∷ ks) = if bytes_eq k l then ks else lines_behind l ks

-- ---- from some lines to others

-- a line that went, or one that came
pub data Change : Type 0 where
  Went : (line : List ℕ) → Change
  Came : (line : List ℕ) → Change

-- the changes up to line l, which was there before: if it is in `after`, it stays, and the lines
-- before its first occurrence there came; otherwise it went
abbrev pub changes_to : List ℕ → List (List ℕ) → List Change
changes_to l after = if stands_in l after then map Came (lines_before l after) else Went l ∷ []

-- what is then left of `after`: if l stays, the lines after its first occurrence; otherwise all
abbrev pub left_by : List ℕ → List (List ℕ) → List (List ℕ)
left_by l after = if stands_in l after then lines_behind l after else after

-- the changes from the lines `before` to the lines `after`: those up to each line of `before`, in
-- order; and then all lines that are left came
unfoldable pub changes : (before after : List (List ℕ)) → List Change
changes [] after = map Came after
changes (l ∷ before) after = changes_to l after ++ changes before (left_by l after)

-- ---- what leads from the lines before to the lines after

-- the lines that went
abbrev pub lines_gone : List Change → List (List ℕ)
lines_gone [] = []
lines_gone (Went l ∷ cs) = l ∷ lines_gone cs
lines_gone (Came l ∷ cs) = lines_gone cs

-- the lines that came
abbrev pub lines_come : List Change → List (List ℕ)
lines_come [] = []
lines_come (Went l ∷ cs) = lines_come cs
lines_come (Came l ∷ cs) = l ∷ lines_come cs

-- how often a line occurs among these
abbrev pub times : List ℕ → List (List ℕ) → ℕ
times l ls = count_by (λ k. bytes_eq k l) ls

-- ---- their text

-- a mark, and then a line of a block without the two blanks that it begins with
abbrev pub marked : List ℕ → List ℕ → List ℕ
marked mark l = line (mark ++ drop 2 l)

abbrev pub change_text : Change → List ℕ
change_text (Went l) = marked (codes "  - ") l
change_text (Came l) = marked (codes "  + ") l

abbrev pub changes_text : List Change → List ℕ
changes_text cs = flat_map change_text cs

-- the line that names a node that has changed
abbrev pub changed_line : Nodes → ℕ → List ℕ
changed_line mesh x = line (codes "changed " ++ name_of mesh x)

-- that line for a node whose block had this text, and what has changed of the block in state n
unfoldable pub changed_from : (before : List ℕ) → RunState → ℕ → List ℕ
changed_from before n x =
    changed_line n.mesh x ++ changes_text (changes (lines_of before) (lines_of (shown_node n x)))

-- ---- below an event

-- what is written of a node that has changed between two states, if one has
abbrev pub changed_if : (m n : RunState) → Option ℕ → List ℕ
changed_if m n None = []
changed_if m n (Some x) = changed_from (shown_node m x) n x

-- what is written below an event that comes in state m: the node that the event has changed, and
-- what has changed of its block from that state to the one after the event
unfoldable pub changes_below : RunState → Event → List ℕ
changes_below m e = changed_if m (next_state m e) (changed_by e (outcome_at m e))
