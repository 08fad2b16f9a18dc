-- Sound tables have no cycle: along a walk entries become better.
use Rattle.std.proofs.Common.{◌≡◌, ℕ, ◌<◌, ◌⊎◌, true, List, [], ◌∷◌, refl, ap, subst, arith, inl, inr}
use Rattle.std.proofs.lemmas.Bool.Decides.{nat_tests}
use Rattle.std.proofs.lemmas.Bool.{cases_Bool}
use Rattle.aodv_model.specs.Quality.{nsqn}
use Rattle.aodv_model.specs.declared.entry.Flag.TheVariants.{Val}
use Rattle.mesh_tables.specs.declared.row.Row.{Row}
use Rattle.mesh_tables.specs.Tables.{Tables, Edge, IsWalk, last, Cycle, IsSound, entry_of, is_better_row}

abbrev pub IsBetter : Row → Row → Type 0
IsBetter a b = (b.dsn < a.dsn) ⊎ ((a.dsn ≡ b.dsn) × (a.hops < b.hops))

better_then : (a b c : Row) → IsBetter b a → IsBetter c b → IsBetter c a
better_then a b c x y = grind arith

not_better : (a b : Row) → a ≡ b → IsBetter b a → ⊥
not_better a b e x = let d = ap (λ (e : Row). e.dsn) e in let h = ap (λ (e : Row). e.hops) e in grind arith

-- a valid entry's net number is its number
net : (a : Row) → a.flag ≡ Val → nsqn (entry_of a) ≡ a.dsn
net a v = rw v refl

said_better : (a b : Row) → a.flag ≡ Val → b.flag ≡ Val → is_better_row a b ≡ true → IsBetter a b
said_better a b v w better = let m = net a v in let n = net b w in grind (arith, nat_tests)

edge_better : (t : Tables) (d x y z : ℕ) → IsSound t → (first : Edge t d x y) (second : Edge t d y z) → IsBetter second.row first.row
edge_better t d x y z sound first second =
    elim (cases_Bool (is_better_row second.row first.row)) [
      | inl better ↦ said_better second.row first.row second.valid first.valid better
      | inr worse ↦ absurd (sound d x y (record { edge = first; other = second.apart; row = second.row; there = second.there; valid = second.valid; worse = worse }))
    ]

walk_better : (t : Tables) (d x y : ℕ) (ys : List ℕ) (a b : ℕ) → IsSound t → (first : Edge t d x y) → IsWalk t d (y ∷ ys) → last y ys ≡ a → (end : Edge t d a b) → IsBetter end.row first.row
walk_better t d x y [] a b sound first walk is end =
    edge_better t d x a b sound (subst (λ k. Edge t d x k) is first) end
walk_better t d x y (z ∷ zs) a b sound first walk is end =
    better_then first.row (walk.0).row end.row (edge_better t d x y z sound first walk.0) (walk_better t d y z zs a b sound walk.0 walk.1 is end)

pub no_cycle : (t : Tables) (d : ℕ) → IsSound t → ¬ (Cycle t d)
no_cycle t d sound c = not_better ((c.walk).0).row ((c.walk).0).row refl (walk_better t d c.first c.second c.others c.first c.second sound (c.walk).0 (c.walk).1 c.closed (c.walk).0)
