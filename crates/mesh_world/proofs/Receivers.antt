-- The receivers of a cast.
use Rattle.std.proofs.Common.{◌≡◌, ℕ, ◌+◌, ◌-◌, Bool, true, false, ◌&&◌, ◌||◌, List, ◌++◌, length, refl, sym, ap, ◌∙◌, arith}
use Rattle.std.proofs.lemmas.List.{append-nil}
use Rattle.std.proofs.lemmas.Bool.{eqb-true}
use Rattle.std.proofs.lemmas.Cmp.{nat_cmp_total}
use Rattle.std.specs.Cmp.{unsigned_tied}
use Rattle.std.specs.Ordering.{nat_cmp, eq_by_cmp}
use Rattle.std.specs.FinSet as sets
use Rattle.mesh_base.specs.Members.{NodeIds}
use Rattle.mesh_base.specs.Meshes.{Nodes}
use Rattle.mesh_base.specs.declared.events.Cast as cast
use Rattle.mesh_base.specs.declared.events.Cast.TheVariants as casts
use Rattle.aodv_model.specs.Handlers.{one}
use Rattle.aodv_table.proofs.Lookups.{same_nodes}
use Rattle.mesh_model.specs.Worlds.{receivers}
use Rattle.mesh_model.proofs.MeshSteps.{receivers_in}
use Rattle.mesh_meaning.specs.Answers.{cast_in}
use Rattle.mesh_radio.specs.Copies.{copies_to}
use Rattle.mesh_radio.specs.Radios.{RadioState, with_copies}
use Rattle.mesh_world.specs.Parts.{near_receivers, with_cast}
use Rattle.mesh_world.proofs.Casts.{no_members}

or_left : (a b : Bool) → b ≡ false → (a || b) ≡ true → a ≡ true
or_left true b e t = refl
or_left false b e t = cc

-- the only member of the set of y is y
one_is : (y q : ℕ) → sets.contains (one y) q ≡ true → q ≡ y
one_is y q t = eqb-true q y (sym (unsigned_tied q y) ∙ or_left (eq_by_cmp nat_cmp q y) (sets.contains (sets.empty {R = nat_cmp}) q) (sets.contains-empty nat_cmp q) (sym (sets.contains-insert nat_cmp_total sets.empty y q) ∙ t))

absorbs : (b c : Bool) → (b ≡ true → c ≡ true) → b ≡ (b && c)
absorbs true c h = sym (h refl)
absorbs false c h = refl

excludes : (b c : Bool) → (b ≡ true → c ≡ false) → false ≡ (b && c)
excludes true c h = sym (h refl)
excludes false c h = refl

one_here : (near : NodeIds) (y : ℕ) → sets.contains near y ≡ true → one y ≡ sets.intersection (one y) near
one_here near y here = same_nodes (one y) (sets.intersection (one y) near) (λ q.
    absorbs (sets.contains (one y) q) (sets.contains near q) (λ t. ap (sets.contains near) (one_is y q t) ∙ here)
    ∙ sym (sets.contains-intersection nat_cmp_total (one y) near q))

one_away : (near : NodeIds) (y : ℕ) → sets.contains near y ≡ false → sets.empty ≡ sets.intersection (one y) near
one_away near y away = same_nodes sets.empty (sets.intersection (one y) near) (λ q.
    sets.contains-empty nat_cmp q
    ∙ excludes (sets.contains (one y) q) (sets.contains near q) (λ t. ap (sets.contains near) (one_is y q t) ∙ away)
    ∙ sym (sets.contains-intersection nat_cmp_total (one y) near q))

pub reached_one : (mesh : Nodes) (near : NodeIds) (c : cast.Cast) (packet : List ℕ) (y : ℕ) (s none : NodeIds) (b : Bool)
    → c ≡ casts.One y → none ≡ sets.empty → b ≡ sets.contains near y → b ≡ true → s ≡ sets.insert none y → s ≡ near_receivers mesh near c packet
unfolding receivers
reached_one mesh near c packet y s none b is empty has here added =
    added ∙ ap (λ (e : NodeIds). sets.insert e y) empty ∙ one_here near y (sym has ∙ here) ∙ sym (ap (λ (k : cast.Cast). near_receivers mesh near k packet) is)

pub reached_none : (mesh : Nodes) (near : NodeIds) (c : cast.Cast) (packet : List ℕ) (y : ℕ) (none : NodeIds) (b : Bool)
    → c ≡ casts.One y → none ≡ sets.empty → b ≡ sets.contains near y → b ≡ false → none ≡ near_receivers mesh near c packet
unfolding receivers
reached_none mesh near c packet y none b is empty has away =
    empty ∙ one_away near y (sym has ∙ away) ∙ sym (ap (λ (k : cast.Cast). near_receivers mesh near k packet) is)

pub reached_near : (mesh : Nodes) (near : NodeIds) (c : cast.Cast) (packet : List ℕ) (s : NodeIds) → s ≡ near_receivers mesh near c packet → (q : ℕ) → sets.contains s q ≡ true → sets.contains near q ≡ true
reached_near mesh near c packet s is q t = receivers_in near (cast_in mesh c packet) q (sym (ap (λ (r : NodeIds). sets.contains r q) is) ∙ t)

not_true : (b : Bool) (c : Bool) → (b ≡ true → c ≡ true) → c ≡ false → b ≡ false
not_true true c h f = sym (h refl) ∙ f
not_true false c h f = refl

pub reached_apart : (mesh : Nodes) (near : NodeIds) (c : cast.Cast) (packet : List ℕ) (s : NodeIds) (x : ℕ) → s ≡ near_receivers mesh near c packet → sets.contains near x ≡ false → sets.contains s x ≡ false
reached_apart mesh near c packet s x is apart = not_true (sets.contains s x) (sets.contains near x) (reached_near mesh near c packet s is x) apart

-- ---- a cast to nobody

pub reached_nobody : (mesh : Nodes) (near : NodeIds) (c : cast.Cast) (packet : List ℕ) (s : NodeIds) → c ≡ casts.Nothing → s ≡ sets.empty → s ≡ near_receivers mesh near c packet
unfolding receivers
reached_nobody mesh near c packet s is empty = empty ∙ sym (ap (λ (k : cast.Cast). near_receivers mesh near k packet) is)

no_copies : (r : RadioState) (x : ℕ) (packet : List ℕ) → r ≡ with_copies r x packet sets.empty
no_copies r x packet =
    let next : r.next_copy ≡ r.next_copy + 0 = omega arith in
    let room : r.room ≡ r.room - 0 = omega arith in
    (λ i. record r { flying = sym (append-nil r.flying) i; next_copy = next i; room = room i })
    ∙ ap (λ (tos : List ℕ). record r { flying = r.flying ++ copies_to tos r.next_copy x packet; next_copy = r.next_copy + length tos; room = r.room - length tos }) (sym (no_members r.size))

-- the radio is as it was
pub same_air : (mesh : Nodes) (r : RadioState) (x : ℕ) (near : NodeIds) (c : cast.Cast) (packet : List ℕ) → c ≡ casts.Nothing → r ≡ with_cast mesh r x near c packet
same_air mesh r x near c packet is = no_copies r x packet ∙ ap (with_copies r x packet) (reached_nobody mesh near c packet sets.empty is refl)
