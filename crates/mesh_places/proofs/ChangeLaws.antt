-- The changes that follow where a node comes to a place, one after another.
use Rattle.std.proofs.Common.{◌≡◌, ℕ, zero, suc, ◌+◌, ◌<◌, ◌≤◌, Bool, true, false, cond, eqb, List, [], ◌∷◌, ◌++◌, Option, Some, None, length, is_some, refl, sym, ap, subst, ◌∙◌, arith, append-nil}
use Rattle.std.specs.Option.{unwrap_or}
use Rattle.std.specs.FinSet as sets
use Rattle.std.specs.Io.KnownBytes.{Appends}
use Rattle.std.proofs.lemmas.Grind.{flat_map-append}
use Rattle.mesh_base.specs.declared.events.Full.{Full as Counter}
use Rattle.mesh_base.specs.Members.{NodeIds}
use Rattle.mesh_base.specs.Meshes.{Nodes}
use Rattle.aodv_model.specs.Pairs.{Pairs, pair_cmp}
use Rattle.mesh_model.specs.Worlds.{World, Event, Link, Cut, Idle, Next, Full, Changed, step, with_link, without_link, are_linked, linked_below, pair, range, start, first_numbers}
use Rattle.mesh_model.specs.InMesh.{IsEvent}
use Rattle.mesh_io.specs.Puts.{AppendsPrefix}
use Rattle.mesh_io.proofs.Writing.{Appends-join, AppendsPrefix-join, AppendsPrefix-more}
use Rattle.mesh_grammar.proofs.Readings.{if_case}
use Rattle.mesh_text.specs.Schedule as schedule
use Rattle.mesh_text.specs.Schedule.{next_state, with_world, world_of}
use Rattle.mesh_text.specs.Runs.{run_state_after}
use Rattle.mesh_text.proofs.RunStates.{not_made}
use Rattle.mesh_text.proofs.RunStateLaws.{steps_after_events}
use Rattle.mesh_grid.specs.declared.place.Place.{Place}
use Rattle.mesh_grid.specs.declared.place.Places.{Places}
use Rattle.mesh_grid.specs.declared.line.Placing.{Placing}
use Rattle.mesh_grid.specs.Places.{is_within, place_of}
use Rattle.mesh_grid.specs.Links.{change, change_with, change_at, changes_below}
use Rattle.mesh_grid.specs.Text.{RunState, change_line, changes}
use Rattle.mesh_grid.proofs.PlaceSteps.{few_changes, first_changes, after-more, after-none, after-one}
use Rattle.mesh_places.specs.declared.placed.Placed.{Placed}
use Rattle.mesh_places.specs.RunStates.{IsChange, change_lines}

-- ---- a change fills no counter

link_fills : (w : World) (a b x : ℕ) (f : Counter) (t : Bool) → cond t Idle (Next (with_link w a b) Changed) ≡ Full x f → ⊥
link_fills w a b x f true is = let P : ⊥ = cc in P
link_fills w a b x f false is = let P : ⊥ = cc in P

cut_fills : (w : World) (a b x : ℕ) (f : Counter) (t : Bool) → cond t (Next (without_link w a b) Changed) Idle ≡ Full x f → ⊥
cut_fills w a b x f true is = let P : ⊥ = cc in P
cut_fills w a b x f false is = let P : ⊥ = cc in P

pub fills_nothing : (size : ℕ) (w : World) (e : Event) (x : ℕ) (f : Counter) → IsChange size e → step w e ≡ Full x f → ⊥
unfolding step
fills_nothing size w (Link a b) x f is full = link_fills w a b x f (are_linked w.links a b) full
fills_nothing size w (Cut a b) x f is full = cut_fills w a b x f (are_linked w.links a b) full
fills_nothing size w others x f is full = absurd is

pub is_event : (size : ℕ) (e : Event) → IsChange size e → IsEvent size e
is_event size (Link a b) is = is
is_event size (Cut a b) is = is
is_event size others is = absurd is

-- ---- what follows is a change

IsOfLink : Event → Type 0
IsOfLink (Link a b) = Unit {0}
IsOfLink (Cut a b) = Unit {0}
IsOfLink others = ⊥

AllOfLink : List Event → Type 0
AllOfLink [] = Unit {0}
AllOfLink (e ∷ es) = IsOfLink e

of_change : (in_reach stands : Bool) (x y : ℕ) → AllOfLink (change in_reach stands x y)
unfolding AllOfLink IsOfLink
of_change true false x y = tt
of_change false true x y = tt
of_change true true x y = tt
of_change false false x y = tt

of_with : (reach x : ℕ) (p : Place) (y : ℕ) (o : Option Place) (stands : Bool) → AllOfLink (change_with reach x p y o stands)
unfolding AllOfLink
of_with reach x p y None stands = tt
of_with reach x p y (Some q) stands = of_change (is_within reach p q) stands x y

of_at : (reach : ℕ) (places : Places) (near : NodeIds) (new : Placing) (y : ℕ) → AllOfLink (change_at reach places near new y)
unfolding AllOfLink
of_at reach places near new y =
    if_case AllOfLink (eqb y new.node) [] (change_with reach new.node new.place y (place_of places y) (sets.contains near y))
    (λ _. tt) (λ _. of_with reach new.node new.place y (place_of places y) (sets.contains near y))

change_of : (size : ℕ) (e : Event) → IsOfLink e → IsEvent size e → IsChange size e
unfolding IsOfLink
change_of size (Link a b) link is = is
change_of size (Cut a b) link is = is
change_of size others link is = absurd link

pub is_change : (size reach : ℕ) (places : Places) (near : NodeIds) (new : Placing) (y : ℕ) (e : Event) → e ∷ [] ≡ change_at reach places near new y → IsEvent size e → IsChange size e
unfolding AllOfLink
is_change size reach places near new y e one is =
    let all : AllOfLink (e ∷ []) = subst AllOfLink (sym one) (of_at reach places near new y) in
    change_of size e all is

-- ---- states

pub mesh_after : (m : schedule.RunState) (es : List Event) → (run_state_after m es).mesh ≡ m.mesh
unfolding run_state_after next_state
mesh_after m [] = refl
mesh_after m (e ∷ es) = mesh_after (next_state m e) es

-- a change makes the opening world where there is none
pub begun_next : (m n : schedule.RunState) (e : Event) → n ≡ with_world m → next_state n e ≡ next_state m e
unfolding next_state
begun_next m n e is = ap (λ k. next_state k e) is

pub still : (m n : schedule.RunState) (e : Event) → n ≡ next_state m e → n.mesh ≡ m.mesh
unfolding next_state
still m n e is = ap (λ k. k.mesh) is

pub no_change : (m : schedule.RunState) (es : List Event) → [] ≡ es → m ≡ run_state_after m es
no_change m es none = sym (after-none m) ∙ ap (run_state_after m) none

pub after_change : (m n : schedule.RunState) (e : Event) (es : List Event) → n ≡ next_state m e → e ∷ [] ≡ es → n ≡ run_state_after m es
after_change m n e es is one = is ∙ sym (after-one m e) ∙ ap (run_state_after m) one

-- of the run with places the state alone has changed, and then again
pub only_so : (p q r : Placed) → q ≡ record p { point = q.point } → r ≡ record q { point = r.point } → r ≡ record p { point = r.point }
only_so p q r before then = then ∙ ap (λ (k : Placed). record k { point = r.point }) before

-- ---- the nodes in range

pub range_there : (w : World) (x size : ℕ) (links : Pairs) (s : NodeIds) → s ≡ linked_below links x size → links ≡ w.links → size ≡ length w.nodes → s ≡ range w x
unfolding range
range_there w x size links s is same count = is ∙ ap (λ l. linked_below l x size) same ∙ ap (linked_below w.links x) count

none_below : (a n : ℕ) → linked_below sets.empty a n ≡ sets.empty
none_below a zero = refl
none_below a (suc n) =
    ap (λ t. cond t (sets.insert (linked_below sets.empty a n) n) (linked_below sets.empty a n)) (sets.contains-empty pair_cmp (pair a n)) ∙ none_below a n

-- before there is a world
pub range_before : (m : schedule.RunState) (x : ℕ) → false ≡ is_some m.world → sets.empty ≡ range (world_of m) x
unfolding range start
range_before m x none =
    let w : World = start m.variant (first_numbers m.mesh) in
    sym (ap (λ o. range (unwrap_or o w) x) (not_made m.world (sym none)) ∙ none_below x (length w.nodes))

-- ---- lines

pub line_whole : (mesh shown : Nodes) (e : Event) (es : List Event) (a b : Option (List ℕ)) → shown ≡ mesh → e ∷ [] ≡ es → Appends a b (change_line shown e) → Appends a b (change_lines mesh es)
line_whole mesh shown e es a b same one p =
    subst (λ l. Appends a b (change_lines mesh l)) one (subst (λ l. Appends a b l) (ap (λ k. change_line k e) same ∙ sym (append-nil (change_line mesh e))) p)

pub line_cut : (mesh shown : Nodes) (e : Event) (es : List Event) (a b : Option (List ℕ)) → shown ≡ mesh → e ∷ [] ≡ es → AppendsPrefix a b (change_line shown e) → AppendsPrefix a b (change_lines mesh es)
line_cut mesh shown e es a b same one p =
    subst (λ l. AppendsPrefix a b (change_lines mesh l)) one (subst (λ l. AppendsPrefix a b l) (ap (λ k. change_line k e) same ∙ sym (append-nil (change_line mesh e))) p)

-- ---- several changes

module _ (reach : ℕ) (places : Places) (near : NodeIds) (new : Placing) where
  one_more : (n : ℕ) → changes_below reach places near new (n + 1) ≡ changes_below reach places near new n ++ change_at reach places near new n
  one_more n = let e : n + 1 ≡ suc n = omega arith in ap (changes_below reach places near new) e

  lines_more : (mesh : Nodes) (n : ℕ)
      → change_lines mesh (changes_below reach places near new (n + 1)) ≡ change_lines mesh (changes_below reach places near new n) ++ change_lines mesh (change_at reach places near new n)
  lines_more mesh n = ap (change_lines mesh) (one_more n) ∙ flat_map-append (change_line mesh) (changes_below reach places near new n) (change_at reach places near new n)

  -- the state after the change with one node more
  pub state_more : (m at then : schedule.RunState) (es : List Event) (n : ℕ) → es ≡ change_at reach places near new n → at ≡ run_state_after m (changes_below reach places near new n) → then ≡ run_state_after at es
      → then ≡ run_state_after m (changes_below reach places near new (n + 1))
  state_more m at then es n same is next =
      next ∙ ap (run_state_after at) same ∙ ap (λ k. run_state_after k (change_at reach places near new n)) is ∙ sym (after-more m (changes_below reach places near new n) (change_at reach places near new n))
      ∙ ap (run_state_after m) (sym (one_more n))

  -- the mesh is the same, and the steps are few
  pub same_mesh : (m at : schedule.RunState) (n : ℕ) → at ≡ run_state_after m (changes_below reach places near new n) → at.mesh ≡ m.mesh
  same_mesh m at n is = ap (λ k. k.mesh) is ∙ mesh_after m (changes_below reach places near new n)

  pub few_steps : (m at : schedule.RunState) (n : ℕ) → at ≡ run_state_after m (changes_below reach places near new n) → at.steps ≤ m.steps + n
  few_steps m at n is =
      let steps : at.steps ≡ m.steps + length (changes_below reach places near new n) = ap (λ k. k.steps) is ∙ steps_after_events m (changes_below reach places near new n) in
      let few = few_changes reach places near new n in
      omega arith

  -- the text of the change with one node more
  pub text_more : (mesh shown : Nodes) (es : List Event) (n : ℕ) (a b c : Option (List ℕ)) → shown ≡ mesh → es ≡ change_at reach places near new n → Appends a b (change_lines mesh (changes_below reach places near new n))
      → Appends b c (change_lines shown es) → Appends a c (change_lines mesh (changes_below reach places near new (n + 1)))
  text_more mesh shown es n a b c same there p q =
      let r : Appends b c (change_lines mesh (change_at reach places near new n)) =
      subst (λ k. Appends b c (change_lines k (change_at reach places near new n))) same (subst (λ k. Appends b c (change_lines shown k)) there q) in
      Appends-join a b c _ _ _ (lines_more mesh n) p r

  -- a prefix of it is one of all
  pub text_cut : (mesh shown : Nodes) (es : List Event) (n size : ℕ) (a b c : Option (List ℕ)) → shown ≡ mesh → es ≡ change_at reach places near new n → n < size → Appends a b (change_lines mesh (changes_below reach places near new n))
      → AppendsPrefix b c (change_lines shown es) → AppendsPrefix a c (change_lines mesh (changes_below reach places near new size))
  text_cut mesh shown es n size a b c same there lt p q =
      let r : AppendsPrefix b c (change_lines mesh (change_at reach places near new n)) =
      subst (λ k. AppendsPrefix b c (change_lines k (change_at reach places near new n))) same (subst (λ k. AppendsPrefix b c (change_lines shown k)) there q) in
      let joined : AppendsPrefix a c (change_lines mesh (changes_below reach places near new (n + 1))) = AppendsPrefix-join a b c _ _ _ (lines_more mesh n) p r in
      let others = first_changes reach places near new size (n + 1) (omega arith) in
      AppendsPrefix-more a c (change_lines mesh (changes_below reach places near new (n + 1))) (change_lines mesh others.0) _
      (ap (change_lines mesh) others.1 ∙ flat_map-append (change_line mesh) (changes_below reach places near new (n + 1)) others.0) joined

-- all of them are those that follow
pub all_changes : (reach : ℕ) (m : RunState) (near : NodeIds) (new : Placing) (size : ℕ) → near ≡ range (world_of m.run) new.node → size ≡ length m.run.mesh → changes_below reach m.places near new size ≡ changes reach m new
all_changes reach m near new size is count = ap (λ s. changes_below reach m.places s new size) is ∙ ap (changes_below reach m.places (range (world_of m.run) new.node) new) count
