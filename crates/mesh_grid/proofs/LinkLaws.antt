-- The links that stand are those that follow from the places.
use Rattle.std.proofs.Common.{◌≡◌, ◌≢◌, ◌⊎◌, inl, inr, ℕ, zero, suc, ◌+◌, ◌<◌, ◌≤◌, Bool, true, false, cond, not, ◌&&◌, ◌||◌, eqb, leb, List, [], ◌∷◌, ◌++◌, Option, Some, None, Result, Ok, Err, length, length-set, replicate, take, get_or, refl, sym, ap, ap₂, subst, ◌∙◌, arith, is_some, codes, ◌*◌}
use Rattle.std.specs.Prelude.{min, max}
use Rattle.std.specs.Option.{unwrap_or, option_map}
use Rattle.std.specs.List.{flat_map, AllByRecursion}
use Rattle.std.specs.FinSet as sets
use Rattle.std.proofs.lemmas.Bool.{ne_eqb, eq-eqb, cases_lt, cases_eq}
use Rattle.std.proofs.lemmas.List.{length-replicate, get_or-set_same, get_or-set_other}
use Rattle.std.proofs.Math.Bool.{and-false}
use Rattle.mesh_base.specs.declared.limits.TheConstants.{MOST_NODES}
use Rattle.mesh_base.specs.declared.events.Variant.{Variant}
use Rattle.mesh_base.specs.Meshes.{with_node}
use Rattle.mesh_base.proofs.Lemmas.Bools.{eqb_turned}
use Rattle.aodv_model.specs.Cores.{Item, New, Heard}
use Rattle.aodv_model.specs.Pairs.{pair_cmp}
use Rattle.mesh_model.proofs.Cases.{by_cases, push_is}
use Rattle.mesh_model.specs.Worlds as worlds
use Rattle.mesh_model.specs.Worlds.{World, Event, Turn, Send, Ask, Deliver, range, done_by, push, Outcome, Idle, Next, without_copy, step, after, run, start, first_numbers, pair, are_linked}
use Rattle.mesh_model.specs.Choices.{first_turn, first_copy, first_send, first_ask, first_of, pick}
use Rattle.mesh_model.proofs.Acyclic.{no_cycle}
use Rattle.mesh_model.proofs.Chosen.{OnSome}
use Rattle.mesh_model.proofs.Links.{pair_apart}
use Rattle.mesh_grammar.specs.declared.fault.LineFault.{LineFault}
use Rattle.mesh_shell.specs.Pieces.{Piece, Whole, Long, Beyond}
use Rattle.mesh_shell.specs.Fold as shell
use Rattle.mesh_grammar.specs.Written.{line}
use Rattle.mesh_text.specs.Schedule as schedule
use Rattle.mesh_text.specs.Schedule.{AcceptedLine, Nothing, NewNode, Does, Chooses, ShowsNode, ShowsRoute, ShowsFlight, world_of, with_world, next_state, with_line_read, outcome_at}
use Rattle.mesh_text.specs.Lines.{words_of}
use Rattle.mesh_text.specs.Ranges.{IsInTime}
use Rattle.mesh_text.specs.Auto as auto
use Rattle.mesh_text.specs.Runs.{run_state_after}
use Rattle.mesh_text.specs.Text.{pieces_of_input, LineOutcome, On, Refused, Full, outcome_by_events, outcome_of_auto, outcome_of_line, outcome_of_read}
use Rattle.mesh_text.specs.Text as text
use Rattle.mesh_text.proofs.Picks.{each_chosen}
use Rattle.mesh_text.proofs.InRange.{Allowed, line_allowed}
use Rattle.mesh_text.proofs.Echoes.{read_line_is_written_as_it_was}
use Rattle.mesh_text.proofs.RunStates.{IsKept, IsKeptCame, opening_kept, not_made}
use Rattle.mesh_text.proofs.RunStateLaws.{world_after_events, mesh_after_events}
use Rattle.mesh_grid.specs.declared.place.Place.{Place}
use Rattle.mesh_grid.specs.declared.place.Places.{Places}
use Rattle.mesh_grid.specs.declared.line.Placing.{Placing}
use Rattle.mesh_grid.specs.Places.{apart, squared_distance, no_places, place_of, with_place}
use Rattle.mesh_grid.specs.Lines.{placing_of}
use Rattle.mesh_grid.specs.Links.{are_near, is_in_reach, may_come, with_placing}
use Rattle.mesh_grid.specs.Text.{RunState, opening, has_begun, changes, change_line, outcome_of_placing, other_line, outcome_by, outcome_of_piece, places_by, places_after, next, RunText, goes_on, text_from}
use Rattle.mesh_grid.specs.Runs.{run_state_at}
use Rattle.mesh_grid.specs.Laws.{LinksFollowPlaces, LinesAreLoopFree}
use Rattle.mesh_grid.proofs.PlaceLines.{ComesIn, comes_in, KeepsLinks, no_link_line}
use Rattle.mesh_grid.proofs.Changes.{linked_turned, linked_with, unchanged, changed, range_is}
use Rattle.mesh_grid.proofs.PlaceRuns.{other_allowed, piece_kept}

-- ---- events that change no link

push_same : (w : World) (x : ℕ) (item : Item) → (push w x item).links ≡ w.links
push_same w x item = ap (λ (v : World). v.links) (push_is w x item)

same_links : (w : World) (e : Event) → KeepsLinks e → (after w (step w e)).links ≡ w.links
unfolding done_by
same_links w e keeps = by_cases w (λ e o. KeepsLinks e → (after w o).links ≡ w.links) (record {
  idle = λ e none keeps. refl;
  full = λ e x n f is full keeps. refl;
  given = λ x d b n is keeps. push_same w x (New b d);
  taken = λ x core item items is free keeps. refl;
  sent = λ x d n is may free keeps. refl;
  asked = λ x d n is may free keeps. refl;
  linked = λ a b apart keeps. absurd keeps;
  cut = λ a b stands keeps. absurd keeps;
  heard = λ id c is keeps. push_same (without_copy w id) c.to (Heard c.from c.message);
  lost = λ id c is keeps. refl;
  doubled = λ id c is keeps. refl;
}) e keeps

-- no event that is chosen does
picked_keeps : (w : World) → OnSome KeepsLinks (pick w)
unfolding OnSome pick
picked_keeps w = by (first_turn w) (first_copy w) (first_send w) (first_ask w)
  where
    by : (a b : Option ℕ) (c d : Option (ℕ × ℕ)) → OnSome KeepsLinks (first_of (option_map Turn a ∷ option_map Deliver b ∷ option_map (λ p. Send p.0 p.1) c ∷ option_map (λ p. Ask p.0 p.1) d ∷ []))
    by (Some x) b c d = tt
    by None (Some id) c d = tt
    by None None (Some p) d = tt
    by None None None (Some p) = tt
    by None None None None = tt

-- ---- lines that change no link

-- from m to n the same links stand, of the same nodes
record Stays (m n : schedule.RunState) : Type 0 where
  links : (world_of n).links ≡ (world_of m).links
  mesh : n.mesh ≡ m.mesh

StaysRan : schedule.RunState → auto.EventsOutcome → Type 0
StaysRan m (auto.Ended text n) = Stays m n
StaysRan m (auto.Full text n e field) = Unit {0}

stays_more : (m : schedule.RunState) (e : Event) (text : List ℕ) (r : auto.EventsOutcome) → KeepsLinks e → StaysRan (next_state m e) r → StaysRan m (auto.before text r)
unfolding StaysRan next_state
stays_more m e text (auto.Ended others n) keeps is = record { links = is.links ∙ same_links (world_of m) e keeps; mesh = is.mesh }
stays_more m e text (auto.Full others n f field) keeps is = tt

stays_done : (m : schedule.RunState) (e : Event) (o : Outcome) (others : schedule.RunState → auto.EventsOutcome) → KeepsLinks e → StaysRan (next_state m e) (others (next_state m e)) → StaysRan m (auto.done_then m e o others)
unfolding StaysRan
stays_done m e Idle others keeps is = stays_more m e _ (others (next_state m e)) keeps is
stays_done m e (worlds.Full x field) others keeps is = tt
stays_done m e (Next w world_effect) others keeps is = stays_more m e _ (others (next_state m e)) keeps is

stays_events : (m : schedule.RunState) (es : List Event) → AllByRecursion KeepsLinks es → StaysRan m (auto.outcome_of_events m es)
unfolding StaysRan auto.outcome_of_events
stays_events m [] keeps = record { links = refl; mesh = refl }
stays_events m (e ∷ es) keeps = stays_done m e (outcome_at m e) (λ n. auto.outcome_of_events n es) keeps.0 (stays_events (next_state m e) es keeps.1)

chosen_keep : (most : ℕ) (m : schedule.RunState) → AllByRecursion KeepsLinks (auto.events_chosen most m)
chosen_keep most m = each_chosen (λ n. Unit {0}) KeepsLinks (λ n _. picked_keeps (world_of n)) (λ n e keeps _. tt) most m tt

-- a line that names no link
NoLink : AcceptedLine → Type 0
NoLink (Does e) = KeepsLinks e
NoLink others = Unit {0}

-- it leads to a state with the same links of the same nodes; or it adds a node where no world is made
IsNode : AcceptedLine → Type 0
IsNode (NewNode address first) = Unit {0}
IsNode others = ⊥

StaysCame : schedule.RunState → AcceptedLine → LineOutcome → Type 0
StaysCame m a (On text n) = Stays m n ⊎ (IsNode a × ((world_of n).links ≡ (world_of m).links))
StaysCame m a (Refused why) = Unit {0}
StaysCame m a (Full text n e field) = Unit {0}

stays_by_events : (m : schedule.RunState) (a : AcceptedLine) (r : auto.EventsOutcome) → StaysRan (with_world m) r → StaysCame m a (outcome_by_events r)
unfolding StaysCame StaysRan
stays_by_events m a (auto.Ended text n) is = inl (record { links = is.links; mesh = is.mesh })
stays_by_events m a (auto.Full text n e field) is = tt

stays_of_auto : (m : schedule.RunState) (a : AcceptedLine) (text : List ℕ) (did : ℕ) (r : auto.EventsOutcome) → StaysRan (with_world m) r → StaysCame m a (outcome_of_auto text did r)
unfolding StaysCame StaysRan
stays_of_auto m a text did (auto.Ended others n) is = inl (record { links = is.links; mesh = is.mesh })
stays_of_auto m a text did (auto.Full others n e field) is = tt

-- before a world is made no link stands
fresh_links : (m n : schedule.RunState) → m.world ≡ None → n.world ≡ None → (world_of n).links ≡ (world_of m).links
unfolding start
fresh_links m n none too =
    ap (λ o. (unwrap_or o (start n.variant (first_numbers n.mesh))).links) too ∙ sym (ap (λ o. (unwrap_or o (start m.variant (first_numbers m.mesh))).links) none)

line_stays : (m : schedule.RunState) (a : AcceptedLine) → NoLink a → IsInTime (is_some m.world) a → StaysCame m a (outcome_of_line m a)
unfolding NoLink StaysCame IsNode outcome_of_line
line_stays m Nothing named early = inl (record { links = refl; mesh = refl })
line_stays m (NewNode address first) named early =
    let none : m.world ≡ None = not_made m.world early in
    inr (tt, fresh_links m (with_line_read (record m { mesh = with_node m.mesh address first })) none none)
line_stays m (Does e) named early = stays_by_events m (Does e) (auto.outcome_of_events (with_world m) (e ∷ [])) (stays_events (with_world m) (e ∷ []) (named, tt))
line_stays m (Chooses count) named early =
    let chosen : List Event = auto.events_chosen count (with_world m) in
    stays_of_auto m (Chooses count) (line (words_of m.mesh (Chooses count))) (length chosen) (auto.outcome_of_events (with_world m) chosen) (stays_events (with_world m) chosen (chosen_keep count (with_world m)))
line_stays m (ShowsNode x) named early = inl (record { links = refl; mesh = refl })
line_stays m (ShowsRoute x d) named early = inl (record { links = refl; mesh = refl })
line_stays m ShowsFlight named early = inl (record { links = refl; mesh = refl })

-- a line that is not about a place names no link
other_named : (m : RunState) (bytes : List ℕ) (a : AcceptedLine) → placing_of m.run.mesh bytes ≡ Ok None → other_line m bytes ≡ Ok a → NoLink a
unfolding NoLink words_of
other_named m bytes (Does e) other is =
    no_link_line m.run.mesh bytes e other (read_line_is_written_as_it_was m.run.mesh (has_begun m) bytes (Does e) is)
other_named m bytes others other is = tt

-- ---- what holds in each state

record Linked (reach : ℕ) (m : RunState) : Type 0 where
  kept : IsKept m.run
  size : length m.places.at ≡ MOST_NODES
  linked : (a b : ℕ) → are_linked (world_of m.run).links a b ≡ is_in_reach reach m.places a b
  within : (c : ℕ) → length m.run.mesh ≤ c → place_of m.places c ≡ None
  early : m.places.begun ≡ false → m.places ≡ no_places

abbrev nowhere : Option Place
nowhere = None

none_at : (n c : ℕ) → get_or (replicate n nowhere) c nowhere ≡ None
none_at zero c = refl
none_at (suc n) zero = refl
none_at (suc n) (suc c) = none_at n c

near_none : (reach : ℕ) (o : Option Place) → are_near reach o None ≡ false
near_none reach None = refl
near_none reach (Some p) = refl

-- nothing is within reach of a node that has no place
in_reach_none : (reach : ℕ) (places : Places) (a b : ℕ) → place_of places b ≡ None → is_in_reach reach places a b ≡ false
in_reach_none reach places a b none =
    ap (λ o. not (eqb a b) && are_near reach (place_of places a) o) none ∙ ap (λ c. not (eqb a b) && c) (near_none reach (place_of places a)) ∙ and-false (not (eqb a b))

none_in_reach : (reach a b : ℕ) → is_in_reach reach no_places a b ≡ false
none_in_reach reach a b = in_reach_none reach no_places a b (none_at MOST_NODES b)

opening_linked : (reach : ℕ) (v : Variant) → Linked reach (opening v)
unfolding start
opening_linked reach v = record {
  kept = opening_kept v;
  size = length-replicate MOST_NODES nowhere;
  linked = λ a b. sets.contains-empty pair_cmp (pair a b) ∙ sym (none_in_reach reach a b);
  within = λ c _. none_at MOST_NODES c;
  early = λ _. refl;
}

LinkedCame : ℕ → Places → LineOutcome → Type 0
LinkedCame reach places (On text n) = Linked reach (record { run = n; places = places })
LinkedCame reach places (Refused why) = Unit {0}
LinkedCame reach places (Full text n e field) = Unit {0}

-- ---- a line of another kind

same_linked : (reach : ℕ) (m : RunState) (n : schedule.RunState) → Linked reach m → Stays m.run n → IsKept n → Linked reach (record m { run = n })
same_linked reach m n is stays kept = record {
  kept = kept;
  size = is.size;
  linked = λ a b. ap (λ links. are_linked links a b) stays.links ∙ is.linked a b;
  within = λ c le. is.within c (subst (λ mesh. length mesh ≤ c) stays.mesh le);
  early = is.early;
}

grown_linked : (reach : ℕ) (m : RunState) (n : schedule.RunState) → Linked reach m → m.places.begun ≡ false → (world_of n).links ≡ (world_of m.run).links → IsKept n
    → Linked reach (record m { run = n })
grown_linked reach m n is fresh links kept = record {
  kept = kept;
  size = is.size;
  linked = λ a b. ap (λ s. are_linked s a b) links ∙ is.linked a b;
  within = λ c le. ap (λ places. place_of places c) (is.early fresh) ∙ none_at MOST_NODES c;
  early = is.early;
}

not_begun : (b s : Bool) (a : AcceptedLine) → IsNode a → IsInTime (b || s) a → b ≡ false
unfolding IsNode
not_begun true s (NewNode address first) node early = absurd (let P : ⊥ = cc in P)
not_begun false s (NewNode address first) node early = refl
not_begun b s others node early = absurd node

came_linked : (reach : ℕ) (m : RunState) (a : AcceptedLine) (c : LineOutcome) → Linked reach m → StaysCame m.run a c → IsKeptCame c → IsInTime (has_begun m) a → LinkedCame reach m.places c
unfolding StaysCame LinkedCame IsKeptCame
came_linked reach m a (On text n) is (inl stays) kept early = same_linked reach m n is stays kept
came_linked reach m a (On text n) is (inr node) kept early = grown_linked reach m n is (not_begun m.places.begun (is_some m.run.world) a node.0 early) node.1 kept
came_linked reach m a (Refused why) is stays kept early = tt
came_linked reach m a (Full text n e field) is stays kept early = tt

other_linked : (reach : ℕ) (m : RunState) (bytes : List ℕ) (r : Result AcceptedLine LineFault) → Linked reach m → placing_of m.run.mesh bytes ≡ Ok None → other_line m bytes ≡ r
    → Allowed m.run.mesh (is_some m.run.world) r → Allowed m.run.mesh (has_begun m) r → IsKeptCame (outcome_of_read m.run r) → LinkedCame reach m.places (outcome_of_read m.run r)
unfolding Allowed IsKeptCame LinkedCame
other_linked reach m bytes (Ok a) is other reads allowed early kept =
    came_linked reach m a (outcome_of_line m.run a) is (line_stays m.run a (other_named m bytes a other reads) allowed.1) kept early.1
other_linked reach m bytes (Err f) is other reads allowed early kept = tt

-- ---- a line about a place

near_turned : (reach : ℕ) (o p : Option Place) → are_near reach o p ≡ are_near reach p o
near_turned reach (Some p) (Some q) = ap (λ d. leb d (reach * reach)) distance
  where
    side : (m n : ℕ) → apart m n ≡ apart n m
    side m n = omega arith

    distance : squared_distance p q ≡ squared_distance q p
    distance = ap₂ (λ i j. i * i + j * j) (side p.x q.x) (side p.y q.y)
near_turned reach None None = refl
near_turned reach None (Some q) = refl
near_turned reach (Some p) None = refl

in_reach_turned : (reach : ℕ) (places : Places) (a b : ℕ) → is_in_reach reach places a b ≡ is_in_reach reach places b a
in_reach_turned reach places a b =
    ap₂ (λ c d. not c && d) (eqb_turned a b) (near_turned reach (place_of places a) (place_of places b))

in_reach_apart : (reach : ℕ) (places : Places) (a b : ℕ) → a ≢ b → is_in_reach reach places a b ≡ are_near reach (place_of places a) (place_of places b)
in_reach_apart reach places a b other = ap (λ c. not c && are_near reach (place_of places a) (place_of places b)) (ne_eqb a b other)

module _ (reach : ℕ) (m : RunState) (new : Placing) (is : Linked reach m) (inside : new.node < length m.run.mesh) where
  abbrev w : World
  w = world_of m.run

  abbrev x : ℕ
  x = new.node

  abbrev size : ℕ
  size = length m.run.mesh

  abbrev moved : Places
  moved = with_place m.places x new.place

  abbrev then : World
  then = run w (changes reach m new)

  stands : (y : ℕ) → y < size → are_linked w.links x y ≡ sets.contains (range w x) y
  stands y lt = let nodes = is.kept.size in range_is w x y (omega arith)

  place_here : place_of moved x ≡ Some new.place
  place_here = let few = is.kept.mesh.few in let all = is.size in get_or-set_same m.places.at x (Some new.place) None (omega arith)

  place_there : (c : ℕ) → c ≢ x → place_of moved c ≡ place_of m.places c
  place_there c other = get_or-set_other m.places.at x c (Some new.place) None other

  still : (a b : ℕ) → ((y : ℕ) → y < size → pair a b ≢ pair x y) → are_linked then.links a b ≡ is_in_reach reach m.places a b
  still a b other =
      unchanged reach m.places (range w x) new w size stands size (omega arith) a b other ∙ is.linked a b

  near_x : (y : ℕ) (o : Option Place) → place_of m.places y ≡ o → y ≢ x → (y < size) ⊎ (size ≤ y) → are_linked then.links x y ≡ are_near reach (Some new.place) o
  near_x y (Some q) at other (inl lt) =
      changed reach m.places (range w x) new w size stands size (omega arith) y lt other
      ∙ ap (λ o. linked_with reach new.place o (are_linked w.links x y)) at
  near_x y None at other (inl lt) =
      changed reach m.places (range w x) new w size stands size (omega arith) y lt other
      ∙ ap (λ o. linked_with reach new.place o (are_linked w.links x y)) at
      ∙ is.linked x y ∙ in_reach_none reach m.places x y at
  near_x y None at other (inr le) =
      still x y (λ z lt. pair_apart x y z (λ same. absurd (omega arith))) ∙ in_reach_none reach m.places x y at
  near_x y (Some q) at other (inr le) = absurd (let none : Some q ≡ None = sym at ∙ is.within y le in let P : ⊥ = cc in P)

  linked_x : (y : ℕ) → y ≢ x → are_linked then.links x y ≡ is_in_reach reach moved x y
  linked_x y other =
      near_x y (place_of m.places y) refl other (cases_lt y size)
      ∙ ap₂ (are_near reach) (sym place_here) (sym (place_there y other))
      ∙ sym (in_reach_apart reach moved x y (λ same. other (sym same)))

  linked_others : (a b : ℕ) → a ≢ x → b ≢ x → are_linked then.links a b ≡ is_in_reach reach moved a b
  linked_others a b first second =
      still a b others
      ∙ ap₂ (λ o p. not (eqb a b) && are_near reach o p) (sym (place_there a first)) (sym (place_there b second))
    where
      others : (y : ℕ) → y < size → pair a b ≢ pair x y
      others y lt same =
          let low : min a b ≡ min x y = ap (λ p. p.0) same in
          let high : max a b ≡ max x y = ap (λ p. p.1) same in
          absurd (omega arith)

  moved_linked : (n : schedule.RunState) → IsKept n → (world_of n).links ≡ then.links → n.mesh ≡ m.run.mesh
      → Linked reach (record { run = n; places = record moved { begun = true } })
  moved_linked n kept links mesh = record {
    kept = kept;
    size = length-set m.places.at x (Some new.place) ∙ is.size;
    linked = λ a b. ap (λ s. are_linked s a b) links ∙ pairs a b (cases_eq a x) (cases_eq b x);
    within = λ c le.
        let beyond : size ≤ c = subst (λ nodes. length nodes ≤ c) mesh le in
        place_there c (λ same. absurd (omega arith)) ∙ is.within c beyond;
    early = λ begun. absurd (let P : ⊥ = cc in P);
  }
    where
      alone : (a : ℕ) → are_linked then.links a a ≡ false
      alone a = by (are_linked then.links a a) refl
        where
          by : (b : Bool) → are_linked then.links a a ≡ b → are_linked then.links a a ≡ false
          by true there =
              let least : min a a < max a a = (kept.invariant.in_mesh.links (pair a a) (ap (λ s. sets.contains s (pair a a)) links ∙ there)).0 in
              absurd (omega arith)
          by false there = there

      pairs : (a b : ℕ) → (a ≡ x) ⊎ (a ≢ x) → (b ≡ x) ⊎ (b ≢ x) → are_linked then.links a b ≡ is_in_reach reach moved a b
      pairs a b (inl first) (inl second) =
          let same : a ≡ b = first ∙ sym second in
          subst (λ c. are_linked then.links a c ≡ is_in_reach reach moved a c) same
          (alone a ∙ sym (ap (λ c. not c && are_near reach (place_of moved a) (place_of moved a)) (eq-eqb a a refl)))
      pairs a b (inl first) (inr second) =
          subst (λ c. are_linked then.links c b ≡ is_in_reach reach moved c b) (sym first) (linked_x b second)
      pairs a b (inr first) (inl second) =
          subst (λ c. are_linked then.links a c ≡ is_in_reach reach moved a c) (sym second)
          (linked_turned then.links a x ∙ linked_x a first ∙ in_reach_turned reach moved x a)
      pairs a b (inr first) (inr second) = linked_others a b first second

  placing_linked : (bytes : List ℕ) → IsKeptCame (outcome_of_placing reach m bytes new) → LinkedCame reach (with_placing m.places new) (outcome_of_placing reach m bytes new)
  unfolding IsKeptCame LinkedCame
  placing_linked bytes = by (may_come m.places new)
    where
      by : (b : Bool) → IsKeptCame (cond b (On (line bytes ++ flat_map (change_line m.run.mesh) (changes reach m new)) (with_line_read (run_state_after m.run (changes reach m new)))) (On (line bytes ++ line (codes "  idle")) (with_line_read m.run)))
          → LinkedCame reach (record (cond b moved m.places) { begun = true })
          (cond b (On (line bytes ++ flat_map (change_line m.run.mesh) (changes reach m new)) (with_line_read (run_state_after m.run (changes reach m new)))) (On (line bytes ++ line (codes "  idle")) (with_line_read m.run)))
      by true kept =
          moved_linked (with_line_read (run_state_after m.run (changes reach m new))) kept (ap (λ v. v.links) (world_after_events m.run (changes reach m new))) (mesh_after_events m.run (changes reach m new))
      by false kept = record {
        kept = kept;
        size = is.size;
        linked = is.linked;
        within = is.within;
        early = λ begun. absurd (let P : ⊥ = cc in P);
      }

-- ---- all lines

line_linked : (reach : ℕ) (m : RunState) (bytes : List ℕ) (r : Result (Option Placing) LineFault) → Linked reach m → placing_of m.run.mesh bytes ≡ r → ComesIn (length m.run.mesh) r
    → IsKeptCame (outcome_by reach m bytes r) → LinkedCame reach (places_by m.places r) (outcome_by reach m bytes r)
unfolding ComesIn IsKeptCame LinkedCame
line_linked reach m bytes (Ok (Some new)) is reads within kept = placing_linked reach m new is within bytes kept
line_linked reach m bytes (Ok None) is reads within kept =
    other_linked reach m bytes (other_line m bytes) is reads refl (other_allowed m bytes is.kept) (line_allowed m.run.mesh (has_begun m) bytes is.kept.mesh.few) kept
line_linked reach m bytes (Err f) is reads within kept = tt

piece_linked : (reach : ℕ) (m : RunState) (piece : Piece) → Linked reach m → LinkedCame reach (places_after m piece) (outcome_of_piece reach m piece)
unfolding outcome_of_piece text.outcome_of_piece places_after LinkedCame
piece_linked reach m (Whole bytes) is =
    line_linked reach m bytes (placing_of m.run.mesh bytes) is refl (comes_in m.run.mesh bytes) (piece_kept reach m (Whole bytes) is.kept)
piece_linked reach m Long is = tt
piece_linked reach m Beyond is = tt

goes_linked : (reach : ℕ) (m : RunState) (piece : Piece) (c : LineOutcome) (others : RunState → RunText) → Linked reach m → LinkedCame reach (places_after m piece) c
    → ((n : RunState) → Linked reach n → Linked reach (others n).after) → Linked reach (goes_on m piece c others).after
unfolding LinkedCame
goes_linked reach m piece (On text n) others is kept rest = rest (next m piece n) kept
goes_linked reach m piece (Refused why) others is kept rest = is
goes_linked reach m piece (Full text n e field) others is kept rest = is

run_linked : (reach : ℕ) (m : RunState) (pieces : List Piece) → Linked reach m → Linked reach (text_from reach m pieces).after
unfolding shell.text_from
run_linked reach m [] is = is
run_linked reach m (piece ∷ pieces) is =
    goes_linked reach m piece (outcome_of_piece reach m piece) (λ n. text_from reach n pieces) is (piece_linked reach m piece is) (λ n then. run_linked reach n pieces then)

pub links_follow_places : LinksFollowPlaces
unfolding run_state_at
links_follow_places reach v input i a b =
    (run_linked reach (opening v) (take i (pieces_of_input input)) (opening_linked reach v)).linked a b

pub lines_are_loop_free : LinesAreLoopFree
unfolding run_state_at
lines_are_loop_free reach v input i d =
    let is = run_linked reach (opening v) (take i (pieces_of_input input)) (opening_linked reach v) in
    no_cycle (world_of (text_from reach (opening v) (take i (pieces_of_input input))).after.run) d is.kept.invariant.loop_safe
