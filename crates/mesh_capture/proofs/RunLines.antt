-- The lines of a run: each line of its text is read.
use Rattle.std.proofs.Common.{◌≡◌, ℕ, ◌+◌, ◌<◌, ◌≤◌, List, [], ◌∷◌, ◌++◌, None, length, length-append, is_some, refl, sym, ap, ◌∙◌, subst, arith, append-nil}
use Rattle.std.specs.Prelude.{slice_get}
use Rattle.std.specs.Option.{unwrap_or}
use Rattle.std.specs.List.{AllByRecursion}
use Rattle.mesh_base.specs.declared.limits.TheConstants.{MOST_EVENTS}
use Rattle.mesh_base.specs.Meshes.{Nodes, with_node}
use Rattle.mesh_grammar.specs.Written.{line}
use Rattle.mesh_io.specs.declared.limits.TheConstants.{LONGEST_TEXT}
use Rattle.mesh_model.specs.Accounts.{total, in_copy, waiting, queued_data, in_flight}
use Rattle.mesh_model.specs.InMesh.{IsCopyInMesh}
use Rattle.mesh_model.specs.Routes.{End, Arrived, Stuck, IsRouteEnd, route_end}
use Rattle.mesh_model.specs.Worlds.{World, Event, start, first_numbers, run}
use Rattle.mesh_model.proofs.AccountSteps.{start_empty}
use Rattle.mesh_model.proofs.Honest.{start_trails}
use Rattle.mesh_model.proofs.NumberSteps.{IsWithin, start_within, firsts_within}
use Rattle.mesh_model.specs.Trails.{HasWalks}
use Rattle.mesh_model.proofs.RouteEnds.{route_ends}
use Rattle.mesh_text.specs.Auto as auto
use Rattle.mesh_text.specs.Auto.{events_chosen}
use Rattle.mesh_text.specs.Lines.{words_of}
use Rattle.mesh_text.specs.Ranges.{IsInRange, IsInTime}
use Rattle.mesh_text.specs.Runs.{events_of_line}
use Rattle.mesh_text.specs.Schedule.{RunState, AcceptedLine, Nothing, NewNode, Does, Chooses, ShowsNode, ShowsRoute, ShowsFlight, world_of, with_world, with_line_read}
use Rattle.mesh_text.specs.Tables.{end_text, flight_text, node_text_in}
use Rattle.mesh_text.specs.Text.{LineOutcome, On, Refused, Full, outcome_by_events, outcome_of_auto, outcome_of_line}
use Rattle.mesh_text.proofs.RunStates.{IsKept, IsKeptCame, counted_kept, started_kept, not_made}
use Rattle.mesh_text.proofs.LineLaws.{chosen_few}
use Rattle.mesh_lines.specs.declared.below.Below.{Below}
use Rattle.mesh_lines.specs.declared.below.Below.TheVariants as below
use Rattle.mesh_capture.specs.Runs.{frames_from}
use Rattle.mesh_capture.proofs.Effects.{stand}
use Rattle.mesh_capture.proofs.EventLists.{reading_at, ReadsTo, to_none, to_append, frames_of, IsAlong, IsRefused, RanTold, events_told}
use Rattle.mesh_capture.proofs.FieldRuns.{AreFitting, start_fits}
use Rattle.mesh_capture.proofs.LastLines.{IsNearWhy}
use Rattle.mesh_capture.proofs.OtherLines.{auto_reads, auto_end_reads, node_line_reads, show_reads, route_reads, flight_reads}
use Rattle.mesh_capture.proofs.PacketTexts.{strange}
use Rattle.mesh_capture.proofs.Shown.{hops_of, end_reads, flight_shown}
use Rattle.mesh_capture.proofs.ShownNodes.{node_in_reads}
use Rattle.mesh_capture.proofs.Steady.{IsSteady, later_steady, one_speaks, chosen_speak}
use Rattle.mesh_capture.proofs.Told.{IsTold, Stand, flight_told}

-- ---- states

pub counted_steady : (k : ℕ) (m : RunState) → IsSteady k m → IsSteady k (with_line_read m)
counted_steady k m is =
    record { kept = counted_kept m is.kept; texts = is.texts; copies = is.copies; events = is.events; walks = is.walks; within = is.within; fits = is.fits }

pub started_steady : (k : ℕ) (m : RunState) → IsSteady k m → IsSteady k (with_world m)
started_steady k m is =
    record { kept = started_kept m is.kept; texts = is.texts; copies = is.copies; events = is.events; walks = is.walks; within = is.within; fits = is.fits }

-- ---- one line

-- a line whose events were read
unfoldable pub LineTold : ℕ → RunState → List Event → LineOutcome → Type 0
LineTold k m es (On text n) = (b : Below) → k + length text ≤ LONGEST_TEXT → (c : Below) × ReadsTo m b text (frames_of m es) n c × IsSteady (k + length text) n × (n.lines ≡ m.lines + 1)
LineTold k m es (Refused why) = IsNearWhy why
LineTold k m es (Full text n e field) =
    (b : Below) → k + length text ≤ LONGEST_TEXT → (c : Below) × ReadsTo m b text (frames_of m es) n c × IsSteady (k + length text) n × IsAlong m n × IsRefused n e field

pub by_events : (k : ℕ) (m : RunState) (es : List Event) (r : auto.EventsOutcome) → RanTold k (with_world m) es r → LineTold k m es (outcome_by_events r)
unfolding RanTold LineTold
by_events k m es (auto.Ended text n) told = λ b fits. let is = told b fits in (is.0, is.1, counted_steady (k + length text) n is.2, ap (λ l. l + 1) is.3.lines)
by_events k m es (auto.Full text n e field) told = λ b fits. let is = told b fits in (is.0, is.1, is.2, record { mesh = is.3.mesh; lines = is.3.lines }, is.4)

-- a choice of events, with its own line before them and its end after them
pub by_choice : (k : ℕ) (m : RunState) (count : ℕ) (es : List Event) (r : auto.EventsOutcome) → 1 ≤ count → count ≤ MOST_EVENTS → length es ≤ count → IsSteady k m
    → ((j : ℕ) → k ≤ j → RanTold j (with_world m) es r) → LineTold k m es (outcome_of_auto (line (words_of m.mesh (Chooses count))) (length es) r)
unfolding RanTold LineTold
by_choice k m count es (auto.Ended others n) some few less is told =
    let own : List ℕ = line (words_of m.mesh (Chooses count)) in
    let end : List ℕ = auto.auto_end (length es) in
    let front = length-append own others in
    let all = length-append (own ++ others) end in
    λ b fits.
    let a : Stand = stand (world_of m).flying m.sums.events b in
    let first : ReadsTo m b own [] m below.Nothing = auto_reads m.mesh is.kept.mesh a count some few in
    let rest = told (k + length own) (omega arith) below.Nothing (omega arith) in
    let z : Stand = stand (world_of n).flying n.sums.events rest.0 in
    let last : ReadsTo n rest.0 end [] n below.Nothing = auto_end_reads n.mesh rest.2.kept.mesh z (length es) (omega arith) in
    let both = to_append m m n b below.Nothing rest.0 own others [] (frames_of m es) first rest.1 in
    let whole = to_append m n n b rest.0 below.Nothing (own ++ others) end (frames_of m es) [] both last in (
      below.Nothing,
      subst (λ fs. ReadsTo m b (own ++ others ++ end) fs (with_line_read n) below.Nothing) (append-nil (frames_of m es)) whole,
      counted_steady (k + length (own ++ others ++ end)) n (later_steady (k + length own + length others) (k + length (own ++ others ++ end)) n (omega arith) rest.2),
      ap (λ l. l + 1) rest.3.lines,
    )
by_choice k m count es (auto.Full others n e field) some few less is told =
    let own : List ℕ = line (words_of m.mesh (Chooses count)) in
    let front = length-append own others in
    λ b fits.
    let a : Stand = stand (world_of m).flying m.sums.events b in
    let first : ReadsTo m b own [] m below.Nothing = auto_reads m.mesh is.kept.mesh a count some few in
    let rest = told (k + length own) (omega arith) below.Nothing (omega arith) in (
      rest.0,
      to_append m m n b below.Nothing rest.0 own others [] (frames_of m es) first rest.1,
      later_steady (k + length own + length others) (k + length (own ++ others)) n (omega arith) rest.2,
      record { mesh = rest.3.mesh; lines = rest.3.lines },
      rest.4,
    )

-- ---- one more node

no_flight : (mesh : Nodes) (m : RunState) → m.world ≡ None → flight_told mesh (world_of m).flying ≡ []
unfolding flight_told start
no_flight mesh m fresh = ap (λ o. flight_told mesh (unwrap_or o (start m.variant (first_numbers m.mesh))).flying) fresh

in_all : World → ℕ
in_all w = waiting strange w + queued_data strange w + in_flight strange w

pub fresh_steady : (k : ℕ) (m : RunState) → m.world ≡ None → IsKept m → m.sums.events ≤ k → IsSteady k m
unfolding start in_all
fresh_steady k m fresh kept events =
    let same : world_of m ≡ start m.variant (first_numbers m.mesh) = ap (λ o. unwrap_or o (start m.variant (first_numbers m.mesh))) fresh in
    let firsts : List ℕ = first_numbers m.mesh in
    let none = start_empty strange m.variant firsts in
    let copies : (world_of m).next_copy ≡ 1 = ap (λ (w : World). w.next_copy) same in
    record {
      kept = kept;
      texts = subst (λ w. in_all w ≡ 0) (sym same) none;
      copies = omega arith;
      events = events;
      walks = subst (HasWalks m.variant) (sym same) (start_trails m.variant firsts);
      within = subst IsWithin (sym same) (start_within m.variant firsts (firsts_within m.mesh kept.mesh));
      fits = subst (AreFitting m.sums.events) (sym same) (start_fits m.sums.events m.variant firsts);
    }

node_told : (k : ℕ) (m : RunState) (address first : ℕ) → m.world ≡ None → IsInRange m.mesh (NewNode address first) → IsKept (with_line_read (record m { mesh = with_node m.mesh address first })) → IsSteady k m
    → LineTold k m [] (outcome_of_line m (NewNode address first))
unfolding LineTold outcome_of_line frames_from
node_told k m address first fresh new kept is =
    let n : RunState = with_line_read (record m { mesh = with_node m.mesh address first }) in
    let text : List ℕ = line (words_of m.mesh (NewNode address first)) in
    let events = is.events in
    λ b fits.
    let a : Stand = stand (world_of m).flying m.sums.events b in
    let read : ReadsTo m b text [] m below.Nothing = node_line_reads m.mesh is.kept.mesh a address first new in
    let same : flight_told m.mesh (world_of m).flying ≡ flight_told n.mesh (world_of n).flying = no_flight m.mesh m fresh ∙ sym (no_flight n.mesh n fresh) in (
      below.Nothing,
      λ j. let one = read j in (one.0, subst (λ f. IsTold (reading_at m b j) text [] (record { events = m.sums.events; below = below.Nothing; flying = f; lines = one.0 })) same one.1),
      fresh_steady (k + length text) n fresh kept (omega arith),
      refl,
    )

-- ---- what is shown

-- a line, and what stands below it
shown_told : (k : ℕ) (m : RunState) (own text : List ℕ) (b c : Below) → IsSteady k m → ((b : Below) → ReadsTo m b own [] m c) → ReadsTo m c text [] m c
    → (b : Below) → (d : Below) × ReadsTo m b (own ++ text) [] (with_line_read (with_world m)) d × IsSteady (k + length (own ++ text)) (with_line_read (with_world m)) × ((with_line_read (with_world m)).lines ≡ m.lines + 1)
shown_told k m own text b c is first rest start = (
  c,
  to_append m m m start c c own text [] [] (first start) rest,
  counted_steady (k + length (own ++ text)) (with_world m) (later_steady k (k + length (own ++ text)) (with_world m) (omega arith) (started_steady k m is)),
  refl,
)

no_strange_copy : (w : World) → waiting strange w + queued_data strange w + in_flight strange w ≡ 0 → total (in_copy strange) w.flying ≡ 0
unfolding in_flight
no_strange_copy w none = omega arith

few_hops : (w : World) (x d : ℕ) (e : End) → IsRouteEnd w x d e → hops_of e ≤ length w.nodes
few_hops w x d (Arrived hops) leads = let short = leads.short in omega arith
few_hops w x d (Stuck at hops) leads = let short = leads.0.short in omega arith

-- a node by itself
pub block_told : (k : ℕ) (m : RunState) (x : ℕ) (b : Below) → k ≤ LONGEST_TEXT → IsSteady k m → ReadsTo m b (line (words_of m.mesh (ShowsNode x)) ++ node_text_in m.mesh (slice_get (world_of m).nodes x)) [] m below.Node
block_told k m x b short is =
    to_append m m m b below.Node below.Node (line (words_of m.mesh (ShowsNode x))) (node_text_in m.mesh (slice_get (world_of m).nodes x)) [] []
    (show_reads m.mesh is.kept.mesh (stand (world_of m).flying m.sums.events b) x) (node_in_reads k m x short is)

-- ---- any line

pub line_told : (k : ℕ) (m : RunState) (a : AcceptedLine) → IsInRange m.mesh a → IsInTime (is_some m.world) a → IsKeptCame (outcome_of_line m a) → IsSteady k m → LineTold k m (events_of_line m a) (outcome_of_line m a)
unfolding LineTold IsKeptCame outcome_of_line frames_from
line_told k m Nothing range early kept is = λ b fits. (b, to_none m b, counted_steady (k + 0) m (later_steady k (k + 0) m (omega arith) is), refl)
line_told k m (NewNode address first) range early kept is = node_told k m address first (not_made m.world early) range kept is
line_told k m (Does e) range early kept is = by_events k m (e ∷ []) (auto.outcome_of_events (with_world m) (e ∷ [])) (events_told k (with_world m) (e ∷ []) (one_speaks (with_world m) e range) (started_steady k m is))
line_told k m (Chooses count) range early kept is =
    let chosen : List Event = events_chosen count (with_world m) in
    by_choice k m count chosen (auto.outcome_of_events (with_world m) chosen) range.1 range.2 (chosen_few count (with_world m)) is
    (λ j le. events_told j (with_world m) chosen (chosen_speak count (with_world m) range.0 (started_kept m is.kept)) (later_steady k j (with_world m) le (started_steady k m is)))
line_told k m (ShowsNode x) range early kept is =
    λ b fits. shown_told k m (line (words_of m.mesh (ShowsNode x))) (node_text_in m.mesh (slice_get (world_of m).nodes x)) b below.Node is
    (λ c. show_reads m.mesh is.kept.mesh (stand (world_of m).flying m.sums.events c) x)
    (node_in_reads k m x (omega arith) is) b
line_told k m (ShowsRoute x d) range early kept is =
    let end : End = route_end (world_of m) x d in
    let lt : x < length (world_of m).nodes = subst (λ size. x < size) (sym is.kept.size) range.0 in
    let few = few_hops (world_of m) x d end (route_ends (world_of m) x d is.kept.invariant lt) in
    let size = is.kept.size in
    let most = is.kept.mesh.few in
    λ b fits. shown_told k m (line (words_of m.mesh (ShowsRoute x d))) (end_text m.mesh end) b below.Route is
    (λ c. route_reads m.mesh is.kept.mesh (stand (world_of m).flying m.sums.events c) x d)
    (end_reads m.mesh is.kept.mesh (world_of m).flying m.sums.events end (omega arith)) b
line_told k m ShowsFlight range early kept is =
    let in_mesh = is.kept.invariant.in_mesh in
    let texts = is.texts in
    let copies = is.copies in
    let none = no_strange_copy (world_of m) is.texts in
    λ b fits. shown_told k m (line (words_of m.mesh ShowsFlight)) (flight_text m.mesh (world_of m).flying) b below.Flight is
    (λ c. flight_reads m.mesh is.kept.mesh (stand (world_of m).flying m.sums.events c))
    (flight_shown m.mesh is.kept.mesh (world_of m).flying m.sums.events (world_of m).next_copy in_mesh.numbered (omega arith) (subst (λ size. AllByRecursion (IsCopyInMesh size) (world_of m).flying) is.kept.size in_mesh.flying) none) b
