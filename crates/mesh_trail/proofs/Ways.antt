-- What an event does to the copies in flight and to the number of the next.
use Rattle.std.proofs.Common.{◌≡◌, ℕ, ◌+◌, ◌<◌, ◌≤◌, List, [], ◌∷◌, ◌++◌, length, refl, sym, subst, ◌∙◌, arith}
use Rattle.std.specs.Prelude.{⊤}
use Rattle.std.specs.List.{AllByRecursion}
use Rattle.aodv_model.specs.Cores.{Item, New, Heard, Message}
use Rattle.aodv_model.specs.Handlers.{All, Cast, Many, Nothing, One, Reaction, ask, send, turn}
use Rattle.mesh_model.proofs.Cases.{by_cases, copy_case, push_is}
use Rattle.mesh_model.proofs.MeshSteps.{copies_numbered}
use Rattle.mesh_model.specs.InMesh.{AreNumbered}
use Rattle.mesh_model.proofs.Lists.{each_append, each_filter}
use Rattle.mesh_model.proofs.Copies.{push_next}
use Rattle.mesh_model.specs.Worlds.{is_parcel, Copy, CopyDoubled, Cut, Deliver, Double, Event, Give, Full, Next, Idle, Link, Lose, Outcome, World, after, copies, copies_of, copies_to, done_by, double_of, find_copy, members_below, push, range, receivers, run, step, with_double, without, without_copy}
use Rattle.mesh_trail.proofs.Steps.{numbered_low}
use Rattle.mesh_model.specs.Kept.{KeptLists, after_doubling, copies_in, from_id_on}

-- ---- the ids of copies

abbrev pub StartsAt : ℕ → List Copy → Type 0
StartsAt id [] = ⊤
StartsAt id (c ∷ cs) = c.id ≡ id

to_start : (tos : List ℕ) (id x : ℕ) (m : Message) → StartsAt id (copies_to tos id x m)
to_start [] id x m = tt
to_start (to ∷ tos) id x m = refl

of_start : (c : Cast) (tos : List ℕ) (id x : ℕ) → StartsAt id (copies_of c tos id x)
of_start Nothing tos id x = tt
of_start (One y m) tos id x = to_start tos id x m
of_start (Many s m) tos id x = to_start tos id x m
of_start (All m) tos id x = to_start tos id x m

copies_start : (w : World) (x : ℕ) (c : Cast) → StartsAt w.next_copy (copies w x c)
unfolding copies
copies_start w x c = of_start c (members_below (length w.nodes) (receivers (range w x) c)) w.next_copy x

numbered_each : (P : Copy → Type 0) (low next : ℕ) (cs : List Copy) → AreNumbered low cs next → ((c : Copy) → low ≤ c.id → c.id < next → P c) → AllByRecursion P cs
numbered_each P low next [] all each = tt
numbered_each P low next (c ∷ cs) all each =
    let end = numbered_low (c.id + 1) cs next all.1 in
    let start = all.0 in
    (each c all.0 (omega arith), numbered_each P (c.id + 1) next cs all.1 (λ d from before. each d (omega arith) before))

-- ---- the copies that an event makes, and the number of the next

abbrev pub MakesIn : World → Outcome → Type 0
MakesIn w Idle = ⊤
MakesIn w (Full x f) = ⊤
MakesIn w (Next w' h) = (w'.next_copy ≡ w.next_copy + length (copies_in h)) × StartsAt w.next_copy (copies_in h)

none_more : (n : ℕ) → n ≡ n + 0
none_more n = omega arith

abbrev pub IsNoDouble : Event → Type 0
IsNoDouble (Double id) = ⊥
IsNoDouble others = ⊤

pub makes : (w : World) (e : Event) → IsNoDouble e → MakesIn w (step w e)
unfolding done_by
makes w e one = by_cases w (λ e o. IsNoDouble e → MakesIn w o) (record {
  idle = λ e none one. tt;
  full = λ e x n f is full one. tt;
  given = λ x d b n is one. (push_next w x (New b d) ∙ none_more w.next_copy, tt);
  taken = λ x core item items is free one. (refl, copies_start w x ((turn core (range w x) item).effect).cast);
  sent = λ x d n is may free one. (refl, copies_start w x ((send n.core (range w x) d).effect).cast);
  asked = λ x d n is may free one. (refl, copies_start w x ((ask n.core d).effect).cast);
  linked = λ a b apart one. (none_more w.next_copy, tt);
  cut = λ a b stands one. (none_more w.next_copy, tt);
  heard = λ id c is one. (push_next (without_copy w id) c.to (Heard c.from c.message) ∙ none_more w.next_copy, tt);
  lost = λ id c is one. (none_more w.next_copy, tt);
  doubled = λ id c is one. absurd one;
}) e one

-- a doubled copy has the number of the next
abbrev pub DoublesIn : World → ℕ → KeptLists → Outcome → Type 0
DoublesIn w id k Idle = ⊤
DoublesIn w id k (Full x f) = ⊤
DoublesIn w id k (Next w' h) = (w'.next_copy ≡ w.next_copy + 1) × (after_doubling id h k ≡ record k { flying = from_id_on k.flying w.next_copy (k.flying id) })

pub doubles : (w : World) (id : ℕ) (k : KeptLists) → DoublesIn w id k (step w (Double id))
unfolding step
doubles w id k = copy_case (DoublesIn w id k) (λ c. Next (with_double w c) (CopyDoubled w.next_copy c.to (is_parcel c.message))) (find_copy w.flying id) (λ none. tt) (λ c is. (refl, refl))

-- ---- the copies in flight afterwards

abbrev FliesIn : (Copy → Type 0) → World → World → Type 0
FliesIn P w w' = AllByRecursion P w.flying → ((c : Copy) → w.next_copy ≤ c.id → c.id < w'.next_copy → P c) → AllByRecursion P w'.flying

abbrev Flies : (Copy → Type 0) → World → Outcome → Type 0
Flies P w o = FliesIn P w (after w o)

done_flies : (P : Copy → Type 0) (w : World) (x : ℕ) (did : Reaction) (queue : List Item) → FliesIn P w (done_by w x did queue)
unfolding done_by
done_flies P w x did queue all new = each_append P w.flying (copies w x (did.effect).cast) all (numbered_each P w.next_copy _ (copies w x (did.effect).cast) (copies_numbered w x (did.effect).cast) new)

push_flies : (P : Copy → Type 0) (w : World) (x : ℕ) (item : Item) → AllByRecursion P w.flying → AllByRecursion P (push w x item).flying
push_flies P w x item all = subst (λ (v : World). AllByRecursion P v.flying) (sym (push_is w x item)) all

taken_flies : (P : Copy → Type 0) (w : World) (id : ℕ) → AllByRecursion P w.flying → AllByRecursion P (without_copy w id).flying
unfolding without
taken_flies P w id all = each_filter P _ w.flying all

pub flies : (P : Copy → Type 0) (w : World) (e : Event) → Flies P w (step w e)
flies P w e = by_cases w (λ e o. Flies P w o) (record {
  idle = λ e none all new. all;
  full = λ e x n f is full all new. all;
  given = λ x d b n is all new. push_flies P w x (New b d) all;
  taken = λ x core item items is free. done_flies P w x (turn core (range w x) item) items;
  sent = λ x d n is may free. done_flies P w x (send n.core (range w x) d) n.queue;
  asked = λ x d n is may free. done_flies P w x (ask n.core d) n.queue;
  linked = λ a b apart all new. all;
  cut = λ a b stands all new. all;
  heard = λ id c is all new. push_flies P (without_copy w id) c.to (Heard c.from c.message) (taken_flies P w id all);
  lost = λ id c is all new. taken_flies P w id all;
  doubled = λ id c is all new. each_append P w.flying (double_of w c ∷ []) all (new (double_of w c) (omega arith) (omega arith), tt);
}) e

-- ---- runs

pub run_more : (w : World) (es : List Event) (e : Event) → run w (es ++ e ∷ []) ≡ after (run w es) (step (run w es) e)
unfolding run
run_more w [] e = refl
run_more w (f ∷ es) e = run_more (after w (step w f)) es e

-- ---- events that make no copy

abbrev pub IsQuiet : Event → Type 0
IsQuiet (Give x d b) = ⊤
IsQuiet (Link a b) = ⊤
IsQuiet (Cut a b) = ⊤
IsQuiet (Deliver id) = ⊤
IsQuiet (Lose id) = ⊤
IsQuiet others = ⊥

abbrev HasNext : World → Outcome → Type 0
HasNext w o = (after w o).next_copy ≡ w.next_copy

pub quiet_next : (w : World) (e : Event) → IsQuiet e → HasNext w (step w e)
quiet_next w e quiet = by_cases w (λ e o. IsQuiet e → HasNext w o) (record {
  idle = λ e none quiet. refl;
  full = λ e x n f is full quiet. refl;
  given = λ x d b n is quiet. push_next w x (New b d);
  taken = λ x core item items is free quiet. absurd quiet;
  sent = λ x d n is may free quiet. absurd quiet;
  asked = λ x d n is may free quiet. absurd quiet;
  linked = λ a b apart quiet. refl;
  cut = λ a b stands quiet. refl;
  heard = λ id c is quiet. push_next (without_copy w id) c.to (Heard c.from c.message);
  lost = λ id c is quiet. refl;
  doubled = λ id c is quiet. absurd quiet;
}) e quiet
