-- What is decided of the copies of a cast can be done, one event after another.
use Rattle.std.proofs.Common.{◌≡◌, ◌≢◌, ◌⊎◌, inl, inr, ℕ, zero, suc, ◌+◌, ◌<◌, ◌≤◌, eqb, Bool, true, false, cond, not, List, [], ◌∷◌, ◌++◌, filter, length, Option, Some, None, is_some, refl, sym, ap, subst, ◌∙◌, arith}
use Rattle.std.specs.Prelude.{slice_get}
use Rattle.std.proofs.lemmas.Bool.{eqb-false, eqb-true, cases_lt}
use Rattle.mesh_base.specs.declared.events.Full.{Full as Counter}
use Rattle.mesh_base.specs.Members.{members_below}
use Rattle.aodv_model.specs.Cores.{Item, New, Heard, Core}
use Rattle.aodv_model.specs.Handlers.{Cast, Nothing, One, Many, All, Reaction, turn, send, may_send, ask, may_ask}
use Rattle.aodv_model.specs.Fullness.{turn_full, send_full, ask_full}
use Rattle.mesh_grammar.proofs.Readings.{if_case}
use Rattle.mesh_model.specs.Numbered.{numbered_from}
use Rattle.mesh_model.specs.Worlds.{is_parcel, World, Node, Copy, Event, Give, Turn, Send, Ask, Link, Cut, Deliver, Lose, Double, range, receivers, copies, copies_to, copies_of, done_by, push, find_copy, without, WorldEffect, Changed, Taken, Sent, CopyHeard, CopyLost, CopyDoubled, Outcome, Idle, Full, Next, unless_full, turn_of, send_of, ask_of, at_node, at_copy, with_link, without_link, without_copy, with_double, double_of, step, after, run, are_linked}
use Rattle.mesh_text.proofs.RunLaws.{run_append, run_none, run_one}
use Rattle.mesh_fates.specs.declared.rates.Rates.{Rates}
use Rattle.mesh_fates.specs.Fates.{draw}
use Rattle.mesh_fates.specs.declared.fate.Lot.{Lot}
use Rattle.mesh_fates.specs.declared.fate.Fate.{Fate}
use Rattle.mesh_fates.specs.Channels.{Channel, losses, doublings, number_behind, with_fate, decided, after_world_effect, after_chosen, after_given, is_unicast}

-- ---- copies in flight

unfoldable pub Flies : List Copy → ℕ → Type 0
Flies cs id = is_some (find_copy cs id) ≡ true

same_number : (d : ℕ) → eqb d d ≡ true
same_number d = either (eqb d d) refl
  where
    either : (b : Bool) → eqb d d ≡ b → b ≡ true
    either true e = refl
    either false e = absurd (eqb-false d d e refl)

flies_here : (c : Copy) (cs : List Copy) → Flies (c ∷ cs) c.id
unfolding Flies
flies_here c cs = ap (λ b. is_some (cond b (Some c) (find_copy cs c.id))) (same_number c.id)

flies_on : (c : Copy) (cs : List Copy) (id : ℕ) → Flies cs id → Flies (c ∷ cs) id
unfolding Flies
flies_on c cs id there = by (eqb c.id id) refl
  where
    by : (b : Bool) → eqb c.id id ≡ b → is_some (cond b (Some c) (find_copy cs id)) ≡ true
    by true is = refl
    by false is = there

flies_first : (cs ds : List Copy) (id : ℕ) → Flies cs id → Flies (cs ++ ds) id
unfolding Flies
flies_first [] ds id there = absurd (let P : ⊥ = cc in P)
flies_first (c ∷ cs) ds id there = by (eqb c.id id) refl (λ more. flies_first cs ds id more)
  where
    by : (b : Bool) → eqb c.id id ≡ b → (is_some (find_copy cs id) ≡ true → is_some (find_copy (cs ++ ds) id) ≡ true) → is_some (find_copy ((c ∷ cs) ++ ds) id) ≡ true
    by true is rest = ap (λ b. is_some (cond b (Some c) (find_copy (cs ++ ds) id))) is
    by false is rest =
        let more : is_some (find_copy cs id) ≡ true = ap (λ b. is_some (cond b (Some c) (find_copy cs id))) (sym is) ∙ there in
        ap (λ b. is_some (cond b (Some c) (find_copy (cs ++ ds) id))) is ∙ rest more

flies_last : (cs ds : List Copy) (id : ℕ) → Flies ds id → Flies (cs ++ ds) id
flies_last [] ds id there = there
flies_last (c ∷ cs) ds id there = flies_on c (cs ++ ds) id (flies_last cs ds id there)

flies_without : (cs : List Copy) (k id : ℕ) → k ≢ id → Flies cs id → Flies (without cs k) id
unfolding Flies without
flies_without [] k id other there = absurd (let P : ⊥ = cc in P)
flies_without (c ∷ cs) k id other there = by (eqb c.id k) refl (eqb c.id id) refl (λ more. flies_without cs k id other more)
  where
    by : (b : Bool) → eqb c.id k ≡ b → (d : Bool) → eqb c.id id ≡ d → (is_some (find_copy cs id) ≡ true → is_some (find_copy (filter (λ x. not (eqb x.id k)) cs) id) ≡ true)
        → is_some (find_copy (cond (not (eqb c.id k)) (c ∷ filter (λ x. not (eqb x.id k)) cs) (filter (λ x. not (eqb x.id k)) cs)) id) ≡ true
    by true gone true here rest = absurd (other (sym (eqb-true c.id k gone) ∙ eqb-true c.id id here))
    by true gone false there' rest =
        ap (λ b. is_some (find_copy (cond (not b) (c ∷ filter (λ x. not (eqb x.id k)) cs) (filter (λ x. not (eqb x.id k)) cs)) id)) gone
        ∙ rest (ap (λ b. is_some (cond b (Some c) (find_copy cs id))) (sym there') ∙ there)
    by false stays true here rest =
        ap (λ b. is_some (find_copy (cond (not b) (c ∷ filter (λ x. not (eqb x.id k)) cs) (filter (λ x. not (eqb x.id k)) cs)) id)) stays
        ∙ ap (λ b. is_some (cond b (Some c) (find_copy (filter (λ x. not (eqb x.id k)) cs) id))) here
    by false stays false there' rest =
        ap (λ b. is_some (find_copy (cond (not b) (c ∷ filter (λ x. not (eqb x.id k)) cs) (filter (λ x. not (eqb x.id k)) cs)) id)) stays
        ∙ ap (λ b. is_some (cond b (Some c) (find_copy (filter (λ x. not (eqb x.id k)) cs) id))) there'
        ∙ rest (ap (λ b. is_some (cond b (Some c) (find_copy cs id))) (sym there') ∙ there)

-- so many copies from a number on
unfoldable pub AllFly : List Copy → ℕ → ℕ → Type 0
AllFly cs id count = (i : ℕ) → id ≤ i → i < id + count → Flies cs i

numbered_fly : (make : ℕ → ℕ → Copy) → ((i to : ℕ) → (make i to).id ≡ i) → (tos : List ℕ) (id : ℕ) → AllFly (numbered_from make tos id) id (length (numbered_from make tos id))
unfolding AllFly
numbered_fly make own [] id i low high = absurd (omega arith)
numbered_fly make own (to ∷ tos) id i low high = by (cases_lt id i) (λ less. numbered_fly make own tos (id + 1) i (omega arith) (omega arith))
  where
    by : (id < i) ⊎ (i ≤ id) → (id < i → Flies (numbered_from make tos (id + 1)) i) → Flies (make id to ∷ numbered_from make tos (id + 1)) i
    by (inl less) rest = flies_on (make id to) (numbered_from make tos (id + 1)) i (rest less)
    by (inr le) rest =
        let same : (make id to).id ≡ i = own id to ∙ omega arith in
        subst (Flies (make id to ∷ numbered_from make tos (id + 1))) same (flies_here (make id to) (numbered_from make tos (id + 1)))

copies_fly : (c : Cast) (tos : List ℕ) (id from : ℕ) → AllFly (copies_of c tos id from) id (length (copies_of c tos id from))
unfolding AllFly
copies_fly Nothing tos id from i low high = absurd (omega arith)
copies_fly (One y m) tos id from i low high = numbered_fly (λ k to. record { id = k; from = from; to = to; message = m }) (λ k to. refl) tos id i low high
copies_fly (Many s m) tos id from i low high = numbered_fly (λ k to. record { id = k; from = from; to = to; message = m }) (λ k to. refl) tos id i low high
copies_fly (All m) tos id from i low high = numbered_fly (λ k to. record { id = k; from = from; to = to; message = m }) (λ k to. refl) tos id i low high

-- ---- what a cast leaves

-- the copies of a cast fly, and the next number is behind theirs
pub record Casts (w v : World) (count : ℕ) : Type 0 where
  pub next : v.next_copy ≡ w.next_copy + count
  pub fly : AllFly v.flying w.next_copy count

unfoldable pub CastsIn : World → Outcome → Type 0
CastsIn w (Next v (Taken took effect cs)) = Casts w v (length cs)
CastsIn w (Next v (Sent effect cs)) = Casts w v (length cs)
CastsIn w others = Unit {0}

done_casts : (w : World) (x : ℕ) (did : Reaction) (queue : List Item) → Casts w (done_by w x did queue) (length (copies w x (did.effect).cast))
unfolding done_by copies AllFly
done_casts w x did queue = record {
  next = refl;
  fly = λ i low high. flies_last w.flying (copies w x (did.effect).cast) i
      (copies_fly (did.effect).cast (members_below (length w.nodes) (receivers (range w x) (did.effect).cast)) w.next_copy x i low high);
}

unless_casts : (w : World) (x : ℕ) (full : Option Counter) (o : Outcome) → CastsIn w o → CastsIn w (unless_full x full o)
unfolding CastsIn
unless_casts w x (Some f) o casts = tt
unless_casts w x None o casts = casts

turn_casts : (w : World) (x : ℕ) (core : Core) (queue : List Item) → CastsIn w (turn_of w x core queue)
unfolding CastsIn
turn_casts w x core [] = tt
turn_casts w x core (item ∷ items) = unless_casts w x (turn_full core (range w x) item) _ (done_casts w x (turn core (range w x) item) items)

send_casts : (w : World) (x d : ℕ) (core : Core) (queue : List Item) → CastsIn w (send_of w x d core queue)
unfolding CastsIn
send_casts w x d core queue =
    if_case (CastsIn w) (may_send core d) (unless_full x (send_full core (range w x) d) (Next (done_by w x (send core (range w x) d) queue) (Sent (send core (range w x) d).effect (copies w x ((send core (range w x) d).effect).cast)))) Idle
    (λ _. unless_casts w x (send_full core (range w x) d) _ (done_casts w x (send core (range w x) d) queue)) (λ _. tt)

ask_casts : (w : World) (x d : ℕ) (core : Core) (queue : List Item) → CastsIn w (ask_of w x d core queue)
unfolding CastsIn
ask_casts w x d core queue =
    if_case (CastsIn w) (may_ask core d) (unless_full x (ask_full core) (Next (done_by w x (ask core d) queue) (Sent (ask core d).effect (copies w x ((ask core d).effect).cast)))) Idle
    (λ _. unless_casts w x (ask_full core) _ (done_casts w x (ask core d) queue)) (λ _. tt)

node_casts : (w : World) (f : Core → List Item → Outcome) (o : Option Node) → ((core : Core) (queue : List Item) → CastsIn w (f core queue)) → CastsIn w (at_node o f)
unfolding CastsIn
node_casts w f None some = tt
node_casts w f (Some n) some = some n.core n.queue

copy_casts : (w : World) (f : Copy → Outcome) (o : Option Copy) → ((c : Copy) → CastsIn w (f c)) → CastsIn w (at_copy o f)
unfolding CastsIn
copy_casts w f None some = tt
copy_casts w f (Some c) some = some c

pub step_casts : (w : World) (e : Event) → CastsIn w (step w e)
unfolding step CastsIn
step_casts w (Give x d b) = node_casts w (λ core queue. Next (push w x (New b d)) Changed) (slice_get w.nodes x) (λ core queue. tt)
step_casts w (Turn x) = node_casts w (turn_of w x) (slice_get w.nodes x) (turn_casts w x)
step_casts w (Send x d) = node_casts w (send_of w x d) (slice_get w.nodes x) (send_casts w x d)
step_casts w (Ask x d) = node_casts w (ask_of w x d) (slice_get w.nodes x) (ask_casts w x d)
step_casts w (Link a b) = if_case (CastsIn w) (are_linked w.links a b) Idle (Next (with_link w a b) Changed) (λ _. tt) (λ _. tt)
step_casts w (Cut a b) = if_case (CastsIn w) (are_linked w.links a b) (Next (without_link w a b) Changed) Idle (λ _. tt) (λ _. tt)
step_casts w (Deliver id) = copy_casts w (λ c. Next (push (without_copy w id) c.to (Heard c.from c.message)) (CopyHeard c.from c.to)) (find_copy w.flying id) (λ c. tt)
step_casts w (Lose id) = copy_casts w (λ c. Next (without_copy w id) (CopyLost c)) (find_copy w.flying id) (λ c. tt)
step_casts w (Double id) = copy_casts w (λ c. Next (with_double w c) (CopyDoubled w.next_copy c.to (is_parcel c.message))) (find_copy w.flying id) (λ c. tt)

-- ---- what is left to do is ready

-- none of these events is idle, one after another from a world on
unfoldable pub Ready : World → List Event → Type 0
Ready w [] = Unit {0}
Ready w (e ∷ es) = (step w e ≢ Idle) × Ready (after w (step w e)) es

ready_both : (w : World) (es fs : List Event) → Ready w es → Ready (run w es) fs → Ready w (es ++ fs)
unfolding Ready run
ready_both w [] fs one other = other
ready_both w (e ∷ es) fs one other = (one.0, ready_both (after w (step w e)) es fs one.1 other)

-- the copies from a number on fly, so many of them, and their doubles have numbers behind theirs
record Awaits (v : World) (id count new : ℕ) : Type 0 where
  next : new ≡ v.next_copy
  behind : id + count ≤ new
  fly : AllFly v.flying id count

-- a loss of a copy that flies
lose_goes : (v : World) (id : ℕ) (o : Option Copy) → is_some o ≡ true → (at_copy o (λ k. Next (without_copy v id) (CopyLost k)) ≢ Idle) × (after v (at_copy o (λ k. Next (without_copy v id) (CopyLost k))) ≡ without_copy v id)
lose_goes v id None there = absurd (let P : ⊥ = cc in P)
lose_goes v id (Some k) there = (λ e. cc, refl)

loss_is : (v : World) (id : ℕ) → Flies v.flying id → (step v (Lose id) ≢ Idle) × (after v (step v (Lose id)) ≡ without_copy v id)
unfolding step Flies
loss_is v id there = lose_goes v id (find_copy v.flying id) there

-- a doubling of a copy that flies
double_goes : (v : World) (o : Option Copy) → is_some o ≡ true
    → (at_copy o (λ k. Next (with_double v k) (CopyDoubled v.next_copy k.to (is_parcel k.message))) ≢ Idle)
    × ((k : Copy) × (after v (at_copy o (λ k. Next (with_double v k) (CopyDoubled v.next_copy k.to (is_parcel k.message)))) ≡ with_double v k))
double_goes v None there = absurd (let P : ⊥ = cc in P)
double_goes v (Some k) there = (λ e. cc, (k, refl))

double_is : (v : World) (id : ℕ) → Flies v.flying id → (step v (Double id) ≢ Idle) × ((k : Copy) × (after v (step v (Double id)) ≡ with_double v k))
unfolding step Flies
double_is v id there = double_goes v (find_copy v.flying id) there

run_first : (v : World) (e : Event) (es : List Event) → run v (e ∷ es) ≡ run (after v (step v e)) es
unfolding run
run_first v e es = refl

ready_none : (v : World) → Ready v []
unfolding Ready
ready_none v = tt

ready_one : (v : World) (e : Event) → step v e ≢ Idle → Ready v (e ∷ [])
unfolding Ready
ready_one v e goes = (goes, tt)

ready_first : (v : World) (e : Event) (es : List Event) → step v e ≢ Idle → Ready (after v (step v e)) es → Ready v (e ∷ es)
unfolding Ready
ready_first v e es goes rest = (goes, rest)

-- the loss of a copy, if it is lost: others fly on
loss_ready : (v : World) (k : ℕ) (lost : Bool) → Flies v.flying k → Ready v (cond lost (Lose k ∷ []) [])
    × ((run v (cond lost (Lose k ∷ []) [])).next_copy ≡ v.next_copy) × ((i : ℕ) → k ≢ i → Flies v.flying i → Flies (run v (cond lost (Lose k ∷ []) [])).flying i)
loss_ready v k false there = (ready_none v, ap (λ w. w.next_copy) (run_none v), λ i other fly. subst (λ w. Flies w.flying i) (sym (run_none v)) fly)
loss_ready v k true there =
    let goes = loss_is v k there in
    let came : run v (Lose k ∷ []) ≡ without_copy v k = run_one v (Lose k) ∙ goes.1 in
    (ready_one v (Lose k) goes.0, ap (λ w. w.next_copy) came, λ i other fly. subst (λ w. Flies w.flying i) (sym came) (flies_without v.flying k i other fly))

awaits_less : (v u : World) (id count new : ℕ) → Awaits v id (suc count) new → u.next_copy ≡ v.next_copy → ((i : ℕ) → id ≢ i → Flies v.flying i → Flies u.flying i) → Awaits u (id + 1) count new
unfolding AllFly
awaits_less v u id count new awaits same fly = record {
  next = awaits.next ∙ sym same;
  behind = let behind = awaits.behind in omega arith;
  fly = λ i low high. fly i (λ is. absurd (omega arith)) (awaits.fly i (omega arith) (omega arith));
}

doubles_ready : (v : World) (id count new : ℕ) (lot : Option Lot) → Awaits v id (suc count) new → Ready v (doublings id new lot) × Awaits (run v (doublings id new lot)) id (suc count) (number_behind new lot)
unfolding AllFly
doubles_ready v id count new None awaits = (ready_none v, subst (λ w. Awaits w id (suc count) new) (sym (run_none v)) awaits)
doubles_ready v id count new (Some lot) awaits = by (double_is v id (awaits.fly id (omega arith) (omega arith)))
  where
    by : (step v (Double id) ≢ Idle) × ((k : Copy) × (after v (step v (Double id)) ≡ with_double v k)) → Ready v (Double id ∷ losses new lot) × Awaits (run v (Double id ∷ losses new lot)) id (suc count) (new + 1)
    by goes =
        let k : Copy = goes.1.0 in
        let u : World = with_double v k in
        let came : after v (step v (Double id)) ≡ u = goes.1.1 in
        let there : Flies u.flying new = subst (Flies u.flying) (sym awaits.next) (flies_last v.flying (double_of v k ∷ []) v.next_copy (flies_here (double_of v k) [])) in
        let loss = loss_ready u new lot.lost there in
        let then : World = run u (losses new lot) in
        let whole : run v (Double id ∷ losses new lot) ≡ then = run_first v (Double id) (losses new lot) ∙ ap (λ w. run w (losses new lot)) came in
        let behind = awaits.behind in (
          ready_first v (Double id) (losses new lot) goes.0 (subst (λ w. Ready w (losses new lot)) (sym came) loss.0),
          subst (λ w. Awaits w id (suc count) (new + 1)) (sym whole) (record {
            next = ap (λ n. n + 1) awaits.next ∙ sym loss.1;
            behind = omega arith;
            fly = λ i low high. loss.2 i (λ is. absurd (omega arith)) (flies_first v.flying (double_of v k ∷ []) i (awaits.fly i low high));
          }),
        )

-- what is decided of copies that fly is ready behind what is ready before it
decided_ready : (rates : Rates) (unicast : Bool) (count id new : ℕ) (c : Channel) (w : World) → Ready w c.left → Awaits (run w c.left) id count new → Ready w (decided rates unicast count id new c).left
unfolding decided AllFly
decided_ready rates unicast zero id new c w ready awaits = ready
decided_ready rates unicast (suc count) id new c w ready awaits =
    let drawn = draw rates unicast c.rng in
    let double : Option Lot = drawn.fate.double in
    let lot : Lot = drawn.fate.lot in
    let v : World = run w c.left in
    let doubled = doubles_ready v id count new double awaits in
    let u : World = run v (doublings id new double) in
    let loss = loss_ready u id lot.lost (doubled.1.fly id (omega arith) (omega arith)) in
    let left : List Event = (c.left ++ doublings id new double) ++ losses id lot in
    let whole : run w left ≡ run u (losses id lot) = run_append w (c.left ++ doublings id new double) (losses id lot) ∙ ap (λ x. run x (losses id lot)) (run_append w c.left (doublings id new double)) in
    let all : Ready w left = ready_both w (c.left ++ doublings id new double) (losses id lot) (ready_both w c.left (doublings id new double) ready doubled.0)
    (subst (λ x. Ready x (losses id lot)) (sym (run_append w c.left (doublings id new double))) loss.0) in
    decided_ready rates unicast count (id + 1) (number_behind new double) (with_fate (record c { rng = drawn.rng }) id new drawn.fate) w all
    (subst (λ x. Awaits x (id + 1) count (number_behind new double)) (sym whole) (awaits_less u (run u (losses id lot)) id count (number_behind new double) doubled.1 loss.1 loss.2))

cast_awaits : (w v : World) (count : ℕ) → Casts w v count → Awaits v w.next_copy count (w.next_copy + count)
cast_awaits w v count casts = record { next = sym casts.next; behind = omega arith; fly = casts.fly }

cast_ready : (rates : Rates) (unicast : Bool) (w v : World) (count : ℕ) (c : Channel) → c.left ≡ [] → Casts w v count → Ready v (decided rates unicast count w.next_copy (w.next_copy + count) c).left
cast_ready rates unicast w v count c none casts =
    decided_ready rates unicast count w.next_copy (w.next_copy + count) c v (subst (Ready v) (sym none) (ready_none v))
    (subst (λ x. Awaits x w.next_copy count (w.next_copy + count)) (sym (ap (run v) none ∙ run_none v)) (cast_awaits w v count casts))

-- after an event where nothing was left to do
pub after_ready : (rates : Rates) (w : World) (o : Outcome) (c : Channel) → c.left ≡ [] → CastsIn w o → Ready (after w o) (after_chosen rates w o c).left
unfolding CastsIn
after_ready rates w Idle c none casts = subst (Ready w) (sym none) (ready_none w)
after_ready rates w (Full x field) c none casts = subst (Ready w) (sym none) (ready_none w)
after_ready rates w (Next v Changed) c none casts = subst (Ready v) (sym none) (ready_none v)
after_ready rates w (Next v (Taken took effect cs)) c none casts = cast_ready rates (is_unicast effect.cast) w v (length cs) c none casts
after_ready rates w (Next v (Sent effect cs)) c none casts = cast_ready rates (is_unicast effect.cast) w v (length cs) c none casts
after_ready rates w (Next v (CopyHeard from to)) c none casts = subst (Ready v) (sym none) (ready_none v)
after_ready rates w (Next v (CopyLost k)) c none casts = subst (Ready v) (sym none) (ready_none v)
after_ready rates w (Next v (CopyDoubled id to parcel)) c none casts = subst (Ready v) (sym none) (ready_none v)

pub given_ready : (rates : Rates) (w : World) (o : Outcome) (c : Channel) → c.left ≡ [] → CastsIn w o → Ready (after w o) (after_given rates w o c).left
unfolding CastsIn
given_ready rates w Idle c none casts = after_ready rates w Idle c none casts
given_ready rates w (Full x field) c none casts = after_ready rates w (Full x field) c none casts
given_ready rates w (Next v Changed) c none casts = after_ready rates w (Next v Changed) c none casts
given_ready rates w (Next v (Taken took effect cs)) c none casts = after_ready rates w (Next v (Taken took effect cs)) c none casts
given_ready rates w (Next v (Sent effect cs)) c none casts = after_ready rates w (Next v (Sent effect cs)) c none casts
given_ready rates w (Next v (CopyHeard from to)) c none casts = after_ready rates w (Next v (CopyHeard from to)) c none casts
given_ready rates w (Next v (CopyLost k)) c none casts = after_ready rates w (Next v (CopyLost k)) c none casts
given_ready rates w (Next v (CopyDoubled id to parcel)) c none casts = subst (Ready v) (sym none) (ready_none v)
