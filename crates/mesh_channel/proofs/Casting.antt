-- The copies of a cast are numbered from the next copy's number on, and what is decided of them by an event's answer.
use Rattle.std.proofs.Common.{◌≡◌, ◌≢◌, ◌∙◌, ℕ, ◌+◌, ◌*◌, ◌≤◌, ◌<◌, ◌^◌, Bool, true, false, List, [], ◌∷◌, Option, Some, None, Result, Ok, Err, OnOk, zero, suc, length, refl, sym, ap, subst, arith}
use Rattle.std.specs.Prelude.{slice_get}
use Rattle.mesh_base.specs.Meshes.{Nodes}
use Rattle.mesh_base.specs.Members.{member_list, members_below}
use Rattle.mesh_base.proofs.Ranks.{members-size, members_few}
use Rattle.mesh_base.specs.declared.limits.TheConstants.{MOST_NODES}
use Rattle.mesh_base.specs.declared.events.Full.{Full as Counter}
use Rattle.mesh_base.specs.declared.events.Air.{Air}
use Rattle.mesh_base.specs.declared.events.Cast.{Cast as CastGiven}
use Rattle.mesh_base.specs.declared.events.Cast.TheVariants as given
use Rattle.mesh_base.specs.declared.events.Effect.{Effect as EffectGiven}
use Rattle.mesh_base.specs.declared.events.Took.{Took as TookGiven}
use Rattle.mesh_base.specs.declared.events.Done.{Done}
use Rattle.mesh_base.specs.declared.events.Done.TheVariants as done
use Rattle.aodv_model.specs.Cores.{Item, New, Heard, Core, Message}
use Rattle.aodv_model.specs.Soundness.{AreBelow}
use Rattle.aodv_model.specs.Handlers.{Reaction, Cast, Nothing, One, Many, All, turn, send, may_send, ask, may_ask}
use Rattle.aodv_model.specs.Fullness.{turn_full, send_full, ask_full}
use Rattle.aodv_model.proofs.Entries.{if_case}
use Rattle.mesh_model.specs.Worlds as worlds
use Rattle.mesh_model.specs.Worlds.{is_parcel, World, Node, Copy, Event, Give, Turn, Send, Ask, Link, Cut, Deliver, Lose, Double, range, receivers, copies, copies_to, copies_of, done_by, push, find_copy, Changed, Taken, Sent, CopyHeard, CopyLost, CopyDoubled, Outcome, Idle, Next, unless_full, turn_of, send_of, ask_of, at_node, at_copy, with_link, without_link, without_copy, with_double, step, after, are_linked}
use Rattle.mesh_model.proofs.Copies.{copies_to_length}
use Rattle.mesh_meaning.specs.Events.{node_of}
use Rattle.mesh_meaning.specs.Answers.{cast_in, effect_in, copies_in, outcome_in, IsDoneInMesh}
use Rattle.mesh_text.specs.Schedule.{RunState, world_of, outcome_at}
use Rattle.mesh_fates.specs.declared.rates.Rates.{Rates}
use Rattle.mesh_fates.specs.Fates.{draw}
use Rattle.mesh_fates.specs.Channels as channels
use Rattle.mesh_fates.specs.Channels.{Channel, decided}
use Rattle.mesh_channel.specs.RunStates.{IsAnswerOf, HasAnswer, HasNumbers, decided_in_air}

-- ---- the first copy of a cast

abbrev pub IsFrom : ℕ → List Copy → Type 0
IsFrom id [] = Unit {0}
IsFrom id (c ∷ cs) = c.id ≡ id

cast_from : (c : Cast) (tos : List ℕ) (id from : ℕ) → IsFrom id (copies_of c tos id from)
cast_from Nothing tos id from = tt
cast_from (One y m) [] id from = tt
cast_from (One y m) (to ∷ tos) id from = refl
cast_from (Many s m) [] id from = tt
cast_from (Many s m) (to ∷ tos) id from = refl
cast_from (All m) [] id from = tt
cast_from (All m) (to ∷ tos) id from = refl

unfoldable FromNext : World → Outcome → Type 0
FromNext w (Next v (Taken took effect cs)) = IsFrom w.next_copy cs
FromNext w (Next v (Sent effect cs)) = IsFrom w.next_copy cs
FromNext w (Next v (CopyDoubled id to parcel)) = id ≡ w.next_copy
FromNext w others = Unit {0}

copies_from : (w : World) (x : ℕ) (c : Cast) → IsFrom w.next_copy (copies w x c)
unfolding copies
copies_from w x c = cast_from c (members_below (length w.nodes) (receivers (range w x) c)) w.next_copy x

unless_from : (w : World) (x : ℕ) (full : Option Counter) (o : Outcome) → FromNext w o → FromNext w (unless_full x full o)
unfolding FromNext
unless_from w x (Some f) o is = tt
unless_from w x None o is = is

turn_from : (w : World) (x : ℕ) (core : Core) (queue : List Item) → FromNext w (turn_of w x core queue)
unfolding FromNext
turn_from w x core [] = tt
turn_from w x core (item ∷ items) = unless_from w x (turn_full core (range w x) item) _ (copies_from w x ((turn core (range w x) item).effect).cast)

send_from : (w : World) (x d : ℕ) (core : Core) (queue : List Item) → FromNext w (send_of w x d core queue)
unfolding FromNext
send_from w x d core queue =
    if_case (FromNext w) (may_send core d) (unless_full x (send_full core (range w x) d) (Next (done_by w x (send core (range w x) d) queue) (Sent (send core (range w x) d).effect (copies w x ((send core (range w x) d).effect).cast)))) Idle
    (λ _. unless_from w x (send_full core (range w x) d) _ (copies_from w x ((send core (range w x) d).effect).cast)) (λ _. tt)

ask_from : (w : World) (x d : ℕ) (core : Core) (queue : List Item) → FromNext w (ask_of w x d core queue)
unfolding FromNext
ask_from w x d core queue =
    if_case (FromNext w) (may_ask core d) (unless_full x (ask_full core) (Next (done_by w x (ask core d) queue) (Sent (ask core d).effect (copies w x ((ask core d).effect).cast)))) Idle
    (λ _. unless_from w x (ask_full core) _ (copies_from w x ((ask core d).effect).cast)) (λ _. tt)

node_from : (w : World) (f : Core → List Item → Outcome) (o : Option Node) → ((core : Core) (queue : List Item) → FromNext w (f core queue)) → FromNext w (at_node o f)
unfolding FromNext
node_from w f None some = tt
node_from w f (Some n) some = some n.core n.queue

copy_from : (w : World) (f : Copy → Outcome) (o : Option Copy) → ((c : Copy) → FromNext w (f c)) → FromNext w (at_copy o f)
unfolding FromNext
copy_from w f None some = tt
copy_from w f (Some c) some = some c

step_from : (w : World) (e : Event) → FromNext w (step w e)
unfolding step FromNext
step_from w (Give x d b) = node_from w (λ core queue. Next (push w x (New b d)) Changed) (slice_get w.nodes x) (λ core queue. tt)
step_from w (Turn x) = node_from w (turn_of w x) (slice_get w.nodes x) (turn_from w x)
step_from w (Send x d) = node_from w (send_of w x d) (slice_get w.nodes x) (send_from w x d)
step_from w (Ask x d) = node_from w (ask_of w x d) (slice_get w.nodes x) (ask_from w x d)
step_from w (Link a b) = if_case (FromNext w) (are_linked w.links a b) Idle (Next (with_link w a b) Changed) (λ _. tt) (λ _. tt)
step_from w (Cut a b) = if_case (FromNext w) (are_linked w.links a b) (Next (without_link w a b) Changed) Idle (λ _. tt) (λ _. tt)
step_from w (Deliver id) = copy_from w (λ c. Next (push (without_copy w id) c.to (Heard c.from c.message)) (CopyHeard c.from c.to)) (find_copy w.flying id) (λ c. tt)
step_from w (Lose id) = copy_from w (λ c. Next (without_copy w id) (CopyLost c)) (find_copy w.flying id) (λ c. tt)
step_from w (Double id) = copy_from w (λ c. Next (with_double w c) (CopyDoubled w.next_copy c.to (is_parcel c.message))) (find_copy w.flying id) (λ c. refl)

-- ---- by the answer of an event

abbrev cast_copies : RunState → Event → CastGiven → Air → List ℕ → List Copy
cast_copies m e cast air packet = copies_in m.mesh (node_of e) cast air packet

taken_from : (m n : RunState) (e : Event) (took : TookGiven) (effect : EffectGiven) (air : Air) → (a : IsAnswerOf m e n (done.Taken took effect air)) → IsFrom (world_of m).next_copy (cast_copies m e effect.cast air a.packet)
unfolding FromNext
taken_from m n e took effect air a = subst (FromNext (world_of m)) a.answer.outcome (step_from (world_of m) e)

sent_from : (m n : RunState) (e : Event) (effect : EffectGiven) (air : Air) → (a : IsAnswerOf m e n (done.Sent effect air)) → IsFrom (world_of m).next_copy (cast_copies m e effect.cast air a.packet)
unfolding FromNext
sent_from m n e effect air a = subst (FromNext (world_of m)) a.answer.outcome (step_from (world_of m) e)

all_below : (mesh : Nodes) (air : Air) → length mesh ≤ MOST_NODES → AreBelow (length mesh) air.to → member_list air.to ≡ members_below (length mesh) air.to
all_below mesh air few below = members-size 256 (length mesh) air.to (omega (arith, few)) below

pub few_members : (mesh : Nodes) (air : Air) → length mesh ≤ MOST_NODES → AreBelow (length mesh) air.to → length (member_list air.to) ≤ MOST_NODES
few_members mesh air few below =
    let same : length (member_list air.to) ≡ length (members_below (length mesh) air.to) = ap length (all_below mesh air few below) in
    omega (arith, members_few (length mesh) air.to, few)

-- the first number is the next copy's, unless there is no copy
first_to : (tos : List ℕ) (first from next : ℕ) (m : Message) → IsFrom next (copies_to tos first from m) → length tos ≢ 0 → first ≡ next
first_to [] first from next m is some = absurd (some refl)
first_to (to ∷ tos) first from next m is some = is

decided_none : (rates : Rates) (unicast : Bool) (count a b d e : ℕ) (c : Channel) → count ≡ 0 → decided rates unicast count a b c ≡ decided rates unicast count d e c
unfolding decided
decided_none rates unicast count a b d e c none = ap (λ k. decided rates unicast k a b c) none ∙ sym (ap (λ k. decided rates unicast k d e c) none)

-- so many copies, from the first number on
decided_from : (rates : Rates) (unicast : Bool) (tos : List ℕ) (first from next : ℕ) (m : Message) (c : Channel) → IsFrom next (copies_to tos first from m)
    → decided rates unicast (length tos) first (first + length tos) c ≡ decided rates unicast (length (copies_to tos first from m)) next (next + length (copies_to tos first from m)) c
decided_from rates unicast [] first from next m c is = decided_none rates unicast 0 first (first + 0) next (next + 0) c refl
decided_from rates unicast (to ∷ tos) first from next m c is =
    let same : first ≡ next = is in
    let many : length (copies_to (to ∷ tos) first from m) ≡ length (to ∷ tos) = copies_to_length (to ∷ tos) first from m in
    ap (λ f. decided rates unicast (length (to ∷ tos)) f (f + length (to ∷ tos)) c) same
    ∙ ap (λ k. decided rates unicast k next (next + k) c) (sym many)

none_cast : (rates : Rates) (next : ℕ) (c : Channel) → decided rates false 0 next (next + 0) c ≡ c
unfolding decided
none_cast rates next c = refl

pub decided_as : (rates : Rates) (mesh : Nodes) (x next : ℕ) (effect : EffectGiven) (air : Air) (packet : List ℕ) (c : Channel) → length mesh ≤ MOST_NODES → AreBelow (length mesh) air.to
    → IsFrom next (copies_in mesh x effect.cast air packet)
    → decided_in_air rates effect.cast air c ≡ channels.after_cast rates next (effect_in mesh effect packet) (length (copies_in mesh x effect.cast air packet)) c
unfolding copies_in
decided_as rates mesh x next effect air packet c few below = by effect.cast
  where
    tos : List ℕ
    tos = members_below (length mesh) air.to

    whole : (unicast : Bool) → decided rates unicast (length (member_list air.to)) air.first (air.first + length (member_list air.to)) c ≡ decided rates unicast (length tos) air.first (air.first + length tos) c
    whole unicast = ap (λ l. decided rates unicast (length l) air.first (air.first + length l) c) (all_below mesh air few below)

    by : (cast : CastGiven) → IsFrom next (copies_in mesh x cast air packet)
        → decided_in_air rates cast air c ≡ decided rates (channels.is_unicast (cast_in mesh cast packet)) (length (copies_in mesh x cast air packet)) next (next + length (copies_in mesh x cast air packet)) c
    by given.Nothing is = sym (none_cast rates next c)
    by (given.One y) is = whole true ∙ decided_from rates true tos air.first x next _ c is
    by (given.Many s) is = whole false ∙ decided_from rates false tos air.first x next _ c is
    by given.All is = whole false ∙ decided_from rates false tos air.first x next _ c is

pub decided_taken : (rates : Rates) (m n : RunState) (e : Event) (took : TookGiven) (effect : EffectGiven) (air : Air) (c : Channel) → IsAnswerOf m e n (done.Taken took effect air)
    → decided_in_air rates effect.cast air c ≡ channels.after_chosen rates (world_of m) (outcome_at m e) c
decided_taken rates m n e took effect air c a =
    decided_as rates m.mesh (node_of e) (world_of m).next_copy effect air a.packet c a.nodes a.answer.in_mesh.1.receivers (taken_from m n e took effect air a)
    ∙ ap (λ o. channels.after_chosen rates (world_of m) o c) (sym a.answer.outcome)

pub decided_sent : (rates : Rates) (m n : RunState) (e : Event) (effect : EffectGiven) (air : Air) (c : Channel) → IsAnswerOf m e n (done.Sent effect air)
    → decided_in_air rates effect.cast air c ≡ channels.after_chosen rates (world_of m) (outcome_at m e) c
decided_sent rates m n e effect air c a =
    decided_as rates m.mesh (node_of e) (world_of m).next_copy effect air a.packet c a.nodes a.answer.in_mesh.receivers (sent_from m n e effect air a)
    ∙ ap (λ o. channels.after_chosen rates (world_of m) o c) (sym a.answer.outcome)

-- ---- other answers

by_no_cast : (rates : Rates) (w v : World) (mesh : Nodes) (x : ℕ) (d : Done) (packet : List ℕ) (c : Channel) → ((took : TookGiven) (effect : EffectGiven) (air : Air) → d ≢ done.Taken took effect air) → ((effect : EffectGiven) (air : Air) → d ≢ done.Sent effect air)
    → channels.after_chosen rates w (outcome_in mesh x v d packet) c ≡ c
by_no_cast rates w v mesh x done.Idle packet c taken sent = refl
by_no_cast rates w v mesh x done.Changed packet c taken sent = refl
by_no_cast rates w v mesh x (done.Taken took effect air) packet c taken sent = absurd (taken took effect air refl)
by_no_cast rates w v mesh x (done.Sent effect air) packet c taken sent = absurd (sent effect air refl)
by_no_cast rates w v mesh x (done.Heard from to) packet c taken sent = refl
by_no_cast rates w v mesh x (done.Lost flying) packet c taken sent = refl
by_no_cast rates w v mesh x (done.Doubled id to parcel) packet c taken sent = refl

pub nothing_decided : (rates : Rates) (m n : RunState) (e : Event) (d : Done) (c : Channel) → ((took : TookGiven) (effect : EffectGiven) (air : Air) → d ≢ done.Taken took effect air) → ((effect : EffectGiven) (air : Air) → d ≢ done.Sent effect air)
    → IsAnswerOf m e n d → c ≡ channels.after_chosen rates (world_of m) (outcome_at m e) c
nothing_decided rates m n e d c taken sent a =
    sym (ap (λ o. channels.after_chosen rates (world_of m) o c) a.answer.outcome ∙ by_no_cast rates (world_of m) (world_of n) m.mesh (node_of e) d a.packet c taken sent)

pub double_decided : (rates : Rates) (m n : RunState) (e : Event) (id to : ℕ) (parcel : Bool) (c : Channel) → IsAnswerOf m e n (done.Doubled id to parcel)
    → channels.with_double rates id c ≡ channels.after_given rates (world_of m) (outcome_at m e) c
double_decided rates m n e id to parcel c a = ap (λ o. channels.after_given rates (world_of m) o c) (sym a.answer.outcome)

by_no_double : (rates : Rates) (w v : World) (mesh : Nodes) (x : ℕ) (d : Done) (packet : List ℕ) (c : Channel) → ((id to : ℕ) (parcel : Bool) → d ≢ done.Doubled id to parcel)
    → channels.after_given rates w (outcome_in mesh x v d packet) c ≡ channels.after_chosen rates w (outcome_in mesh x v d packet) c
by_no_double rates w v mesh x done.Idle packet c none = refl
by_no_double rates w v mesh x done.Changed packet c none = refl
by_no_double rates w v mesh x (done.Taken took effect air) packet c none = refl
by_no_double rates w v mesh x (done.Sent effect air) packet c none = refl
by_no_double rates w v mesh x (done.Heard from to) packet c none = refl
by_no_double rates w v mesh x (done.Lost flying) packet c none = refl
by_no_double rates w v mesh x (done.Doubled id to parcel) packet c none = absurd (none id to parcel refl)

pub given_as_chosen : (rates : Rates) (m n : RunState) (e : Event) (d : Done) (c : Channel) → ((id to : ℕ) (parcel : Bool) → d ≢ done.Doubled id to parcel) → IsAnswerOf m e n d
    → channels.after_chosen rates (world_of m) (outcome_at m e) c ≡ channels.after_given rates (world_of m) (outcome_at m e) c
given_as_chosen rates m n e d c none a =
    ap (λ o. channels.after_chosen rates (world_of m) o c) a.answer.outcome ∙ sym (by_no_double rates (world_of m) (world_of n) m.mesh (node_of e) d a.packet c none)
    ∙ ap (λ o. channels.after_given rates (world_of m) o c) (sym a.answer.outcome)

-- ---- the numbers of a cast

first_in : (mesh : Nodes) (x next : ℕ) (cast : CastGiven) (air : Air) (packet : List ℕ) → length mesh ≤ MOST_NODES → AreBelow (length mesh) air.to → cast ≢ given.Nothing
    → IsFrom next (copies_in mesh x cast air packet) → length (member_list air.to) ≢ 0 → air.first ≡ next
unfolding copies_in
first_in mesh x next given.Nothing air packet few below casts is some = absurd (casts refl)
first_in mesh x next (given.One y) air packet few below casts is some = first_to (members_below (length mesh) air.to) air.first x next _ is (subst (λ l. length l ≢ 0) (all_below mesh air few below) some)
first_in mesh x next (given.Many s) air packet few below casts is some = first_to (members_below (length mesh) air.to) air.first x next _ is (subst (λ l. length l ≢ 0) (all_below mesh air few below) some)
first_in mesh x next given.All air packet few below casts is some = first_to (members_below (length mesh) air.to) air.first x next _ is (subst (λ l. length l ≢ 0) (all_below mesh air few below) some)

pub taken_numbers : (m n : RunState) (e : Event) (took : TookGiven) (effect : EffectGiven) (air : Air) → IsAnswerOf m e n (done.Taken took effect air) → HasNumbers effect.cast air
taken_numbers m n e took effect air a casts some =
    let same = first_in m.mesh (node_of e) (world_of m).next_copy effect.cast air a.packet a.nodes a.answer.in_mesh.1.receivers casts (taken_from m n e took effect air a) some in
    (omega (arith, a.copies.some), omega (arith, a.copies.few, a.steps))

pub sent_numbers : (m n : RunState) (e : Event) (effect : EffectGiven) (air : Air) → IsAnswerOf m e n (done.Sent effect air) → HasNumbers effect.cast air
sent_numbers m n e effect air a casts some =
    let same = first_in m.mesh (node_of e) (world_of m).next_copy effect.cast air a.packet a.nodes a.answer.in_mesh.receivers casts (sent_from m n e effect air a) some in
    (omega (arith, a.copies.some), omega (arith, a.copies.few, a.steps))

-- ---- what a cast leaves as it was

decided_tick : (rates : Rates) (unicast : Bool) (count id new : ℕ) (c : Channel) → (decided rates unicast count id new c).tick ≡ c.tick
unfolding decided
decided_tick rates unicast zero id new c = refl
decided_tick rates unicast (suc count) id new c =
    let drawn = draw rates unicast c.rng in
    decided_tick rates unicast count (id + 1) (channels.number_behind new drawn.fate.double) (channels.with_fate (record c { rng = drawn.rng }) id new drawn.fate)

pub cast_tick : {T E : Type 0} (r : Result T E) (k c : Channel) (rates : Rates) (unicast : Bool) (count id new : ℕ) → OnOk r (k ≡ decided rates unicast count id new c) → OnOk r (k.tick ≡ c.tick)
cast_tick (Ok x) k c rates unicast count id new is = ap (λ (q : Channel). q.tick) is ∙ decided_tick rates unicast count id new c
cast_tick (Err e) k c rates unicast count id new is = tt

none_decided : (rates : Rates) (unicast : Bool) (count id new : ℕ) (c : Channel) → count ≡ 0 → c ≡ decided rates unicast count id new c
unfolding decided
none_decided rates unicast count id new c none = sym (ap (λ k. decided rates unicast k id new c) none)

pub no_copies : (rates : Rates) (cast : CastGiven) (air : Air) (c : Channel) → length (member_list air.to) ≡ 0 → c ≡ decided_in_air rates cast air c
no_copies rates given.Nothing air c none = refl
no_copies rates (given.One y) air c none = none_decided rates true (length (member_list air.to)) air.first (air.first + length (member_list air.to)) c none
no_copies rates (given.Many s) air c none = none_decided rates false (length (member_list air.to)) air.first (air.first + length (member_list air.to)) c none
no_copies rates given.All air c none = none_decided rates false (length (member_list air.to)) air.first (air.first + length (member_list air.to)) c none

-- ---- by the answer that is given

pub taken_nodes : (d : Done) (took : TookGiven) (effect : EffectGiven) (air : Air) → d ≡ done.Taken took effect air → HasAnswer d → length (member_list air.to) ≤ MOST_NODES
taken_nodes d took effect air is h =
    let a : IsAnswerOf h.before h.event h.after (done.Taken took effect air) = subst (IsAnswerOf h.before h.event h.after) is h.is in
    few_members (h.before).mesh air a.nodes a.answer.in_mesh.1.receivers

pub taken_has_numbers : (d : Done) (took : TookGiven) (effect : EffectGiven) (air : Air) → d ≡ done.Taken took effect air → HasAnswer d → HasNumbers effect.cast air
taken_has_numbers d took effect air is h = taken_numbers h.before h.after h.event took effect air (subst (IsAnswerOf h.before h.event h.after) is h.is)

pub sent_nodes : (d : Done) (effect : EffectGiven) (air : Air) → d ≡ done.Sent effect air → HasAnswer d → length (member_list air.to) ≤ MOST_NODES
sent_nodes d effect air is h =
    let a : IsAnswerOf h.before h.event h.after (done.Sent effect air) = subst (IsAnswerOf h.before h.event h.after) is h.is in
    few_members (h.before).mesh air a.nodes a.answer.in_mesh.receivers

pub sent_has_numbers : (d : Done) (effect : EffectGiven) (air : Air) → d ≡ done.Sent effect air → HasAnswer d → HasNumbers effect.cast air
sent_has_numbers d effect air is h = sent_numbers h.before h.after h.event effect air (subst (IsAnswerOf h.before h.event h.after) is h.is)

doubled_from : (m n : RunState) (e : Event) (id to : ℕ) (parcel : Bool) → (a : IsAnswerOf m e n (done.Doubled id to parcel)) → id ≡ (world_of m).next_copy
unfolding FromNext
doubled_from m n e id to parcel a = subst (FromNext (world_of m)) a.answer.outcome (step_from (world_of m) e)

pub doubled_number : (d : Done) (id to : ℕ) (parcel : Bool) → d ≡ done.Doubled id to parcel → HasAnswer d → 1 ≤ id
doubled_number d id to parcel is h =
    let a : IsAnswerOf h.before h.event h.after (done.Doubled id to parcel) = subst (IsAnswerOf h.before h.event h.after) is h.is in
    let same = doubled_from h.before h.after h.event id to parcel a in
    omega (arith, a.copies.some)

pub on_taken : {T E : Type 0} (r : Result T E) (rates : Rates) (d : Done) (took : TookGiven) (effect : EffectGiven) (air : Air) (k c : Channel) → d ≡ done.Taken took effect air → OnOk r (k ≡ decided_in_air rates effect.cast air c)
    → OnOk r ((m n : RunState) (e : Event) → IsAnswerOf m e n d → k ≡ channels.after_chosen rates (world_of m) (outcome_at m e) c)
on_taken (Ok x) rates d took effect air k c is decided = λ m n e a. decided ∙ decided_taken rates m n e took effect air c (subst (IsAnswerOf m e n) is a)
on_taken (Err x) rates d took effect air k c is decided = tt

pub on_sent : {T E : Type 0} (r : Result T E) (rates : Rates) (d : Done) (effect : EffectGiven) (air : Air) (k c : Channel) → d ≡ done.Sent effect air → OnOk r (k ≡ decided_in_air rates effect.cast air c)
    → OnOk r ((m n : RunState) (e : Event) → IsAnswerOf m e n d → k ≡ channels.after_chosen rates (world_of m) (outcome_at m e) c)
on_sent (Ok x) rates d effect air k c is decided = λ m n e a. decided ∙ decided_sent rates m n e effect air c (subst (IsAnswerOf m e n) is a)
on_sent (Err x) rates d effect air k c is decided = tt

pub on_other : {T E : Type 0} (r : Result T E) (rates : Rates) (d : Done) (k c : Channel) → ((id to : ℕ) (parcel : Bool) → d ≢ done.Doubled id to parcel) → OnOk r ((m n : RunState) (e : Event) → IsAnswerOf m e n d → k ≡ channels.after_chosen rates (world_of m) (outcome_at m e) c)
    → OnOk r ((m n : RunState) (e : Event) → IsAnswerOf m e n d → k ≡ channels.after_given rates (world_of m) (outcome_at m e) c)
on_other (Ok x) rates d k c none decided = λ m n e a. decided m n e a ∙ given_as_chosen rates m n e d c none a
on_other (Err x) rates d k c none decided = tt
