-- What the channel does next, step by step.
use Rattle.std.proofs.Common.{◌≡◌, ◌∙◌, ℕ, ◌≤◌, ◌<◌, ◌==◌, Bool, true, false, cond, List, [], ◌∷◌, Option, Some, None, length, map, drop, is_some, refl, sym, ap, subst, arith}
use Rattle.std.specs.Prelude.{slice_get, option_map, nat_le, if◌then◌else◌}
use Rattle.mesh_base.specs.Meshes.{Nodes}
use Rattle.mesh_base.specs.declared.events.Flying.{Flying}
use Rattle.mesh_meaning.specs.Packets.{copy_in}
use Rattle.mesh_model.specs.Worlds as worlds
use Rattle.mesh_model.specs.Worlds.{World, Copy, Event, Turn, Send, Ask, Deliver, find_copy}
use Rattle.mesh_model.specs.Choices.{first_turn, first_send, first_ask}
use Rattle.mesh_radio.specs.Copies as radios
use Rattle.mesh_fates.specs.Plans.{Plan}
use Rattle.mesh_fates.specs.declared.due.Due.{Due}
use Rattle.mesh_fates.specs.Channels.{Channel}
use Rattle.mesh_channel.specs.declared.until.Until.{Until}
use Rattle.mesh_channel.specs.declared.until.Until.TheVariants.{Events, Tick}
use Rattle.mesh_channel.specs.Choices.{Choice, Chosen, Nothing, in_flight, looked_at, due_or, left_or, turn_or, by_nodes, send_or, ask_or, in_tick, is_enough, last_tick, at_end, next_due, next_tick, or_next_tick, next_choice}

-- ---- which copies of the plan are in flight

found_if : (mesh : Nodes) (b : Bool) (f : Flying) (o : Option Copy) (p : Option Flying) → is_some o ≡ is_some p → is_some (if b then Some (copy_in mesh f) else o) ≡ is_some (if b then Some f else p)
found_if mesh true f o p e = refl
found_if mesh false f o p e = e

found_as : (mesh : Nodes) (fs : List Flying) (id : ℕ) → is_some (find_copy (map (copy_in mesh) fs) id) ≡ is_some (radios.find_copy fs id)
found_as mesh [] id = refl
found_as mesh (f ∷ fs) id = found_if mesh (f.id == id) f (find_copy (map (copy_in mesh) fs) id) (radios.find_copy fs id) (found_as mesh fs id)

some_mapped : {A B : Type 0} (g : A → B) (o : Option A) → is_some (option_map g o) ≡ is_some o
some_mapped g None = refl
some_mapped g (Some x) = refl

-- what a radio answers of a copy is what its world says
pub found_in : (mesh : Nodes) (fs : List Flying) (flying : List Copy) (id : ℕ) (to : Option ℕ) → map (copy_in mesh) fs ≡ flying → to ≡ option_map (λ c. c.to) (radios.find_copy fs id)
    → is_some (find_copy flying id) ≡ is_some to
found_in mesh fs flying id to same is =
    ap (λ l. is_some (find_copy l id)) (sym same) ∙ found_as mesh fs id ∙ sym (some_mapped (λ c. c.to) (radios.find_copy fs id)) ∙ ap is_some (sym is)

-- ---- looking at the plan

pub none_in_flight : (flying : List Copy) (plan : Plan) → None ≡ slice_get plan 0 → in_flight flying plan ≡ plan
unfolding in_flight
none_in_flight flying [] e = refl
none_in_flight flying (d ∷ plan) e = absurd (let h : None ≡ Some d = e in let P : ⊥ = cc in P)

first_is : (d e : Due) → Some d ≡ Some e → d ≡ e
first_is d e h = cc

pub first_in_flight : (flying : List Copy) (plan : Plan) (d : Due) → Some d ≡ slice_get plan 0 → is_some (find_copy flying d.id) ≡ true → in_flight flying plan ≡ plan
unfolding in_flight
first_in_flight flying [] d e there = absurd (let h : Some d ≡ None = e in let P : ⊥ = cc in P)
first_in_flight flying (f ∷ plan) d e there =
    let there' : is_some (find_copy flying f.id) ≡ true = ap (λ (g : Due). is_some (find_copy flying g.id)) (sym (first_is d f e)) ∙ there in
    ap (λ b. if b then f ∷ plan else in_flight flying plan) there'

pub first_gone : (flying : List Copy) (plan : Plan) (d : Due) → Some d ≡ slice_get plan 0 → is_some (find_copy flying d.id) ≡ false → in_flight flying plan ≡ in_flight flying (drop 1 plan)
unfolding in_flight
first_gone flying [] d e gone = refl
first_gone flying (f ∷ plan) d e gone =
    let gone' : is_some (find_copy flying f.id) ≡ false = ap (λ (g : Due). is_some (find_copy flying g.id)) (sym (first_is d f e)) ∙ gone in
    ap (λ b. if b then f ∷ plan else in_flight flying plan) gone'

pub shorter : {A : Type 0} (xs : List A) (x : A) → Some x ≡ slice_get xs 0 → length (drop 1 xs) < length xs
shorter [] x e = absurd (let h : Some x ≡ None = e in let P : ⊥ = cc in P)
shorter (y ∷ xs) x e = omega arith

-- ---- a copy that is due

pub due_now : (w : World) (c : Channel) (plan : Plan) (d : Due) → Some d ≡ slice_get plan 0 → nat_le d.tick c.tick ≡ true → due_or w c plan ≡ Chosen (Deliver d.id) (record c { plan = drop 1 plan })
due_now w c [] d e now = absurd (let h : Some d ≡ None = e in let P : ⊥ = cc in P)
due_now w c (f ∷ plan) d e now =
    let now' : nat_le f.tick c.tick ≡ true = ap (λ (g : Due). nat_le g.tick c.tick) (sym (first_is d f e)) ∙ now in
    ap (λ b. if b then Chosen (Deliver f.id) (record c { plan = plan }) else by_nodes w c) now' ∙ ap (λ (g : Due). Chosen (Deliver g.id) (record c { plan = plan })) (sym (first_is d f e))

pub due_later : (w : World) (c : Channel) (plan : Plan) (d : Due) → Some d ≡ slice_get plan 0 → nat_le d.tick c.tick ≡ false → due_or w c plan ≡ by_nodes w c
due_later w c [] d e later = refl
due_later w c (f ∷ plan) d e later =
    let later' : nat_le f.tick c.tick ≡ false = ap (λ (g : Due). nat_le g.tick c.tick) (sym (first_is d f e)) ∙ later in
    ap (λ b. if b then Chosen (Deliver f.id) (record c { plan = plan }) else by_nodes w c) later'

pub due_never : (w : World) (c : Channel) (plan : Plan) → None ≡ slice_get plan 0 → due_or w c plan ≡ by_nodes w c
due_never w c [] e = refl
due_never w c (d ∷ plan) e = absurd (let h : None ≡ Some d = e in let P : ⊥ = cc in P)

pub le_true : (a b : ℕ) → a ≤ b → nat_le a b ≡ true
le_true a b h = grind arith

pub le_false : (a b : ℕ) → b < a → nat_le a b ≡ false
le_false a b h = grind arith

-- ---- in a tick

left_first : (c : Channel) (left : List Event) (e : Event) (others : Choice) → Some e ≡ slice_get left 0 → left_or c left others ≡ Chosen e (record c { left = drop 1 left })
left_first c [] e others h = absurd (let g : Some e ≡ None = h in let P : ⊥ = cc in P)
left_first c (f ∷ left) e others h = ap (λ g. Chosen g (record c { left = left })) (let g : Some e ≡ Some f = h in let s : f ≡ e = cc in s)

left_none : (c : Channel) (left : List Event) (others : Choice) → None ≡ slice_get left 0 → left_or c left others ≡ others
left_none c [] others h = refl
left_none c (f ∷ left) others h = absurd (let g : None ≡ Some f = h in let P : ⊥ = cc in P)

nothing_dropped : {A : Type 0} (xs : List A) → None ≡ slice_get xs 0 → drop 1 xs ≡ xs
nothing_dropped [] h = refl
nothing_dropped (x ∷ xs) h = absurd (let g : None ≡ Some x = h in let P : ⊥ = cc in P)

-- a channel of which nothing was left to do is as it was
pub same_left : (c k : Channel) → None ≡ slice_get c.left 0 → k ≡ record c { left = drop 1 c.left } → k ≡ c
same_left c k none is = is ∙ ap (λ l. record c { left = l }) (nothing_dropped c.left none)

pub tick_left : (w : World) (c : Channel) (e : Event) → Some e ≡ slice_get c.left 0 → in_tick w c ≡ Chosen e (record c { left = drop 1 c.left })
unfolding in_tick
tick_left w c e h = left_first c c.left e _ h

pub tick_turn : (w : World) (c : Channel) (x : ℕ) → None ≡ slice_get c.left 0 → Some x ≡ first_turn w → in_tick w c ≡ Chosen (Turn x) c
unfolding in_tick
tick_turn w c x none turn = left_none c c.left _ none ∙ ap (λ o. turn_or c o (due_or w (looked_at w c) (looked_at w c).plan)) (sym turn)

pub tick_due : (w : World) (c : Channel) → None ≡ slice_get c.left 0 → None ≡ first_turn w → in_tick w c ≡ due_or w (looked_at w c) (looked_at w c).plan
unfolding in_tick
tick_due w c none turn = left_none c c.left _ none ∙ ap (λ o. turn_or c o (due_or w (looked_at w c) (looked_at w c).plan)) (sym turn)

-- ---- where a tick is over

pub enough_nothing : (until : Until) (did : ℕ) (c : Channel) → is_enough until did ≡ true → next_tick until did c ≡ Nothing c
enough_nothing until did c e = ap (λ b. if b then Nothing c else next_due until c c.plan) e

due_is : (until : Until) (c : Channel) (plan : Plan) (d : Due) → Some d ≡ slice_get plan 0 → nat_le d.tick (last_tick until) ≡ true
    → next_due until c plan ≡ Chosen (Deliver d.id) (record c { tick = d.tick; plan = drop 1 plan })
due_is until c [] d e now = absurd (let h : Some d ≡ None = e in let P : ⊥ = cc in P)
due_is until c (f ∷ plan) d e now =
    let now' : nat_le f.tick (last_tick until) ≡ true = ap (λ (g : Due). nat_le g.tick (last_tick until)) (sym (first_is d f e)) ∙ now in
    ap (λ b. if b then Chosen (Deliver f.id) (record c { tick = f.tick; plan = plan }) else Nothing (at_end until c)) now'
    ∙ ap (λ (g : Due). Chosen (Deliver g.id) (record c { tick = g.tick; plan = plan })) (sym (first_is d f e))

due_not : (until : Until) (c : Channel) (plan : Plan) (d : Due) → Some d ≡ slice_get plan 0 → nat_le d.tick (last_tick until) ≡ false → next_due until c plan ≡ Nothing (at_end until c)
due_not until c [] d e later = refl
due_not until c (f ∷ plan) d e later =
    let later' : nat_le f.tick (last_tick until) ≡ false = ap (λ (g : Due). nat_le g.tick (last_tick until)) (sym (first_is d f e)) ∙ later in
    ap (λ b. if b then Chosen (Deliver f.id) (record c { tick = f.tick; plan = plan }) else Nothing (at_end until c)) later'

due_none : (until : Until) (c : Channel) (plan : Plan) → None ≡ slice_get plan 0 → next_due until c plan ≡ Nothing (at_end until c)
due_none until c [] e = refl
due_none until c (d ∷ plan) e = absurd (let h : None ≡ Some d = e in let P : ⊥ = cc in P)

more : (until : Until) (did : ℕ) (c : Channel) → is_enough until did ≡ false → next_tick until did c ≡ next_due until c c.plan
more until did c e = ap (λ b. if b then Nothing c else next_due until c c.plan) e

pub next_is_due : (until : Until) (did : ℕ) (c : Channel) (d : Due) → is_enough until did ≡ false → Some d ≡ slice_get c.plan 0 → d.tick ≤ last_tick until
    → next_tick until did c ≡ Chosen (Deliver d.id) (record c { tick = d.tick; plan = drop 1 c.plan })
next_is_due until did c d e first h = more until did c e ∙ due_is until c c.plan d first (le_true d.tick (last_tick until) h)

pub next_is_later : (until : Until) (did : ℕ) (c : Channel) (d : Due) → is_enough until did ≡ false → Some d ≡ slice_get c.plan 0 → last_tick until < d.tick → next_tick until did c ≡ Nothing (at_end until c)
next_is_later until did c d e first h = more until did c e ∙ due_not until c c.plan d first (le_false d.tick (last_tick until) h)

pub next_is_none : (until : Until) (did : ℕ) (c : Channel) → is_enough until did ≡ false → None ≡ slice_get c.plan 0 → next_tick until did c ≡ Nothing (at_end until c)
next_is_none until did c e first = more until did c e ∙ due_none until c c.plan first

-- ---- the next event

pub choice_found : (until : Until) (did : ℕ) (w : World) (c k : Channel) (e : Event) → Chosen e k ≡ in_tick w c → next_choice until did w c ≡ Chosen e k
unfolding next_choice
choice_found until did w c k e is = ap (or_next_tick until did) (sym is)

pub choice_behind : (until : Until) (did : ℕ) (w : World) (c k : Channel) → Nothing k ≡ in_tick w c → next_choice until did w c ≡ next_tick until did k
unfolding next_choice
choice_behind until did w c k is = ap (or_next_tick until did) (sym is)

-- ---- the loop that looks at the plan

pub looked_now : (init c : Channel) (w : World) → c ≡ record init { plan = c.plan } → in_flight w.flying c.plan ≡ in_flight w.flying init.plan → in_flight w.flying c.plan ≡ c.plan → c ≡ looked_at w init
looked_now init c w same left now = same ∙ ap (λ (p : Plan). record init { plan = p }) (sym now ∙ left)

pub looked_on : (init c k : Channel) → c ≡ record init { plan = c.plan } → k ≡ record c { plan = drop 1 c.plan } → k ≡ record init { plan = k.plan }
looked_on init c k same is = is ∙ ap (λ (x : Channel). record x { plan = drop 1 c.plan }) same ∙ ap (λ (p : Plan). record init { plan = p }) (sym (ap (λ (x : Channel). x.plan) is))

pub looked_left : (init c k : Channel) (w : World) (d : Due) → in_flight w.flying c.plan ≡ in_flight w.flying init.plan → k ≡ record c { plan = drop 1 c.plan } → Some d ≡ slice_get c.plan 0 → is_some (find_copy w.flying d.id) ≡ false
    → in_flight w.flying k.plan ≡ in_flight w.flying init.plan
looked_left init c k w d left is first gone = ap (λ (x : Channel). in_flight w.flying x.plan) is ∙ sym (first_gone w.flying c.plan d first gone) ∙ left
