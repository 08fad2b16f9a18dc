-- Whether a datum was given or delivered, by what came of the event.
use Rattle.std.proofs.Common.{◌≡◌, ℕ, Bool, true, false, cond, List, Option, Some, None, refl, sym, ap, subst, ◌∙◌}
use Rattle.std.specs.List.{slice_get}
use Rattle.mesh_base.specs.declared.events.Full.{Full as Counter}
use Rattle.aodv_model.specs.Cores.{New}
use Rattle.aodv_model.specs.Handlers.{Effect, Took}
use Rattle.mesh_model.specs.Worlds as worlds
use Rattle.mesh_model.specs.Worlds.{World, Node, Copy, Event, Give, Turn, Send, Ask, Link, Cut, Deliver, Lose, Double, WorldEffect, Changed, Taken, Sent, CopyHeard, CopyLost, CopyDoubled, Outcome, Idle, Next, unless_full, send_of, ask_of, at_node, at_copy, find_copy, is_parcel, are_linked, push, step}
use Rattle.mesh_model.specs.Accounts.{any, given_data, delivered_data, delivered_at, delivered_in, in_taken}
use Rattle.mesh_world.specs.CountsOfEvents.{count_of}

-- ---- given

world_effect_in : Outcome → WorldEffect
world_effect_in Idle = Changed
world_effect_in (worlds.Full x f) = Changed
world_effect_in (Next w h) = h

-- more than a datum given or a link changed
abbrev pub NotChanged : WorldEffect → Type 0
NotChanged Changed = ⊥
NotChanged (Taken t f cs) = Unit {0}
NotChanged (Sent f cs) = Unit {0}
NotChanged (CopyHeard from to) = Unit {0}
NotChanged (CopyLost c) = Unit {0}
NotChanged (CopyDoubled id to parcel) = Unit {0}

give_changes : (w : World) (x d : ℕ) (b : List ℕ) → world_effect_in (step w (Give x d b)) ≡ Changed
unfolding step world_effect_in
give_changes w x d b = by_node (slice_get w.nodes x)
  where
    by_node : (o : Option Node) → world_effect_in (at_node o (λ core queue. Next (push w x (New b d)) Changed)) ≡ Changed
    by_node None = refl
    by_node (Some n) = refl

pub gives_none : (old new : World) (e : Event) (h : WorldEffect) → NotChanged h → step old e ≡ Next new h → given_data any e (step old e) ≡ 0
unfolding world_effect_in
gives_none old new (Give x d b) h other is =
    let same : h ≡ Changed = ap world_effect_in (sym is) ∙ give_changes old x d b in
    absurd (subst NotChanged same other)
gives_none old new (Turn x) h other is = refl
gives_none old new (Send x d) h other is = refl
gives_none old new (Ask x d) h other is = refl
gives_none old new (Link a b) h other is = refl
gives_none old new (Cut a b) h other is = refl
gives_none old new (Deliver id) h other is = refl
gives_none old new (Lose id) h other is = refl
gives_none old new (Double id) h other is = refl

-- ---- delivered

-- nothing was taken
abbrev NoTake : Outcome → Type 0
NoTake Idle = Unit {0}
NoTake (worlds.Full x f) = Unit {0}
NoTake (Next w Changed) = Unit {0}
NoTake (Next w (Taken t f cs)) = ⊥
NoTake (Next w (Sent f cs)) = Unit {0}
NoTake (Next w (CopyHeard from to)) = Unit {0}
NoTake (Next w (CopyLost c)) = Unit {0}
NoTake (Next w (CopyDoubled id to parcel)) = Unit {0}

no_take_sent : (b : Bool) (x : ℕ) (f : Option Counter) (w : World) (ef : Effect) (cs : List Copy) → NoTake (cond b (unless_full x f (Next w (Sent ef cs))) Idle)
no_take_sent true x None w ef cs = tt
no_take_sent true x (Some f) w ef cs = tt
no_take_sent false x f w ef cs = tt

no_take_give : (w : World) (x d : ℕ) (b : List ℕ) → NoTake (step w (Give x d b))
unfolding step
no_take_give w x d b = by_node (slice_get w.nodes x)
  where
    by_node : (o : Option Node) → NoTake (at_node o (λ core queue. Next (push w x (New b d)) Changed))
    by_node None = tt
    by_node (Some n) = tt

no_take_send : (w : World) (x d : ℕ) → NoTake (step w (Send x d))
unfolding step
no_take_send w x d = by_node (slice_get w.nodes x)
  where
    by_node : (o : Option Node) → NoTake (at_node o (send_of w x d))
    by_node None = tt
    by_node (Some n) = no_take_sent _ x _ _ _ _

no_take_ask : (w : World) (x d : ℕ) → NoTake (step w (Ask x d))
unfolding step
no_take_ask w x d = by_node (slice_get w.nodes x)
  where
    by_node : (o : Option Node) → NoTake (at_node o (ask_of w x d))
    by_node None = tt
    by_node (Some n) = no_take_sent _ x _ _ _ _

no_take_link : (w : World) (a b : ℕ) → NoTake (step w (Link a b)) × NoTake (step w (Cut a b))
unfolding step
no_take_link w a b = (on (are_linked w.links a b) _, off (are_linked w.links a b) _)
  where
    on : (t : Bool) (v : World) → NoTake (cond t Idle (Next v Changed))
    on true v = tt
    on false v = tt

    off : (t : Bool) (v : World) → NoTake (cond t (Next v Changed) Idle)
    off true v = tt
    off false v = tt

no_take_copy : (w : World) (id : ℕ) → NoTake (step w (Deliver id)) × NoTake (step w (Lose id)) × NoTake (step w (Double id))
unfolding step
no_take_copy w id = (heard (find_copy w.flying id) _, lost (find_copy w.flying id) _, doubled (find_copy w.flying id) _ w.next_copy)
  where
    heard : (o : Option Copy) (v : Copy → World) → NoTake (at_copy o (λ c. Next (v c) (CopyHeard c.from c.to)))
    heard None v = tt
    heard (Some c) v = tt

    lost : (o : Option Copy) (v : Copy → World) → NoTake (at_copy o (λ c. Next (v c) (CopyLost c)))
    lost None v = tt
    lost (Some c) v = tt

    doubled : (o : Option Copy) (v : Copy → World) (k : ℕ) → NoTake (at_copy o (λ c. Next (v c) (CopyDoubled k c.to (is_parcel c.message))))
    doubled None v k = tt
    doubled (Some c) v k = tt

pub delivers_taken : (old new : World) (e : Event) (t : Took) (f : Effect) (cs : List Copy) (r : Bool) → step old e ≡ Next new (Taken t f cs) → f.deliver ≡ true
    → ((x : ℕ) → in_taken any x t ≡ count_of r) → delivered_data any e (step old e) ≡ count_of r
delivers_taken old new (Turn x) t f cs r is true_is counts = ap (delivered_at any x) is ∙ ap (λ b. cond b (in_taken any x t) 0) true_is ∙ counts x
delivers_taken old new (Give x d b) t f cs r is true_is counts = absurd (subst NoTake is (no_take_give old x d b))
delivers_taken old new (Send x d) t f cs r is true_is counts = absurd (subst NoTake is (no_take_send old x d))
delivers_taken old new (Ask x d) t f cs r is true_is counts = absurd (subst NoTake is (no_take_ask old x d))
delivers_taken old new (Link a b) t f cs r is true_is counts = absurd (subst NoTake is (no_take_link old a b).0)
delivers_taken old new (Cut a b) t f cs r is true_is counts = absurd (subst NoTake is (no_take_link old a b).1)
delivers_taken old new (Deliver id) t f cs r is true_is counts = absurd (subst NoTake is (no_take_copy old id).0)
delivers_taken old new (Lose id) t f cs r is true_is counts = absurd (subst NoTake is (no_take_copy old id).1)
delivers_taken old new (Double id) t f cs r is true_is counts = absurd (subst NoTake is (no_take_copy old id).2)

-- nothing was taken by what happened
abbrev pub NotTaken : WorldEffect → Type 0
NotTaken Changed = Unit {0}
NotTaken (Taken t f cs) = ⊥
NotTaken (Sent f cs) = Unit {0}
NotTaken (CopyHeard from to) = Unit {0}
NotTaken (CopyLost c) = Unit {0}
NotTaken (CopyDoubled id to parcel) = Unit {0}

none_taken : (x : ℕ) (h : WorldEffect) → NotTaken h → delivered_in any x h ≡ 0
none_taken x Changed other = refl
none_taken x (Taken t f cs) other = absurd other
none_taken x (Sent f cs) other = refl
none_taken x (CopyHeard from to) other = refl
none_taken x (CopyLost c) other = refl
none_taken x (CopyDoubled id to parcel) other = refl

pub delivers_none : (old new : World) (e : Event) (h : WorldEffect) → NotTaken h → step old e ≡ Next new h → delivered_data any e (step old e) ≡ 0
delivers_none old new (Turn x) h other is = ap (delivered_at any x) is ∙ none_taken x h other
delivers_none old new (Give x d b) h other is = refl
delivers_none old new (Send x d) h other is = refl
delivers_none old new (Ask x d) h other is = refl
delivers_none old new (Link a b) h other is = refl
delivers_none old new (Cut a b) h other is = refl
delivers_none old new (Deliver id) h other is = refl
delivers_none old new (Lose id) h other is = refl
delivers_none old new (Double id) h other is = refl
