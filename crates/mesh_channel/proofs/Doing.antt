-- Events that are done one after another: those that the channel chooses, and those that are left to do.
use Rattle.std.proofs.Common.{◌≡◌, ◌∙◌, ℕ, zero, suc, ◌+◌, ◌-◌, ◌*◌, ◌<◌, ◌≤◌, ◌⊎◌, inl, inr, Bool, true, List, [], ◌∷◌, ◌++◌, Option, Some, None, Result, Ok, Err, length, drop, refl, sym, ap, subst, arith}
use Rattle.std.specs.Prelude.{slice_get, is_some}
use Rattle.std.specs.Io.KnownBytes.{Appends}
use Rattle.mesh_base.specs.declared.limits.TheConstants.{MOST_NODES}
use Rattle.mesh_io.specs.Puts.{AppendsPrefix}
use Rattle.mesh_io.proofs.Writing.{AppendsPrefix-none}
use Rattle.mesh_model.specs.Worlds as worlds
use Rattle.mesh_model.specs.Worlds.{World, Event, Give, Turn, Send, Ask, Link, Cut, Deliver, Lose, Double, Outcome, Idle, Next, step}
use Rattle.mesh_text.specs.Schedule.{RunState, world_of, next_state, outcome_at}
use Rattle.mesh_text.specs.Auto.{Ended, Full as EventsFull, outcome_of_events}
use Rattle.mesh_text.specs.Text.{On, Full}
use Rattle.mesh_run.specs.declared.stop.Stop.{Stop}
use Rattle.mesh_run.specs.declared.stop.Stop.TheVariants as stop
use Rattle.mesh_run.specs.Outputs.{says_lines}
use Rattle.mesh_run.specs.Runs.{output_if, IsLineDone, IsLineStopped, outcome_by, line_outcome_at, IsEventsDone, IsEventsRun, text_of}
use Rattle.mesh_run.proofs.Events.{stepped_started, stepped_mesh, stepped_lines, stepped_steps}
use Rattle.mesh_run.proofs.Chosen.{one_less, then_goes, then_stops, nothing_more}
use Rattle.mesh_fates.specs.declared.rates.Rates.{Rates}
use Rattle.mesh_fates.specs.Left.{IsNumbered}
use Rattle.mesh_fates.specs.Channels.{Channel, after_chosen}
use Rattle.mesh_channel.specs.declared.until.Until.{Until}
use Rattle.mesh_channel.specs.declared.until.TheConstants.{LAST_TICK}
use Rattle.mesh_channel.specs.Choices.{Choice, Chosen, Nothing, next_choice}
use Rattle.mesh_channel.specs.Chosen.{Drawn, none, before, event_then, choice_then, chosen_from}
use Rattle.mesh_channel.specs.RunStates.{choice_of, IsLeftBehind, run_state_of, moved}
use Rattle.mesh_channel.specs.declared.channeled.Channeled.{Channeled}
use Rattle.mesh_channel.specs.Room.{most_left, HasFewCopies}
use Rattle.mesh_channel.proofs.InMesh.{IsOfLeft}
use Rattle.mesh_channel.proofs.Numbers.{quiet_of_left}

-- ---- one event, and then others

pub list_goes : (say : Bool) (m n k : RunState) (e : Event) (es : List Event) (a b c : Option (List ℕ)) (r : Result ℕ Stop)
    → IsLineDone say (outcome_by m e (outcome_at m e)) n a b → IsEventsRun say n (outcome_of_events n es) k b c r → IsEventsRun say m (outcome_of_events m (e ∷ es)) k a c r
unfolding outcome_of_events
list_goes say m n k e es a b c r g q = then_goes say m n k e (outcome_at m e) (λ x. outcome_of_events x es) a b c r g q

pub list_stops : (say : Bool) (m n : RunState) (e : Event) (es : List Event) (a b : Option (List ℕ)) (t : Stop)
    → IsLineStopped say m (outcome_by m e (outcome_at m e)) n a b t → IsEventsRun say m (outcome_of_events m (e ∷ es)) n a b (Err t)
unfolding outcome_of_events
list_stops say m n e es a b t g = then_stops say m n e (outcome_at m e) (λ x. outcome_of_events x es) a b t g

-- memory ran out behind an event
pub list_breaks : (say : Bool) (m n k : RunState) (e : Event) (es : List Event) (a b : Option (List ℕ)) → IsLineDone say (outcome_by m e (outcome_at m e)) n a b
    → IsEventsRun say m (outcome_of_events m (e ∷ es)) k a b (Err stop.NoMemory)
list_breaks say m n k e es a b g = list_goes say m n k e es a b b (Err stop.NoMemory) g (AppendsPrefix-none b (output_if say (text_of (outcome_of_events n es))))

-- ---- events that the channel chooses

chosen_suc : (k : ℕ) (rates : Rates) (until : Until) (did : ℕ) (m : RunState) (c : Channel)
    → chosen_from (suc k) rates until did m c ≡ choice_then rates m (next_choice until did (world_of m) c) (λ n after. chosen_from k rates until (did + 1) n after)
unfolding chosen_from
chosen_suc k rates until did m c = refl

chosen_zero : (rates : Rates) (until : Until) (did : ℕ) (m : RunState) (c : Channel) → chosen_from 0 rates until did m c ≡ none c
unfolding chosen_from
chosen_zero rates until did m c = refl

chosen_one : (most did : ℕ) (rates : Rates) (until : Until) (m : RunState) (c : Channel) (choice : Choice) → did < most → choice ≡ next_choice until did (world_of m) c
    → chosen_from (most - did) rates until did m c ≡ choice_then rates m choice (λ n after. chosen_from (most - (did + 1)) rates until (did + 1) n after)
chosen_one most did rates until m c choice h p =
    ap (λ k. chosen_from k rates until did m c) (one_less most did h) ∙ chosen_suc (most - (did + 1)) rates until did m c
    ∙ ap (λ o. choice_then rates m o (λ n after. chosen_from (most - (did + 1)) rates until (did + 1) n after)) (sym p)

-- as many were done as may be
pub chosen_all : (most did : ℕ) (rates : Rates) (until : Until) (m : RunState) (c : Channel) → most ≤ did → chosen_from (most - did) rates until did m c ≡ none c
chosen_all most did rates until m c h =
    let zero' : most - did ≡ 0 = omega (arith, h) in
    ap (λ k. chosen_from k rates until did m c) zero' ∙ chosen_zero rates until did m c

-- none is chosen
pub chosen_none : (most did : ℕ) (rates : Rates) (until : Until) (m : RunState) (c k : Channel) (o : Option Event) → did < most → o ≡ None → choice_of o k ≡ next_choice until did (world_of m) c
    → chosen_from (most - did) rates until did m c ≡ none k
chosen_none most did rates until m c k o h is p = chosen_one most did rates until m c (Nothing k) h (ap (λ q. choice_of q k) (sym is) ∙ p)

then_before : (say : Bool) (m n : RunState) (e : Event) (o : Outcome) (c : Channel) (others : Drawn) (a b : Option (List ℕ)) → IsLineDone say (outcome_by m e o) n a b → event_then e o c others ≡ before e others
then_before say m n e Idle c others a b g = refl
then_before say m n e (worlds.Full x field) c others a b g = absurd (let h : Full [] m e field ≡ On g.text n = g.is in let P : ⊥ = cc in P)
then_before say m n e (Next w i) c others a b g = refl

-- one is chosen and done
pub chosen_goes : (say : Bool) (most did : ℕ) (rates : Rates) (until : Until) (m n : RunState) (c k after : Channel) (e : Event) (o : Option Event) (a b : Option (List ℕ)) → did < most → o ≡ Some e → choice_of o k ≡ next_choice until did (world_of m) c
    → IsLineDone say (outcome_by m e (outcome_at m e)) n a b → n ≡ next_state m e → after ≡ after_chosen rates (world_of m) (outcome_at m e) k
    → chosen_from (most - did) rates until did m c ≡ before e (chosen_from (most - (did + 1)) rates until (did + 1) n after)
chosen_goes say most did rates until m n c k after e o a b h is p g next then =
    chosen_one most did rates until m c (Chosen e k) h (ap (λ q. choice_of q k) (sym is) ∙ p)
    ∙ then_before say m n e (outcome_at m e) k _ a b g
    ∙ ap (λ (x : RunState). before e (chosen_from (most - (did + 1)) rates until (did + 1) x (after_chosen rates (world_of m) (outcome_at m e) k))) (sym next)
    ∙ ap (λ (x : Channel). before e (chosen_from (most - (did + 1)) rates until (did + 1) n x)) (sym then)

events_then : (e : Event) (o : Outcome) (c : Channel) (others : Drawn) → (es : List Event) × ((event_then e o c others).events ≡ e ∷ es)
events_then e Idle c others = (others.events, refl)
events_then e (worlds.Full x field) c others = ([], refl)
events_then e (Next w i) c others = (others.events, refl)

events_first : (most did : ℕ) (rates : Rates) (until : Until) (m : RunState) (c k : Channel) (e : Event) (o : Option Event) → did < most → o ≡ Some e → choice_of o k ≡ next_choice until did (world_of m) c
    → (es : List Event) × ((chosen_from (most - did) rates until did m c).events ≡ e ∷ es)
events_first most did rates until m c k e o h is p =
    let all = chosen_one most did rates until m c (Chosen e k) h (ap (λ q. choice_of q k) (sym is) ∙ p) in
    let es = events_then e (outcome_at m e) k (chosen_from (most - (did + 1)) rates until (did + 1) (next_state m e) (after_chosen rates (world_of m) (outcome_at m e) k)) in
    (es.0, ap (λ (d : Drawn). d.events) all ∙ es.1)

-- one is chosen, and not done or not written whole
pub chosen_stops : (say : Bool) (most did : ℕ) (rates : Rates) (until : Until) (m n : RunState) (c k : Channel) (e : Event) (o : Option Event) (a b : Option (List ℕ)) (t : Stop) → did < most → o ≡ Some e → choice_of o k ≡ next_choice until did (world_of m) c
    → IsLineStopped say m (outcome_by m e (outcome_at m e)) n a b t → IsEventsRun say m (outcome_of_events m (chosen_from (most - did) rates until did m c).events) n a b (Err t)
chosen_stops say most did rates until m n c k e o a b t h is p g =
    let first = events_first most did rates until m c k e o h is p in
    subst (λ (es : List Event). IsEventsRun say m (outcome_of_events m es) n a b (Err t)) (sym first.1) (list_stops say m n e first.0 a b t g)

-- memory ran out behind it
pub chosen_breaks : (say : Bool) (most did : ℕ) (rates : Rates) (until : Until) (m n q : RunState) (c k : Channel) (e : Event) (o : Option Event) (a b : Option (List ℕ)) → did < most → o ≡ Some e → choice_of o k ≡ next_choice until did (world_of m) c
    → IsLineDone say (outcome_by m e (outcome_at m e)) n a b → IsEventsRun say m (outcome_of_events m (chosen_from (most - did) rates until did m c).events) q a b (Err stop.NoMemory)
chosen_breaks say most did rates until m n q c k e o a b h is p g =
    let first = events_first most did rates until m c k e o h is p in
    subst (λ (es : List Event). IsEventsRun say m (outcome_of_events m es) q a b (Err stop.NoMemory)) (sym first.1) (list_breaks say m n q e first.0 a b g)

-- ---- what is left to do

of_left : (e : Event) → IsNumbered e → IsOfLeft e
unfolding IsOfLeft
of_left (Double id) is = tt
of_left (Lose id) is = tt
of_left (Give x d b) is = absurd is
of_left (Turn x) is = absurd is
of_left (Send x d) is = absurd is
of_left (Ask x d) is = absurd is
of_left (Link a b) is = absurd is
of_left (Cut a b) is = absurd is
of_left (Deliver id) is = absurd is

pub left_few : (rates : Rates) (m : RunState) (e : Event) (c k after : Channel) → IsLeftBehind c (Some e) k → length c.left ≤ most_left → after ≡ after_chosen rates (world_of m) (outcome_at m e) k
    → length after.left ≤ length k.left + 3 * MOST_NODES → length after.left ≤ most_left
left_few rates m e c k after (inl nothing) few is more =
    let zero' : length k.left ≡ 0 = ap length nothing in
    omega (arith, more)
left_few rates m e c k after (inr some) few is more =
    let same : length after.left ≡ length k.left = ap (λ (q : Channel). length q.left) (is ∙ quiet_of_left rates (world_of m) e k (of_left e some.0)) in
    omega (arith, some.1, few)

-- ---- in the loop

-- whatever is told of the others, the same then is of all
pub chosen_ran : (say : Bool) (most did : ℕ) (rates : Rates) (until : Until) (m n q : RunState) (c k after : Channel) (e : Event) (o : Option Event) (a b now : Option (List ℕ)) (r : Result ℕ Stop) → did < most → o ≡ Some e → choice_of o k ≡ next_choice until did (world_of m) c
    → IsLineDone say (outcome_by m e (outcome_at m e)) n a b → n ≡ next_state m e → after ≡ after_chosen rates (world_of m) (outcome_at m e) k
    → IsEventsRun say n (outcome_of_events n (chosen_from (most - (did + 1)) rates until (did + 1) n after).events) q b now r
    → IsEventsRun say m (outcome_of_events m (chosen_from (most - did) rates until did m c).events) q a now r
chosen_ran say most did rates until m n q c k after e o a b now r h is p g next then others =
    let rest : Drawn = chosen_from (most - (did + 1)) rates until (did + 1) n after in
    subst (λ (d : Drawn). IsEventsRun say m (outcome_of_events m d.events) q a now r) (sym (chosen_goes say most did rates until m n c k after e o a b h is p g next then)) (list_goes say m n q e rest.events a b now r g others)

pub chosen_channel : (say : Bool) (most did : ℕ) (rates : Rates) (until : Until) (m n : RunState) (c k after : Channel) (e : Event) (o : Option Event) (a b : Option (List ℕ)) → did < most → o ≡ Some e → choice_of o k ≡ next_choice until did (world_of m) c
    → IsLineDone say (outcome_by m e (outcome_at m e)) n a b → n ≡ next_state m e → after ≡ after_chosen rates (world_of m) (outcome_at m e) k
    → (chosen_from (most - (did + 1)) rates until (did + 1) n after).channel ≡ (chosen_from (most - did) rates until did m c).channel
chosen_channel say most did rates until m n c k after e o a b h is p g next then = sym (ap (λ (d : Drawn). d.channel) (chosen_goes say most did rates until m n c k after e o a b h is p g next then))

-- the loop ends where nothing is chosen
pub ended_ran : (say : Bool) (m : RunState) (d : Drawn) (k : Channel) (a : Option (List ℕ)) → d ≡ none k → IsEventsDone say (outcome_of_events m d.events) m a a
ended_ran say m d k a is = nothing_more say m d.events a (ap (λ (x : Drawn). x.events) is)

-- ---- the state of the program

pub moved_on : (p q r : Channeled) → q ≡ moved p (run_state_of q) → r ≡ moved q (run_state_of r) → r ≡ moved p (run_state_of r)
moved_on p q r one two = two ∙ ap (λ (x : Channeled). moved x (run_state_of r)) one

pub moved_channel : (p q : Channeled) → q ≡ record p { channel = q.channel } → q ≡ moved p (run_state_of q)
moved_channel p q is = is ∙ ap (λ (x : RunState). record p { point = x; channel = q.channel }) (sym (ap (λ (x : Channeled). x.point) is))

pub moved_point : (p q : Channeled) → q ≡ record p { point = q.point } → q ≡ moved p (run_state_of q)
moved_point p q is = is ∙ ap (λ (x : Channel). record p { point = q.point; channel = x }) (sym (ap (λ (x : Channeled). x.channel) is))

-- an event that is chosen at p, which takes the channel to that of q, is done and decided of at z
pub record Stepped (say : Bool) (rates : Rates) (p q z : Channeled) (e : Event) (a b : Option (List ℕ)) : Type 0 where
  pub done : IsLineDone say (outcome_by p.point e (outcome_at p.point e)) z.point a b
  pub next : z.point ≡ next_state p.point e
  pub then : z.channel ≡ after_chosen rates (world_of p.point) (outcome_at p.point e) q.channel
  pub only : z ≡ moved p (run_state_of z)

pub stepped : (say : Bool) (rates : Rates) (p q r z : Channeled) (e : Event) (a b : Option (List ℕ)) → q ≡ record p { channel = q.channel } → r ≡ record q { point = r.point } → z ≡ record r { channel = z.channel }
    → IsLineDone say (outcome_by q.point e (outcome_at q.point e)) r.point a b → r.point ≡ next_state q.point e → z.channel ≡ after_chosen rates (world_of q.point) (outcome_at q.point e) r.channel
    → Stepped say rates p q z e a b
stepped say rates p q r z e a b one two three done next then =
    let before_is : q.point ≡ p.point = ap (λ (x : Channeled). x.point) one in
    let after_is : r.point ≡ z.point = sym (ap (λ (x : Channeled). x.point) three) in
    let kept : r.channel ≡ q.channel = ap (λ (x : Channeled). x.channel) two in
    record {
      done = subst (λ (x : RunState). IsLineDone say (outcome_by p.point e (outcome_at p.point e)) x a b) after_is
          (subst (λ (x : RunState). IsLineDone say (outcome_by x e (outcome_at x e)) r.point a b) before_is done);
      next = sym after_is ∙ next ∙ ap (λ (x : RunState). next_state x e) before_is;
      then = then ∙ ap (λ (x : RunState). after_chosen rates (world_of x) (outcome_at x e) r.channel) before_is ∙ ap (after_chosen rates (world_of p.point) (outcome_at p.point e)) kept;
      only = moved_on p r z (moved_on p q r (moved_channel p q one) (moved_point q r two)) (moved_channel r z three);
    }

-- one that stops the run
pub stopped : (say : Bool) (p q : Channeled) (n : RunState) (e : Event) (a b : Option (List ℕ)) (t : Stop) → q ≡ record p { channel = q.channel } → IsLineStopped say q.point (outcome_by q.point e (outcome_at q.point e)) n a b t
    → IsLineStopped say p.point (outcome_by p.point e (outcome_at p.point e)) n a b t
stopped say p q n e a b t one stop = subst (λ (x : RunState). IsLineStopped say x (outcome_by x e (outcome_at x e)) n a b t) (ap (λ (x : Channeled). x.point) one) stop

-- ---- the loop over what is left

pub first_left : (left : List Event) (e : Event) (o : Option Event) → o ≡ Some e → o ≡ slice_get left 0 → left ≡ e ∷ drop 1 left
first_left [] e o is first = absurd (let h : Some e ≡ None = sym is ∙ first in let P : ⊥ = cc in P)
first_left (f ∷ left) e o is first = ap (λ x. x ∷ left) (let h : Some e ≡ Some f = sym is ∙ first in let s : f ≡ e = cc in s)

pub no_left : (left : List Event) (o : Option Event) → o ≡ None → o ≡ slice_get left 0 → left ≡ []
no_left [] o is first = refl
no_left (f ∷ left) o is first = absurd (let h : None ≡ Some f = sym is ∙ first in let P : ⊥ = cc in P)

pub left_goes : (say : Bool) (m n q : RunState) (e : Event) (left rest : List Event) (o : Option Event) (a b now : Option (List ℕ)) (r : Result ℕ Stop) → o ≡ Some e → o ≡ slice_get left 0 → rest ≡ drop 1 left
    → IsLineDone say (outcome_by m e (outcome_at m e)) n a b → IsEventsRun say n (outcome_of_events n rest) q b now r → IsEventsRun say m (outcome_of_events m left) q a now r
left_goes say m n q e left rest o a b now r is first same done others =
    subst (λ (l : List Event). IsEventsRun say m (outcome_of_events m l) q a now r) (ap (λ (l : List Event). e ∷ l) same ∙ sym (first_left left e o is first)) (list_goes say m n q e rest a b now r done others)

pub left_stops : (say : Bool) (m n : RunState) (e : Event) (left : List Event) (o : Option Event) (a b : Option (List ℕ)) (t : Stop) → o ≡ Some e → o ≡ slice_get left 0
    → IsLineStopped say m (outcome_by m e (outcome_at m e)) n a b t → IsEventsRun say m (outcome_of_events m left) n a b (Err t)
left_stops say m n e left o a b t is first stop =
    subst (λ (l : List Event). IsEventsRun say m (outcome_of_events m l) n a b (Err t)) (sym (first_left left e o is first)) (list_stops say m n e (drop 1 left) a b t stop)

pub left_one : (left : List Event) (e : Event) (o : Option Event) → o ≡ Some e → o ≡ slice_get left 0 → length left ≡ length (drop 1 left) + 1
left_one left e o is first = let h : length left ≡ length (e ∷ drop 1 left) = ap length (first_left left e o is first) in omega arith

pub left_kept : (i c k : Channel) → c ≡ record i { left = c.left } → k ≡ record c { left = drop 1 c.left } → k ≡ record i { left = k.left }
left_kept i c k same is = is ∙ ap (λ (x : Channel). record x { left = drop 1 c.left }) same ∙ ap (λ (l : List Event). record i { left = l }) (sym (ap (λ (x : Channel). x.left) is))

pub left_over : (i c k : Channel) → c ≡ record i { left = c.left } → k ≡ record c { left = drop 1 c.left } → c.left ≡ [] → k ≡ record i { left = [] }
left_over i c k same is none = is ∙ ap (λ (x : Channel). record x { left = drop 1 c.left }) same ∙ ap (λ (l : List Event). record i { left = drop 1 l }) none

-- ---- what stands before each turn of the loops

-- from the state i of a run to the state p: whatever is told of the events that are left there, the same then is of all of them
abbrev pub LeftSoFar : Channeled → Channeled → Option (List ℕ) → Option (List ℕ) → ℕ → ℕ → Type 0
LeftSoFar i p a b f g = record {
  ran : (now : Option (List ℕ)) (n : RunState) (r : Result ℕ Stop)
      → IsEventsRun (says_lines i.say) p.point (outcome_of_events p.point p.channel.left) n b now r
      → IsEventsRun (says_lines i.say) i.point (outcome_of_events i.point i.channel.left) n a now r;
  channel : p.channel ≡ record i.channel { left = p.channel.left };
  only : p ≡ moved i (run_state_of p);
  some : 1 ≤ length p.point.mesh;
  started : is_some p.point.world ≡ true;
  lines : p.point.lines ≡ i.point.lines;
  faults : g ≡ f;
  steps : p.point.steps + length p.channel.left ≡ i.point.steps + length i.channel.left;
  copies : HasFewCopies p.point;
}

-- the first of them is taken at q and done at r
pub left_goes_on : (i p q r : Channeled) (e : Event) (o : Option Event) (a b x : Option (List ℕ)) (f g h : ℕ) → LeftSoFar i p a b f g
    → q ≡ record p { channel = q.channel } → q.channel ≡ record p.channel { left = drop 1 p.channel.left } → o ≡ slice_get p.channel.left 0 → o ≡ Some e
    → r ≡ record q { point = r.point } → IsLineDone (says_lines q.say) (line_outcome_at q.point e) r.point b x → r.point ≡ next_state q.point e
    → h ≡ g → HasFewCopies r.point → LeftSoFar i r a x f h
left_goes_on i p q r e o a b x f g h so_far taken rest first is only comes next faults copies =
    let told : says_lines q.say ≡ says_lines i.say = ap (λ (y : Channeled). says_lines y.say) taken ∙ ap (λ (y : Channeled). says_lines y.say) so_far.only in
    let here = subst (λ (s : Bool). IsLineDone s (line_outcome_at q.point e) r.point b x) told comes in
    let at_q : q.point ≡ p.point = ap (λ (y : Channeled). y.point) taken in
    let done = subst (λ (m : RunState). IsLineDone (says_lines i.say) (line_outcome_at m e) r.point b x) at_q here in
    let kept : r.channel ≡ record p.channel { left = drop 1 p.channel.left } = ap (λ (y : Channeled). y.channel) only ∙ rest in
    let steps = stepped_steps q.point r.point e next in
    let steps_kept = ap (λ (y : Channeled). y.point.steps) taken in
    let one = left_one p.channel.left e o is first in
    let less = ap (λ (y : Channel). length y.left) kept in
    let size = ap (λ (m : RunState). length m.mesh) at_q in
    let size_kept = ap length (stepped_mesh q.point r.point e next) in
    record {
      ran = λ now n t others. so_far.ran now n t
          (left_goes (says_lines i.say) p.point r.point n e p.channel.left r.channel.left o b x now t is first (ap (λ (y : Channel). y.left) kept) done others);
      channel = left_kept i.channel p.channel r.channel so_far.channel kept;
      only = moved_on i p r so_far.only (moved_on p q r (moved_channel p q taken) (moved_point q r only));
      some = omega (arith, size, size_kept, so_far.some);
      started = stepped_started q.point r.point e next;
      lines = stepped_lines q.point r.point e next ∙ ap (λ (m : RunState). m.lines) at_q ∙ so_far.lines;
      faults = faults ∙ so_far.faults;
      steps = omega (arith, steps, steps_kept, one, less, so_far.steps);
      copies = copies;
    }

-- the same, where the channel chooses the events: `did` of at most `most` are done
abbrev pub ChosenSoFar : Until → ℕ → Channeled → Channeled → ℕ → Option (List ℕ) → Option (List ℕ) → ℕ → ℕ → Type 0
ChosenSoFar until most i p did a b f g = record {
  ran : (now : Option (List ℕ)) (n : RunState) (r : Result ℕ Stop)
      → IsEventsRun (says_lines i.say) p.point (outcome_of_events p.point (chosen_from (most - did) i.rates until did p.point p.channel).events) n b now r
      → IsEventsRun (says_lines i.say) i.point (outcome_of_events i.point (chosen_from most i.rates until 0 i.point i.channel).events) n a now r;
  channel : (chosen_from (most - did) i.rates until did p.point p.channel).channel ≡ (chosen_from most i.rates until 0 i.point i.channel).channel;
  only : p ≡ moved i (run_state_of p);
  started : is_some p.point.world ≡ true;
  lines : p.point.lines ≡ i.point.lines;
  faults : g ≡ f;
  within : did ≤ most;
  steps : p.point.steps ≡ i.point.steps + did;
  tick : p.channel.tick ≤ LAST_TICK;
  left : length p.channel.left ≤ most_left;
  copies : HasFewCopies p.point;
}

-- one more is chosen at q and done at r, and channel k is what is decided of its copies
pub chosen_goes_on : (until : Until) (most did : ℕ) (i p q r : Channeled) (k : Channel) (e : Event) (o : Option Event) (a b x : Option (List ℕ)) (f g h : ℕ) → ChosenSoFar until most i p did a b f g
    → did < most → q ≡ record p { channel = q.channel } → choice_of o q.channel ≡ next_choice until did (world_of p.point) p.channel → IsLeftBehind p.channel o q.channel → q.channel.tick ≤ LAST_TICK → o ≡ Some e
    → r ≡ record q { point = r.point } → IsLineDone (says_lines q.say) (line_outcome_at q.point e) r.point b x → r.point ≡ next_state q.point e → h ≡ g → HasFewCopies r.point
    → k ≡ after_chosen r.rates (world_of q.point) (outcome_at q.point e) r.channel → k.tick ≡ r.channel.tick → length k.left ≤ length r.channel.left + 3 * MOST_NODES
    → ChosenSoFar until most i (record r { channel = k }) (did + 1) a x f h
chosen_goes_on until most did i p q r k e o a b x f g h so_far more taken value behind tick is only comes next faults copies decided still few =
    let say = says_lines i.say in
    let z : Channeled = record r { channel = k } in
    let told : says_lines q.say ≡ say = ap (λ (y : Channeled). says_lines y.say) taken ∙ ap (λ (y : Channeled). says_lines y.say) so_far.only in
    let rated : r.rates ≡ i.rates = ap (λ (y : Channeled). y.rates) only ∙ ap (λ (y : Channeled). y.rates) taken ∙ ap (λ (y : Channeled). y.rates) so_far.only in
    let done = subst (λ (s : Bool). IsLineDone s (line_outcome_at q.point e) r.point b x) told comes in
    let then = decided ∙ ap (λ (y : Rates). after_chosen y (world_of q.point) (outcome_at q.point e) r.channel) rated in
    let s = stepped say i.rates p q r z e b x taken only refl done next then in
    let steps = stepped_steps q.point r.point e next in
    let steps_kept = ap (λ (y : Channeled). y.point.steps) taken in
    let left_same = ap (λ (y : Channeled). length y.channel.left) only in
    let tick_same = ap (λ (y : Channeled). y.channel.tick) only in
    record {
      ran = λ now n t others. so_far.ran now n t (chosen_ran say most did i.rates until p.point z.point n p.channel q.channel z.channel e o b x now t more is value s.done s.next s.then others);
      channel = chosen_channel say most did i.rates until p.point z.point p.channel q.channel z.channel e o b x more is value s.done s.next s.then ∙ so_far.channel;
      only = moved_on i p z so_far.only s.only;
      started = stepped_started q.point r.point e next;
      lines = stepped_lines q.point r.point e next ∙ ap (λ (y : Channeled). y.point.lines) taken ∙ so_far.lines;
      faults = faults ∙ so_far.faults;
      within = omega (arith, more);
      steps = omega (arith, steps, steps_kept, so_far.steps);
      tick = omega (arith, tick, tick_same, still);
      left = left_few i.rates p.point e p.channel q.channel z.channel (subst (λ (y : Option Event). IsLeftBehind p.channel y q.channel) is behind) so_far.left s.then (omega (arith, left_same, few));
      copies = copies;
    }
