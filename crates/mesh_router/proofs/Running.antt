-- A line of the script, by what the router does for it.
use Rattle.std.proofs.Common.{◌≡◌, ℕ, ◌≤◌, ◌+◌, List, [], Option, Result, Ok, Err, refl, sym, ap, ◌∙◌, subst, arith}
use Rattle.std.specs.Prelude.{unwrap_or, OnErr}
use Rattle.mesh_grammar.specs.Written.{line}
use Rattle.mesh_link.specs.Datagrams.{Datagram}
use Rattle.mesh_script.specs.Peers.{PeersSeen, with_self, with_peer}
use Rattle.mesh_script.specs.NodeLines.{AcceptedLine, Nothing, Own, Peer, Up, Down, Give, Polls, Turns, Sends, Asks, Shows, words_of}
use Rattle.mesh_router.specs.declared.stop.Stop.{Stop}
use Rattle.mesh_router.specs.declared.stop.Stop.TheVariants as stop
use Rattle.mesh_router.specs.Logs.{nothing, text_log, followed_by}
use Rattle.mesh_router.specs.Routers.{Router, fresh_at, Stage, Joining, Running, peers_in, router_in, RunState, counted_at, opening_run_state}
use Rattle.mesh_router.specs.Turns.{StepOutcome, StepDone, StepFull}
use Rattle.mesh_router.specs.Finds.{Find, left_after, AreFound}
use Rattle.mesh_router.specs.Polls.{polls_of}
use Rattle.mesh_router.specs.Lines.{LineOutcome, On, words_at, refused_words, join_outcome, act_outcome, polled_line, step_of, outcome_of_line}
use Rattle.mesh_router.specs.Outputs.{Outputs, Adds, AddsPrefix}
use Rattle.mesh_router.specs.Runs.{log_in, log_of, IsCommand, IsStepRun, IsPollLineDone, IsPollLineInPart, IsNotFull, IsLineInPart, IsLineRun}
use Rattle.mesh_script.specs.Peers.{no_peers}
use Rattle.mesh_router.specs.Seen.{IsGrown, HasCounts}
use Rattle.mesh_router.specs.Joins.{found-none}
use Rattle.mesh_router.proofs.Logging.{prefix-none}

-- ---- what a line comes to

fresh_peers : (p : PeersSeen) (me : ℕ) → (fresh_at p me).peers ≡ p
unfolding fresh_at
fresh_peers p me = refl

pub router_peers : (s : Stage) → (router_in s).peers ≡ peers_in s
router_peers (Joining p) = fresh_peers p (unwrap_or p.me 0)
router_peers (Running r) = refl

pub outcome_blank : (m : RunState) (finds : List Find) → outcome_of_line m Nothing finds ≡ On nothing (counted_at m m.stage) finds
unfolding outcome_of_line
outcome_blank m finds = refl

pub outcome_self : (m : RunState) (a first : ℕ) (finds : List Find) → outcome_of_line m (Own a first) finds ≡ join_outcome m (Own a first) (Joining (with_self (peers_in m.stage) a first)) finds
unfolding outcome_of_line
outcome_self m a first finds = refl

pub outcome_peer : (m : RunState) (a port : ℕ) (finds : List Find) → outcome_of_line m (Peer a port) finds ≡ join_outcome m (Peer a port) (Joining (with_peer (peers_in m.stage) a port)) finds
unfolding outcome_of_line
outcome_peer m a port finds = refl

outcome_polls : (m : RunState) (count : ℕ) (finds : List Find) → outcome_of_line m (Polls count) finds ≡ polled_line m (Polls count) (polls_of count (router_in m.stage) finds)
unfolding outcome_of_line
outcome_polls m count finds = refl

outcome_step : (m : RunState) (l : AcceptedLine) (finds : List Find) → IsCommand l → outcome_of_line m l finds ≡ act_outcome m l finds (step_of (router_in m.stage) (words_at m.stage l) l)
unfolding outcome_of_line
outcome_step m Nothing finds is = absurd is
outcome_step m (Own a first) finds is = absurd is
outcome_step m (Peer a port) finds is = absurd is
outcome_step m (Polls count) finds is = absurd is
outcome_step m (Up x) finds is = refl
outcome_step m (Down x) finds is = refl
outcome_step m (Give x body) finds is = refl
outcome_step m (Turns count) finds is = refl
outcome_step m (Sends d) finds is = refl
outcome_step m (Asks d) finds is = refl
outcome_step m Shows finds is = refl

-- ---- what is told of it

abbrev the_err : Stop → Result (Unit {0}) Stop
the_err x = Err x

-- nothing was told
pub line_untold : (k : List Find → LineOutcome) (words : List ℕ) (next : RunState) (arrived : Option (List Datagram)) (a : Outputs) (r : Result (Unit {0}) Stop) (e : Stop) → r ≡ Err e → e ≡ stop.NoMemory → IsLineRun k words next arrived arrived a a r
line_untold k words next arrived a r e was is =
    subst (IsLineRun k words next arrived arrived a a) (sym (was ∙ ap the_err is))
    (record { found = []; taken = found-none arrived; told = λ finds are. prefix-none a (log_of (k finds)) })

-- a prefix of the one line that joins the mesh
pub joined_cut : (m : RunState) (l : AcceptedLine) (stage : Stage) (words : List ℕ) (next : RunState) (arrived : Option (List Datagram)) (a b : Outputs) (r : Result (Unit {0}) Stop) (e : Stop) → ((finds : List Find) → outcome_of_line m l finds ≡ join_outcome m l stage finds)
    → r ≡ Err e → e ≡ stop.WriteFault → AddsPrefix a b (text_log (line (words_at m.stage l))) → IsLineRun (outcome_of_line m l) words next arrived arrived a b r
joined_cut m l stage words next arrived a b r e is was fault p =
    subst (IsLineRun (outcome_of_line m l) words next arrived arrived a b) (sym (was ∙ ap the_err fault))
    (record { found = []; taken = found-none arrived; told = λ finds are. subst (λ (k : LineOutcome). AddsPrefix a b (log_of k)) (sym (is finds)) p })

pub joined_done : (m : RunState) (l : AcceptedLine) (stage : Stage) (words : List ℕ) (next : RunState) (arrived : Option (List Datagram)) (a b : Outputs) → ((finds : List Find) → outcome_of_line m l finds ≡ join_outcome m l stage finds)
    → next ≡ counted_at m stage → Adds a b (text_log (line (words_at m.stage l))) → IsLineRun (outcome_of_line m l) words next arrived arrived a b (Ok tt)
joined_done m l stage words next arrived a b is at p = record {
  found = [];
  taken = found-none arrived;
  log = text_log (line (words_at m.stage l));
  adds = p;
  is = λ finds are. is finds ∙ ap (λ (n : RunState). On (text_log (line (words_at m.stage l))) n finds) (sym at);
}

pub blank_done : (m next : RunState) (words : List ℕ) (arrived : Option (List Datagram)) (a : Outputs) → next ≡ counted_at m m.stage → Adds a a nothing → IsLineRun (outcome_of_line m Nothing) words next arrived arrived a a (Ok tt)
blank_done m next words arrived a at p = record {
  found = [];
  taken = found-none arrived;
  log = nothing;
  adds = p;
  is = λ finds are. outcome_blank m finds ∙ ap (λ (n : RunState). On nothing n finds) (sym at);
}

-- ---- a command

step-at : (m : RunState) (l : AcceptedLine) (s : StepOutcome) (finds : List Find) → IsCommand l → step_of (router_in m.stage) (words_at m.stage l) l ≡ s → outcome_of_line m l finds ≡ act_outcome m l finds s
step-at m l s finds is e = outcome_step m l finds is ∙ ap (act_outcome m l finds) e

-- its words and its router are those that it has once it runs
as_begun : (m begun : RunState) (l : AcceptedLine) → begun ≡ record m { stage = Running (router_in m.stage) } → step_of (router_in m.stage) (words_at m.stage l) l ≡ step_of (router_in begun.stage) (words_at begun.stage l) l
as_begun m begun l at =
    ap (λ (p : PeersSeen). step_of (router_in m.stage) (words_of p.mesh l) l) (sym (router_peers m.stage))
    ∙ ap (λ (k : RunState). step_of (router_in k.stage) (words_at k.stage l) l) (sym at)

-- the state of a router that runs, by the stage that was shown
pub step_line : (m begun : RunState) (l : AcceptedLine) (new next : RunState) (arrived left : Option (List Datagram)) (a b : Outputs) → IsCommand l → begun ≡ record m { stage = Running (router_in m.stage) } → left ≡ arrived
    → IsStepRun (step_of (router_in begun.stage) (words_at begun.stage l) l) a b (router_in new.stage) (Ok tt)
    → next ≡ counted_at m (Running (router_in new.stage)) → IsLineRun (outcome_of_line m l) (refused_words m.stage l) next arrived left a b (Ok tt)
step_line m begun l new next arrived left a b is at same p e =
    let q = as_begun m begun l at in record {
      found = [];
      taken = subst (λ (o : Option (List Datagram)). AreFound arrived o []) (sym same) (found-none arrived);
      log = p.log;
      adds = p.adds;
      is = λ finds are. step-at m l (StepDone p.log (router_in new.stage)) finds is (q ∙ p.is) ∙ ap (λ (n : RunState). On p.log n finds) (sym e);
    }

by_log : (m : RunState) (l : AcceptedLine) (finds : List Find) (s : StepOutcome) (a b : Outputs) → AddsPrefix a b (log_in s) → AddsPrefix a b (log_of (act_outcome m l finds s))
by_log m l finds (StepDone log next) a b p = p
by_log m l finds (StepFull log field) a b p = p

pub step_stopped : (m begun : RunState) (l : AcceptedLine) (new next : RunState) (arrived left : Option (List Datagram)) (a b : Outputs) (r : Result (Unit {0}) Stop) (e : Stop) → IsCommand l → begun ≡ record m { stage = Running (router_in m.stage) } → left ≡ arrived
    → r ≡ Err e → IsStepRun (step_of (router_in begun.stage) (words_at begun.stage l) l) a b (router_in new.stage) (Err e)
    → IsLineRun (outcome_of_line m l) (refused_words m.stage l) next arrived left a b r
step_stopped m begun l new next arrived left a b r e is at same was p =
    subst (IsLineRun (outcome_of_line m l) (refused_words m.stage l) next arrived left a b) (sym was) (by_stop e p)
  where
    q : step_of (router_in m.stage) (words_at m.stage l) l ≡ step_of (router_in begun.stage) (words_at begun.stage l) l
    q = as_begun m begun l at

    part : AddsPrefix a b (log_in (step_of (router_in begun.stage) (words_at begun.stage l) l)) → IsLineInPart (outcome_of_line m l) arrived left a b
    part h = record {
      found = [];
      taken = subst (λ (o : Option (List Datagram)). AreFound arrived o []) (sym same) (found-none arrived);
      told = λ finds are.
          subst (λ (k : LineOutcome). AddsPrefix a b (log_of k)) (sym (outcome_step m l finds is))
          (by_log m l finds (step_of (router_in m.stage) (words_at m.stage l) l) a b (subst (λ (s : StepOutcome). AddsPrefix a b (log_in s)) (sym q) h));
    }

    by_stop : (e : Stop) → IsStepRun (step_of (router_in begun.stage) (words_at begun.stage l) l) a b (router_in new.stage) (Err e) → IsLineRun (outcome_of_line m l) (refused_words m.stage l) next arrived left a b (Err e)
    by_stop (stop.Full field) h = record { log = h.log; adds = h.adds; is = λ finds. step-at m l (StepFull h.log field) finds is (q ∙ h.is); same = same }
    by_stop stop.WriteFault h = part h
    by_stop stop.LinkFault h = part h
    by_stop stop.NoMemory h = part h

-- ---- datagrams that are received

poll_words : (m begun : RunState) (count : ℕ) → begun ≡ record m { stage = Running (router_in m.stage) } → words_at m.stage (Polls count) ≡ words_at begun.stage (Polls count)
poll_words m begun count at =
    ap (λ (p : PeersSeen). words_of p.mesh (Polls count)) (sym (router_peers m.stage)) ∙ ap (λ (k : RunState). words_at k.stage (Polls count)) (sym at)

pub poll_done : (m begun : RunState) (count : ℕ) (new next : RunState) (arrived left : Option (List Datagram)) (a b : Outputs) → begun ≡ record m { stage = Running (router_in m.stage) }
    → IsPollLineDone count (words_at begun.stage (Polls count)) (router_in begun.stage) (router_in new.stage) arrived left a b
    → next ≡ counted_at m (Running (router_in new.stage)) → IsLineRun (outcome_of_line m (Polls count)) (refused_words m.stage (Polls count)) next arrived left a b (Ok tt)
poll_done m begun count new next arrived left a b at p e = record {
  found = p.found;
  taken = p.taken;
  log = followed_by (text_log (line (words_at m.stage (Polls count)))) p.log;
  adds = subst (λ (w : List ℕ). Adds a b (followed_by (text_log (line w)) p.log)) (sym (poll_words m begun count at)) p.adds;
  is = λ finds are.
      outcome_polls m count finds
      ∙ ap (polled_line m (Polls count)) (ap (λ (k : RunState). polls_of count (router_in k.stage) finds) (sym at) ∙ p.is finds are)
      ∙ ap (λ (n : RunState). On (followed_by (text_log (line (words_at m.stage (Polls count)))) p.log) n (left_after finds p.found)) (sym e);
}

pub poll_stopped : (m begun : RunState) (count : ℕ) (next : RunState) (arrived left : Option (List Datagram)) (a b : Outputs) (r : Result (Unit {0}) Stop) (e : Stop) → begun ≡ record m { stage = Running (router_in m.stage) }
    → r ≡ Err e → IsNotFull e × IsPollLineInPart count (words_at begun.stage (Polls count)) (router_in begun.stage) arrived left a b
    → IsLineRun (outcome_of_line m (Polls count)) (refused_words m.stage (Polls count)) next arrived left a b r
poll_stopped m begun count next arrived left a b r e at was p =
    subst (IsLineRun (outcome_of_line m (Polls count)) (refused_words m.stage (Polls count)) next arrived left a b) (sym was) (by_stop e p.0)
  where
    part : IsLineInPart (outcome_of_line m (Polls count)) arrived left a b
    part = record {
      found = (p.1).found;
      taken = (p.1).taken;
      told = λ finds are.
          subst (λ (k : LineOutcome). AddsPrefix a b (log_of k)) (sym (outcome_polls m count finds))
          (subst (λ (k : RunState). AddsPrefix a b (followed_by (text_log (line (words_at m.stage (Polls count)))) (polls_of count (router_in k.stage) finds).log)) at
          (subst (λ (w : List ℕ). AddsPrefix a b (followed_by (text_log (line w)) (polls_of count (router_in begun.stage) finds).log)) (sym (poll_words m begun count at)) ((p.1).told finds are)));
    }

    by_stop : (e : Stop) → IsNotFull e → IsLineRun (outcome_of_line m (Polls count)) (refused_words m.stage (Polls count)) next arrived left a b (Err e)
    by_stop (stop.Full field) h = absurd h
    by_stop stop.WriteFault h = part
    by_stop stop.LinkFault h = part
    by_stop stop.NoMemory h = part

-- ---- counts, and where the run stands then

fresh_counts : (p : PeersSeen) (me : ℕ) → ((fresh_at p me).heard ≡ 0) × ((fresh_at p me).sent ≡ 0) × ((fresh_at p me).dropped ≡ 0)
unfolding fresh_at
fresh_counts p me = (refl, refl, refl)

-- nothing is counted while the mesh grows
pub grown_joined : (r : Router) (s : Stage) (p : PeersSeen) → s ≡ Joining p → IsGrown 0 r (router_in s)
grown_joined r s p e =
    let none = fresh_counts p (unwrap_or p.me 0) in
    subst (λ (k : Stage). IsGrown 0 r (router_in k)) (sym e)
    (record { heard = omega (arith, none.0); sent = omega (arith, none.1); dropped = omega (arith, none.2) })

pub counted_joined : (m mid next : RunState) (s : Stage) → mid ≡ record m { stage = s } → next ≡ counted_at mid mid.stage → next ≡ counted_at m s
counted_joined m mid next s e c = c ∙ ap (λ (k : RunState). counted_at k k.stage) e

pub counted_step : (m begun new next : RunState) → begun ≡ record m { stage = Running (router_in m.stage) } → new ≡ record begun { stage = Running (router_in new.stage) } → next ≡ counted_at new new.stage → next ≡ counted_at m (Running (router_in new.stage))
counted_step m begun new next b n c =
    c ∙ (λ i. record { stage = (n i).stage; lines = (n i).lines + 1 }) ∙ (λ i. record { stage = Running (router_in new.stage); lines = (b i).lines + 1 })

pub begun_router : (m begun : RunState) → begun ≡ record m { stage = Running (router_in m.stage) } → router_in begun.stage ≡ router_in m.stage
begun_router m begun b = ap (λ (k : RunState). router_in k.stage) b

pub begun_peers : (m begun : RunState) → begun ≡ record m { stage = Running (router_in m.stage) } → peers_in begun.stage ≡ peers_in m.stage
begun_peers m begun b = ap (λ (k : RunState). peers_in k.stage) b ∙ router_peers m.stage

pub grown_step : (n : ℕ) (m begun new next : RunState) → begun ≡ record m { stage = Running (router_in m.stage) } → new ≡ record begun { stage = Running (router_in new.stage) } → next ≡ counted_at new new.stage
    → IsGrown n (router_in begun.stage) (router_in new.stage) → IsGrown n (router_in m.stage) (router_in next.stage)
grown_step n m begun new next b e c g =
    subst (λ (r : Router). IsGrown n (router_in m.stage) r) (sym (ap (λ (k : RunState). router_in k.stage) c))
    (subst (λ (r : Router). IsGrown n r (router_in new.stage)) (begun_router m begun b) g)

pub grown_more : (n k : ℕ) (old new : Router) → n ≤ k → IsGrown n old new → IsGrown k old new
grown_more n k old new le g = record { heard = (let h = g.heard in omega arith); sent = (let h = g.sent in omega arith); dropped = (let h = g.dropped in omega arith) }

pub on_err : {T : Type 0} (r : Result T Stop) (P : Type 0) → P → OnErr r P
on_err (Ok v) P p = tt
on_err (Err e) P p = p

pub grown_zero : (k : ℕ) (old new : Router) → IsGrown 0 old new → IsGrown k old new
grown_zero k old new g = grown_more 0 k old new (omega arith) g

-- ---- counts of a whole run

pub opening_counts : (n : ℕ) (m : RunState) → m ≡ opening_run_state → HasCounts n (router_in m.stage)
opening_counts n m e =
    let none = fresh_counts no_peers (unwrap_or no_peers.me 0) in
    subst (λ (k : RunState). HasCounts n (router_in k.stage)) (sym e)
    (record { heard = omega (arith, none.0); sent = omega (arith, none.1); dropped = omega (arith, none.2) })
