-- What is done with datagrams that were received.
use Rattle.std.proofs.Common.{◌≡◌, ◌≢◌, ℕ, suc, ◌<◌, Bool, true, false, List, [], ◌∷◌, ◌++◌, Option, Some, None, Result, Ok, Err, length, refl, sym, ap, ◌∙◌, subst, get_or, append_assoc}
use Rattle.std.specs.Prelude.{is_some, if◌then◌else◌, ◌==◌, IfSome, IfErr}
use Rattle.std.specs.List.{position}
use Rattle.std.specs.Result.{IsErr}
use Rattle.std.specs.Io.KnownBytes.{Appends}
use Rattle.std.proofs.lemmas.Bool.{eqb-true}
use Rattle.std.proofs.lemmas.List.Quantifiers.{position-Some}
use Rattle.mesh_io.specs.Puts.{AppendsPrefix}
use Rattle.mesh_link.specs.Datagrams.{Datagram}
use Rattle.mesh_script.specs.Peers.{PeersSeen, ArePeers, at_port}
use Rattle.mesh_grammar.specs.Written.{line}
use Rattle.mesh_router.specs.declared.stop.Stop.{Stop}
use Rattle.mesh_router.specs.declared.stop.Stop.TheVariants as stop
use Rattle.mesh_router.specs.Logs.{Log, nothing, text_log, followed_by}
use Rattle.mesh_router.specs.Routers.{Router}
use Rattle.mesh_router.specs.Finds.{Find, next_find, later_finds, AreNext, left_after, AreFound}
use Rattle.mesh_router.specs.Polls.{PollOutcome, poll_outcome, polled_by, polls_of, found_next, found_text, datagram_next, datagram_text, datagram_log, none_line}
use Rattle.mesh_router.specs.Outputs.{Outputs, Adds, AddsPrefix}
use Rattle.mesh_router.specs.Runs.{IsTaken, IsFoundOne, IsFoundNone, IsPolled, IsPolledInPart, IsPollStep, IsPollRun, IsPollLine, IsNotFull}
use Rattle.mesh_router.specs.Short.{IsPollShort}
use Rattle.mesh_router.specs.Joins.{adds-join, adds-none, found-join, found-none, left-join, next-front, next-rest}
use Rattle.mesh_router.proofs.Logging.{log-assoc, log-nil, adds-text, prefix-none, prefix-join, prefix-more, prefix-text}
use Rattle.mesh_router.proofs.Finds.{Received}
use Rattle.mesh_router.proofs.Turning.{err_is}

-- ---- a datagram of a port

port_by : (b : Bool) (o : Option ℕ) (x : ℕ) → (if b then None else o) ≡ Some x → (b ≡ false) × (o ≡ Some x)
port_by true o x e = absurd cc
port_by false o x e = (refl, e)

not_zero : (port n : ℕ) → (port == 0) ≡ false → (n == port) ≡ true → n ≡ 0 → ⊥
not_zero port n ne e z =
    let same : n ≡ port = eqb-true n port e in
    let zero_is : port ≡ 0 = sym same ∙ z in
    let t : (port == 0) ≡ true = ap (λ (k : ℕ). k == 0) zero_is in
    cc

pub me_within : (p : PeersSeen) (me : ℕ) → ArePeers p → p.me ≡ Some me → me < length p.mesh
me_within p me peers is = subst (λ (o : Option ℕ). IfSome o (λ i. i < length p.mesh)) is peers.within

-- a peer at a port is another node
pub peer_other : (p : PeersSeen) (me port x : ℕ) → ArePeers p → p.me ≡ Some me → me < length p.mesh → at_port p port ≡ Some x → x ≢ me
peer_other p me port x peers is below at same =
    let by = port_by (port == 0) (position (λ q. q == port) p.ports) x at in
    let found = position-Some (λ q. q == port) p.ports x 0 by.1 in
    not_zero port (get_or p.ports x 0) by.0 found.1 (ap (λ (k : ℕ). get_or p.ports k 0) same ∙ (peers.mine me below).1 is)

pub taken_done : (old new : Router) (port : ℕ) (bytes : List ℕ) (a b : Option (List ℕ)) (o : Option ℕ) (r : Result (Unit {0}) Stop) → o ≡ at_port old.peers port → new ≡ found_next old bytes o → Appends a b (found_text old port bytes o)
    → r ≡ Ok tt → IsTaken old port bytes a b new r
taken_done old new port bytes a b o (Ok u) is next text ok =
    (next ∙ ap (found_next old bytes) is, subst (λ (k : Option ℕ). Appends a b (found_text old port bytes k)) is text)
taken_done old new port bytes a b o (Err e) is next text ok = absurd cc

pub taken_fault : (old new : Router) (port : ℕ) (bytes : List ℕ) (a b : Option (List ℕ)) (r : Result (Unit {0}) Stop) → IsErr r → AppendsPrefix a b (found_text old port bytes (at_port old.peers port)) → IsTaken old port bytes a b new r
taken_fault old new port bytes a b (Ok u) is p = absurd cc
taken_fault old new port bytes a b (Err e) is p = p

-- ---- one call that receives

polls-suc : (most : ℕ) (r : Router) (finds : List Find) → polls_of (suc most) r finds ≡ polled_by r (next_find finds) (later_finds finds) (λ next left. polls_of most next left)
unfolding polls_of
polls-suc most r finds = refl

polls-zero : (r : Router) (finds : List Find) → polls_of 0 r finds ≡ poll_outcome nothing r finds
unfolding polls_of
polls-zero r finds = refl

polls-some : (most : ℕ) (r : Router) (finds : List Find) (d : Datagram) → next_find finds ≡ Some d
    → polls_of (suc most) r finds ≡ poll_outcome (followed_by (datagram_log r d) (polls_of most (datagram_next r d) (later_finds finds)).log)
    (polls_of most (datagram_next r d) (later_finds finds)).next (polls_of most (datagram_next r d) (later_finds finds)).left
polls-some most r finds d e =
    polls-suc most r finds ∙ ap (λ (f : Find). polled_by r f (later_finds finds) (λ next left. polls_of most next left)) e

polls-none : (most : ℕ) (r : Router) (finds : List Find) → next_find finds ≡ None → polls_of (suc most) r finds ≡ poll_outcome (text_log none_line) r (later_finds finds)
polls-none most r finds e =
    polls-suc most r finds ∙ ap (λ (f : Find). polled_by r f (later_finds finds) (λ next left. polls_of most next left)) e

-- nothing was found, and nothing was told
pub nothing_polled : (count : ℕ) (old : Router) (arrived left : Option (List Datagram)) (a b : Outputs) → left ≡ arrived → b ≡ a → IsPolledInPart count old arrived left a b
nothing_polled count old arrived left a b same out = record {
  found = [];
  taken = subst (λ (k : Option (List Datagram)). AreFound arrived k []) (sym same) (found-none arrived);
  told = λ finds are. subst (λ (k : Outputs). AddsPrefix a k (polls_of count old finds).log) (sym out) (prefix-none a (polls_of count old finds).log);
}

-- nothing was there, which was told in part
pub none_polled : (others : ℕ) (old : Router) (arrived left : Option (List Datagram)) (a b : Outputs) → AreFound arrived left (None ∷ []) → AddsPrefix a b (text_log none_line) → IsPolledInPart (suc others) old arrived left a b
none_polled others old arrived left a b taken p = record {
  found = None ∷ [];
  taken = taken;
  told = λ finds are. subst (λ (q : PollOutcome). AddsPrefix a b q.log) (sym (polls-none others old finds are.0)) p;
}

-- a datagram was found, which was told in part
pub one_polled : (others : ℕ) (old : Router) (d : Datagram) (arrived left : Option (List Datagram)) (a b : Outputs) → AreFound arrived left (Some d ∷ []) → AddsPrefix a b (datagram_log old d) → IsPolledInPart (suc others) old arrived left a b
one_polled others old d arrived left a b taken p = record {
  found = Some d ∷ [];
  taken = taken;
  told = λ finds are.
      subst (λ (q : PollOutcome). AddsPrefix a b q.log) (sym (polls-some others old finds d are.0))
      (prefix-more a b (datagram_log old d) (polls_of others (datagram_next old d) (later_finds finds)).log p);
}

pub poll_fault : (old new : Router) (arrived left : Option (List Datagram)) (a b : Outputs) (r : Result Bool Stop) → IsErr r → ((others : ℕ) → IsPolledInPart (suc others) old arrived left a b) → IsPollStep old arrived left a b new r
poll_fault old new arrived left a b (Ok more) is p = absurd cc
poll_fault old new arrived left a b (Err e) is p = p

-- what is written of a datagram that was received
received_text : (old : Router) (arrived left : Option (List Datagram)) (port : ℕ) (bytes : List ℕ) (f : Received arrived left port bytes) → found_text old port bytes (at_port old.peers port) ≡ datagram_text old f.datagram
received_text old arrived left port bytes f =
    (λ i. found_text old (sym f.port_is i) (sym f.bytes_are i) (at_port old.peers (sym f.port_is i)))

received_next : (old : Router) (arrived left : Option (List Datagram)) (port : ℕ) (bytes : List ℕ) (f : Received arrived left port bytes) → found_next old bytes (at_port old.peers port) ≡ datagram_next old f.datagram
received_next old arrived left port bytes f =
    (λ i. found_next old (sym f.bytes_are i) (at_port old.peers (sym f.port_is i)))

-- it was told
pub received_told : (old new : Router) (arrived left : Option (List Datagram)) (port : ℕ) (bytes : List ℕ) (a b : Option (List ℕ)) (s t : Option (List Datagram)) → t ≡ s → Received arrived left port bytes
    → new ≡ found_next old bytes (at_port old.peers port) → Appends a b (found_text old port bytes (at_port old.peers port)) → IsFoundOne old new arrived left (a, s) (b, t)
received_told old new arrived left port bytes a b s t same f next text = record {
  datagram = f.datagram;
  taken = f.taken;
  next = next ∙ received_next old arrived left port bytes f;
  adds = adds-text a b s t (datagram_text old f.datagram) same (subst (λ (l : List ℕ). Appends a b l) (received_text old arrived left port bytes f) text);
}

-- it was told in part
pub received_in_part : (others : ℕ) (old : Router) (arrived left : Option (List Datagram)) (port : ℕ) (bytes : List ℕ) (a b : Option (List ℕ)) (s t : Option (List Datagram)) → t ≡ s → Received arrived left port bytes
    → AppendsPrefix a b (found_text old port bytes (at_port old.peers port)) → IsPolledInPart (suc others) old arrived left (a, s) (b, t)
received_in_part others old arrived left port bytes a b s t same f text =
    one_polled others old f.datagram arrived left (a, s) (b, t) f.taken
    (prefix-text a b s t (datagram_text old f.datagram) same (subst (λ (l : List ℕ). AppendsPrefix a b l) (received_text old arrived left port bytes f) text))

-- ---- some calls, one after another

-- these were found so far, and what was done with them was told, with so many calls left
pub record ArePolled (count rest : ℕ) (old now : Router) (arrived left : Option (List Datagram)) (a b : Outputs) : Type 0 where
  pub found : List Find
  pub taken : AreFound arrived left found
  pub log : Log
  pub adds : Adds a b log
  pub goes : (finds : List Find) → AreNext finds found
      → polls_of count old finds ≡ poll_outcome (followed_by log (polls_of rest now (left_after finds found)).log)
      (polls_of rest now (left_after finds found)).next (polls_of rest now (left_after finds found)).left

pub polls_begin : (count : ℕ) (old : Router) (arrived : Option (List Datagram)) (a : Outputs) → ArePolled count count old old arrived arrived a a
polls_begin count old arrived a = record {
  found = [];
  taken = found-none arrived;
  log = nothing;
  adds = adds-none a;
  goes = λ finds are. refl;
}

pub polls_next : (count rest : ℕ) (old mid new : Router) (x y z : Option (List Datagram)) (a b c : Outputs) → ArePolled count (suc rest) old mid x y a b → IsFoundOne mid new y z b c → ArePolled count rest old new x z a c
polls_next count rest old mid new x y z a b c p q = record {
  found = p.found ++ Some q.datagram ∷ [];
  taken = found-join x y z p.found (Some q.datagram ∷ []) p.taken q.taken;
  log = followed_by p.log (datagram_log mid q.datagram);
  adds = adds-join a b c p.log (datagram_log mid q.datagram) p.adds q.adds;
  goes = λ finds are.
      let one = Some q.datagram ∷ [] in
      let mid_finds = left_after finds p.found in
      let next = next-rest finds p.found one are in
      let left : left_after finds (p.found ++ one) ≡ later_finds mid_finds = left-join finds p.found one in
      let rest_of : Router → List Find → PollOutcome = λ r fs. poll_outcome (followed_by (followed_by p.log (datagram_log mid q.datagram)) (polls_of rest r fs).log) (polls_of rest r fs).next (polls_of rest r fs).left in
      p.goes finds (next-front finds p.found one are)
      ∙ ap (λ (w : PollOutcome). poll_outcome (followed_by p.log w.log) w.next w.left) (polls-some rest mid mid_finds q.datagram next.0)
      ∙ (λ i. poll_outcome (sym (log-assoc p.log (datagram_log mid q.datagram) (polls_of rest (datagram_next mid q.datagram) (later_finds mid_finds)).log) i) (polls_of rest (datagram_next mid q.datagram) (later_finds mid_finds)).next (polls_of rest (datagram_next mid q.datagram) (later_finds mid_finds)).left)
      ∙ (λ i. rest_of (sym q.next i) (sym left i));
}

-- nothing was there
pub polls_stop : (count rest : ℕ) (old mid new : Router) (x y z : Option (List Datagram)) (a b c : Outputs) → ArePolled count (suc rest) old mid x y a b → IsFoundNone mid new y z b c → IsPolled count old new x z a c
polls_stop count rest old mid new x y z a b c p q = record {
  found = p.found ++ None ∷ [];
  taken = found-join x y z p.found (None ∷ []) p.taken q.taken;
  log = followed_by p.log (text_log none_line);
  adds = adds-join a b c p.log (text_log none_line) p.adds q.adds;
  is = λ finds are.
      let one = None ∷ [] in
      let mid_finds = left_after finds p.found in
      let next = next-rest finds p.found one are in
      let left : left_after finds (p.found ++ one) ≡ later_finds mid_finds = left-join finds p.found one in
      p.goes finds (next-front finds p.found one are)
      ∙ ap (λ (w : PollOutcome). poll_outcome (followed_by p.log w.log) w.next w.left) (polls-none rest mid mid_finds next.0)
      ∙ (λ i. poll_outcome (followed_by p.log (text_log none_line)) (sym q.same i) (sym left i));
}

-- all calls were done
pub polls_end : (count : ℕ) (old now : Router) (x y : Option (List Datagram)) (a b : Outputs) → ArePolled count 0 old now x y a b → IsPolled count old now x y a b
polls_end count old now x y a b p = record {
  found = p.found;
  taken = p.taken;
  log = p.log;
  adds = p.adds;
  is = λ finds are.
      p.goes finds are
      ∙ ap (λ (w : PollOutcome). poll_outcome (followed_by p.log w.log) w.next w.left) (polls-zero now (left_after finds p.found))
      ∙ ap (λ (s : Log). poll_outcome s now (left_after finds p.found)) (log-nil p.log);
}

-- a call has failed
pub polls_failed : (count rest : ℕ) (old mid : Router) (x y z : Option (List Datagram)) (a b c : Outputs) → ArePolled count (suc rest) old mid x y a b → IsPolledInPart (suc rest) mid y z b c → IsPolledInPart count old x z a c
polls_failed count rest old mid x y z a b c p q = record {
  found = p.found ++ q.found;
  taken = found-join x y z p.found q.found p.taken q.taken;
  told = λ finds are.
      let mid_finds = left_after finds p.found in
      let all = p.goes finds (next-front finds p.found q.found are) in
      subst (λ (w : PollOutcome). AddsPrefix a c w.log) (sym all)
      (prefix-join a b c p.log (polls_of (suc rest) mid mid_finds).log p.adds (q.told mid_finds (next-rest finds p.found q.found are)));
}

pub polls_at : (count n rest : ℕ) (old now : Router) (x y : Option (List Datagram)) (a b : Outputs) → ArePolled count n old now x y a b → n ≡ rest → ArePolled count rest old now x y a b
polls_at count n rest old now x y a b p e = subst (λ (k : ℕ). ArePolled count k old now x y a b) e p

-- by the answer of a call
pub found_one : (old new : Router) (arrived left : Option (List Datagram)) (a b : Outputs) (more : Bool) → more ≡ true → IsPollStep old arrived left a b new (Ok more) → IsFoundOne old new arrived left a b
found_one old new arrived left a b more e p = subst (λ (k : Bool). IsPollStep old arrived left a b new (Ok k)) e p

pub found_nothing : (old new : Router) (arrived left : Option (List Datagram)) (a b : Outputs) (more : Bool) → more ≡ false → IsPollStep old arrived left a b new (Ok more) → IsFoundNone old new arrived left a b
found_nothing old new arrived left a b more e p = subst (λ (k : Bool). IsPollStep old arrived left a b new (Ok k)) e p

pub polls_run_fault : (count : ℕ) (old new : Router) (arrived left : Option (List Datagram)) (a b : Outputs) (r : Result (Unit {0}) Stop) → IsErr r → IsPolledInPart count old arrived left a b → IsPollRun count old arrived left a b new r
polls_run_fault count old new arrived left a b (Ok u) is p = absurd cc
polls_run_fault count old new arrived left a b (Err e) is p = p

-- ---- below their line

pub poll_line_cut : (count : ℕ) (words : List ℕ) (old new : Router) (arrived : Option (List Datagram)) (a b : Outputs) (r : Result (Unit {0}) Stop) (e : Stop) → r ≡ Err e → e ≡ stop.WriteFault → AddsPrefix a b (text_log (line words)) → IsPollLine count words old arrived arrived a b new r
poll_line_cut count words old new arrived a b (Ok u) e was is p = absurd cc
poll_line_cut count words old new arrived a b (Err x) e was is p = (
  subst IsNotFull (sym (err_is x e was ∙ is)) tt,
  record { found = []; taken = found-none arrived; told = λ finds are. prefix-more a b (text_log (line words)) (polls_of count old finds).log p },
)

pub poll_line : (count : ℕ) (words : List ℕ) (old new : Router) (arrived left : Option (List Datagram)) (a b c : Outputs) (r : Result (Unit {0}) Stop) → Adds a b (text_log (line words)) → IsPollRun count old arrived left b c new r
    → IfErr r IsNotFull → IsPollLine count words old arrived left a c new r
poll_line count words old new arrived left a b c (Ok u) p q full = record {
  found = q.found;
  taken = q.taken;
  log = q.log;
  adds = adds-join a b c (text_log (line words)) q.log p q.adds;
  is = q.is;
}
poll_line count words old new arrived left a b c (Err e) p q full =
    (full, record { found = q.found; taken = q.taken; told = λ finds are. prefix-join a b c (text_log (line words)) (polls_of count old finds).log p (q.told finds are) })

-- ---- where memory is short

-- the datagram of a peer was received first
pub short_one : (p : PeersSeen) (arrived left : Option (List Datagram)) (port : ℕ) (bytes : List ℕ) → Received arrived left port bytes → is_some (at_port p port) ≡ true → IsPollShort p arrived left
short_one p arrived left port bytes f is = record {
  before = [];
  datagram = f.datagram;
  taken = f.taken;
  peer = subst (λ (n : ℕ). is_some (at_port p n) ≡ true) (sym f.port_is) is;
}

-- or after others
pub short_later : (count rest : ℕ) (old mid : Router) (x y z : Option (List Datagram)) (a b : Outputs) → ArePolled count rest old mid x y a b → mid.peers ≡ old.peers → IsPollShort mid.peers y z → IsPollShort old.peers x z
short_later count rest old mid x y z a b p same q = record {
  before = p.found ++ q.before;
  datagram = q.datagram;
  taken = subst (AreFound x z) (sym (append_assoc p.found q.before (Some q.datagram ∷ [])))
      (found-join x y z p.found (q.before ++ Some q.datagram ∷ []) p.taken q.taken);
  peer = subst (λ (k : PeersSeen). is_some (at_port k (q.datagram).port) ≡ true) same q.peer;
}
