-- Ports, and sets of peers.
use Rattle.std.proofs.Common.{◌≡◌, ℕ, ◌<◌, ◌≤◌, ◌+◌, zero, suc, Bool, true, false, List, [], ◌∷◌, ◌++◌, Option, Some, None, length, refl, sym, ap, ◌∙◌, subst, arith, not, inl, inr, eq-eqb}
use Rattle.std.proofs.lemmas.Bool.{eqb-true, or_cases, and_parts}
use Rattle.std.proofs.lemmas.Cmp.{nat_cmp_total}
use Rattle.std.specs.Cmp.{unsigned_tied}
use Rattle.std.specs.Ordering.{nat_cmp, eq_by_cmp}
use Rattle.std.specs.Prelude.{◌⊎◌}
use Rattle.std.specs.Prelude.{get_or, if◌then◌else◌, ◌==◌, codes}
use Rattle.std.specs.Fmt.{decimal}
use Rattle.mesh_grammar.specs.Written.{line}
use Rattle.mesh_text.specs.Lines.{name_of}
use Rattle.std.specs.FinSet as sets
use Rattle.mesh_base.specs.Members.{NodeIds}
use Rattle.mesh_base.specs.Meshes.{Nodes}
use Rattle.std.specs.Prelude.{option_map, IfSome}
use Rattle.std.specs.Borrow.{Bor}
use Rattle.mesh_base.specs.declared.events.Effect.{Effect}
use Rattle.mesh_base.specs.declared.events.Took.{Took}
use Rattle.mesh_meaning.specs.Answers.{IsCastWritten}
use Rattle.mesh_report.specs.Messages.{IsTookLegible, effect_text}
use Rattle.mesh_report.specs.Nodes.{IsTookOfMesh}
use Rattle.mesh_report.specs.Packets.{step_lines}
use Rattle.mesh_report.proofs.Messages.{step_is, took_of_mesh}
use Rattle.mesh_router.specs.Peers.{IsPeer, ArePeers, code_text}
use Rattle.mesh_router.specs.Routers.{all_below}
use Rattle.mesh_script.specs.Peers.{PeersSeen, port_of}
use Rattle.mesh_model.specs.Worlds.{members_below}
use Rattle.mesh_base.proofs.Ranks.{members-none, members-next}
use Rattle.mesh_report.proofs.Members.{members-front}
use Rattle.mesh_router.specs.Logs.{Log, followed_by}
use Rattle.mesh_router.specs.Outputs.{Outputs, Adds, AddsPrefix}
use Rattle.mesh_router.specs.Casts.{port_at, sent_to, sent_to_each}
use Rattle.mesh_router.specs.Joins.{adds-join, adds-none}
use Rattle.mesh_router.proofs.Logging.{log-nil, log-assoc, adds-equal, prefix-join, prefix-more}

port_cases : (n port : ℕ) (b : Bool) → (if b then None else Some n) ≡ Some port → n ≡ port
port_cases n port true e = absurd cc
port_cases n port false e = cc

-- the port that a peer has
pub port_is : (p : PeersSeen) (x port : ℕ) → port_of p x ≡ Some port → port_at p x ≡ port
port_is p x port e = port_cases (get_or p.ports x 0) port (get_or p.ports x 0 == 0) e

-- ---- one peer after another

each-append : (p : PeersSeen) (packet xs ys : List ℕ) → sent_to_each p packet (xs ++ ys) ≡ followed_by (sent_to_each p packet xs) (sent_to_each p packet ys)
each-append p packet [] ys = refl
each-append p packet (x ∷ xs) ys =
    ap (followed_by (sent_to p packet x)) (each-append p packet xs ys)
    ∙ sym (log-assoc (sent_to p packet x) (sent_to_each p packet xs) (sent_to_each p packet ys))

each-push : (p : PeersSeen) (packet xs : List ℕ) (y : ℕ) → sent_to_each p packet (xs ++ y ∷ []) ≡ followed_by (sent_to_each p packet xs) (sent_to p packet y)
each-push p packet xs y = each-append p packet xs (y ∷ []) ∙ ap (followed_by (sent_to_each p packet xs)) (log-nil (sent_to p packet y))

-- before the first
pub none_sent : (p : PeersSeen) (packet : List ℕ) (s : NodeIds) (a : Outputs) → Adds a a (sent_to_each p packet (members_below 0 s))
unfolding members_below
none_sent p packet s a = adds-none a

-- it was sent to the next member
pub next_sent : (p : PeersSeen) (packet : List ℕ) (s : NodeIds) (to i : ℕ) (a b c : Outputs) → i ≤ to → sets.contains s to ≡ true → ((q : ℕ) → i ≤ q → q < to → sets.contains s q ≡ false)
    → Adds a b (sent_to_each p packet (members_below i s)) → Adds b c (sent_to p packet to) → Adds a c (sent_to_each p packet (members_below (to + 1) s))
next_sent p packet s to i a b c le is none g h =
    adds-equal a c _ _ (sym (ap (sent_to_each p packet) (members-next to i s le is none) ∙ each-push p packet (members_below i s) to))
    (adds-join a b c (sent_to_each p packet (members_below i s)) (sent_to p packet to) g h)

-- it was not sent whole to the next member
pub next_failed : (p : PeersSeen) (packet : List ℕ) (s : NodeIds) (n to i : ℕ) (a b c : Outputs) → to < n → i ≤ to → sets.contains s to ≡ true → ((q : ℕ) → i ≤ q → q < to → sets.contains s q ≡ false)
    → Adds a b (sent_to_each p packet (members_below i s)) → AddsPrefix b c (sent_to p packet to) → AddsPrefix a c (sent_to_each p packet (members_below n s))
next_failed p packet s n to i a b c lt le is none g h =
    let split = members-front n (to + 1) s (omega arith) in
    let here = sent_to_each p packet (members_below i s) in
    let one = sent_to p packet to in
    let others = sent_to_each p packet split.0 in
    let e : sent_to_each p packet (members_below n s) ≡ followed_by (followed_by here one) others =
    ap (sent_to_each p packet) split.1 ∙ each-append p packet (members_below (to + 1) s) split.0
    ∙ ap (λ (m : Log). followed_by m others) (ap (sent_to_each p packet) (members-next to i s le is none) ∙ each-push p packet (members_below i s) to) in
    subst (AddsPrefix a c) (sym e) (prefix-more a c (followed_by here one) others (prefix-join a b c here one g h))

-- there is no further member
pub all_sent : (p : PeersSeen) (packet : List ℕ) (s : NodeIds) (n i : ℕ) (a b : Outputs) → i ≤ n → ((q : ℕ) → i ≤ q → sets.contains s q ≡ false)
    → Adds a b (sent_to_each p packet (members_below i s)) → Adds a b (sent_to_each p packet (members_below n s))
all_sent p packet s n i a b le none g =
    adds-equal a b _ _ (ap (sent_to_each p packet) (sym (members-none n i s le (λ q up lt. none q up)))) g

pub all_counted : (s : NodeIds) (n i count : ℕ) → i ≤ n → ((q : ℕ) → i ≤ q → sets.contains s q ≡ false) → count ≡ length (members_below i s) → count ≡ length (members_below n s)
all_counted s n i count le none e = e ∙ ap (λ (l : List ℕ). length l) (sym (members-none n i s le (λ q up lt. none q up)))

abbrev pub port_line : Nodes → ℕ → ℕ → List ℕ
port_line mesh x port = line (codes "  to " ++ name_of mesh x ++ 32 ∷ decimal port)

-- what is written of an effect
code_is : (mesh : Nodes) (x : ℕ) (t : Option (Bor Took)) (e : Effect) (packet : List ℕ) → effect_text mesh x t e packet ≡ code_text mesh x (option_map (λ b. b.now) t) e packet
code_is mesh x None e packet = refl
code_is mesh x (Some t) e packet = refl

pub effect_is : (mesh : Nodes) (x : ℕ) (t : Option (Bor Took)) (e : Effect) (packet : List ℕ) → IfSome t (λ b. IsTookLegible mesh b.now) → IsCastWritten mesh e.cast packet
    → step_lines mesh x t e packet ≡ code_text mesh x (option_map (λ b. b.now) t) e packet
effect_is mesh x t e packet is w = step_is mesh x t e packet is w ∙ code_is mesh x t e packet

-- what was taken names only nodes of the mesh
pub taken_of_mesh : (mesh : Nodes) (t : Option (Bor Took)) → IfSome t (λ b. IsTookLegible mesh b.now) → IfSome t (λ b. IsTookOfMesh mesh b.now)
taken_of_mesh mesh None is = is
taken_of_mesh mesh (Some t) is = took_of_mesh mesh t.now is

-- ---- sets of peers

same_node : (q x : ℕ) → eq_by_cmp nat_cmp q x ≡ true → q ≡ x
same_node q x e = eqb-true q x (sym (unsigned_tied q x) ∙ e)

pub inserted : (s : NodeIds) (x q : ℕ) → sets.contains (sets.insert s x) q ≡ true → (q ≡ x) ⊎ (sets.contains s q ≡ true)
inserted s x q is =
    elim (or_cases (eq_by_cmp nat_cmp q x) (sets.contains s q) (sym (sets.contains-insert nat_cmp_total s x q) ∙ is)) [
      | inl here ↦ inl (same_node q x here)
      | inr there ↦ inr there
    ]

pub removed : (s : NodeIds) (x q : ℕ) → sets.contains (sets.remove s x) q ≡ true → sets.contains s q ≡ true
removed s x q is = (and_parts (not (eq_by_cmp nat_cmp q x)) (sets.contains s q) (sym (sets.contains-remove nat_cmp_total s x q) ∙ is)).1

-- one more peer, and one less
pub are_more : (p : PeersSeen) (s : NodeIds) (x : ℕ) → IsPeer p x → ArePeers p s → ArePeers p (sets.insert s x)
are_more p s x peer all = λ q is. elim (inserted s x q is) as (λ _. IsPeer p q) [
  | inl same ↦ subst (λ (k : ℕ). IsPeer p k) (sym same) peer
  | inr there ↦ all q there
]

pub are_fewer : (p : PeersSeen) (s : NodeIds) (x : ℕ) → ArePeers p s → ArePeers p (sets.remove s x)
are_fewer p s x all = λ q is. all q (removed s x q is)

-- all nodes but the node itself are its peers
all_within : (n q : ℕ) → sets.contains (all_below n) q ≡ true → q < n
unfolding all_below
all_within zero q is = (let none = sets.contains-empty nat_cmp q in cc)
all_within (suc n) q is = elim (inserted (all_below n) n q is) as (λ _. q < suc n) [
  | inl same ↦ omega arith
  | inr there ↦ (let up = all_within n q there in omega arith)
]

true_not : (b : Bool) → b ≡ true → not b ≡ true → ⊥
true_not b e f = cc

not_removed : (s : NodeIds) (x : ℕ) → sets.contains (sets.remove s x) x ≡ true → ⊥
not_removed s x is =
    let not_same = (and_parts (not (eq_by_cmp nat_cmp x x)) (sets.contains s x) (sym (sets.contains-remove nat_cmp_total s x x) ∙ is)).0 in
    let same : eq_by_cmp nat_cmp x x ≡ true = unsigned_tied x x ∙ eq-eqb x x refl in
    true_not (eq_by_cmp nat_cmp x x) same not_same

abbrev the_some : ℕ → Option ℕ
the_some x = Some x

some_is : (q me : ℕ) → the_some me ≡ the_some q → me ≡ q
some_is q me e = cc

pub all_peers : (p : PeersSeen) (me : ℕ) → p.me ≡ Some me → ArePeers p (sets.remove (all_below (length p.mesh)) me)
all_peers p me mine = λ q is. (
  all_within (length p.mesh) q (removed (all_below (length p.mesh)) me q is),
  λ same.
      not_removed (all_below (length p.mesh)) me (ap (λ (k : ℕ). sets.contains (sets.remove (all_below (length p.mesh)) me) k) (some_is q me (sym mine ∙ same)) ∙ is),
)
