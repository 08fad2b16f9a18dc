-- Indices and addresses, there and back.
use Rattle.std.proofs.Common.{◌≡◌, ◌<◌, ◌≤◌, ℕ, Bool, true, false, not, cond, eqb, ltb, ◌||◌, Option, Some, None, List, [], ◌∷◌, length, length-drop, map, refl, sym, ap, ◌∙◌, eq-eqb, arith, inl, inr}
use Rattle.std.specs.Prelude.{is_some, unwrap_or, if◌then◌else◌}
use Rattle.std.specs.List.{list_any}
use Rattle.std.specs.Ordering.{nat_cmp, eq_by_cmp}
use Rattle.std.specs.Cmp.{unsigned_tied}
use Rattle.std.specs.FinMap as maps
use Rattle.std.specs.FinMap.{nat_cmp-IsAntisymmetric, find}
use Rattle.std.proofs.lemmas.Cmp.{nat_cmp_total}
use Rattle.std.proofs.lemmas.Bool.{eqb-true, cases_lt, ltb-false}
use Rattle.std.proofs.lemmas.Bool.Decides.{nat_tests}
use Rattle.std.proofs.lemmas.Option.{none-some}
use Rattle.std.proofs.lemmas.List.Quantifiers.{position-Some}
use Rattle.mesh_base.specs.declared.addr.Addr.{Addr}
use Rattle.mesh_base.specs.Meshes.{Nodes, addr_at, index_of, index_in, IsMesh}
use Rattle.mesh_base.proofs.WrittenForms.{index_of-at}
use Rattle.aodv_model.specs.declared.entry.Known.{Known}
use Rattle.aodv_model.specs.declared.entry.Known.TheVariants.{Kno, Unk}
use Rattle.aodv_model.specs.Quality.{is_kno}
use Rattle.aodv_model.specs.Tables.{Dests}
use Rattle.aodv_model.specs.Cores.{Message, Pkt, Rreq, Rrep, Rerr}
use Rattle.aodv_model.specs.Soundness.{IsMessageInMesh, AreDestsBelow, IsDatum}
use Rattle.aodv_wire.specs.declared.message.Message as wire
use Rattle.aodv_wire.specs.declared.message.Message.TheVariants as messages
use Rattle.aodv_wire.specs.declared.error.WireError.{WireError}
use Rattle.aodv_wire.specs.declared.error.WireError.TheVariants.{Short, UnknownType, WrongLength, OutsideProfile, ZeroNumber, BadData}
use Rattle.aodv_wire.specs.Refused.{refuse_if, first_of}
use Rattle.aodv_wire.specs.RouteRequest as rreq
use Rattle.aodv_wire.specs.RouteReply as rrep
use Rattle.aodv_wire.specs.RouteError as rerr
use Rattle.aodv_wire.specs.DataPacket as packet
use Rattle.aodv_wire.specs.Encodes.{message_in_fields, kind, refusal}
use Rattle.aodv_meaning.specs.Meaning.{status_of, index, pair_by_index, dests_in, in_mesh, meaning, unless_in, strange_pair, stranger}
use Rattle.aodv_meaning.specs.Sent.{pair_by_address, out_of, pairs_of, IsSent}

-- an address below its own index isn't that of another index
apart : (mesh : Nodes) (i k : ℕ) → IsMesh mesh → i < length mesh → k < length mesh → addr_at mesh k ≡ addr_at mesh i → k ≡ i
apart mesh i k is hi hk same = elim (cases_lt k i) [
  | inl lt ↦ let r = is.rising k i lt hi in absurd (omega arith)
  | inr ge ↦ elim (cases_lt i k) [ inl lt ↦ let r = is.rising i k lt hk in absurd (omega arith) | inr le ↦ omega arith ]
]

pub index_at : (mesh : Nodes) (i : ℕ) → IsMesh mesh → i < length mesh → index_in mesh (addr_at mesh i) ≡ i
unfolding index_in
index_at mesh i is h = rw (index_of-at mesh i is h) refl

-- an address that is there is that of its index
pub index_there : (mesh : Nodes) (a i : ℕ) → index_of mesh a ≡ Some i → (i < length mesh) × (index_in mesh a ≡ i) × (addr_at mesh i ≡ a)
unfolding index_of index_in
index_there mesh a i e =
    let all = position-Some (λ (p : ℕ × ℕ). eqb p.0 a) mesh i (0, 0) e in
    (all.0, ap (λ o. unwrap_or o 0) e, eqb-true (addr_at mesh i) a all.1)

some_below : (mesh : Nodes) (a : ℕ) (o : Option ℕ) → index_of mesh a ≡ o → is_some o ≡ true → index_in mesh a < length mesh
some_below mesh a (Some i) e t = let all = index_there mesh a i e in rw all.1 all.0
some_below mesh a None e t = cc

pub below : (mesh : Nodes) (a : ℕ) → is_some (index_of mesh a) ≡ true → index_in mesh a < length mesh
below mesh a t = some_below mesh a (index_of mesh a) refl t

pub is_there : (mesh : Nodes) (i : ℕ) → IsMesh mesh → i < length mesh → is_some (index_of mesh (addr_at mesh i)) ≡ true
is_there mesh i is h = rw (index_of-at mesh i is h) refl

pub status_back : (k : Known) → status_of (is_kno k) ≡ k
status_back Kno = refl
status_back Unk = refl

-- ---- destinations

abbrev pub AreKeysBelow : ℕ → List (ℕ × ℕ) → Type 0
AreKeysBelow size [] = Unit {0}
AreKeysBelow size (e ∷ es) = (e.0 < size) × AreKeysBelow size es

keys_in : (size : ℕ) (es : List (ℕ × ℕ)) → ((q : ℕ) → list_any (eq_by_cmp nat_cmp q) (map (λ e. e.0) es) ≡ true → q < size) → AreKeysBelow size es
keys_in size [] h = tt
keys_in size (e ∷ es) h =
    (h e.0 (rw (unsigned_tied e.0 e.0, eq-eqb e.0 e.0 refl) refl), keys_in size es (λ q t. h q (rw t (or_true (eq_by_cmp nat_cmp q e.0)))))
  where
    or_true : (b : Bool) → (b || true) ≡ true
    or_true true = refl
    or_true false = refl

pub some_of : (o : Option ℕ) → is_some o ≡ true → (n : ℕ) × (o ≡ Some n)
some_of (Some n) t = (n, refl)
some_of None t = cc

pub dests_keys : (size : ℕ) (dests : Dests) → AreDestsBelow size dests → AreKeysBelow size (maps.entries dests)
dests_keys size dests all = keys_in size (maps.entries dests) (λ q t.
    let there = some_of (maps.get dests q) (maps.contains_key-keys dests q ∙ t) in
    all q there.0 there.1)

there_and_back : (mesh : Nodes) (es : List (ℕ × ℕ)) → IsMesh mesh → AreKeysBelow (length mesh) es → map (pair_by_index mesh) (map (pair_by_address mesh) es) ≡ es
there_and_back mesh [] is all = refl
there_and_back mesh (e ∷ es) is all = rw (index_at mesh e.0 is all.0, there_and_back mesh es is all.1) refl

dests_back : (mesh : Nodes) (dests : Dests) → IsMesh mesh → AreDestsBelow (length mesh) dests → dests_in mesh (pairs_of mesh dests) ≡ dests
dests_back mesh dests is all =
    maps.same_map nat_cmp_total nat_cmp-IsAntisymmetric _ dests (λ q.
    maps.get-from_entries nat_cmp_total (map (pair_by_index mesh) (pairs_of mesh dests)) q
    ∙ ap (find nat_cmp q) (there_and_back mesh (maps.entries dests) is (dests_keys (length mesh) dests all))
    ∙ sym (maps.get-entries dests q))

pub no_strange_pair : (mesh : Nodes) (es : List (ℕ × ℕ)) → IsMesh mesh → AreKeysBelow (length mesh) es → strange_pair mesh (map (pair_by_address mesh) es) ≡ None
no_strange_pair mesh [] is all = refl
no_strange_pair mesh (e ∷ es) is all = rw (is_there mesh e.0 is all.0) (no_strange_pair mesh es is all.1)

-- ---- messages

pub message_back : (mesh : Nodes) (m : Message) → IsMesh mesh → IsMessageInMesh (length mesh) m → in_mesh mesh (out_of mesh m) ≡ m
message_back mesh (Rreq m) is all = rw (index_at mesh m.dip is all.0, index_at mesh m.oip is all.1, status_back m.dsk) refl
message_back mesh (Rrep m) is all = rw (index_at mesh m.dip is all.0, index_at mesh m.oip is all.1) refl
message_back mesh (Pkt b d o) is all = rw (index_at mesh d is all.0, index_at mesh o is all.1) refl
message_back mesh (Rerr dests) is all = ap Rerr (dests_back mesh dests is all)

no_stranger : (mesh : Nodes) (m : Message) → IsMesh mesh → IsMessageInMesh (length mesh) m → stranger mesh (out_of mesh m) ≡ None
no_stranger mesh (Rreq m) is all = rw (is_there mesh m.dip is all.0, is_there mesh m.oip is all.1) refl
no_stranger mesh (Rrep m) is all = rw (is_there mesh m.dip is all.0, is_there mesh m.oip is all.1) refl
no_stranger mesh (Pkt b d o) is all = rw (is_there mesh d is all.0, is_there mesh o is all.1) refl
no_stranger mesh (Rerr dests) is all = no_strange_pair mesh (maps.entries dests) is (dests_keys (length mesh) dests all)

pub sent_means : (mesh : Nodes) (b : List ℕ) (m : Message) → IsMesh mesh → IsMessageInMesh (length mesh) m → IsSent mesh b m → (meaning mesh b ≡ m) × (stranger mesh (message_in_fields b) ≡ None)
unfolding meaning
sent_means mesh b m is all sent =
    let e = (sent.encodes).stands in
    (ap (in_mesh mesh) e ∙ message_back mesh m is all, ap (stranger mesh) e ∙ no_stranger mesh m is all)

-- ---- strangers

pub first_in : (mesh : Nodes) (a : Addr) (rest : Option Addr) → unless_in mesh a rest ≡ None → (is_some (index_of mesh a.0) ≡ true) × (rest ≡ None)
first_in mesh a rest e = case (is_some (index_of mesh a.0)) e
  where
    case : (b : Bool) → (if b then rest else Some a) ≡ None → (b ≡ true) × (rest ≡ None)
    case true e = (refl, e)
    case false e = absurd (none-some a (sym e))

two_in : (mesh : Nodes) (a b : Addr) → unless_in mesh a (unless_in mesh b None) ≡ None → (index mesh a < length mesh) × (index mesh b < length mesh)
two_in mesh a b e =
    let one = first_in mesh a (unless_in mesh b None) e in
    let two = first_in mesh b None one.1 in
    (below mesh a.0 one.0, below mesh b.0 two.0)

pub found_below : (b : Bool) (i n d v : ℕ) (size : ℕ) (rest : Option ℕ) → (b ≡ true → d ≡ i) → i < size → (rest ≡ Some n → d < size) → cond b (Some v) rest ≡ Some n → d < size
found_below true i n d v size rest same h later e = let is = same refl in omega arith
found_below false i n d v size rest same h later e = later e

pub pairs_below : (mesh : Nodes) (ps : List (Addr × ℕ)) → strange_pair mesh ps ≡ None → (d n : ℕ) → find nat_cmp d (map (pair_by_index mesh) ps) ≡ Some n → d < length mesh
pairs_below mesh [] e d n f = absurd (none-some n f)
pairs_below mesh (p ∷ ps) e d n f =
    let one = first_in mesh p.0 (strange_pair mesh ps) e in
    found_below (eq_by_cmp nat_cmp d (index mesh p.0)) (index mesh p.0) n d p.1 (length mesh) (find nat_cmp d (map (pair_by_index mesh) ps))
    (λ t. eqb-true d (index mesh p.0) (sym (unsigned_tied d (index mesh p.0)) ∙ t)) (below mesh (p.0).0 one.0) (pairs_below mesh ps one.1 d n) f

-- ---- what isn't refused

-- a list of refusals without one
pub both : (t : Bool) (e : WireError) (others : List (Option WireError)) → first_of (refuse_if t e ∷ others) ≡ None → (t ≡ false) × (first_of others ≡ None)
both true e others h = absurd (none-some e (sym h))
both false e others h = (refl, h)

pub not_zero : (n : ℕ) → eqb n 0 ≡ false → 1 ≤ n
not_zero n h = grind (arith, nat_tests)

-- the tests that follow, from each on
abbrev request_5 : List ℕ → List (Option WireError)
request_5 b = refuse_if (eqb (rreq.value_in b rreq.OriginatorNumber) 0) ZeroNumber ∷ []

abbrev request_4 : List ℕ → List (Option WireError)
request_4 b = refuse_if (eqb (rreq.value_in b rreq.D) 1) OutsideProfile ∷ request_5 b

abbrev request_3 : List ℕ → List (Option WireError)
request_3 b = refuse_if (eqb (rreq.value_in b rreq.G) 1) OutsideProfile ∷ request_4 b

abbrev request_2 : List ℕ → List (Option WireError)
request_2 b = refuse_if (eqb (rreq.value_in b rreq.R) 1) OutsideProfile ∷ request_3 b

abbrev request_1 : List ℕ → List (Option WireError)
request_1 b = refuse_if (eqb (rreq.value_in b rreq.J) 1) OutsideProfile ∷ request_2 b

request_number : (b : List ℕ) → rreq.refusal b ≡ None → 1 ≤ (rreq.request b).osn
request_number b h =
    let one = both (not (eqb (length b) 24)) WrongLength (request_1 b) h in
    let two = both (eqb (rreq.value_in b rreq.J) 1) OutsideProfile (request_2 b) one.1 in
    let three = both (eqb (rreq.value_in b rreq.R) 1) OutsideProfile (request_3 b) two.1 in
    let four = both (eqb (rreq.value_in b rreq.G) 1) OutsideProfile (request_4 b) three.1 in
    let five = both (eqb (rreq.value_in b rreq.D) 1) OutsideProfile (request_5 b) four.1 in
    let six = both (eqb (rreq.value_in b rreq.OriginatorNumber) 0) ZeroNumber [] five.1 in
    not_zero (rreq.value_in b rreq.OriginatorNumber) six.0

abbrev reply_4 : List ℕ → List (Option WireError)
reply_4 b = refuse_if (eqb (rrep.value_in b rrep.DestinationNumber) 0) ZeroNumber ∷ []

abbrev reply_3 : List ℕ → List (Option WireError)
reply_3 b = refuse_if (not (eqb (rrep.value_in b rrep.PrefixSize) 0)) OutsideProfile ∷ reply_4 b

abbrev reply_2 : List ℕ → List (Option WireError)
reply_2 b = refuse_if (eqb (rrep.value_in b rrep.A) 1) OutsideProfile ∷ reply_3 b

abbrev reply_1 : List ℕ → List (Option WireError)
reply_1 b = refuse_if (eqb (rrep.value_in b rrep.R) 1) OutsideProfile ∷ reply_2 b

reply_number : (b : List ℕ) → rrep.refusal b ≡ None → 1 ≤ (rrep.reply b).dsn
reply_number b h =
    let one = both (not (eqb (length b) 20)) WrongLength (reply_1 b) h in
    let two = both (eqb (rrep.value_in b rrep.R) 1) OutsideProfile (reply_2 b) one.1 in
    let three = both (eqb (rrep.value_in b rrep.A) 1) OutsideProfile (reply_3 b) two.1 in
    let four = both (not (eqb (rrep.value_in b rrep.PrefixSize) 0)) OutsideProfile (reply_4 b) three.1 in
    let five = both (eqb (rrep.value_in b rrep.DestinationNumber) 0) ZeroNumber [] four.1 in
    not_zero (rrep.value_in b rrep.DestinationNumber) five.0

body_is_datum : (b : List ℕ) → packet.refusal b ≡ None → IsDatum (packet.datum b).body
body_is_datum b h =
    let one = both (ltb (length b) 13) WrongLength (refuse_if (ltb 524 (length b)) WrongLength ∷ refuse_if (not (eqb (packet.value_in b packet.Zero) 0)) BadData ∷ []) h in
    let two = both (ltb 524 (length b)) WrongLength (refuse_if (not (eqb (packet.value_in b packet.Zero) 0)) BadData ∷ []) one.1 in
    let low = ltb-false (length b) 13 one.0 in
    let high = ltb-false 524 (length b) two.0 in
    let size = length-drop 12 b in
    (omega arith, omega arith)

-- the message, by the type of the packet: a request, a reply or an error
abbrev pub Said : List ℕ → Bool → Bool → Bool → wire.Message
Said b k1 k2 k3 = cond k1 (messages.Rreq (rreq.request b)) (cond k2 (messages.Rrep (rrep.reply b)) (cond k3 (messages.Rerr (rerr.destinations b)) (messages.Parcel (packet.datum b))))

by_kind : (mesh : Nodes) (b : List ℕ) (empty k1 k2 k3 k16 : Bool)
    → cond empty (Some Short) (cond k1 (rreq.refusal b) (cond k2 (rrep.refusal b) (cond k3 (rerr.refusal b) (cond k16 (packet.refusal b) (Some (UnknownType (kind b))))))) ≡ None
    → stranger mesh (Said b k1 k2 k3) ≡ None → IsMessageInMesh (length mesh) (in_mesh mesh (Said b k1 k2 k3))
by_kind mesh b true k1 k2 k3 k16 h s = absurd (none-some Short (sym h))
by_kind mesh b false true k2 k3 k16 h s =
    let two = two_in mesh (rreq.request b).dip (rreq.request b).oip s in
    (two.0, two.1, request_number b h)
by_kind mesh b false false true k3 k16 h s =
    let two = two_in mesh (rrep.reply b).dip (rrep.reply b).oip s in
    (two.0, two.1, reply_number b h)
by_kind mesh b false false false true k16 h s =
    λ d n g. pairs_below mesh (rerr.destinations b) s d n (sym (maps.get-from_entries nat_cmp_total (map (pair_by_index mesh) (rerr.destinations b)) d) ∙ g)
by_kind mesh b false false false false true h s =
    let two = two_in mesh (packet.datum b).dip (packet.datum b).oip s in
    (two.0, two.1, body_is_datum b h)
by_kind mesh b false false false false false h s = absurd (none-some (UnknownType (kind b)) (sym h))

pub spelled_in : (mesh : Nodes) (b : List ℕ) → refusal b ≡ None → stranger mesh (message_in_fields b) ≡ None → IsMessageInMesh (length mesh) (meaning mesh b)
unfolding refusal message_in_fields meaning
spelled_in mesh b h s = by_kind mesh b (eqb (length b) 0) (eqb (kind b) 1) (eqb (kind b) 2) (eqb (kind b) 3) (eqb (kind b) 16) h s
