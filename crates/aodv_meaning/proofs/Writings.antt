-- Bytes that are what is written of their message, and bytes that are sent of what they mean.
use Rattle.std.proofs.Common.{◌≡◌, ◌<◌, ◌≤◌, ◌+◌, ◌*◌, ℕ, Bool, true, false, cond, not, eqb, ltb, ◌&&◌, ◌↔◌, Option, Some, None, List, [], ◌∷◌, length, drop, map, refl, sym, ap, subst, ◌∙◌, arith, inl, inr}
use Rattle.std.specs.Prelude.{is_some, unwrap_or, option_map, T, ⊤}
use Rattle.std.specs.Ordering.{nat_cmp, is_lt, eq_by_cmp}
use Rattle.std.specs.Cmp.{ranked}
use Rattle.std.specs.declared.cmp.Ordering.{Ordering}
use Rattle.std.specs.declared.cmp.Ordering.TheVariants.{Less, Equal, Greater}
use Rattle.std.specs.FinMap as maps
use Rattle.std.specs.FinMap.{nat_cmp-IsAntisymmetric, find}
use Rattle.std.specs.FinMap.Entries.{is_sorted, below_all}
use Rattle.std.specs.Cmp.{unsigned_tied}
use Rattle.std.proofs.lemmas.Cmp.{nat_cmp_total}
use Rattle.std.proofs.lemmas.Bool.{and_parts, eqb-true, cases_lt, lt-ltb}
use Rattle.std.proofs.lemmas.List.{length-map}
use Rattle.std.proofs.lemmas.Option.{none-some}
use Rattle.mesh_base.specs.declared.addr.Addr.{Addr}
use Rattle.mesh_base.specs.Meshes.{Nodes, addr_at, index_of, index_in, IsMesh}
use Rattle.aodv_model.specs.Quality.{is_kno}
use Rattle.aodv_model.specs.Tables.{Dests}
use Rattle.aodv_model.specs.Soundness.{AreDestsBelow}
use Rattle.aodv_wire.specs.declared.message.Message as wire
use Rattle.aodv_wire.specs.declared.message.Message.TheVariants as messages
use Rattle.aodv_wire.specs.declared.error.WireError.{WireError}
use Rattle.aodv_wire.specs.declared.error.WireError.TheVariants.{Short, UnknownType, WrongLength, OutsideProfile, NoDestinations, Repeated}
use Rattle.aodv_wire.specs.Refused.{refuse_if}
use Rattle.aodv_wire.specs.RouteRequest as rreq
use Rattle.aodv_wire.specs.RouteReply as rrep
use Rattle.aodv_wire.specs.RouteError as rerr
use Rattle.aodv_wire.specs.RouteError.{IsRising, AreDestinations}
use Rattle.aodv_wire.specs.DataPacket as packet
use Rattle.aodv_wire.specs.Encodes.{message_in_fields, kind, refusal, encoding}
use Rattle.aodv_wire.proofs.Pairs.{length_pairs}
use Rattle.aodv_meaning.specs.Meaning.{status_of, index, pair_by_index, dests_in, in_mesh, meaning, strange_pair, stranger, unless_in}
use Rattle.aodv_meaning.specs.Sent.{addr, pair_by_address, out_of, pairs_of, IsSent, IsWritable, IsAsWritten}
use Rattle.aodv_meaning.proofs.Means.{index_there, is_there, some_of, first_in, found_below, no_strange_pair, dests_keys, AreKeysBelow, both, not_zero, Said}

-- ---- orders of numbers and of keys

true_of : (b : Bool) → T b → b ≡ true
true_of true t = refl
true_of false t = absurd t

of_true : (b : Bool) → b ≡ true → T b
of_true true t = tt
of_true false t = cc

two_true : (a b : Bool) → a ≡ true → T b → T (a && b)
two_true true b t u = u
two_true false b t u = cc

lower : (o : Ordering) → is_lt o ≡ true → Less ≡ o
lower Less h = refl
lower Equal h = cc
lower Greater h = cc

lt_of : (a b : ℕ) → is_lt (nat_cmp a b) ≡ true → a < b
lt_of a b t = ranked a b Less (lower (nat_cmp a b) t)

of_lt : (a b : ℕ) → a < b → is_lt (nat_cmp a b) ≡ true
of_lt a b h = rw (lt-ltb a b h) refl

-- ---- an address that is there, and its index

there : (mesh : Nodes) (a : Addr) → is_some (index_of mesh a.0) ≡ true → (index mesh a < length mesh) × (addr_at mesh (index mesh a) ≡ a.0)
there mesh a t =
    let some = some_of (index_of mesh a.0) t in
    let all = index_there mesh a.0 some.0 some.1 in
    (rw all.1 all.0, rw all.1 all.2)

addr_back : (mesh : Nodes) (a : Addr) → is_some (index_of mesh a.0) ≡ true → addr mesh (index mesh a) ≡ a
addr_back mesh a t = let make : ℕ → Addr = λ n. record { 0 = n } in ap make (there mesh a t).1

-- indices rise as addresses do
index_rises : (mesh : Nodes) (a b : Addr) → IsMesh mesh → is_some (index_of mesh a.0) ≡ true → is_some (index_of mesh b.0) ≡ true → a.0 < b.0 → index mesh a < index mesh b
index_rises mesh a b is ta tb lt =
    let one = there mesh a ta in
    let two = there mesh b tb in
    elim (cases_lt (index mesh a) (index mesh b)) [
      | inl less ↦ less
      | inr ge ↦ elim (cases_lt (index mesh b) (index mesh a)) [
        | inl less ↦ let r = is.rising (index mesh b) (index mesh a) less one.0 in absurd (omega arith)
        | inr le ↦
            let e : index mesh a ≡ index mesh b = omega arith in
            let f = ap (addr_at mesh) e in
            absurd (omega arith)
      ]
    ]

-- ---- pairs that were read, there and back

one_pair : (a c : Addr) (n : ℕ) (ps qs : List (Addr × ℕ)) → a ≡ c → ps ≡ qs → (a, n) ∷ ps ≡ (c, n) ∷ qs
one_pair a c n ps qs e f = cc

pairs_there : (mesh : Nodes) (ps : List (Addr × ℕ)) → strange_pair mesh ps ≡ None → map (pair_by_address mesh) (map (pair_by_index mesh) ps) ≡ ps
pairs_there mesh [] s = refl
pairs_there mesh (p ∷ ps) s =
    let one = first_in mesh p.0 (strange_pair mesh ps) s in
    one_pair _ _ p.1 _ _ (addr_back mesh p.0 one.0) (pairs_there mesh ps one.1)

-- x is below the index of the first pair
abbrev IsBelowFirst : Nodes → ℕ → List (Addr × ℕ) → Type 0
IsBelowFirst mesh x [] = ⊤
IsBelowFirst mesh x (p ∷ ps) = x < index mesh p.0

next_below : (mesh : Nodes) (p : Addr × ℕ) (ps : List (Addr × ℕ)) → IsMesh mesh → strange_pair mesh (p ∷ ps) ≡ None → IsRising (p ∷ ps) → IsBelowFirst mesh (index mesh p.0) ps × IsRising ps
next_below mesh p [] is s rising = (tt, tt)
next_below mesh p (q ∷ ps) is s rising =
    let one = first_in mesh p.0 (strange_pair mesh (q ∷ ps)) s in
    let two = first_in mesh q.0 (strange_pair mesh ps) one.1 in
    (index_rises mesh p.0 q.0 is one.0 two.0 rising.0, rising.1)

further : (mesh : Nodes) (x y : ℕ) (ps : List (Addr × ℕ)) → x < y → IsBelowFirst mesh y ps → IsBelowFirst mesh x ps
further mesh x y [] lt below = tt
further mesh x y (p ∷ ps) lt below = omega arith

all_above : (mesh : Nodes) (x : ℕ) (ps : List (Addr × ℕ)) → IsMesh mesh → strange_pair mesh ps ≡ None → IsRising ps → IsBelowFirst mesh x ps → T (below_all nat_cmp x (map (pair_by_index mesh) ps))
all_above mesh x [] is s rising below = tt
all_above mesh x (p ∷ ps) is s rising below =
    let one = first_in mesh p.0 (strange_pair mesh ps) s in
    let next = next_below mesh p ps is s rising in
    two_true (is_lt (nat_cmp x (index mesh p.0))) (below_all nat_cmp x (map (pair_by_index mesh) ps)) (of_lt x (index mesh p.0) below)
    (all_above mesh x ps is one.1 next.1 (further mesh x (index mesh p.0) ps below next.0))

keys_rise : (mesh : Nodes) (ps : List (Addr × ℕ)) → IsMesh mesh → strange_pair mesh ps ≡ None → IsRising ps → T (is_sorted nat_cmp (map (pair_by_index mesh) ps))
keys_rise mesh [] is s rising = tt
keys_rise mesh (p ∷ ps) is s rising =
    let one = first_in mesh p.0 (strange_pair mesh ps) s in
    let next = next_below mesh p ps is s rising in
    two_true (below_all nat_cmp (index mesh p.0) (map (pair_by_index mesh) ps)) (is_sorted nat_cmp (map (pair_by_index mesh) ps))
    (true_of _ (all_above mesh (index mesh p.0) ps is one.1 next.1 next.0)) (keys_rise mesh ps is one.1 next.1)

-- the entries of a map that was made of rising entries
entries_back : (es : List (ℕ × ℕ)) → T (is_sorted nat_cmp es) → maps.entries (maps.from_entries {R = nat_cmp} es) ≡ es
entries_back es sorted =
    let same : maps.from_entries {R = nat_cmp} es ≡ maps.from_sorted {R = nat_cmp} es =
    maps.same_map nat_cmp_total nat_cmp-IsAntisymmetric _ _ (λ q. maps.get-from_entries nat_cmp_total es q ∙ sym (maps.get-from_sorted nat_cmp es q sorted)) in
    ap maps.entries same ∙ maps.entries-from_sorted nat_cmp es sorted

pairs_back : (mesh : Nodes) (ps : List (Addr × ℕ)) → IsMesh mesh → strange_pair mesh ps ≡ None → IsRising ps → pairs_of mesh (dests_in mesh ps) ≡ ps
pairs_back mesh ps is s rising =
    ap (map (pair_by_address mesh)) (entries_back (map (pair_by_index mesh) ps) (keys_rise mesh ps is s rising)) ∙ pairs_there mesh ps s

-- ---- a message that was read, there and back

status_there : (known : Bool) → is_kno (status_of known) ≡ known
status_there true = refl
status_there false = refl

two_known : (mesh : Nodes) (a b : Addr) → unless_in mesh a (unless_in mesh b None) ≡ None → (addr mesh (index mesh a) ≡ a) × (addr mesh (index mesh b) ≡ b)
two_known mesh a b s =
    let one = first_in mesh a (unless_in mesh b None) s in
    let two = first_in mesh b None one.1 in
    (addr_back mesh a one.0, addr_back mesh b two.0)

said_back : (mesh : Nodes) (m : wire.Message) → IsMesh mesh → stranger mesh m ≡ None → IsWritable m → out_of mesh (in_mesh mesh m) ≡ m
said_back mesh (messages.Rreq m) is s w = let two = two_known mesh m.dip m.oip s in rw (two.0, two.1, status_there m.known) refl
said_back mesh (messages.Rrep m) is s w = let two = two_known mesh m.dip m.oip s in rw (two.0, two.1) refl
said_back mesh (messages.Rerr ps) is s w = ap messages.Rerr (pairs_back mesh ps is s w.rising)
said_back mesh (messages.Parcel p) is s w = let two = two_known mesh p.dip p.oip s in rw (two.0, two.1) refl

sent_of : (mesh : Nodes) (b : List ℕ) → IsMesh mesh → IsAsWritten mesh b → IsSent mesh b (meaning mesh b)
unfolding meaning
sent_of mesh b is w =
    let back = said_back mesh (message_in_fields b) is w.known w.writable in
    record {
      written = w.same ∙ ap encoding (sym back);
      encodes = record { allowed = w.allowed; stands = sym back };
    }

-- ---- destinations of the mesh can be written

-- keys that rise from above x, all below size, are few
count_above : (es : List (ℕ × ℕ)) (size x : ℕ) → T (below_all nat_cmp x es) → T (is_sorted nat_cmp es) → AreKeysBelow size es → x < size → length es + x < size
count_above [] size x above sorted keys lt = omega arith
count_above (e ∷ es) size x above sorted keys lt =
    let first = and_parts (is_lt (nat_cmp x e.0)) (below_all nat_cmp x es) (true_of _ above) in
    let parts = and_parts (below_all nat_cmp e.0 es) (is_sorted nat_cmp es) (true_of _ sorted) in
    let less = lt_of x e.0 first.0 in
    let rest = count_above es size e.0 (of_true _ parts.0) (of_true _ parts.1) keys.1 keys.0 in
    omega arith

few_keys : (es : List (ℕ × ℕ)) (size : ℕ) → T (is_sorted nat_cmp es) → AreKeysBelow size es → length es ≤ size
few_keys [] size sorted keys = omega arith
few_keys (e ∷ es) size sorted keys =
    let parts = and_parts (below_all nat_cmp e.0 es) (is_sorted nat_cmp es) (true_of _ sorted) in
    let rest = count_above es size e.0 (of_true _ parts.0) (of_true _ parts.1) keys.1 keys.0 in
    omega arith

rising_pairs : (mesh : Nodes) (es : List (ℕ × ℕ)) → IsMesh mesh → T (is_sorted nat_cmp es) → AreKeysBelow (length mesh) es → IsRising (map (pair_by_address mesh) es)
rising_pairs mesh [] is sorted keys = tt
rising_pairs mesh (e ∷ []) is sorted keys = tt
rising_pairs mesh (e ∷ f ∷ es) is sorted keys =
    let parts = and_parts (below_all nat_cmp e.0 (f ∷ es)) (is_sorted nat_cmp (f ∷ es)) (true_of _ sorted) in
    let first = and_parts (is_lt (nat_cmp e.0 f.0)) (below_all nat_cmp e.0 es) parts.0 in
    (is.rising e.0 f.0 (lt_of e.0 f.0 first.0) (keys.1).0, rising_pairs mesh (f ∷ es) is (of_true _ parts.1) keys.1)

-- one destination or more, all in the mesh
pub destinations : (mesh : Nodes) (dests : Dests) → IsMesh mesh → AreDestsBelow (length mesh) dests → 1 ≤ maps.len dests → AreDestinations (pairs_of mesh dests)
destinations mesh dests is below some =
    let keys = dests_keys (length mesh) dests below in
    let sorted = maps.entries_sorted dests in
    let count : maps.len dests ≡ length (maps.entries dests) = maps.len-entries dests in
    let same : length (pairs_of mesh dests) ≡ length (maps.entries dests) = length-map (maps.entries dests) (pair_by_address mesh) in
    let few : length (maps.entries dests) ≤ length mesh = few_keys (maps.entries dests) (length mesh) sorted keys in
    let most = is.few in
    record { some = omega arith; few = omega arith; rising = rising_pairs mesh (maps.entries dests) is sorted keys }

-- ---- a message that is sent of what it means

index_below : (mesh : Nodes) (a : ℕ) → 1 ≤ length mesh → index_in mesh a < length mesh
unfolding index_in
index_below mesh a some = by (index_of mesh a) refl
  where
    by : (o : Option ℕ) → index_of mesh a ≡ o → unwrap_or o 0 < length mesh
    by (Some i) e = (index_there mesh a i e).0
    by None e = some

found_in : (mesh : Nodes) (ps : List (Addr × ℕ)) → 1 ≤ length mesh → (d n : ℕ) → find nat_cmp d (map (pair_by_index mesh) ps) ≡ Some n → d < length mesh
found_in mesh [] some d n f = absurd (none-some n f)
found_in mesh (p ∷ ps) some d n f =
    found_below (eq_by_cmp nat_cmp d (index mesh p.0)) (index mesh p.0) n d p.1 (length mesh) (find nat_cmp d (map (pair_by_index mesh) ps))
    (λ t. eqb-true d (index mesh p.0) (sym (unsigned_tied d (index mesh p.0)) ∙ t)) (index_below mesh (p.0).0 some) (found_in mesh ps some d n) f

dests_below : (mesh : Nodes) (ps : List (Addr × ℕ)) → 1 ≤ length mesh → AreDestsBelow (length mesh) (dests_in mesh ps)
dests_below mesh ps some d n g = found_in mesh ps some d n (sym (maps.get-from_entries nat_cmp_total (map (pair_by_index mesh) ps) d) ∙ g)

none_strange : (mesh : Nodes) (m : wire.Message) → IsMesh mesh → 1 ≤ length mesh → stranger mesh (out_of mesh (in_mesh mesh m)) ≡ None
none_strange mesh (messages.Rreq m) is some = rw (is_there mesh (index mesh m.dip) is (index_below mesh (m.dip).0 some), is_there mesh (index mesh m.oip) is (index_below mesh (m.oip).0 some)) refl
none_strange mesh (messages.Rrep m) is some = rw (is_there mesh (index mesh m.dip) is (index_below mesh (m.dip).0 some), is_there mesh (index mesh m.oip) is (index_below mesh (m.oip).0 some)) refl
none_strange mesh (messages.Rerr ps) is some = no_strange_pair mesh (maps.entries (dests_in mesh ps)) is (dests_keys (length mesh) (dests_in mesh ps) (dests_below mesh ps some))
none_strange mesh (messages.Parcel p) is some = rw (is_there mesh (index mesh p.dip) is (index_below mesh (p.dip).0 some), is_there mesh (index mesh p.oip) is (index_below mesh (p.oip).0 some)) refl

-- of a route error: it has a pair
abbrev HasPair : wire.Message → Type 0
HasPair (messages.Rreq m) = ⊤
HasPair (messages.Rrep m) = ⊤
HasPair (messages.Rerr ps) = 1 ≤ length ps
HasPair (messages.Parcel p) = ⊤

writable_of : (mesh : Nodes) (m : wire.Message) → IsMesh mesh → 1 ≤ length mesh → HasPair m → m ≡ out_of mesh (in_mesh mesh m) → IsWritable m
writable_of mesh (messages.Rreq m) is some has e = tt
writable_of mesh (messages.Rrep m) is some has e = tt
writable_of mesh (messages.Rerr ps) is some has e =
    let same : ps ≡ pairs_of mesh (dests_in mesh ps) = cc in
    let long = ap length same ∙ length-map (maps.entries (dests_in mesh ps)) (pair_by_address mesh) in
    let count : maps.len (dests_in mesh ps) ≡ length (maps.entries (dests_in mesh ps)) = maps.len-entries (dests_in mesh ps) in
    subst AreDestinations (sym same) (destinations mesh (dests_in mesh ps) is (dests_below mesh ps some) (omega arith))
writable_of mesh (messages.Parcel p) is some has e = tt

-- ---- a route error that isn't refused has a pair

abbrev errors_4 : List ℕ → List (Option WireError)
errors_4 b = option_map Repeated (rerr.repeated_address (rerr.destinations b)) ∷ []

abbrev errors_3 : List ℕ → List (Option WireError)
errors_3 b = refuse_if (eqb (rerr.value_in b rerr.DestCount) 0) NoDestinations ∷ errors_4 b

abbrev errors_2 : List ℕ → List (Option WireError)
errors_2 b = refuse_if (eqb (rerr.value_in b rerr.N) 1) OutsideProfile ∷ errors_3 b

abbrev errors_1 : List ℕ → List (Option WireError)
errors_1 b = refuse_if (not (eqb (length b) (4 + 8 * rerr.value_in b rerr.DestCount))) WrongLength ∷ errors_2 b

some_pair : (b : List ℕ) → rerr.refusal b ≡ None → 1 ≤ length (rerr.destinations b)
some_pair b h =
    let one = both (ltb (length b) 4) WrongLength (errors_1 b) h in
    let two = both (not (eqb (length b) (4 + 8 * rerr.value_in b rerr.DestCount))) WrongLength (errors_2 b) one.1 in
    let three = both (eqb (rerr.value_in b rerr.N) 1) OutsideProfile (errors_3 b) two.1 in
    let four = both (eqb (rerr.value_in b rerr.DestCount) 0) NoDestinations (errors_4 b) three.1 in
    let some = not_zero (rerr.value_in b rerr.DestCount) four.0 in
    let long = length_pairs (rerr.value_in b rerr.DestCount) (drop 4 b) in
    omega arith

pair_by_kind : (b : List ℕ) (empty k1 k2 k3 k16 : Bool)
    → cond empty (Some Short) (cond k1 (rreq.refusal b) (cond k2 (rrep.refusal b) (cond k3 (rerr.refusal b) (cond k16 (packet.refusal b) (Some (UnknownType (kind b))))))) ≡ None
    → HasPair (Said b k1 k2 k3)
pair_by_kind b true k1 k2 k3 k16 h = absurd (none-some Short (sym h))
pair_by_kind b false true k2 k3 k16 h = tt
pair_by_kind b false false true k3 k16 h = tt
pair_by_kind b false false false true k16 h = some_pair b h
pair_by_kind b false false false false k16 h = tt

has_pair : (b : List ℕ) → refusal b ≡ None → HasPair (message_in_fields b)
unfolding refusal message_in_fields
has_pair b h = pair_by_kind b (eqb (length b) 0) (eqb (kind b) 1) (eqb (kind b) 2) (eqb (kind b) 3) (eqb (kind b) 16) h

as_written : (mesh : Nodes) (b : List ℕ) → IsMesh mesh → 1 ≤ length mesh → IsSent mesh b (meaning mesh b) → IsAsWritten mesh b
unfolding meaning
as_written mesh b is some sent =
    let stands = (sent.encodes).stands in
    record {
      allowed = (sent.encodes).allowed;
      known = ap (stranger mesh) stands ∙ none_strange mesh (message_in_fields b) is some;
      writable = writable_of mesh (message_in_fields b) is some (has_pair b (sent.encodes).allowed) stands;
      same = sent.written ∙ ap encoding (sym stands);
    }

pub written_is_sent : (mesh : Nodes) (b : List ℕ) → IsMesh mesh → 1 ≤ length mesh → IsAsWritten mesh b ↔ IsSent mesh b (meaning mesh b)
written_is_sent mesh b is some = (sent_of mesh b is, as_written mesh b is some)
