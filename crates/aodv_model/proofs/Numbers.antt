-- Each turn, send and request that isn't refused keeps every number within its field, and the ids of a node's own
-- requests within its own number. g is the greatest number.
use Rattle.std.proofs.Common.{◌≡◌, ◌≢◌, ℕ, ◌≤◌, ◌⊎◌, Bool, true, false, cond, ◌&&◌, ◌||◌, not, ◌==◌, List, [], ◌∷◌, Some, None, Option, refl, ap, sym, ◌∙◌, subst, arith, inl, inr, eq-eqb}
use Rattle.std.specs.Prelude.{⊤, option_map, if◌then◌else◌, max}
use Rattle.std.specs.List.{list_any}
use Rattle.std.specs.Ordering.{nat_cmp, eq_by_cmp, is_eq}
use Rattle.std.specs.Cmp.{nat_cmp_total, unsigned_tied, tied_itself, Equal-is}
use Rattle.std.proofs.lemmas.Bool.{eqb-true, eqb-false}
use Rattle.std.proofs.lemmas.Bool.Decides.{nat_tests}
use Rattle.std.proofs.lemmas.Option.{none-some, same_Some}
use Rattle.std.specs.FinMap as maps
use Rattle.std.specs.FinSet as sets
use Rattle.mesh_base.specs.Members.{NodeIds}
use Rattle.mesh_base.specs.declared.events.Full.{Full as Counter}
use Rattle.mesh_base.specs.declared.events.Full.TheVariants as full
use Rattle.mesh_base.specs.declared.events.Variant.{Variant}
use Rattle.mesh_base.specs.declared.events.Variant.TheVariants.{Base, Number, Reply, Error}
use Rattle.aodv_model.specs.declared.entry.Entry.{Entry}
use Rattle.aodv_model.specs.Quality.{inc}
use Rattle.aodv_model.specs.Pairs.{Pairs, pair_cmp}
use Rattle.aodv_model.specs.Tables.{Table, Dests, accepted_unreachable, add_pre, goes_by, invalidate, invalidated, add_pre_at, merge, nhop, number_in, precs, sqn, unreachable_by, update}
use Rattle.aodv_model.specs.Cores.{Core, Heard, Item, Message, New, Pkt, Rerr, RouteReply, RouteRequest, Rrep, Rreq, SeenRequests, greatest_beside, has_seen, last_request_id, next_request_id, opening}
use Rattle.aodv_model.specs.Handlers.{All, Cast, Many, Nothing, One, Reaction, after_hearing, after_reply, after_request, ask, broken_by, error_cast, forward_own_entry, forward_reply, forward_request, fresh_id, is_empty, join_answer_precursors, join_reply_precursors, key_of, link_broken, neighbour_entry, on_rerr, one, reply_for_self, reply_from_table, retract, route_entry, send, turn, unicast, with_precs}
use Rattle.aodv_model.specs.Fullness.{ask_full, greatest, is_hop_full, is_id_full, is_number_full, after_learning, send_full, turn_full}
use Rattle.aodv_model.proofs.Changes.{after_by, mapped_each, update_each}
use Rattle.aodv_model.proofs.Entries.{if_case}
use Rattle.aodv_model.proofs.FullNumbers.{full_after_answer, full_after_reply, full_at_greatest, has_number, has_number_by, is_full_at, number_at}
use Rattle.aodv_model.proofs.Lookups.{get-accepted, get-add_pre, get-invalidate, get-kept, get-unreachable_by}
use Rattle.aodv_model.proofs.PairLaws.{pair_cmp_total, same_pair}
use Rattle.aodv_model.proofs.TablesInMesh.{kept_of}
use Rattle.aodv_model.proofs.Reactions.{unicast_case, error_case, data_error_case, ReactionCases, turn_cases, send_cases}

-- ---- what is kept

-- each number of the table
abbrev pub AllWithin : ℕ → Table → Type 0
AllWithin g rt = (d : ℕ) (e : Entry) → maps.get rt d ≡ Some e → e.dsn ≤ g

-- each number that the map states
abbrev pub AreDestsWithin : ℕ → Dests → Type 0
AreDestsWithin g dests = (d n : ℕ) → maps.get dests d ≡ Some n → n ≤ g

-- the numbers of a message
abbrev pub IsMessageWithin : ℕ → Message → Type 0
IsMessageWithin g (Pkt b d o) = ⊤
IsMessageWithin g (Rreq m) = (m.dsn ≤ g) × (m.osn ≤ g)
IsMessageWithin g (Rrep m) = m.dsn ≤ g
IsMessageWithin g (Rerr dests) = AreDestsWithin g dests

-- those of an item of a queue
abbrev pub IsItemWithin : ℕ → Item → Type 0
IsItemWithin g (New b d) = ⊤
IsItemWithin g (Heard from m) = IsMessageWithin g m

-- those of what is cast
abbrev pub IsCastWithin : ℕ → Cast → Type 0
IsCastWithin g Nothing = ⊤
IsCastWithin g (One y m) = IsMessageWithin g m
IsCastWithin g (Many s m) = IsMessageWithin g m
IsCastWithin g (All m) = IsMessageWithin g m

-- the core of node ip: its numbers, and the ids (or numbers) of its own requests
pub record IsCoreWithin (g ip : ℕ) (core : Core) : Type 0 where
  pub named : core.ip ≡ ip
  pub own : core.sn ≤ g
  pub table : AllWithin g core.rt
  pub ids : (i : ℕ) → has_seen core.seen (ip, i) ≡ true → i ≤ core.sn

-- what comes of it
pub record IsReactionWithin (g ip : ℕ) (reaction : Reaction) : Type 0 where
  pub core : IsCoreWithin g ip reaction.core
  pub cast : IsCastWithin g (reaction.effect).cast

-- that is what comes of it, unless a link broke by which this table has a valid entry with the
-- number g
abbrev pub Keeps : ℕ → ℕ → Table → Reaction → Type 0
Keeps g ip rt reaction = is_full_at g rt (reaction.effect).broken ≡ false → IsReactionWithin g ip reaction

-- a request of node ip's own that comes back to it is one that it knows
abbrev pub KnowsOwn : ℕ → Core → Item → Type 0
KnowsOwn ip core (New b d) = ⊤
KnowsOwn ip core (Heard from (Pkt b d o)) = ⊤
KnowsOwn ip core (Heard from (Rreq m)) = m.oip ≡ ip → has_seen core.seen (key_of core.variant m) ≡ true
KnowsOwn ip core (Heard from (Rrep m)) = ⊤
KnowsOwn ip core (Heard from (Rerr dests)) = ⊤

wrong : false ≡ true → ⊥
wrong e = cc

-- ---- keys

inserted : (seen : Pairs) (key q : ℕ × ℕ) → has_seen (sets.insert seen key) q ≡ true → (q ≡ key) ⊎ (has_seen seen q ≡ true)
inserted seen key q is = at (eq_by_cmp pair_cmp q key) refl (sym (sets.contains-insert pair_cmp_total seen key q) ∙ is)
  where
    at : (b : Bool) → eq_by_cmp pair_cmp q key ≡ b → (b || sets.contains seen q) ≡ true → (q ≡ key) ⊎ (has_seen seen q ≡ true)
    at true e o = inl (same_pair q key ((Equal-is (pair_cmp q key)).0 e))
    at false e o = inr o

key_first : (v : Variant) (m : RouteRequest) → (key_of v m).0 ≡ m.oip
key_first Base m = refl
key_first Number m = refl
key_first Reply m = refl
key_first Error m = refl

or_true : (b : Bool) → (b || true) ≡ true
or_true true = refl
or_true false = refl

-- the greatest beside o is within n where each that stands beside o is
beside_within : (o n : ℕ) (ks : List (ℕ × ℕ)) → ((i : ℕ) → list_any (eq_by_cmp pair_cmp (o, i)) ks ≡ true → i ≤ n) → greatest_beside ks o ≤ n
beside_within o n [] within = omega arith
beside_within o n (k ∷ ks) within =
    let later : greatest_beside ks o ≤ n = beside_within o n ks (λ i is. within i (ap (λ b. eq_by_cmp pair_cmp (o, i) k || b) is ∙ or_true (eq_by_cmp pair_cmp (o, i) k))) in
    if_case (λ m. m ≤ n) (k.0 == o) (max k.1 (greatest_beside ks o)) (greatest_beside ks o)
    (λ mine. both (within k.1 (ap (λ b. b || list_any (eq_by_cmp pair_cmp (o, k.1)) ks) (here mine))) later)
    (λ _. later)
  where
    here : (k.0 == o) ≡ true → eq_by_cmp pair_cmp (o, k.1) k ≡ true
    here mine = subst (λ z. eq_by_cmp pair_cmp (z, k.1) k ≡ true) (eqb-true k.0 o mine) (ap is_eq (tied_itself pair_cmp_total k))

    both : {a b : ℕ} → a ≤ n → b ≤ n → max a b ≤ n
    both x y = omega arith

last_within : (seen : SeenRequests) (o n : ℕ) → ((i : ℕ) → has_seen seen (o, i) ≡ true → i ≤ n) → last_request_id seen o ≤ n
unfolding last_request_id
last_within seen o n within = beside_within o n (sets.items seen) (λ i is. within i (sets.contains-items seen (o, i) ∙ is))

pub own_last_within : (g ip : ℕ) (core : Core) → IsCoreWithin g ip core → last_request_id core.seen core.ip ≤ core.sn
own_last_within g ip core w = last_within core.seen core.ip core.sn (λ i is. w.ids i (subst (λ k. has_seen core.seen (k, i) ≡ true) w.named is))

-- ---- tables

merged_within : (g : ℕ) (s r : Entry) → s.dsn ≤ g → r.dsn ≤ g → (merge s r).dsn ≤ g
unfolding merge
merged_within g s r a b = grind (arith, nat_tests)

invalidated_within : (g : ℕ) (e : Entry) (o : Option ℕ) → ((n : ℕ) → o ≡ Some n → n ≤ g) → e.dsn ≤ g → (invalidated e o).dsn ≤ g
invalidated_within g e None within l = l
invalidated_within g e (Some n) within l = within n refl

inc_within : (g k n : ℕ) → inc k ≡ n → k ≤ g → k ≢ g → n ≤ g
inc_within g k n e l apart = grind (arith, nat_tests)

-- the break of the link to y raises no number past g, unless one is g
raised_within : (g y : ℕ) (o : Option Entry) (n : ℕ) → ((e : Entry) → o ≡ Some e → e.dsn ≤ g) → (has_number g y o ≡ true → ⊥) → option_map (λ (e : Entry). inc e.dsn) (if goes_by o y then o else None) ≡ Some n → n ≤ g
raised_within g y None n all apart is = absurd (none-some n is)
raised_within g y (Some e) n all apart is = at (goes_by (Some e) y) apart is
  where
    at : (b : Bool) → ((b && (e.dsn == g)) ≡ true → ⊥) → option_map (λ (e : Entry). inc e.dsn) (if b then Some e else None) ≡ Some n → n ≤ g
    at true apart is = inc_within g e.dsn n (same_Some _ n is) (all e refl) (λ same. apart (eq-eqb e.dsn g same))
    at false apart is = absurd (none-some n is)

module _ (g : ℕ) where
  update_within : (rt : Table) (d : ℕ) (r : Entry) → AllWithin g rt → r.dsn ≤ g → AllWithin g (update rt d r)
  update_within rt d r all l = update_each (λ q e. e.dsn ≤ g) rt d r all (after_by (λ e. e.dsn ≤ g) (maps.get rt d) r l (λ s is. merged_within g s r (all d s is) l))

  invalidate_within : (rt : Table) (dests : Dests) → AllWithin g rt → AreDestsWithin g dests → AllWithin g (invalidate rt dests)
  invalidate_within rt dests all within q e is =
      mapped_each (λ q e. e.dsn ≤ g) (λ d e. invalidated e (maps.get dests d)) q e (maps.get rt q) (sym (get-invalidate rt dests q) ∙ is)
      (λ x here. invalidated_within g x (maps.get dests q) (within q) (all q x here))

  add_pre_within : (rt : Table) (d : ℕ) (nodes : NodeIds) → AllWithin g rt → AllWithin g (add_pre rt d nodes)
  add_pre_within rt d nodes all q e is =
      mapped_each (λ q e. e.dsn ≤ g) (add_pre_at d nodes) q e (maps.get rt q) (sym (get-add_pre rt d nodes q) ∙ is)
      (λ x here. if_case (λ e. e.dsn ≤ g) (q == d) (record x { pre = sets.union x.pre nodes }) x (λ _. all q x here) (λ _. all q x here))

  join_answer_within : (rt : Table) (d o from : ℕ) → AllWithin g rt → AllWithin g (join_answer_precursors rt d o from)
  unfolding join_answer_precursors
  join_answer_within rt d o from all = let rt1 = add_pre rt d (one from) in add_pre_within rt1 o (one (nhop rt1 d)) (add_pre_within rt d (one from) all)

  join_reply_within : (rt : Table) (d o : ℕ) → AllWithin g rt → AllWithin g (join_reply_precursors rt d o)
  unfolding join_reply_precursors
  join_reply_within rt d o all = let rt1 = add_pre rt d (one (nhop rt o)) in add_pre_within rt1 (nhop rt1 d) (one (nhop rt1 o)) (add_pre_within rt d (one (nhop rt o)) all)

  number_within : (rt : Table) (d : ℕ) → AllWithin g rt → sqn rt d ≤ g
  number_within rt d all = at (maps.get rt d) refl
    where
      at : (o : Option Entry) → maps.get rt d ≡ o → number_in o ≤ g
      at None is = omega arith
      at (Some e) is = all d e is

  unreachable_within : (rt : Table) (y : ℕ) → AllWithin g rt → has_number_by g rt y ≡ false → AreDestsWithin g (unreachable_by rt y)
  unreachable_within rt y all none d n is =
      raised_within g y (maps.get rt d) n (all d) (λ one. wrong (sym none ∙ (number_at g rt y).1 (d, one))) (sym (get-unreachable_by rt y d) ∙ is)

  accepted_within : (rt : Table) (y : ℕ) (dests : Dests) → AreDestsWithin g dests → AreDestsWithin g (accepted_unreachable rt y dests)
  accepted_within rt y dests within d n is = within d n (kept_of (maps.get dests d) _ n (sym (get-accepted rt y dests d) ∙ is))

  with_precs_within : (rt : Table) (dests : Dests) → AreDestsWithin g dests → AreDestsWithin g (with_precs rt dests)
  unfolding with_precs
  with_precs_within rt dests within d n is = within d n (kept_of (maps.get dests d) (not (is_empty (precs rt d))) n (sym (get-kept dests (λ d. not (is_empty (precs rt d))) d) ∙ is))

  dest_within : (d n : ℕ) → n ≤ g → AreDestsWithin g (maps.insert maps.empty d n)
  dest_within d n l q k is = either (q == d) (sym (maps.get-insert nat_cmp_total maps.empty d n q ∙ ap (λ b. cond b (Some n) (maps.get {R = nat_cmp} maps.empty q)) (unsigned_tied q d) ∙ ap (λ o. cond (q == d) (Some n) o) (maps.get-empty nat_cmp q)) ∙ is)
    where
      either : (b : Bool) → cond b (Some n) None ≡ Some k → k ≤ g
      either true is = subst (λ j. j ≤ g) (same_Some n k is) l
      either false is = absurd (none-some k is)

-- ---- turns

module _ (g ip : ℕ) where
  with_table : (core : Core) (rt : Table) → IsCoreWithin g ip core → AllWithin g rt → IsCoreWithin g ip (record core { rt = rt })
  with_table core rt w all = record { named = w.named; own = w.own; table = all; ids = w.ids }

  error_within : (variant : Variant) (rt : Table) (dests : Dests) → AreDestsWithin g dests → IsCastWithin g (error_cast variant rt dests)
  error_within variant rt dests within = error_case (IsCastWithin g) variant rt dests tt (λ _. within) (λ _. with_precs_within g rt dests within)

  retract_within : (core : Core) (dests : Dests) → IsCoreWithin g ip core → AreDestsWithin g dests → IsReactionWithin g ip (retract core dests)
  unfolding retract
  retract_within core dests w within = record {
    core = record { named = w.named; own = w.own; table = invalidate_within g core.rt dests w.table within; ids = w.ids };
    cast = error_within core.variant core.rt dests within;
  }

  broken_keeps : (core : Core) (y : ℕ) → IsCoreWithin g ip core → Keeps g ip core.rt (broken_by y (link_broken core y))
  unfolding link_broken
  broken_keeps core y w none =
      let p = retract_within core (unreachable_by core.rt y) w (unreachable_within g core.rt y w.table none) in
      record { core = p.core; cast = p.cast }

  unicast_keeps : (core : Core) (m : Message) (y : ℕ) (range : NodeIds) → IsCoreWithin g ip core → IsMessageWithin g m → Keeps g ip core.rt (unicast core m y range)
  unicast_keeps core m y range w inside = unicast_case (Keeps g ip core.rt) core m y range (λ _ _. record { core = w; cast = inside }) (broken_keeps core y w)

  -- the same by a table that is full where this one is
  keeps_alike : (rt rt' : Table) (reaction : Reaction) → ((broken : Option ℕ) → is_full_at g rt broken ≡ is_full_at g rt' broken) → Keeps g ip rt reaction → Keeps g ip rt' reaction
  keeps_alike rt rt' reaction same keeps none = keeps (same (reaction.effect).broken ∙ none)

  -- ---- turns

  hearing_within : (core : Core) (from : ℕ) → IsCoreWithin g ip core → IsCoreWithin g ip (after_hearing core from)
  unfolding after_hearing
  hearing_within core from w = with_table core _ w (update_within g core.rt from (neighbour_entry from) w.table (omega arith))

  -- the request isn't the node's own
  request_within : (core : Core) (from : ℕ) (m : RouteRequest) → IsCoreWithin g ip core → has_seen core.seen (key_of core.variant m) ≡ false → m.osn ≤ g → KnowsOwn ip core (Heard from (Rreq m)) → IsCoreWithin g ip (after_request core from m)
  unfolding after_request after_hearing
  request_within core from m w new l knows =
      let first : IsCoreWithin g ip (after_hearing core from) = hearing_within core from w in
      record {
        named = w.named;
        own = w.own;
        table = update_within g (after_hearing core from).rt m.oip (route_entry m.osn m.hops from) first.table l;
        ids = λ i is. elim (inserted core.seen (key_of core.variant m) (ip, i) is) [
          | inl e ↦ absurd (wrong (sym new ∙ knows (sym (ap (λ (p : ℕ × ℕ). p.0) e ∙ key_first core.variant m))))
          | inr old ↦ w.ids i old
        ];
      }

  reply_within : (core : Core) (from : ℕ) (m : RouteReply) → IsCoreWithin g ip core → m.dsn ≤ g → IsCoreWithin g ip (after_reply core from m)
  unfolding after_reply
  reply_within core from m w l =
      let first : IsCoreWithin g ip (after_hearing core from) = hearing_within core from w in
      with_table (after_hearing core from) _ first (update_within g (after_hearing core from).rt m.dip (route_entry m.dsn m.hops from) first.table l)

  -- a reply is passed on
  passing_keeps : (core : Core) (range : NodeIds) (m : RouteReply) (sent : Message) → IsCoreWithin g ip core → IsMessageWithin g sent
      → let rt = join_reply_precursors core.rt m.dip m.oip in Keeps g ip core.rt (unicast (record core { rt = rt }) sent (nhop rt m.oip) range)
  passing_keeps core range m sent w inside =
      keeps_alike (join_reply_precursors core.rt m.dip m.oip) core.rt _ (full_after_reply g core.rt m.dip m.oip) (unicast_keeps _ _ _ range (with_table core _ w (join_reply_within g core.rt m.dip m.oip w.table)) inside)

  reply_from_table_keeps : (core : Core) (range : NodeIds) (from : ℕ) (m : RouteRequest) → IsCoreWithin g ip core → Keeps g ip core.rt (reply_from_table core range from m)
  unfolding reply_from_table
  reply_from_table_keeps core range from m w =
      let rt = join_answer_precursors core.rt m.dip m.oip from in
      let all : AllWithin g rt = join_answer_within g core.rt m.dip m.oip from w.table in
      keeps_alike rt core.rt _ (full_after_answer g core.rt m.dip m.oip from) (unicast_keeps _ _ _ range (with_table core rt w all) (number_within g rt m.dip all))

  keeps : (core : Core) (range : NodeIds) → IsCoreWithin g ip core → ReactionCases core range (λ item did. IsItemWithin g item → KnowsOwn ip core item → Keeps g ip (after_learning core item).rt did)
  unfolding reply_for_self forward_request forward_reply forward_own_entry on_rerr
  keeps core range w = record {
    own = λ b d _ inside knows none. record { core = w; cast = tt };
    stored = λ b d _ inside knows none. record { core = record { named = w.named; own = w.own; table = w.table; ids = w.ids }; cast = tt };
    arrived = λ from b d o _ inside knows none. record { core = w; cast = tt };
    forwarded = λ from b d o _ inside knows none. let p = unicast_keeps core (Pkt b d o) (nhop core.rt d) range w tt none in record { core = p.core; cast = p.cast };
    dropped = λ from b d o inside knows none.
        let single = dest_within g d (sqn core.rt d) (number_within g core.rt d w.table) in
        record { core = w; cast = data_error_case (IsCastWithin g) core d tt single (λ _. single) };
    known = λ from m inside knows none. record { core = hearing_within core from w; cast = tt };
    answered = λ from m new _ inside knows.
        let after = request_within core from m w new inside.1 knows in
        let own : max (after_request core from m).sn m.dsn ≤ g = both after.own inside.0 in
        unicast_keeps (record (after_request core from m) { sn = max (after_request core from m).sn m.dsn }) _ _ range
        (record { named = after.named; own = own; table = after.table; ids = λ i is. let k = after.ids i is in omega arith }) own;
    vouched = λ from m new _ _ inside knows. reply_from_table_keeps (after_request core from m) range from m (request_within core from m w new inside.1 knows);
    flooded = λ from m new inside knows none.
        let after = request_within core from m w new inside.1 knows in
        record { core = after; cast = (both (number_within g (after_request core from m).rt m.dip after.table) inside.0, inside.1) };
    ended = λ from m inside knows none. record { core = reply_within core from m w inside; cast = tt };
    passed = λ from m _ inside knows. passing_keeps (after_reply core from m) range m _ (reply_within core from m w inside) inside;
    restated = λ from m _ inside knows.
        let after = reply_within core from m w inside in
        passing_keeps (after_reply core from m) range m _ after (number_within g _ m.dip (join_reply_within g (after_reply core from m).rt m.dip m.oip after.table));
    withdrawn = λ from dests inside knows none.
        retract_within (after_hearing core from) _ (hearing_within core from w) (accepted_within g (after_hearing core from).rt from dests inside);
  }
    where
      both : {a b : ℕ} → a ≤ g → b ≤ g → max a b ≤ g
      both x y = omega arith

  turn_keeps : (core : Core) (range : NodeIds) (item : Item) → IsCoreWithin g ip core → IsItemWithin g item → KnowsOwn ip core item → Keeps g ip (after_learning core item).rt (turn core range item)
  turn_keeps core range item w = turn_cases core range (λ item did. IsItemWithin g item → KnowsOwn ip core item → Keeps g ip (after_learning core item).rt did) (keeps core range w) item

  send_keeps : (core : Core) (range : NodeIds) (d : ℕ) → IsCoreWithin g ip core → Keeps g ip core.rt (send core range d)
  send_keeps core range d w =
      send_cases (Keeps g ip core.rt) core range d
      (λ _ _. record { core = record { named = w.named; own = w.own; table = w.table; ids = w.ids }; cast = tt })
      (broken_keeps core (nhop core.rt d) w)

  -- a new id is within the new number
  fresh_within : (variant : Variant) (core : Core) → IsCoreWithin g ip core → 1 ≤ core.sn → fresh_id variant core ≤ inc core.sn
  unfolding next_request_id
  fresh_within Base core w one = grind (arith, nat_tests, own_last_within g ip core w)
  fresh_within Number core w one = omega arith
  fresh_within Reply core w one = grind (arith, nat_tests, own_last_within g ip core w)
  fresh_within Error core w one = grind (arith, nat_tests, own_last_within g ip core w)

  -- the node's number isn't at its greatest
  pub ask_keeps : (core : Core) (d : ℕ) → IsCoreWithin g ip core → 1 ≤ core.sn → core.sn ≢ g → IsReactionWithin g ip (ask core d)
  unfolding ask
  ask_keeps core d w one below =
      let number : inc core.sn ≤ g = raised core.sn w.own below in
      record {
        core = record {
          named = w.named;
          own = number;
          table = w.table;
          ids = λ i is. elim (inserted core.seen (core.ip, fresh_id core.variant core) (ip, i) is) [
            | inl e ↦ subst (λ k. k ≤ inc core.sn) (sym (ap (λ (p : ℕ × ℕ). p.1) e)) (fresh_within core.variant core w one)
            | inr old ↦ later core.sn i (w.ids i old)
          ];
        };
        cast = (number_within g core.rt d w.table, number);
      }
    where
      raised : (n : ℕ) → n ≤ g → n ≢ g → inc n ≤ g
      raised n l apart = grind (arith, nat_tests)

      later : (n i : ℕ) → i ≤ n → i ≤ inc n
      later n i l = grind (arith, nat_tests)

-- ---- what isn't refused

turn_free : (a b : Bool) → (if a then Some full.Hops else if b then Some full.Number else None) ≡ None → b ≡ false
turn_free true b is = absurd (none-some full.Hops (sym is))
turn_free false true is = absurd (none-some full.Number (sym is))
turn_free false false is = refl

pub free_turn_keeps : (ip : ℕ) (core : Core) (range : NodeIds) (item : Item) → IsCoreWithin greatest ip core → IsItemWithin greatest item → KnowsOwn ip core item → turn_full core range item ≡ None → IsReactionWithin greatest ip (turn core range item)
free_turn_keeps ip core range item w inside knows free =
    let rt = (after_learning core item).rt in
    let broken = ((turn core range item).effect).broken in
    turn_keeps greatest ip core range item w inside knows (full_at_greatest rt broken ∙ turn_free (is_hop_full core item) (is_number_full rt broken) free)

pub free_send_keeps : (ip : ℕ) (core : Core) (range : NodeIds) (d : ℕ) → IsCoreWithin greatest ip core → send_full core range d ≡ None → IsReactionWithin greatest ip (send core range d)
free_send_keeps ip core range d w free =
    let broken = ((send core range d).effect).broken in
    send_keeps greatest ip core range d w (full_at_greatest core.rt broken ∙ turn_free false (is_number_full core.rt broken) free)

pub opening_within : (g : ℕ) (variant : Variant) (ip first : ℕ) → first ≤ g → IsCoreWithin g ip (opening variant ip first)
opening_within g variant ip first l = record {
  named = refl;
  own = l;
  table = λ d e there. absurd (none-some e (sym (maps.get-empty nat_cmp d) ∙ there));
  ids = λ i is. absurd (wrong (sym (sets.contains-empty pair_cmp (ip, i)) ∙ is));
}

-- ---- what a request of the node's own can fill

id_free : (variant : Variant) (core : Core) → last_request_id core.seen core.ip ≤ core.sn → core.sn ≤ greatest → core.sn ≢ greatest → is_id_full variant core ≡ false
id_free variant core l m apart = at variant
  where
    free : (a b g : ℕ) → a ≤ b → b ≤ g → b ≢ g → (a == g) ≡ false
    free a b g l m apart = grind (arith, nat_tests)

    at : (v : Variant) → is_id_full v core ≡ false
    at Base = free (last_request_id core.seen core.ip) core.sn greatest l m apart
    at Number = refl
    at Reply = free (last_request_id core.seen core.ip) core.sn greatest l m apart
    at Error = free (last_request_id core.seen core.ip) core.sn greatest l m apart

-- only its own number
pub ask_fills_number : (ip : ℕ) (core : Core) (f : Counter) → IsCoreWithin greatest ip core → ask_full core ≡ Some f → f ≡ full.Number
ask_fills_number ip core f w is =
    at (core.sn == greatest) (is_id_full core.variant core) (λ below. id_free core.variant core (own_last_within greatest ip core w) w.own (eqb-false core.sn greatest below)) is
  where
    at : (a b : Bool) → (a ≡ false → b ≡ false) → (if a then Some full.Number else if b then Some full.Id else None) ≡ Some f → f ≡ full.Number
    at true b free is = sym (same_Some full.Number f is)
    at false true free is = absurd (wrong (sym (free refl)))
    at false false free is = absurd (none-some f is)

pub ask_below : (core : Core) → ask_full core ≡ None → core.sn ≢ greatest
ask_below core is = eqb-false core.sn greatest (at (core.sn == greatest) is)
  where
    at : (a : Bool) → (if a then Some full.Number else if is_id_full core.variant core then Some full.Id else None) ≡ None → a ≡ false
    at true is = absurd (none-some full.Number (sym is))
    at false is = refl
