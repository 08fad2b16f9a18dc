-- Route errors that name no route by their sender: nothing is gone.
use Rattle.std.proofs.Common.{◌≡◌, ℕ, suc, ◌<◌, ◌≤◌, Bool, true, false, cond, ◌&&◌, ◌||◌, Option, Some, None, List, [], ◌∷◌, length, map, refl, sym, ap, ◌∙◌, eq-eqb, arith}
use Rattle.std.specs.Prelude.{is_some, slice_get, option_map, unwrap_or, nat_lt, if◌then◌else◌, ◌==◌}
use Rattle.std.specs.Ordering.{nat_cmp, eq_by_cmp}
use Rattle.std.specs.Cmp.{unsigned_tied}
use Rattle.std.specs.FinMap as maps
use Rattle.std.specs.FinMap.{find, nat_cmp-IsAntisymmetric}
use Rattle.std.proofs.lemmas.Cmp.{nat_cmp_total}
use Rattle.std.proofs.lemmas.Bool.{eqb-true}
use Rattle.std.proofs.lemmas.Option.{none-some, same_Some, slice_get_within}
use Rattle.mesh_base.specs.declared.addr.Addr.{Addr}
use Rattle.mesh_base.specs.declared.events.Variant.{Variant}
use Rattle.mesh_base.specs.Meshes.{Nodes}
use Rattle.aodv_model.specs.Tables.{Table, Dests, dests_of, goes_by, sqn, accepted_unreachable, invalidate, invalidated}
use Rattle.aodv_model.specs.Cores.{Core, Store, Waiting, Rerr, set}
use Rattle.aodv_model.specs.Handlers.{Nothing, Many, All, casting, plain, is_empty, is_error, all_precs, precs_of, with_precs, error_cast, retract}
use Rattle.aodv_model.proofs.Lookups.{contains-dests_of, get-accepted, get-invalidate}
use Rattle.aodv_model.proofs.Stores.{need_if, get-set}
use Rattle.aodv_meaning.specs.Meaning.{index, pair_by_index, dests_in}
use Rattle.aodv_table.proofs.Changes.{untold}
use Rattle.aodv_handlers.proofs.Lists.{empty_is}
use Rattle.aodv_handlers.proofs.Unicasts.{no_entries}

-- the route to d goes by that neighbour and has a smaller number than this
abbrev pub accepts : Table → ℕ → ℕ → ℕ → Bool
accepts rt from d n = goes_by (maps.get rt d) from && nat_lt (sqn rt d) n

-- none of the first k pairs is accepted
abbrev pub AreRefused : Nodes → Table → ℕ → List (Addr × ℕ) → ℕ → Type 0
AreRefused mesh rt from pairs k = (j : ℕ) (p : Addr × ℕ) → j < k → slice_get pairs j ≡ Some p → accepts rt from (index mesh p.0) p.1 ≡ false

pub refused_none : (mesh : Nodes) (rt : Table) (from : ℕ) (pairs : List (Addr × ℕ)) → AreRefused mesh rt from pairs 0
refused_none mesh rt from pairs j p lt is = absurd (omega arith)

found_refused : (mesh : Nodes) (rt : Table) (from : ℕ) (ps : List (Addr × ℕ)) → ((j : ℕ) (p : Addr × ℕ) → slice_get ps j ≡ Some p → accepts rt from (index mesh p.0) p.1 ≡ false) → (q n : ℕ) → find nat_cmp q (map (pair_by_index mesh) ps) ≡ Some n → accepts rt from q n ≡ false
found_refused mesh rt from [] all q n is = absurd (none-some n is)
found_refused mesh rt from (p ∷ ps) all q n is = case (eq_by_cmp nat_cmp q (index mesh p.0)) refl is (found_refused mesh rt from ps (λ j r there. all (suc j) r there) q n)
  where
    case : (b : Bool) → eq_by_cmp nat_cmp q (index mesh p.0) ≡ b → cond b (Some p.1) (find nat_cmp q (map (pair_by_index mesh) ps)) ≡ Some n → (find nat_cmp q (map (pair_by_index mesh) ps) ≡ Some n → accepts rt from q n ≡ false) → accepts rt from q n ≡ false
    case true at is later =
        let same : q ≡ index mesh p.0 = eqb-true q (index mesh p.0) (sym (unsigned_tied q (index mesh p.0)) ∙ at) in
        ap (λ (d : ℕ). accepts rt from d n) same ∙ ap (accepts rt from (index mesh p.0)) (sym (same_Some p.1 n is)) ∙ all 0 p refl
    case false at is later = later is

accepted_at : (rt : Table) (from q : ℕ) (o : Option ℕ) → ((n : ℕ) → o ≡ Some n → accepts rt from q n ≡ false) → (if goes_by (maps.get rt q) from && nat_lt (sqn rt q) (unwrap_or o 0) then o else None) ≡ None
accepted_at rt from q None refused = either (goes_by (maps.get rt q) from && nat_lt (sqn rt q) 0)
  where
    nothing : Option ℕ
    nothing = None

    either : (b : Bool) → cond b nothing nothing ≡ nothing
    either true = refl
    either false = refl
accepted_at rt from q (Some n) refused = rw (refused n refl) refl

pub none_accepted : (mesh : Nodes) (rt : Table) (from k : ℕ) (pairs : List (Addr × ℕ)) → AreRefused mesh rt from pairs k → length pairs ≤ k → accepted_unreachable rt from (dests_in mesh pairs) ≡ maps.empty
none_accepted mesh rt from k pairs refused end =
    let all : (j : ℕ) (p : Addr × ℕ) → slice_get pairs j ≡ Some p → accepts rt from (index mesh p.0) p.1 ≡ false = λ j p is. let lt = slice_get_within pairs j p is in refused j p (omega arith) is in
    maps.same_map nat_cmp_total nat_cmp-IsAntisymmetric _ maps.empty (λ q.
    get-accepted rt from (dests_in mesh pairs) q
    ∙ accepted_at rt from q (maps.get (dests_in mesh pairs) q) (λ n is. found_refused mesh rt from pairs all q n (sym (maps.get-from_entries nat_cmp_total (map (pair_by_index mesh) pairs) q) ∙ is))
    ∙ sym (maps.get-empty nat_cmp q))

-- ---- no destination is gone

table_kept : (rt : Table) → invalidate rt maps.empty ≡ rt
table_kept rt = maps.same_map nat_cmp_total nat_cmp-IsAntisymmetric _ rt (λ q. get-invalidate rt maps.empty q ∙ ap (λ (n : Option ℕ). option_map (λ e. invalidated e n) (maps.get rt q)) (maps.get-empty nat_cmp q) ∙ untold (maps.get rt q))

no_keys : maps.keys (maps.empty {X = ℕ} {R = nat_cmp}) ≡ []
no_keys = ap (map (λ e. e.0)) no_entries

waiting_kept : (o : Option Waiting) → option_map (need_if false) o ≡ o
waiting_kept None = refl
waiting_kept (Some s) = ap (λ (b : Bool). Some (record s { needs_request = b })) (or_false s.needs_request)
  where
    or_false : (b : Bool) → (b || false) ≡ b
    or_false true = refl
    or_false false = refl

store_kept : (store : Store) → set store (dests_of (maps.empty {X = ℕ} {R = nat_cmp})) ≡ store
store_kept store = maps.same_map nat_cmp_total nat_cmp-IsAntisymmetric _ store (λ q. get-set store (dests_of none) q ∙ ap (λ (b : Bool). option_map (need_if b) (maps.get store q)) (contains-dests_of none q ∙ ap (λ (n : Option ℕ). is_some n) (maps.get-empty nat_cmp q)) ∙ waiting_kept (maps.get store q))
  where
    none : Dests
    none = maps.empty

nothing_cast : (v : Variant) (rt : Table) → error_cast v rt maps.empty ≡ Nothing
unfolding error_cast precs_of
nothing_cast v rt = case (is_error v)
  where
    no_node : is_empty (all_precs rt (maps.keys (maps.empty {X = ℕ} {R = nat_cmp}))) ≡ true
    no_node = ap (λ ds. is_empty (all_precs rt ds)) no_keys ∙ empty_is

    none : (maps.len (maps.empty {X = ℕ} {R = nat_cmp}) == 0) ≡ true
    none = eq-eqb _ 0 (maps.len-empty nat_cmp ℕ)

    case : (b : Bool) → cond b (if maps.len (maps.empty {X = ℕ} {R = nat_cmp}) == 0 then Nothing else All (Rerr maps.empty)) (if is_empty (all_precs rt (maps.keys (maps.empty {X = ℕ} {R = nat_cmp}))) then Nothing else Many (all_precs rt (maps.keys (maps.empty {X = ℕ} {R = nat_cmp}))) (Rerr (with_precs rt maps.empty))) ≡ Nothing
    case true = rw none refl
    case false = rw no_node refl

pub nothing_gone : (core : Core) (dests : Dests) → dests ≡ maps.empty → retract core dests ≡ plain core (casting Nothing)
unfolding retract
nothing_gone core dests none =
    ap (retract core) none ∙ (λ i. plain (record core { rt = table_kept core.rt i; store = store_kept core.store i }) (casting (nothing_cast core.variant core.rt i)))
