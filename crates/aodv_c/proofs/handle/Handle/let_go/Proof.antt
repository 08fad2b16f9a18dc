-- `let_go` is given a handle that owns nothing. Assumes `Logic`.
use Rattle.std.proofs.Common.{◌≡◌, List, [], ◌∷◌, ◌++◌, Bool, false, refl, lit<}
use Rattle.std.proofs.raw_atomic.Walks.{proved_at, leaves}
use Rattle.std.proofs.alloc.Calls.{Goes-blank}
use lib.Dec.{T}
use base.Logic.{SProp}
use mir.Val.{Val, vbool, vunit, has_ty, WT}
use prog.Wp.{WpFn}
use contract.Monad.{fact}
use contract.Running.{tables}
use types.Kit.{‵, raw, ◌⊛◌, prop, ◌$◌, ◌∵◌, !, qed, by, move, keep, split, regoal, rewrite, fsplit, fjoin, feq_i}
use types.Run.{unit_lit, of_opd, returns, enter}
use types.ByLocal.{alloc_all, pass_all, free_all, look_at, sets}
use denote.Exit.{yes}
use denote.RattleType.{owns}
use denote.RawPtr.{Ptr, block_ptr, null_ptr, ptr_val}
use denote.Signature.{plain, types_at}
use denote.Steps.{nothing, heard}
use denote.Triple.Entry.{alive}
use denote.Triple.Walked.{Stays, stay_dropped, walk_of}
use Rattle.aodv_c.specs.Holding.{holds}
use Rattle.aodv_c.specs.contracts.handle.Handle.{the_row as R}
use Rattle.aodv_c.proofs.handle.Handle.TheLaws.{lowers}
use Rattle.aodv_c.proofs.Values.{both}
use Rattle.aodv_c.specs.contracts.handle.Handle.let_go as f
use Rattle.aodv_c.proofs.handle.Handle.let_go.Statement.{statement}
use Rattle.aodv_c.proofs.handle.Handle.let_go.Code as code

abbrev stayed : Stays f.ended.signature.params f.ended.kept
stayed = (stay_dropped (plain (λ _. R)) yes, tt)

-- the word of a handle has its type, wherever it points
typed : (p : Ptr) (live : Bool) → T (has_ty lowers.mir (both (ptr_val p) (vbool live))) × WT (both (ptr_val p) (vbool live))
typed (block_ptr b o) live = (tt, (tt, (tt, tt)))
typed null_ptr live = (tt, (record { fits = lit< tt }, (tt, tt)))

pub let_go_spec : {M : Type 1} → statement M
let_go_spec 𝓤 𝓛 𝓜 𝓡 wired =
    let c = f.clauses 𝓛 𝓜.mem 𝓡.returns in let W = walk_of 𝓛 f.ended stayed c in let 𝓣 = tables 𝓤 𝓛.H 𝓜 𝓡 𝓡.env in
    proved_at 𝓛 f.ended stayed c 𝓜 𝓡 (Goes-blank 𝓛 0 (plain (λ _. R)) yes (λ κs x w. tt), tt)
    f.Key.name code.function (code.unfolded 𝓤 𝓛.H 𝓜 𝓡 wired) (λ z are.
    let d = z.0.3.0 in let vs = z.0.4.0 in let Post : Val → SProp 𝓤 = W.post z in
    qed 𝓛 ((raw (alive 𝓛 f.ended.signature z.0.0 z.0.1) ⊛ ‵ (owns (types_at f.ended.signature.params z.0.0) z.0.3 z.0.4)) ∷ raw (fact 𝓤 (d.live ≡ false)) ∷ []) ∵
    move ! (1 ∷ []) $ heard ! (d.live ≡ false) (λ off. split ! $ move ! (1 ∷ []) $ fsplit ! $ fsplit ! $
    -- [the fields; what the handle holds, which is nothing; the end of the list; what is alive]
    rewrite ! 1 (λ (y : Bool). ‵ (holds y d.at d.value)) off refl $
    let word = lowers.val_is d vs are.0 in
    regoal ! (λ (us : List Val). prop (WpFn 𝓤 𝓛.H 𝓣.C 𝓣.Λ code.function us Post)) (λ i. word i ++ []) refl $
    enter ! 𝓣.C 𝓣.Λ code.function _ Post $ alloc_all ! (λ k. pass_all ! refl (typed d.at d.live, tt) $
    sets ! (of_opd ! (unit_lit !)) refl (tt, tt) $
    returns ! (look_at ! 0 refl) $ free_all ! refl $
    feq_i ! (List Val) (vunit ∷ []) (vunit ∷ []) refl $ nothing ! $ nothing ! $ nothing ! $ fjoin ! $
    -- [what is kept; what is ensured, which is nothing; the result; the fields; nothing; the end of the list; what is alive]
    keep ! (6 ∷ 0 ∷ 2 ∷ 1 ∷ []) $ by ! (leaves 𝓛 f.ended stayed c z vunit tt (tt, tt) (tt, tt)))))
