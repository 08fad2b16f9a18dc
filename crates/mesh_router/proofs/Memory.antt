-- A call is short of memory where one that it makes is.
use Rattle.std.proofs.Common.{◌≡◌, Result, Err, sym, ap, ◌∙◌}
use Rattle.std.specs.Result.{IsErrOf}
use Rattle.mesh_router.specs.declared.stop.Stop.{Stop}
use Rattle.mesh_router.specs.declared.stop.Stop.TheVariants as stop

err_same : {T : Type 0} (r : Result T Stop) (e x : Stop) → r ≡ Err e → r ≡ Err x → e ≡ x
err_same r e x p q = cc

abbrev err_of : (T : Type 0) → Stop → Result T Stop
err_of T e = Err e

pub memory_of : {T S : Type 0} (r : Result T Stop) (e x : Stop) → r ≡ Err e → e ≡ x → IsErrOf r stop.NoMemory → IsErrOf (err_of S x) stop.NoMemory
memory_of {S = S} r e x p same is = ap (err_of S) (sym same ∙ err_same r e stop.NoMemory p is)
