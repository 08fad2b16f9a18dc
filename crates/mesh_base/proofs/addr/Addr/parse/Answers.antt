use Rattle.std.proofs.Common.{sym}
use Rattle.mesh_base.proofs.AddressLaws.{without_first, without_second, without_third, without_last, with_last}
use Rattle.mesh_base.proofs.addr.Addr.parse.Goals as goal

pub returns-in_err-w : goal.returns-in_err-w
returns-in_err-w c = rw c.from_residual.ensures (sym (without_first c.args.text.now (sym c.in_err-w.ensures.value)))

pub returns-in_err-x : goal.returns-in_err-x
returns-in_err-x c =
    rw c.from_residual-in_err-x.ensures (sym (without_second c.args.text.now c.in_ok-w.w c.in_ok-w.rest.now (sym c.in_ok-w.ensures.value) (sym c.in_err-x.ensures.value)))

pub returns-in_err-y : goal.returns-in_err-y
returns-in_err-y c =
    rw c.from_residual-in_err-y.ensures (sym (without_third c.args.text.now c.in_ok-w.w c.in_ok-w.rest.now (sym c.in_ok-w.ensures.value)
    c.in_ok-x.x c.in_ok-x.rest.now (sym c.in_ok-x.ensures.value) (sym c.in_err-y.ensures.value)))

pub returns-in_err-z : goal.returns-in_err-z
returns-in_err-z c =
    rw c.from_residual-in_err-z.ensures (sym (without_last c.args.text.now c.in_ok-w.w c.in_ok-w.rest.now (sym c.in_ok-w.ensures.value)
    c.in_ok-x.x c.in_ok-x.rest.now (sym c.in_ok-x.ensures.value) c.in_ok-y.y c.in_ok-y.rest.now (sym c.in_ok-y.ensures.value) (sym c.in_err-z.ensures.value)))

pub returns : goal.returns
returns c =
    sym (with_last c.args.text.now c.in_ok-w.w c.in_ok-w.rest.now (sym c.in_ok-w.ensures.value)
    c.in_ok-x.x c.in_ok-x.rest.now (sym c.in_ok-x.ensures.value) c.in_ok-y.y c.in_ok-y.rest.now (sym c.in_ok-y.ensures.value) c.in_ok-z.z (sym c.in_ok-z.ensures.value))
