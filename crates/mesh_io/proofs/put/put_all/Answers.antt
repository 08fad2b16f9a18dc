use Rattle.std.proofs.Common.{◌≡◌, ◌∙◌, ◌-◌, ◌++◌, sym, ap, length, take, drop, take-append-drop, arith}
use Rattle.std.proofs.lemmas.List.{take_all, length-drop}
use Rattle.mesh_io.proofs.Writing.{Puts-join}
use Rattle.mesh_io.proofs.put.put_all.Goals as goal

pub returns-in-Ok-2-clause-text : goal.returns-in-Ok-2-clause-text
returns-in-Ok-2-clause-text g c =
    let n = c.in-Ok.n in
    let piece = c.args.piece.now in
    let rest : take (length piece - n) (drop n piece) ≡ drop n piece = take_all (length piece - n) (drop n piece) (omega (arith, length-drop n piece)) in
    Puts-join _ _ _ (take n piece) (take (length piece - n) (drop n piece)) piece _
    (sym (take-append-drop n piece) ∙ ap (λ xs. take n piece ++ xs) (sym rest)) c.in-Ok.ensures.bytes c.put_in_parts.ensures.text
