use Rattle.std.proofs.Common.{◌≡◌, true, false, sym, ◌∙◌}
use Rattle.std.proofs.lemmas.Slice.Eq.{bytes_eq-Decides}
use Rattle.mesh_sound.proofs.Readings.{is_as_written, known_in, writable_in, same_in, says}
use Rattle.mesh_sound.proofs.written.is_written.Goals as goal
use Rattle.mesh_sound.proofs.written.is_written.Goals.{then-not-is_known-via-then-not-is_known, then-not-is_known-via-else-not-is_known+then-not-is_writable}

different : false ≡ true → ⊥
different e = cc

pub returns-then-not-is_known : goal.returns-then-not-is_known
returns-then-not-is_known c = (
  λ t. absurd (different t),
  λ w. absurd (elim c.then-not-is_known.branch [
    | then-not-is_known-via-then-not-is_known v ↦
        different (sym v.if-not-is_known.true ∙ c.is_known.ensures.1 (known_in c.args.mesh.now c.args.bytes.now c.in-Ok.message c.len-nodes.ensures.is_mesh c.requires.some c.in-Ok.ensures.exact w))
    | then-not-is_known-via-else-not-is_known+then-not-is_writable v ↦
        different (sym v.if-not-is_writable.true ∙ v.is_writable.ensures.1 (writable_in c.args.mesh.now c.args.bytes.now c.in-Ok.message c.len-nodes.ensures.is_mesh c.requires.some c.in-Ok.ensures.exact w))
  ]),
)

pub rewrite-requires-clause-says : goal.rewrite-requires-clause-says
rewrite-requires-clause-says c = (c.args.mesh.now, says c.args.mesh.now c.args.bytes.now c.in-Ok.message c.in-Ok.ensures.exact (c.is_known.ensures.0 c.if-not-is_known.false))

pub returns : goal.returns
returns c =
    let same = bytes_eq-Decides c.as_slice.result.now c.args.bytes.now in (
      λ t. is_as_written c.args.mesh.now c.args.bytes.now c.rewrite.new.out.items c.in-Ok.message c.len-nodes.ensures.is_mesh c.requires.some c.in-Ok.ensures.exact (c.is_known.ensures.0 c.if-not-is_known.false)
          (c.is_writable.ensures.0 c.if-not-is_writable.false) c.rewrite.ensures (sym c.as_slice.ensures.value ∙ same.0 (sym c.eq.ensures ∙ t)),
      λ w. c.eq.ensures ∙ same.1 (c.as_slice.ensures.value ∙ same_in c.args.mesh.now c.args.bytes.now c.rewrite.new.out.items c.in-Ok.message c.len-nodes.ensures.is_mesh c.requires.some c.in-Ok.ensures.exact c.rewrite.ensures w),
    )
