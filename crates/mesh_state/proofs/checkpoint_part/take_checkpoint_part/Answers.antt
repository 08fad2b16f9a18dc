use Rattle.std.proofs.Common.{◌≡◌, ◌∙◌, ◌<◌, ◌⊎◌, sym, ap, subst, length, take, arith}
use Rattle.mesh_checkpoint.specs.State.{stated_size}
use Rattle.mesh_state.specs.declared.checkpoint_part.TheConstants.{HEAD_SIZE}
use Rattle.mesh_state.specs.CheckpointParts.{IsOtherHead}
use Rattle.mesh_state.proofs.CheckpointParts.{taken_alone, taken_body}
use Rattle.mesh_state.proofs.checkpoint_part.take_checkpoint_part.Goals as goal
use Rattle.mesh_state.proofs.checkpoint_part.take_checkpoint_part.Goals.{in-Some+in_ok-take_more-2, in_default}

pub body_size-requires : goal.body_size-requires
body_size-requires g c = omega (arith, c.in_ok-take_more.ensures.few, c.new-checkpoint_part.ensures.len, c.deref.ensures.len)

pub returns-clause-taken : goal.returns-clause-taken
returns-clause-taken g c =
    let left = g.I.Source.left in
    let head = c.take_more.new.bytes.items in
    let seen : c.deref.result.now ≡ head = c.deref.ensures.value in
    elim c.match-body_size.branch [
      | in-Some+in_ok-take_more-2 w ↦
          let size : length head ≡ 8 = ap length (sym seen) ∙ w.in-Some.ensures.whole in
          let says = w.in-Some.ensures.size in
          taken_body (left c.args.input.now) (left c.take_more.new.input) (left w.take_more-in-Some.new.input) (left c.match-body_size.input) _ _ w.in-Some.size head w.take_more-in-Some.new.bytes.items c.match-body_size.checkpoint_part.items
          (ap (λ v. v.items) w.checkpoint_part-is) (ap left w.input-is) c.new-checkpoint_part.ensures.len c.in_ok-take_more.ensures.taken (omega arith) size (says.0 ∙ ap stated_size seen) says.1 (ap (take 4) (sym seen) ∙ w.in-Some.ensures.first) w.in_ok-take_more-2.ensures.kept w.in_ok-take_more-2.ensures.taken
      | in_default w ↦
          let other : (length head < HEAD_SIZE) ⊎ IsOtherHead head = subst (λ l. (length l < HEAD_SIZE) ⊎ IsOtherHead l) seen w.in_default.ensures.none in
          taken_alone (left c.args.input.now) (left c.take_more.new.input) (left c.match-body_size.input) _ head c.match-body_size.checkpoint_part.items (ap (λ v. v.items) w.checkpoint_part-is) (ap left w.input-is) c.new-checkpoint_part.ensures.len c.in_ok-take_more.ensures.taken other
    ]
