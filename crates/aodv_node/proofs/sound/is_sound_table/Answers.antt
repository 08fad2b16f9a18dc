use Rattle.std.proofs.Common.{rules, sym, ◌∙◌, arith}
use Rattle.aodv_node.proofs.SoundParts.{all_sound, one_more, none_more, this_one}
use Rattle.aodv_node.proofs.sound.is_sound_table.Goals as goal
use Rattle.aodv_node.proofs.sound.is_sound_table.Goals.{in-Some+else-not-has_sound_number+else-not-is_entry_in_mesh, in_default}

pub loop-d-preserved : goal.loop-d-preserved
loop-d-preserved c =
    let size = c.args.table.now.nodes in
    let rt = c.args.table.now.entries in
    elim c.match-get.branch [
      | in-Some+else-not-has_sound_number+else-not-is_entry_in_mesh w ↦
          one_more c.loop-d.d size c.args.me rt c.loop-d.invariant
          (this_one c.loop-d.d size c.args.me rt w.in-Some.e (sym c.get.ensures.value ∙ w.in-Some.is) (w.has_sound_number.ensures.0 (search rules)) (w.is_entry_in_mesh.ensures.0 (search rules)))
      | in_default w ↦ none_more c.loop-d.d size c.args.me rt c.loop-d.invariant (sym c.get.ensures.value ∙ w.in_default.is)
    ]

pub returns : goal.returns
returns c = (
  λ _. all_sound c.nodes-nodes.result c.args.table.now.nodes c.args.me c.args.table.now.entries
      (λ d le. c.nodes-nodes.ensures.below d (omega arith))
      (λ d e lt there. c.loop-d.invariant d e (omega arith) there),
  λ _. search rules,
)
