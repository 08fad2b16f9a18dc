use Rattle.aodv_node.proofs.SoundParts.{AreSoundBelow}
use Rattle.aodv_node.proofs.sound.is_sound_table.Given as goal

abbrev pub invariant-loop-d : goal.invariant-loop-d
invariant-loop-d l = AreSoundBelow l.d l.table.nodes l.me l.table.entries
