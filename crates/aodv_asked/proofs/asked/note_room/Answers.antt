use Rattle.aodv_asked.proofs.KeptLaws.{noted_more, noted_fewer}
use Rattle.aodv_asked.proofs.asked.note_room.Goals as goal

pub returns-then-o-lt256 : goal.returns-then-o-lt256
returns-then-o-lt256 c = noted_more c.args.roomy.now c.add.new.self c.args.o c.args.has_room c.if-has_room.true c.add.ensures

pub returns-then-has : goal.returns-then-has
returns-then-has c = noted_fewer c.args.roomy.now c.remove.new.self c.args.o c.args.has_room c.remove.ensures
