use Rattle.mesh_restore.proofs.LinkLists.{link_made, link_stands, link_fell}
use Rattle.mesh_restore.proofs.links.keep.Goals as goal

pub returns-then-link : goal.returns-then-link
returns-then-link c =
    rw c.if-link.true (link_stands c.args.radio.now c.link.new.self c.args.link.a c.args.link.b c.requires.rising
    (link_made c.args.radio.now c.link.new.self c.args.link.a c.args.link.b c.link.result c.requires.rising c.requires.new c.link.ensures.value c.link.ensures.linked))

pub returns : goal.returns
returns c =
    rw c.if-link.false (link_fell c.args.radio.now c.link.new.self c.cut.new.self c.args.link.a c.args.link.b c.cut.result c.requires.rising
    (link_made c.args.radio.now c.link.new.self c.args.link.a c.args.link.b c.link.result c.requires.rising c.requires.new c.link.ensures.value c.link.ensures.linked) c.cut.ensures.value c.cut.ensures.parted)
