use Rattle.mesh_restore.proofs.MeshLists.{appended}
use Rattle.mesh_restore.proofs.mesh.append.Goals as goal

pub returns : goal.returns
returns c = appended c.args.mesh.now c.add-added.new.self c.args.station.address c.args.station.first c.add-added.result c.len-count.ensures.is_mesh c.requires.last c.requires.few c.add-added.ensures.added c.add-added.ensures.twice c.add-added.ensures.too_many
