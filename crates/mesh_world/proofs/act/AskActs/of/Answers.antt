use Rattle.std.proofs.Common.{refl}
use Rattle.mesh_world.proofs.Acts.{sent_done, sent_full}
use Rattle.mesh_world.proofs.act.AskActs.of.Goals as goal

pub returns-in-Ok : goal.returns-in-Ok
returns-in-Ok c = sent_done _ _ _ _ _ _ _ _ _ _ refl c.in-Ok.ensures.does.0 c.in-Ok.ensures.others c.in-Ok.ensures.does.1

pub returns-in-Err-Full : goal.returns-in-Err-Full
returns-in-Err-Full c =
    let full = rw c.in-Err-Full.field-0-is at c.in-Err-Full.ensures.does in
    sent_full _ c.ask.new.self _ _ _ _ full.0 c.in-Err-Full.ensures.others full.1
