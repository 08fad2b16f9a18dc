use Rattle.mesh_text.proofs.RunStates as lemmas
use Rattle.mesh_text.proofs.laws.an_event_keeps_the_account.Goals as goal

pub returns : goal.returns
returns c = lemmas.event_keeps_account
