-- What a call at an address answers is what it answers at the node of the address.
use Rattle.std.proofs.Common.{◌≡◌, ℕ, List, Option, Some, Result, sym, subst}
use Rattle.aodv_router.specs.declared.outcome.Outcome.{Outcome}
use Rattle.aodv_router.specs.declared.answers.SendError.{SendError}
use Rattle.aodv_router.specs.declared.answers.AskError.{AskError}
use Rattle.mesh_base.specs.Meshes.{index_of}
use Rattle.aodv_router.specs.Stations.{Station}
use Rattle.aodv_router.specs.Steps.{IsSendTo, IsSending, IsSendOf, IsAskFor, IsAsking, IsAskOf}

pub send_at : (old : Station) (near : List ℕ) (dest d : ℕ) (result : Result Outcome SendError) (new : Station) → index_of old.nodes dest ≡ Some d → IsSendTo old near d result new → IsSendOf old near dest result new
send_at old near dest d result new e h = subst (λ (o : Option ℕ). IsSending old near o result new) (sym e) h

pub ask_at : (old : Station) (dest d : ℕ) (result : Result Outcome AskError) (new : Station) → index_of old.nodes dest ≡ Some d → IsAskFor old d result new → IsAskOf old dest result new
ask_at old dest d result new e h = subst (λ (o : Option ℕ). IsAsking old o result new) (sym e) h
