-- What is told where the link could not be opened.
use Rattle.std.proofs.Common.{◌≡◌, ℕ, List, [], Option, Some, None, refl, sym, subst}
use Rattle.std.specs.Prelude.{IfSome}
use Rattle.mesh_link.specs.Datagrams.{Datagram}
use Rattle.mesh_router.specs.declared.status.NodeStatus.TheVariants.{LinkFault}
use Rattle.mesh_router.specs.Finds.{arrivals}
use Rattle.mesh_router.specs.Text.{run_of_script}
use Rattle.mesh_router.specs.Outputs.{Outputs}
use Rattle.mesh_router.specs.Output.{IsScriptRun}
use Rattle.mesh_router.proofs.Logging.{prefix-none}

untold : (script : List ℕ) (x : Option (List Datagram)) (a : Outputs) → IsScriptRun script x a a LinkFault
untold script None a = record { finds = []; arrivals_are = tt; output = prefix-none a (run_of_script script []).log }
untold script (Some ds) a = record { finds = arrivals ds; arrivals_are = refl; output = prefix-none a (run_of_script script (arrivals ds)).log }

-- nothing was written or sent
pub unopened : (port : Option ℕ) (left : Option (List ℕ)) (x : Option (List Datagram)) (held : Option (List ℕ)) (s t : Option (List Datagram)) → t ≡ s → IfSome port (λ p. IfSome left (λ script. IsScriptRun script x (held, s) (held, t) LinkFault))
unopened None left x held s t same = tt
unopened (Some p) None x held s t same = tt
unopened (Some p) (Some script) x held s t same = subst (λ (k : Option (List Datagram)). IsScriptRun script x (held, s) (held, k) LinkFault) (sym same) (untold script x (held, s))
