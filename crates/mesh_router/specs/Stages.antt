-- The definitions' stage for the code's, and codes of stages and run states.
use Rattle.std.specs.Prelude.{◌≡◌, ◌⊎◌, ℕ, refl}
use Rattle.std.proofs.Common.{inl, inr}
use Rattle.std.specs.Coded.{Coded, code_by, coded×, coded⊎, coded_ℕ}
use Rattle.mesh_script.specs.Peers.{PeersSeen, peers_code}
use Rattle.mesh_router.specs.declared.point.Stage as code
use Rattle.mesh_router.specs.declared.point.Stage.TheVariants as stages
use Rattle.mesh_router.specs.Routers.{Router, Stage, Joining, Running, RunState}
use Rattle.mesh_router.specs.Seen.{router_code}

-- the definitions' stage for the code's stage
abbrev pub stage_of : code.Stage → Stage
stage_of (stages.Joining peers) = Joining peers
stage_of (stages.Running router) = Running router

abbrev stage_parts : Stage → PeersSeen ⊎ Router
stage_parts (Joining p) = inl p
stage_parts (Running r) = inr r

abbrev stage_in : PeersSeen ⊎ Router → Stage
stage_in (inl p) = Joining p
stage_in (inr r) = Running r

pub stage_back : (s : Stage) → stage_in (stage_parts s) ≡ s
stage_back (Joining p) = refl
stage_back (Running r) = refl

abbrev pub stage_code : Coded Stage
stage_code =
    code_by (PeersSeen ⊎ Router) (coded⊎ peers_code router_code) stage_parts stage_in stage_back

abbrev pub run_state_code : Coded RunState
run_state_code =
    code_by (Stage × ℕ) (coded× stage_code coded_ℕ) (λ m. (m.stage, m.lines))
    (λ p. record { stage = p.0; lines = p.1 }) (λ _. refl)
