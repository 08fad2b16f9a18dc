-- One line more of a schedule.
use Rattle.std.proofs.Common.{◌≡◌, ℕ, suc, ◌+◌, ◌-◌, ◌<◌, ◌≤◌, true, false, List, [], ◌∷◌, ◌++◌, refl, sym, ap, ◌∙◌, arith, inl, inr}
use Rattle.std.proofs.lemmas.Bool.{cases_lt, le-ltb, lt-ltb}
use Rattle.rand_pcg.specs.Lcg.{Lcg}
use Rattle.mesh_grammar.specs.Written.{line}
use Rattle.mesh_base.specs.Meshes.{Nodes}
use Rattle.mesh_text.specs.Schedule.{AcceptedLine, Nothing, NewNode, Does, Chooses, ShowsNode, ShowsRoute, ShowsFlight}
use Rattle.mesh_text.specs.Ranges.{IsInRange, IsInTime}
use Rattle.mesh_text.specs.Lines.{words_of}
use Rattle.mesh_make.specs.declared.maker.Stage.{Stage}
use Rattle.mesh_make.specs.declared.maker.Stage.TheVariants.{Node, Link, Step, Last, End}
use Rattle.mesh_make.specs.Words.{of_seed}
use Rattle.mesh_make.specs.Drawn.{step_line}
use Rattle.mesh_make.specs.Made.{node_line, link_line, node_lines, chain, step_lines, mesh_of, text_in, lines_of, made_schedule}
use Rattle.mesh_make.proofs.Grown.{IsMeshOf, is_new, mesh_of-is, next_mesh}
use Rattle.mesh_make.proofs.Fits.{IsFit, fit_chain, fit_last, fit_step}
use Rattle.mesh_make.specs.Stages.{IsStage, IsSize, is_end, nodes_at, mesh_after, line_at, stage_after, lines_from}

-- the lines from a stage on are its line and those from the next stage, before which there are so many nodes
record IsNext (nodes steps : ℕ) (stage : Stage) (line : AcceptedLine) (rng next : Lcg) (there : ℕ) : Type 0 where
  lines : lines_from nodes steps stage rng ≡ line ∷ lines_from nodes steps (stage_after nodes steps stage) next
  nodes_next : nodes_at nodes (stage_after nodes steps stage) ≡ there

module _ (nodes steps : ℕ) where
  at_node : (i : ℕ) (rng : Lcg) → i < nodes → IsNext nodes steps (Node i) (node_line i) rng rng (i + 1)
  unfolding lines_from stage_after node_lines
  at_node i rng lt =
      let on : nodes - i ≡ suc (nodes - (i + 1)) = omega arith in
      elim (cases_lt (i + 1) nodes) [
        | inl more ↦ let yes = lt-ltb (i + 1) nodes more in record { lines = rw (yes, on) refl; nodes_next = rw yes refl }
        | inr ge ↦
            let no = le-ltb (i + 1) nodes ge in
            let none : nodes - (i + 1) ≡ 0 = omega arith in
            record { lines = rw (no, on, none) refl; nodes_next = rw no (let e : nodes ≡ i + 1 = omega arith in e) }
      ]

  at_link : (i : ℕ) (rng : Lcg) → i + 1 < nodes → IsNext nodes steps (Link i) (link_line i) rng rng nodes
  unfolding lines_from stage_after chain
  at_link i rng lt =
      let on : nodes - (i + 1) ≡ suc (nodes - (i + 2)) = omega arith in
      let same : nodes - (i + 1 + 1) ≡ nodes - (i + 2) = omega arith in
      elim (cases_lt (i + 2) nodes) [
        | inl more ↦ let yes = lt-ltb (i + 2) nodes more in record { lines = rw (yes, on, same) refl; nodes_next = rw yes refl }
        | inr ge ↦
            let no = le-ltb (i + 2) nodes ge in
            let none : nodes - (i + 2) ≡ 0 = omega arith in
            let all : steps + 1 - 1 ≡ steps = omega arith in
            record { lines = rw (no, on, none, all) refl; nodes_next = rw no refl }
      ]

  at_step : (s : ℕ) (rng : Lcg) → s ≤ steps → let d = step_line nodes s rng in IsNext nodes steps (Step s) d.value rng d.rng nodes
  unfolding lines_from stage_after step_lines
  at_step s rng le =
      let on : steps + 1 - s ≡ suc (steps - s) = omega arith in
      let same : steps + 1 - (s + 1) ≡ steps - s = omega arith in
      elim (cases_lt s steps) [
        | inl more ↦ let yes = lt-ltb s steps more in record { lines = rw (yes, on, same) refl; nodes_next = rw yes refl }
        | inr ge ↦
            let no = le-ltb s steps ge in
            let none : steps - s ≡ 0 = omega arith in
            record { lines = rw (no, on, none) refl; nodes_next = rw no refl }
      ]

  -- how many nodes are there after the line
  abbrev after : Stage → ℕ
  after (Node i) = i + 1
  after others = nodes

  next : (stage : Stage) (rng : Lcg) → IsStage nodes steps stage → is_end stage ≡ false → let d = line_at nodes stage rng in IsNext nodes steps stage d.value rng d.rng (after stage)
  unfolding line_at
  next (Node i) rng is more = at_node i rng is
  next (Link i) rng is more = at_link i rng is
  next (Step s) rng is more = at_step s rng is.1
  next Last rng is more = unfold lines_from in unfold stage_after in record { lines = refl; nodes_next = refl }
  next End rng is more = cc

  -- a line names no node that isn't there yet
  words_at : (stage : Stage) (rng : Lcg) → let d = line_at nodes stage rng in words_of (mesh_of (nodes_at nodes stage)) d.value ≡ words_of (mesh_of nodes) d.value
  unfolding line_at words_of
  words_at (Node i) rng = refl
  words_at (Link i) rng = refl
  words_at (Step s) rng = refl
  words_at Last rng = refl
  words_at End rng = refl

  -- the text from a stage on
  pub text_more : (stage : Stage) (rng : Lcg) → IsStage nodes steps stage → is_end stage ≡ false
      → let d = line_at nodes stage rng in
      text_in (mesh_of nodes) (lines_from nodes steps stage rng)
      ≡ line (words_of (mesh_of (nodes_at nodes stage)) d.value) ++ text_in (mesh_of nodes) (lines_from nodes steps (stage_after nodes steps stage) d.rng)
  text_more stage rng is more =
      let rest : List AcceptedLine = lines_from nodes steps (stage_after nodes steps stage) (line_at nodes stage rng).rng in
      ap (text_in (mesh_of nodes)) (next stage rng is more).lines
      ∙ ap (λ words. line words ++ text_in (mesh_of nodes) rest) (sym (words_at stage rng))

same_mesh : (mesh : Nodes) (a : AcceptedLine) → IsInTime true a → mesh_after mesh a ≡ mesh
same_mesh mesh Nothing late = refl
same_mesh mesh (NewNode address first) late = cc
same_mesh mesh (Does e) late = refl
same_mesh mesh (Chooses count) late = refl
same_mesh mesh (ShowsNode x) late = refl
same_mesh mesh (ShowsRoute x d) late = refl
same_mesh mesh ShowsFlight late = refl

module _ (nodes steps : ℕ) (size : IsSize nodes steps) where
  pub all_nodes : IsMeshOf nodes (mesh_of nodes)
  all_nodes = mesh_of-is nodes size.nodes_most

  pub step_fits : (s : ℕ) (rng : Lcg) → IsStage nodes steps (Step s) → IsFit (mesh_of nodes) (step_line nodes s rng).value
  step_fits s rng is = fit_step nodes (mesh_of nodes) size.two size.nodes_most all_nodes s is.0 (omega (arith, is.1, size.steps_most)) rng

  -- the line is allowed where it stands
  pub line_fits : (stage : Stage) (rng : Lcg) → IsStage nodes steps stage → IsInRange (mesh_of (nodes_at nodes stage)) (line_at nodes stage rng).value
  unfolding line_at
  line_fits (Node i) rng is = is_new i (mesh_of i) (omega (arith, size.nodes_most)) (mesh_of-is i (omega (arith, size.nodes_most)))
  line_fits (Link i) rng is = (fit_chain nodes (mesh_of nodes) size.two size.nodes_most all_nodes i is).range
  line_fits (Step s) rng is = (step_fits s rng is).range
  line_fits Last rng is = (fit_last nodes (mesh_of nodes) size.two size.nodes_most all_nodes).range
  line_fits End rng is = tt

  -- the nodes that are there after the line
  mesh_left : (stage : Stage) (rng : Lcg) → IsStage nodes steps stage → mesh_after (mesh_of (nodes_at nodes stage)) (line_at nodes stage rng).value ≡ mesh_of (after nodes steps stage)
  unfolding line_at
  mesh_left (Node i) rng is = next_mesh i
  mesh_left (Link i) rng is = refl
  mesh_left (Step s) rng is = same_mesh (mesh_of nodes) (step_line nodes s rng).value ((step_fits s rng is).later true)
  mesh_left Last rng is = refl
  mesh_left End rng is = refl

  pub mesh_next : (stage : Stage) (rng : Lcg) → IsStage nodes steps stage → is_end stage ≡ false
      → mesh_after (mesh_of (nodes_at nodes stage)) (line_at nodes stage rng).value ≡ mesh_of (nodes_at nodes (stage_after nodes steps stage))
  mesh_next stage rng is more = mesh_left stage rng is ∙ ap mesh_of (sym (next nodes steps stage rng is more).nodes_next)

-- all of it
pub from_start : (seed nodes steps : ℕ) → text_in (mesh_of nodes) (lines_from nodes steps (Node 0) (of_seed seed)) ≡ made_schedule seed nodes steps
unfolding lines_from made_schedule lines_of
from_start seed nodes steps = let all : nodes - 0 ≡ nodes = omega arith in rw all refl

-- nothing is left at the end
pub none_at_end : (nodes steps : ℕ) (stage : Stage) (rng : Lcg) → stage ≡ End → lines_from nodes steps stage rng ≡ []
unfolding lines_from
none_at_end nodes steps stage rng e = rw e refl

pub no_nodes : mesh_of 0 ≡ []
unfolding mesh_of
no_nodes = refl
