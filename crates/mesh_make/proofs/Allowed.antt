-- A made schedule is short, and its run ends at no refused line.
use Rattle.std.proofs.Common.{◌≡◌, ℕ, zero, suc, ◌+◌, ◌-◌, ◌*◌, ◌<◌, ◌≤◌, false, List, [], ◌∷◌, ◌++◌, length, None, Ok, refl, sym, ap, subst, ◌∙◌, arith, length-append, is_some}
use Rattle.std.specs.List.{AllByRecursion}
use Rattle.rand_pcg.specs.Lcg.{Lcg}
use Rattle.mesh_base.specs.declared.events.Variant.{Variant}
use Rattle.mesh_base.specs.declared.limits.TheConstants.{LONGEST_INPUT}
use Rattle.mesh_base.specs.Meshes.{Nodes, IsMesh, with_node}
use Rattle.mesh_shell.specs.Pieces.{pieces_of}
use Rattle.mesh_shell.specs.Fold as shell
use Rattle.mesh_grammar.specs.Written.{line}
use Rattle.mesh_text.specs.Schedule.{RunState, AcceptedLine, opening, line_of}
use Rattle.mesh_text.specs.Lines.{words_of}
use Rattle.mesh_text.specs.Text.{outcome_of_line, text_from, text_on, text_of_input}
use Rattle.mesh_make.specs.Words.{of_seed}
use Rattle.mesh_make.specs.Drawn.{step_line}
use Rattle.mesh_make.specs.Made.{node_address, mesh_of, node_line, node_lines, chain, step_lines, from_step, lines_of, text_in, made_schedule}
use Rattle.mesh_make.specs.Laws.{MadeSchedulesAreAllowed, MadeSchedulesAreShort}
use Rattle.mesh_make.proofs.Texts.{IsShort, number_short, name_short, written_short}
use Rattle.mesh_make.proofs.Grown.{IsMeshOf, is_new, next_mesh, mesh_of-is}
use Rattle.mesh_make.proofs.Fits.{IsFit, fit_chain, fit_last, fit_step}
use Rattle.mesh_text.proofs.Printed.{printed_line_parses}
use Rattle.mesh_text.proofs.Seams.{short_pieces}
use Rattle.mesh_make.proofs.Safe.{IsSafe, Fine, Has, run_of, line_fine, line_safe}

-- ---- all lines after the nodes

-- so many lines, each of which fits
record AreFit (mesh : Nodes) (count : ℕ) (lines : List AcceptedLine) : Type 0 where
  each : AllByRecursion (IsFit mesh) lines
  count_is : length lines ≡ count

one_fits : (mesh : Nodes) (n : ℕ) (a : AcceptedLine) (rest : List AcceptedLine) → IsFit mesh a → AreFit mesh n rest → AreFit mesh (suc n) (a ∷ rest)
one_fits mesh n a rest fit are = record { each = (fit, are.each); count_is = ap suc are.count_is }

module _ (nodes : ℕ) (two : 2 ≤ nodes) (few : nodes ≤ 200) where
  made_mesh : IsMeshOf nodes (mesh_of nodes)
  made_mesh = mesh_of-is nodes few

  steps_fit : (s count : ℕ) (rng : Lcg) → 1 ≤ s → s + count ≤ 100001 → AreFit (mesh_of nodes) (suc count) (from_step nodes s count rng)
  unfolding step_lines
  steps_fit s zero rng one le = record { each = (fit_last nodes (mesh_of nodes) two few made_mesh, tt); count_is = refl }
  steps_fit s (suc count) rng one le =
      one_fits (mesh_of nodes) (suc count) _ _ (fit_step nodes (mesh_of nodes) two few made_mesh s one (omega arith) rng)
      (steps_fit (s + 1) count (step_line nodes s rng).rng (omega arith) (omega arith))

  chain_fits : (i count n : ℕ) (others : List AcceptedLine) → i + count < nodes → AreFit (mesh_of nodes) n others → AreFit (mesh_of nodes) (count + n) (chain i count ++ others)
  unfolding chain
  chain_fits i zero n others le fit = record { each = fit.each; count_is = let e = fit.count_is in omega arith }
  chain_fits i (suc count) n others le fit =
      let all = one_fits (mesh_of nodes) (count + n) _ _ (fit_chain nodes (mesh_of nodes) two few made_mesh i (omega arith)) (chain_fits (i + 1) count n others (omega arith) fit) in
      record { each = all.each; count_is = let e = all.count_is in omega arith }

-- those of a whole schedule
abbrev after_nodes : ℕ → ℕ → ℕ → List AcceptedLine
after_nodes seed nodes steps = chain 0 (nodes - 1) ++ from_step nodes 1 steps (of_seed seed)

all_fit : (seed nodes steps : ℕ) → 2 ≤ nodes → nodes ≤ 200 → steps ≤ 100000 → AreFit (mesh_of nodes) (nodes - 1 + suc steps) (after_nodes seed nodes steps)
all_fit seed nodes steps two few most =
    chain_fits nodes two few 0 (nodes - 1) (suc steps) (from_step nodes 1 steps (of_seed seed)) (omega arith) (steps_fit nodes two few 1 steps (of_seed seed) (omega arith) (omega arith))

-- ---- how long it is

one_more : (words rest : List ℕ) (n : ℕ) → IsShort 38 words → length rest ≤ 39 * n → length (line words ++ rest) ≤ 39 * suc n
one_more words rest n short le = omega (arith, length-append (line words) rest, length-append words (10 ∷ []), short.within)

fit_length : (mesh : Nodes) (lines : List AcceptedLine) → AllByRecursion (IsFit mesh) lines → length (text_in mesh lines) ≤ 39 * length lines
fit_length mesh [] fit = omega arith
fit_length mesh (a ∷ rest) fit = one_more (words_of mesh a) (text_in mesh rest) (length rest) fit.0.short (fit_length mesh rest fit.1)

pub node_short : (mesh : Nodes) (i : ℕ) → i < 200 → IsShort 38 (words_of mesh (node_line i))
unfolding words_of
node_short mesh i lt = written_short _ _ (record { others = refl; within = omega arith }) (name_short i lt, number_short 6 1 (omega arith) (omega arith) (omega arith))

nodes_length : (mesh : Nodes) (i count k : ℕ) (others : List AcceptedLine) → i + count ≤ 200 → length (text_in mesh others) ≤ 39 * k
    → length (text_in mesh (node_lines i count ++ others)) ≤ 39 * (count + k)
unfolding node_lines
nodes_length mesh i zero k others le short = omega arith
nodes_length mesh i (suc count) k others le short =
    let more = one_more (words_of mesh (node_line i)) _ (count + k) (node_short mesh i (omega arith)) (nodes_length mesh (i + 1) count k others (omega arith) short) in
    omega arith

pub made_short : MadeSchedulesAreShort
unfolding made_schedule lines_of
made_short seed nodes steps two few one most =
    let others : List AcceptedLine = after_nodes seed nodes steps in
    let fit = all_fit seed nodes steps two few most in
    let all = nodes_length (mesh_of nodes) 0 nodes (length others) others (omega arith) (fit_length (mesh_of nodes) others fit.each) in
    omega (arith, all, fit.count_is)

-- ---- its run

lines_go : (mesh : Nodes) (lines : List AcceptedLine) (m : RunState) → IsMesh mesh → AllByRecursion (IsFit mesh) lines → Has mesh m → IsSafe (run_of m (text_in mesh lines))
unfolding pieces_of shell.text_from
lines_go mesh [] m is fit has = record { never = λ n e. let Q : ⊥ = cc in Q }
lines_go mesh (a ∷ rest) m is fit has =
    let early = is_some m.world in
    line_safe (Has mesh) m (words_of mesh a) (text_in mesh rest) a fit.0.short
    (subst (λ nodes. line_of nodes early (words_of mesh a) ≡ Ok a) (sym has) (printed_line_parses mesh early a is fit.0.range (fit.0.later early)))
    (line_fine mesh m a fit.0.later has) (λ n next. lines_go mesh rest n is fit.1 next)

-- before the run has started there are the first k nodes
record IsBefore (k : ℕ) (m : RunState) : Type 0 where
  has : Has (mesh_of k) m
  waits : m.world ≡ None

same_words : (mesh other : Nodes) (i : ℕ) → words_of mesh (node_line i) ≡ words_of other (node_line i)
unfolding words_of
same_words mesh other i = refl

one_grown : (k : ℕ) (m : RunState) → IsBefore k m → Fine (IsBefore (k + 1)) (outcome_of_line m (node_line k))
unfolding Fine outcome_of_line
one_grown k m is = record { has = ap (λ mesh. with_node mesh (node_address k) 1) is.has ∙ next_mesh k; waits = is.waits }

nodes_go : (nodes k count : ℕ) (m : RunState) (others : List AcceptedLine) → nodes ≤ 200 → k + count ≡ nodes → IsBefore k m → ((n : RunState) → Has (mesh_of nodes) n → IsSafe (run_of n (text_in (mesh_of nodes) others)))
    → IsSafe (run_of m (text_in (mesh_of nodes) (node_lines k count ++ others)))
unfolding node_lines
nodes_go nodes k zero m others few all is rest = rest m (is.has ∙ ap mesh_of (let e : k ≡ nodes = omega arith in e))
nodes_go nodes k (suc count) m others few all is rest =
    let mesh : Nodes = mesh_of k in
    let grown = mesh_of-is k (omega arith) in
    let early : is_some m.world ≡ false = ap is_some is.waits in
    let text : List ℕ = text_in (mesh_of nodes) (node_lines (k + 1) count ++ others) in
    let parses : line_of m.mesh (is_some m.world) (words_of mesh (node_line k)) ≡ Ok (node_line k) =
    subst (λ known. line_of known (is_some m.world) (words_of mesh (node_line k)) ≡ Ok (node_line k)) (sym is.has)
    (printed_line_parses mesh (is_some m.world) (node_line k) grown.is_mesh (is_new k mesh (omega arith) grown) early) in
    subst (λ words. IsSafe (run_of m (line words ++ text))) (same_words mesh (mesh_of nodes) k)
    (line_safe (IsBefore (k + 1)) m (words_of mesh (node_line k)) text (node_line k) (node_short mesh k (omega arith))
    parses (one_grown k m is) (λ n next. nodes_go nodes (k + 1) count n others few (omega arith) next rest))

-- an input that is not too long is run whole
pub whole_input : (m : RunState) (input : List ℕ) → length input ≤ LONGEST_INPUT → text_on m input ≡ run_of m input
unfolding shell.text_on
whole_input m input le = ap (text_from m) (short_pieces input le)

made_safe : (variant : Variant) (seed nodes steps : ℕ) → 2 ≤ nodes → nodes ≤ 200 → steps ≤ 100000 → IsSafe (run_of (opening variant) (made_schedule seed nodes steps))
unfolding made_schedule lines_of mesh_of
made_safe variant seed nodes steps two few most =
    nodes_go nodes 0 nodes (opening variant) (after_nodes seed nodes steps) few (omega arith) (record { has = refl; waits = refl })
    (λ n has. lines_go (mesh_of nodes) (after_nodes seed nodes steps) n (mesh_of-is nodes few).is_mesh (all_fit seed nodes steps two few most).each has)

pub made_allowed : MadeSchedulesAreAllowed
unfolding text_of_input
made_allowed variant seed nodes steps n two few one most =
    let short : length (made_schedule seed nodes steps) ≤ LONGEST_INPUT = omega (arith, made_short seed nodes steps two few one most) in
    let safe : IsSafe (text_of_input variant (made_schedule seed nodes steps)) = subst IsSafe (sym (whole_input (opening variant) (made_schedule seed nodes steps) short)) (made_safe variant seed nodes steps two few most) in
    safe.never n
