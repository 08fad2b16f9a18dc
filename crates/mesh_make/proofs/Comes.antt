-- The next line of a schedule, in a state to which a run of the lines before it has come.
use Rattle.std.proofs.Common.{◌≡◌, ℕ, ◌+◌, ◌<◌, ◌≤◌, Bool, true, false, List, [], ◌∷◌, ◌++◌, length, length-append, None, Ok, is_some, if◌then◌else◌, nat_lt, refl, sym, ap, subst, ◌∙◌, arith}
use Rattle.rand_pcg.specs.Lcg.{Lcg}
use Rattle.mesh_base.specs.Meshes.{Nodes, IsMesh}
use Rattle.mesh_base.specs.declared.limits.TheConstants.{LONGEST_INPUT}
use Rattle.mesh_shell.specs.Pieces.{Whole}
use Rattle.mesh_grammar.specs.Written.{line}
use Rattle.mesh_text.specs.Schedule.{RunState, AcceptedLine, Nothing, NewNode, Does, Chooses, ShowsNode, ShowsRoute, ShowsFlight, line_of}
use Rattle.mesh_text.specs.Lines.{words_of}
use Rattle.mesh_text.specs.Ranges.{IsInRange, IsInTime}
use Rattle.mesh_text.specs.Text.{LineOutcome, On, Refused, Full, RunText, outcome_of_line, outcome_of_read, outcome_of_piece, goes_on, lines_before, text_on}
use Rattle.mesh_text.proofs.Printed.{printed_line_parses}
use Rattle.mesh_script.specs.declared.line.Line.{Line}
use Rattle.mesh_script.specs.Seen.{accepted_of}
use Rattle.mesh_make.specs.declared.maker.Maker.{Maker}
use Rattle.mesh_make.specs.declared.maker.Size.{Size}
use Rattle.mesh_make.specs.declared.maker.Stage.{Stage}
use Rattle.mesh_make.specs.declared.maker.Stage.TheVariants.{Node, Link, Step, Last, End}
use Rattle.mesh_make.specs.Made.{mesh_of, node_line}
use Rattle.mesh_make.specs.Stages.{IsStage, IsSize, is_end, is_node, nodes_at, mesh_after, line_at, stage_after}
use Rattle.mesh_make.specs.Making.{IsMaking, HasCome, is_done, still_to_come}
use Rattle.mesh_make.proofs.Texts.{IsShort}
use Rattle.mesh_make.proofs.Grown.{mesh_of-is}
use Rattle.mesh_make.proofs.Fits.{fit_chain, fit_last}
use Rattle.mesh_make.proofs.Safe.{Fine, line_fine, run_of, after_line}
use Rattle.mesh_make.proofs.Allowed.{node_short, whole_input}
use Rattle.mesh_make.proofs.Stages.{all_nodes, step_fits, line_fits, text_more, mesh_next}

-- ---- the line of a stage

module _ (nodes steps : ℕ) (size : IsSize nodes steps) where
  nodes_few : (stage : Stage) → IsStage nodes steps stage → nodes_at nodes stage ≤ 200
  nodes_few (Node i) is = omega (arith, is, size.nodes_most)
  nodes_few (Link i) is = omega (arith, size.nodes_most)
  nodes_few (Step s) is = omega (arith, size.nodes_most)
  nodes_few Last is = omega (arith, size.nodes_most)
  nodes_few End is = omega (arith, size.nodes_most)

  -- it is short
  line_short : (stage : Stage) (rng : Lcg) → IsStage nodes steps stage → is_end stage ≡ false → IsShort 38 (words_of (mesh_of (nodes_at nodes stage)) (line_at nodes stage rng).value)
  unfolding line_at
  line_short (Node i) rng is more = node_short (mesh_of i) i (omega (arith, is, size.nodes_most))
  line_short (Link i) rng is more = (fit_chain nodes (mesh_of nodes) size.two size.nodes_most (all_nodes nodes steps size) i is).short
  line_short (Step s) rng is more = (step_fits nodes steps size s rng is).short
  line_short Last rng is more = (fit_last nodes (mesh_of nodes) size.two size.nodes_most (all_nodes nodes steps size)).short
  line_short End rng is more = cc

  -- it comes in time, where no world is made before the nodes are there
  line_in_time : (stage : Stage) (rng : Lcg) (started : Bool) → IsStage nodes steps stage → (is_node stage ≡ true → started ≡ false) → IsInTime started (line_at nodes stage rng).value
  unfolding line_at
  line_in_time (Node i) rng started is waits = waits refl
  line_in_time (Link i) rng started is waits = tt
  line_in_time (Step s) rng started is waits = (step_fits nodes steps size s rng is).later started
  line_in_time Last rng started is waits = tt
  line_in_time End rng started is waits = tt

-- after a line that isn't a node's no node comes
neither : (b : Bool) (x y : Stage) → is_node x ≡ false → is_node y ≡ false → is_node (if b then x else y) ≡ false
neither true x y first second = first
neither false x y first second = second

none_after : (nodes steps : ℕ) (stage : Stage) → is_node stage ≡ false → is_node (stage_after nodes steps stage) ≡ false
unfolding stage_after
none_after nodes steps (Node i) later = cc
none_after nodes steps (Link i) later = neither (nat_lt (i + 2) nodes) (Link (i + 1)) (Step 1) refl refl
none_after nodes steps (Step s) later = neither (nat_lt s steps) (Step (s + 1)) Last refl refl
none_after nodes steps Last later = refl
none_after nodes steps End later = refl

-- ---- the next state

-- a line adds its node, or leaves the mesh as it is
mesh_goes : (m : RunState) (a : AcceptedLine) → Fine (λ n. n.mesh ≡ mesh_after m.mesh a) (outcome_of_line m a)
unfolding Fine outcome_of_line
mesh_goes m (NewNode address first) = refl
mesh_goes m Nothing = line_fine m.mesh m Nothing (λ _. tt) refl
mesh_goes m (Does e) = line_fine m.mesh m (Does e) (λ _. tt) refl
mesh_goes m (Chooses count) = line_fine m.mesh m (Chooses count) (λ _. tt) refl
mesh_goes m (ShowsNode x) = line_fine m.mesh m (ShowsNode x) (λ _. tt) refl
mesh_goes m (ShowsRoute x d) = line_fine m.mesh m (ShowsRoute x d) (λ _. tt) refl
mesh_goes m ShowsFlight = line_fine m.mesh m ShowsFlight (λ _. tt) refl

fine_on : (P : RunState → Type 0) (k : LineOutcome) (said : List ℕ) (n : RunState) → Fine P k → k ≡ On said n → P n
unfolding Fine
fine_on P k said n fine e = let is : Fine P (On said n) = subst (Fine P) e fine in is

-- while a node comes next there is no world
still_waits : (nodes steps : ℕ) (stage : Stage) (rng : Lcg) (m n : RunState) (said : List ℕ) → (is_node stage ≡ true → m.world ≡ None)
    → outcome_of_line m (line_at nodes stage rng).value ≡ On said n → is_node (stage_after nodes steps stage) ≡ true → n.world ≡ None
unfolding line_at
still_waits nodes steps (Node i) rng m n said waits e node = fine_on (λ k. k.world ≡ None) (outcome_of_line m (node_line i)) said n (unfold Fine in unfold outcome_of_line in waits refl) e
still_waits nodes steps (Link i) rng m n said waits e node = absurd (let no = none_after nodes steps (Link i) refl in let Q : ⊥ = cc in Q)
still_waits nodes steps (Step s) rng m n said waits e node = absurd (let no = none_after nodes steps (Step s) refl in let Q : ⊥ = cc in Q)
still_waits nodes steps Last rng m n said waits e node = absurd (let no = none_after nodes steps Last refl in let Q : ⊥ = cc in Q)
still_waits nodes steps End rng m n said waits e node = absurd (let no = none_after nodes steps End refl in let Q : ⊥ = cc in Q)

-- ---- a maker, and the same once it has made its next line

pub record IsNext (o n : Maker) (a : AcceptedLine) : Type 0 where
  pub making : IsMaking o
  pub more : is_done o ≡ false
  pub line_is : a ≡ (line_at o.size.nodes o.stage o.rng).value
  pub rng : n.rng ≡ (line_at o.size.nodes o.stage o.rng).rng
  pub stage : n.stage ≡ stage_after o.size.nodes o.size.steps o.stage
  pub size : n.size ≡ o.size
  pub mesh : n.mesh ≡ mesh_after o.mesh a

pub next_making : (o n : Maker) (a : AcceptedLine) → IsNext o n a → IsStage o.size.nodes o.size.steps n.stage → IsMaking n
next_making o n a next is_stage = record {
  size = subst (λ (s : Size). IsSize s.nodes s.steps) (sym next.size) next.making.size;
  stage = subst (λ (s : Size). IsStage s.nodes s.steps n.stage) (sym next.size) is_stage;
  mesh =
      next.mesh ∙ ap (λ (mesh : Nodes). mesh_after mesh a) next.making.mesh
      ∙ ap (λ (l : AcceptedLine). mesh_after (mesh_of (nodes_at o.size.nodes o.stage)) l) next.line_is
      ∙ mesh_next o.size.nodes o.size.steps next.making.size o.stage o.rng next.making.stage next.more
      ∙ ap (λ (stage : Stage). mesh_of (nodes_at o.size.nodes stage)) (sym next.stage)
      ∙ ap (λ (s : Size). mesh_of (nodes_at s.nodes n.stage)) (sym next.size);
}

-- the line that comes next may be printed
pub next_printable : (m : Maker) (line : Line) → IsMaking m → accepted_of line ≡ (line_at m.size.nodes m.stage m.rng).value → IsInRange m.mesh (accepted_of line)
next_printable m line making is =
    subst (λ (mesh : Nodes). IsInRange mesh (accepted_of line)) (sym making.mesh)
    (subst (λ (a : AcceptedLine). IsInRange (mesh_of (nodes_at m.size.nodes m.stage)) a) (sym is) (line_fits m.size.nodes m.size.steps making.size m.stage m.rng making.stage))

-- a short line that is allowed
record IsShortLine (mesh : Nodes) (started : Bool) (a : AcceptedLine) : Type 0 where
  is_mesh : IsMesh mesh
  short : IsShort 38 (words_of mesh a)
  range : IsInRange mesh a
  time : IsInTime started a

module _ (o n : Maker) (a : AcceptedLine) (next : IsNext o n a) where
  next_is : (started : Bool) → (is_node o.stage ≡ true → started ≡ false) → IsShortLine o.mesh started a
  next_is started waits =
      let nodes : ℕ = o.size.nodes in
      let size = next.making.size in
      let is = next.making.stage in
      let whole : IsShortLine (mesh_of (nodes_at nodes o.stage)) started (line_at nodes o.stage o.rng).value =
      record {
        is_mesh = (mesh_of-is (nodes_at nodes o.stage) (nodes_few nodes o.size.steps size o.stage is)).is_mesh;
        short = line_short nodes o.size.steps size o.stage o.rng is next.more;
        range = line_fits nodes o.size.steps size o.stage o.rng is;
        time = line_in_time nodes o.size.steps size o.stage o.rng started is waits;
      } in
      subst (λ (l : AcceptedLine). IsShortLine o.mesh started l) (sym next.line_is)
      (subst (λ (mesh : Nodes). IsShortLine mesh started (line_at nodes o.stage o.rng).value) (sym next.making.mesh) whole)

  text_next : still_to_come o ≡ line (words_of o.mesh a) ++ still_to_come n
  text_next = rw (next.stage, next.rng, next.size, next.line_is, next.making.mesh) (text_more o.size.nodes o.size.steps o.stage o.rng next.making.stage next.more)

  pub next_shorter : length (still_to_come n) < length (still_to_come o)
  next_shorter =
      let all : length (still_to_come o) ≡ length (line (words_of o.mesh a) ++ still_to_come n) = ap length text_next in
      omega (arith, all, length-append (line (words_of o.mesh a)) (still_to_come n), length-append (words_of o.mesh a) (10 ∷ []))

  module _ (m : RunState) (has : HasCome o m) where
    abbrev started : Bool
    started = is_some m.world

    not_yet : is_node o.stage ≡ true → started ≡ false
    not_yet node = ap is_some (has.waits node)

    pub next_allowed : IsInRange m.mesh a × IsInTime started a
    next_allowed = let l = next_is started not_yet in (subst (λ (mesh : Nodes). IsInRange mesh a) (sym has.mesh) l.range, l.time)

    comes_to : outcome_of_piece m (Whole (words_of o.mesh a)) ≡ outcome_of_line m a
    unfolding outcome_of_piece
    comes_to =
        let l = next_is started not_yet in
        let parses : line_of m.mesh started (words_of o.mesh a) ≡ Ok a =
        subst (λ (mesh : Nodes). line_of mesh started (words_of o.mesh a) ≡ Ok a) (sym has.mesh) (printed_line_parses o.mesh started a l.is_mesh l.range l.time) in
        ap (outcome_of_read m) parses

    pub next_comes : (k : RunState) (said : List ℕ) → outcome_of_line m a ≡ On said k → HasCome n k
    next_comes k said e =
        let grown : k.mesh ≡ mesh_after m.mesh a = fine_on (λ (x : RunState). x.mesh ≡ mesh_after m.mesh a) (outcome_of_line m a) said k (mesh_goes m a) e in
        record {
          mesh = grown ∙ ap (λ (mesh : Nodes). mesh_after mesh a) has.mesh ∙ sym next.mesh;
          waits = λ node. still_waits o.size.nodes o.size.steps o.stage o.rng m k said has.waits (ap (outcome_of_line m) (sym next.line_is) ∙ e) (ap is_node (sym next.stage) ∙ node);
        }

    pub next_goes : length (still_to_come o) ≤ LONGEST_INPUT → text_on m (still_to_come o) ≡ goes_on m (outcome_of_line m a) (λ k. text_on k (still_to_come n))
    next_goes fits =
        let words : List ℕ = words_of o.mesh a in
        let rest : List ℕ = still_to_come n in
        let less = next_shorter in
        whole_input m (still_to_come o) fits ∙ ap (run_of m) text_next ∙ after_line m words rest (next_is started not_yet).short
        ∙ ap (λ (c : LineOutcome). goes_on m c (λ k. run_of k rest)) comes_to
        ∙ goes_same (outcome_of_line m a) (λ k. run_of k rest) (λ k. text_on k rest) (λ k. sym (whole_input k rest (omega arith)))
      where
        goes_same : (c : LineOutcome) (f g : RunState → RunText) → ((k : RunState) → f k ≡ g k) → goes_on m c f ≡ goes_on m c g
        goes_same (On text k) f g same = ap (lines_before text) (same k)
        goes_same (Refused why) f g same = refl
        goes_same (Full text k e field) f g same = refl
