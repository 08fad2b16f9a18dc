use Rattle.std.proofs.Common.{sym, ap, ◌∙◌}
use Rattle.mesh_text.specs.Schedule.{AcceptedLine}
use Rattle.mesh_script.specs.Seen.{accepted_of}
use Rattle.mesh_base.specs.Meshes.{Nodes}
use Rattle.mesh_make.specs.Made.{mesh_of}
use Rattle.mesh_make.specs.Stages.{nodes_at, mesh_after}
use Rattle.mesh_make.proofs.Stages.{text_more, mesh_next}
use Rattle.mesh_make.proofs.Comes.{next_printable}
use Rattle.mesh_make.proofs.LineByLine.{joined_on}
use Rattle.mesh_make.proofs.maker.Maker.push_next.Goals as goal

pub push_line-requires-clause-printable : goal.push_line-requires-clause-printable
push_line-requires-clause-printable c = next_printable c.args.self.now c.line_at-line.result c.requires.making c.line_at-line.ensures.line

pub grow-requires : goal.grow-requires
grow-requires c = next_printable c.args.self.now c.line_at-line.result c.requires.making c.line_at-line.ensures.line

pub returns-clause-text : goal.returns-clause-text
returns-clause-text c =
    let m = c.args.self.now in
    rw (c.push.ensures.items, c.push_line.ensures.text, c.line_at-line.ensures.line, c.requires.making.mesh, c.stage_after-self.ensures.after, c.line_at-line.ensures.rng)
    (joined_on _ _ _ _ _ (text_more m.size.nodes m.size.steps m.stage m.rng c.requires.making.stage c.requires.more))

pub returns-clause-making : goal.returns-clause-making
returns-clause-making c =
    let m = c.args.self.now in
    let making = c.requires.making in
    record {
      size = making.size;
      stage = c.stage_after-self.ensures.is_stage;
      mesh =
          c.grow.ensures ∙ ap (λ (mesh : Nodes). mesh_after mesh (accepted_of c.line_at-line.result)) making.mesh
          ∙ ap (λ (line : AcceptedLine). mesh_after (mesh_of (nodes_at m.size.nodes m.stage)) line) c.line_at-line.ensures.line
          ∙ mesh_next m.size.nodes m.size.steps making.size m.stage m.rng making.stage c.requires.more
          ∙ ap (λ stage. mesh_of (nodes_at m.size.nodes stage)) (sym c.stage_after-self.ensures.after);
    }
