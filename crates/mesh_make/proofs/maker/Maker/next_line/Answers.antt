use Rattle.std.proofs.Common.{refl}
use Rattle.mesh_script.specs.Seen.{accepted_of}
use Rattle.mesh_make.specs.declared.maker.Maker.{Maker}
use Rattle.mesh_make.proofs.Comes.{IsNext, next_printable, next_allowed, next_goes, next_comes, next_shorter, next_making}
use Rattle.mesh_make.proofs.maker.Maker.next_line.Goals as goal

pub grow-requires : goal.grow-requires
grow-requires c = next_printable c.args.self.now c.line_at-line.result c.requires.making c.line_at-line.ensures.line

pub returns-clause-allowed : goal.returns-clause-allowed
returns-clause-allowed c =
    let o : Maker = c.args.self.now in
    let n : Maker = record { size = o.size; stage = c.stage_after-self.result; rng = c.line_at-line.new.rng; mesh = c.grow.new.mesh } in
    let next : IsNext o n (accepted_of c.line_at-line.result) = record {
      making = c.requires.making;
      more = c.requires.more;
      line_is = c.line_at-line.ensures.line;
      rng = c.line_at-line.ensures.rng;
      stage = c.stage_after-self.ensures.after;
      size = refl;
      mesh = c.grow.ensures;
    } in
    λ m has. next_allowed o n (accepted_of c.line_at-line.result) next m has

pub returns-clause-goes : goal.returns-clause-goes
returns-clause-goes c =
    let o : Maker = c.args.self.now in
    let n : Maker = record { size = o.size; stage = c.stage_after-self.result; rng = c.line_at-line.new.rng; mesh = c.grow.new.mesh } in
    let next : IsNext o n (accepted_of c.line_at-line.result) = record {
      making = c.requires.making;
      more = c.requires.more;
      line_is = c.line_at-line.ensures.line;
      rng = c.line_at-line.ensures.rng;
      stage = c.stage_after-self.ensures.after;
      size = refl;
      mesh = c.grow.ensures;
    } in
    λ m has fits. next_goes o n (accepted_of c.line_at-line.result) next m has fits

pub returns-clause-comes : goal.returns-clause-comes
returns-clause-comes c =
    let o : Maker = c.args.self.now in
    let n : Maker = record { size = o.size; stage = c.stage_after-self.result; rng = c.line_at-line.new.rng; mesh = c.grow.new.mesh } in
    let next : IsNext o n (accepted_of c.line_at-line.result) = record {
      making = c.requires.making;
      more = c.requires.more;
      line_is = c.line_at-line.ensures.line;
      rng = c.line_at-line.ensures.rng;
      stage = c.stage_after-self.ensures.after;
      size = refl;
      mesh = c.grow.ensures;
    } in
    λ m k said has e. next_comes o n (accepted_of c.line_at-line.result) next m has k said e

pub returns-clause-shorter : goal.returns-clause-shorter
returns-clause-shorter c =
    let o : Maker = c.args.self.now in
    let n : Maker = record { size = o.size; stage = c.stage_after-self.result; rng = c.line_at-line.new.rng; mesh = c.grow.new.mesh } in
    let next : IsNext o n (accepted_of c.line_at-line.result) = record {
      making = c.requires.making;
      more = c.requires.more;
      line_is = c.line_at-line.ensures.line;
      rng = c.line_at-line.ensures.rng;
      stage = c.stage_after-self.ensures.after;
      size = refl;
      mesh = c.grow.ensures;
    } in
    next_shorter o n (accepted_of c.line_at-line.result) next

pub returns-clause-making : goal.returns-clause-making
returns-clause-making c =
    let o : Maker = c.args.self.now in
    let n : Maker = record { size = o.size; stage = c.stage_after-self.result; rng = c.line_at-line.new.rng; mesh = c.grow.new.mesh } in
    let next : IsNext o n (accepted_of c.line_at-line.result) = record {
      making = c.requires.making;
      more = c.requires.more;
      line_is = c.line_at-line.ensures.line;
      rng = c.line_at-line.ensures.rng;
      stage = c.stage_after-self.ensures.after;
      size = refl;
      mesh = c.grow.ensures;
    } in
    next_making o n (accepted_of c.line_at-line.result) next c.stage_after-self.ensures.is_stage
