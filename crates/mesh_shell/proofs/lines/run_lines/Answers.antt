use Rattle.std.proofs.Common.{◌≤◌, ◌∷◌, [], Ok, Err, true, false, length, refl, ap, sym, subst, ◌∙◌, arith}
use Rattle.mesh_io.specs.Cause.{Rose}
use Rattle.mesh_io.specs.declared.limits.Limits.{Limits}
use Rattle.mesh_io.specs.declared.line_error.LineError.TheVariants as error
use Rattle.mesh_io.proofs.Deciding.{decides_ended}
use Rattle.mesh_shell.specs.Pieces.{Whole}
use Rattle.mesh_shell.specs.Scripts.{size_of_line}
use Rattle.mesh_shell.proofs.Runs.{told_as, at_begin, handed_on, line_done, room_for_line, room_past, ran_to_end, ran_to_line, ran_to_long, ran_to_beyond, ran_to_wait, ran_to_fault}
use Rattle.mesh_shell.proofs.lines.run_lines.Goals as goal

pub lines-init : goal.lines-init
lines-init g c = record {
  same = refl;
  most = refl;
  come = at_begin g.R.Runner g.L.LineReader c.args.lines.now c.args.runner.now (g.met.R.Runner.stays c.args.runner.now) c.requires.pending c.requires.given;
  few = omega (arith, c.requires.given);
  reads = refl;
}

pub returns-in-Some-clause-ran : goal.returns-in-Some-clause-ran
returns-in-Some-clause-ran g c = ran_to_wait g.R.Runner g.L.LineReader c.args.lines.now c.lines.lines c.lines.lines c.args.runner.now c.lines.runner c.hand_on.new.runner c.in-Some.answer c.lines.invariant.few c.lines.invariant.come c.lines.invariant.reads c.in-Some.ensures.breaks

pub line-requires-in-Ok-true-clause-room : goal.line-requires-in-Ok-true-clause-room
line-requires-in-Ok-true-clause-room g c =
    let r = g.R.Runner in
    let l = g.L.LineReader in
    let first = c.args.lines.now in
    let old = c.args.runner.now in
    let few = c.lines.invariant.few in
    let come = handed_on r l first c.lines.lines old c.lines.runner c.hand_on.new.runner g.met.R.Runner.joins c.lines.invariant.come c.in_default.ensures.goes in
    let found = c.in-Ok-true.is ∙ ap Ok c.in-Ok-true.field-0-test in
    let fits : l.given c.advance.new.self ≤ (l.limits first).input = subst (λ (m : Limits). l.given c.advance.new.self ≤ m.input) (c.advance.ensures.most ∙ c.lines.invariant.most) c.advance.ensures.few in
    subst (λ line. r.has_room c.hand_on.new.runner (size_of_line line)) (sym c.line.ensures)
    (room_for_line r l first c.lines.lines c.advance.new.self old c.hand_on.new.runner g.met.R.Runner.leaves c.requires.room fits come (c.advance.ensures.counted found) (c.advance.ensures.grows found))

pub lines-preserved : goal.lines-preserved
lines-preserved g c =
    let r = g.R.Runner in
    let l = g.L.LineReader in
    let first = c.args.lines.now in
    let old = c.args.runner.now in
    let few = c.lines.invariant.few in
    let come = handed_on r l first c.lines.lines old c.lines.runner c.hand_on.new.runner g.met.R.Runner.joins c.lines.invariant.come c.in_default.ensures.goes in
    let found = c.in-Ok-true.is ∙ ap Ok c.in-Ok-true.field-0-test in
    let told = told_as l (l.limits first) c.lines.lines c.advance.new.self c.advance.result (Ok true) c.lines.invariant.most (c.in-Ok-true.is ∙ ap Ok c.in-Ok-true.field-0-test) c.advance.ensures.known in
    let fits : l.given c.advance.new.self ≤ (l.limits first).input = subst (λ (m : Limits). l.given c.advance.new.self ≤ m.input) (c.advance.ensures.most ∙ c.lines.invariant.most) c.advance.ensures.few in
    let short : length (l.found c.advance.new.self) ≤ (l.limits first).line = subst (λ (m : Limits). length (l.found c.advance.new.self) ≤ m.line) c.lines.invariant.most (c.advance.ensures.short found) in
    let led = subst (λ line. r.leads c.hand_on.new.runner (Whole line ∷ []) c.line-in-Ok-true.new.self) c.line.ensures c.in-None.ensures.goes in
    record {
      same = c.advance.ensures.same ∙ c.lines.invariant.same;
      most = c.advance.ensures.most ∙ c.lines.invariant.most;
      come = line_done r l first c.lines.lines c.advance.new.self old c.hand_on.new.runner c.line-in-Ok-true.new.self g.met.R.Runner.joins few fits short come told (c.advance.ensures.counted found) (c.advance.ensures.grows found) led;
      few = fits;
      reads = c.in-Ok-true.ensures.cause.none (λ e. cc) ∙ c.lines.invariant.reads;
    }

pub returns-in-Some-line-clause-ran : goal.returns-in-Some-line-clause-ran
returns-in-Some-line-clause-ran g c =
    let r = g.R.Runner in
    let l = g.L.LineReader in
    let first = c.args.lines.now in
    let old = c.args.runner.now in
    let few = c.lines.invariant.few in
    let come = handed_on r l first c.lines.lines old c.lines.runner c.hand_on.new.runner g.met.R.Runner.joins c.lines.invariant.come c.in_default.ensures.goes in
    let told = told_as l (l.limits first) c.lines.lines c.advance.new.self c.advance.result (Ok true) c.lines.invariant.most (c.in-Ok-true.is ∙ ap Ok c.in-Ok-true.field-0-test) c.advance.ensures.known in
    let stopped = subst (λ line. r.stops c.hand_on.new.runner (Whole line) c.line-in-Ok-true.new.self c.in-Some-line.answer) c.line.ensures c.in-Some-line.ensures.stops in
    ran_to_line r l first c.lines.lines c.advance.new.self old c.hand_on.new.runner c.line-in-Ok-true.new.self c.in-Some-line.answer few come told (c.in-Ok-true.ensures.cause.none (λ e. cc) ∙ c.lines.invariant.reads) stopped

pub returns-in-Ok-false-clause-ran : goal.returns-in-Ok-false-clause-ran
returns-in-Ok-false-clause-ran g c =
    let r = g.R.Runner in
    let l = g.L.LineReader in
    let first = c.args.lines.now in
    let old = c.args.runner.now in
    let few = c.lines.invariant.few in
    let come = handed_on r l first c.lines.lines old c.lines.runner c.hand_on.new.runner g.met.R.Runner.joins c.lines.invariant.come c.in_default.ensures.goes in
    let told = told_as l (l.limits first) c.lines.lines c.advance.new.self c.advance.result (Ok false) c.lines.invariant.most (c.in-Ok-false.is ∙ ap Ok c.in-Ok-false.field-0-test) c.advance.ensures.known in
    ran_to_end r l first c.lines.lines c.advance.new.self old c.hand_on.new.runner c.end.new.self c.end.result few come told (c.advance.ensures.end (c.in-Ok-false.is ∙ ap Ok c.in-Ok-false.field-0-test)) (c.in-Ok-false.ensures.cause.none (λ e. cc) ∙ c.lines.invariant.reads) c.end.ensures

pub returns-in-Err-ReadFault-clause-ran : goal.returns-in-Err-ReadFault-clause-ran
returns-in-Err-ReadFault-clause-ran g c =
    let r = g.R.Runner in
    let l = g.L.LineReader in
    let first = c.args.lines.now in
    let old = c.args.runner.now in
    let few = c.lines.invariant.few in
    let come = handed_on r l first c.lines.lines old c.lines.runner c.hand_on.new.runner g.met.R.Runner.joins c.lines.invariant.come c.in_default.ensures.goes in
    let failed = c.in-Err-ReadFault.is ∙ ap Err c.in-Err-ReadFault.field-0-is in
    let told = told_as l (l.limits first) c.lines.lines c.advance.new.self c.advance.result (Err error.ReadFault) c.lines.invariant.most (c.in-Err-ReadFault.is ∙ ap Err c.in-Err-ReadFault.field-0-is) c.advance.ensures.known in
    let later : l.faults first ≤ l.faults c.advance.new.self = omega (arith, c.lines.invariant.reads, c.advance.ensures.cause.later) in
    ran_to_fault r l first c.lines.lines c.advance.new.self old c.hand_on.new.runner c.cut.new.self c.cut.result few come told (c.advance.ensures.pending failed)
    (λ ended. c.advance.ensures.unasked (decides_ended (l.limits c.lines.lines) (l.given c.lines.lines) (l.ended c.lines.lines) (l.pending c.lines.lines) ended) failed) later
    (subst (λ n. Rose n (l.faults c.advance.new.self)) c.lines.invariant.reads (c.advance.ensures.cause.failed failed)) c.cut.ensures

pub past-requires : goal.past-requires
past-requires g c =
    let r = g.R.Runner in
    let l = g.L.LineReader in
    let first = c.args.lines.now in
    let old = c.args.runner.now in
    let few = c.lines.invariant.few in
    let come = handed_on r l first c.lines.lines old c.lines.runner c.hand_on.new.runner g.met.R.Runner.joins c.lines.invariant.come c.in_default.ensures.goes in
    room_past r l first c.lines.lines old c.hand_on.new.runner g.met.R.Runner.leaves c.requires.room few come

pub returns-in-Err-TooLong-clause-ran : goal.returns-in-Err-TooLong-clause-ran
returns-in-Err-TooLong-clause-ran g c =
    let r = g.R.Runner in
    let l = g.L.LineReader in
    let first = c.args.lines.now in
    let old = c.args.runner.now in
    let few = c.lines.invariant.few in
    let come = handed_on r l first c.lines.lines old c.lines.runner c.hand_on.new.runner g.met.R.Runner.joins c.lines.invariant.come c.in_default.ensures.goes in
    let told = told_as l (l.limits first) c.lines.lines c.advance.new.self c.advance.result (Err error.TooLong) c.lines.invariant.most (c.in-Err-TooLong.is ∙ ap Err c.in-Err-TooLong.field-0-is) c.advance.ensures.known in
    ran_to_long r l first c.lines.lines c.advance.new.self old c.hand_on.new.runner c.past.new.self c.past.result few come told (c.advance.ensures.cause.none (λ e. cc) ∙ c.lines.invariant.reads) c.past.ensures

pub past-requires-in-Err-TooMuch : goal.past-requires-in-Err-TooMuch
past-requires-in-Err-TooMuch g c =
    let r = g.R.Runner in
    let l = g.L.LineReader in
    let first = c.args.lines.now in
    let old = c.args.runner.now in
    let few = c.lines.invariant.few in
    let come = handed_on r l first c.lines.lines old c.lines.runner c.hand_on.new.runner g.met.R.Runner.joins c.lines.invariant.come c.in_default.ensures.goes in
    room_past r l first c.lines.lines old c.hand_on.new.runner g.met.R.Runner.leaves c.requires.room few come

pub returns-in-Err-TooMuch-clause-ran : goal.returns-in-Err-TooMuch-clause-ran
returns-in-Err-TooMuch-clause-ran g c =
    let r = g.R.Runner in
    let l = g.L.LineReader in
    let first = c.args.lines.now in
    let old = c.args.runner.now in
    let few = c.lines.invariant.few in
    let come = handed_on r l first c.lines.lines old c.lines.runner c.hand_on.new.runner g.met.R.Runner.joins c.lines.invariant.come c.in_default.ensures.goes in
    let told = told_as l (l.limits first) c.lines.lines c.advance.new.self c.advance.result (Err error.TooMuch) c.lines.invariant.most (c.in-Err-TooMuch.is ∙ ap Err c.in-Err-TooMuch.field-0-is) c.advance.ensures.known in
    ran_to_beyond r l first c.lines.lines c.advance.new.self old c.hand_on.new.runner c.past-in-Err-TooMuch.new.self c.past-in-Err-TooMuch.result few come told (c.advance.ensures.cause.none (λ e. cc) ∙ c.lines.invariant.reads) c.past-in-Err-TooMuch.ensures
