use Rattle.std.proofs.Common.{rules, ◌≡◌, ◌+◌, true, false, Err, sym, ap, subst, arith, Ok, Result, Bool, ◌∙◌, length, min}
use Rattle.std.specs.Option.{IfSome}
use Rattle.std.proofs.lemmas.List.{length-take}
use Rattle.std.specs.Io.KnownBytes.{prepend_known}
use Rattle.mesh_io.specs.Cutting.{line_in, pending_in, ahead_in, HasNoLf, FindsLine, refusal_by}
use Rattle.mesh_io.specs.declared.line_error.LineError.{LineError}
use Rattle.mesh_io.specs.declared.line_error.LineError.TheVariants as error
use Rattle.mesh_io.proofs.Deciding.{open_is}
use Rattle.mesh_io.proofs.FirstLines.{first_is}
use Rattle.mesh_io.proofs.Following.{decides_line, decides_end, counted_by}
use Rattle.mesh_io.proofs.Ahead.{told_end, told_line, told_long, told_much, at_end, decided_then, Keeps-join}
use Rattle.mesh_io.proofs.Staying.{undecided_end, was_open, stays_none, stays_same}
use Rattle.mesh_io.proofs.cutter.Cutter.advance.Goals as goal

pub read-requires : goal.read-requires
read-requires g c =
    let now = c.reads.self in
    (search rules, open_is now.most now.given now.ended (pending_in now) now.decision now.decided c.in-Open.is)

pub give-requires : goal.give-requires
give-requires g c =
    let now = c.reads.self in
    let line = decides_line now.most now.given now.ended (pending_in now) now.decision c.in-Line.len c.in-Line.size now.decided c.in-Line.is in
    let len = line.len_is in
    let size = line.size_is in
    let within = (first_is (pending_in now)).within in (
      search rules,
      (omega arith, (omega arith, line.few)),
    )

pub returns-in-Line-clause-grows : goal.returns-in-Line-clause-grows
returns-in-Line-clause-grows g c =
    λ e. let now = c.reads.self in
    let line = decides_line now.most now.given now.ended (pending_in now) now.decision c.in-Line.len c.in-Line.size now.decided c.in-Line.is in
    let some = line.some in
    let given = c.give.ensures.given in
    let same = c.reads.invariant.given in
    omega arith

pub returns-in-End-clause-end : goal.returns-in-End-clause-end
returns-in-End-clause-end g c =
    λ e. let now = c.reads.self in
    at_end now.ended (g.S.Source.left (now.source).now) now.at_end (decides_end now.most now.given now.ended (pending_in now) now.decision now.few now.decided c.in-End.is).1

pub returns-then-is_err-clause-unread : goal.returns-then-is_err-clause-unread
returns-then-is_err-clause-unread g c = λ d. absurd (was_open c.args.self.now c.reads.self c.reads.invariant.unread c.in-Open.is d)

pub returns-then-is_err-clause-pending : goal.returns-then-is_err-clause-pending
returns-then-is_err-clause-pending g c =
    λ e. let now = c.reads.self in
    let none = undecided_end now.most now.given now.ended (pending_in now) (open_is now.most now.given now.ended (pending_in now) now.decision now.decided c.in-Open.is) in
    let same : pending_in c.read.new.self ≡ pending_in now = search rules in
    subst HasNoLf (sym same) none

pub returns-in-End-clause-known : goal.returns-in-End-clause-known
returns-in-End-clause-known g c =
    let old = c.args.self.now in
    let now = c.reads.self in
    let kept = c.reads.invariant in
    told_end old.most old.given now.given now.ended (pending_in now) (ahead_in g.S.Source.left old) (g.S.Source.left (now.source).now) now.decision
    old.few (decided_then now.most old.most now.given old.given now.ended (pending_in now) now.decision kept.most kept.given now.decided) now.at_end kept.ahead c.in-End.is kept.given

pub returns-in-End-clause-stays : goal.returns-in-End-clause-stays
returns-in-End-clause-stays g c =
    let old = c.args.self.now in
    let now = c.reads.self in
    stays_none old now (λ r. ◌≡◌ {A = Result Bool LineError} (Ok false) (Err r) × (now ≡ old)) c.reads.invariant.unread (ap refusal_by c.in-End.is)

pub returns-in-Line-clause-known : goal.returns-in-Line-clause-known
returns-in-Line-clause-known g c =
    let old = c.args.self.now in
    let now = c.reads.self in
    let kept = c.reads.invariant in
    let new = c.give.new.self in
    let given : new.given ≡ old.given + c.in-Line.size = c.give.ensures.given ∙ ap (λ n. n + c.in-Line.size) kept.given in
    subst (λ source. IfSome (ahead_in g.S.Source.left old) (λ bytes. FindsLine old.most old.given bytes (line_in new) new.given (prepend_known (pending_in new) (g.S.Source.left source))))
    (ap (λ s. s.now) (sym c.give.ensures.same))
    (told_line old.most old.given new.given now.ended (pending_in now) (line_in new) (pending_in new) (ahead_in g.S.Source.left old) (g.S.Source.left (now.source).now) now.decision
    c.in-Line.len c.in-Line.size old.few (decided_then now.most old.most now.given old.given now.ended (pending_in now) now.decision kept.most kept.given now.decided)
    now.at_end kept.ahead c.in-Line.is given c.give.ensures.line c.give.ensures.pending)

pub returns-in-Line-clause-stays : goal.returns-in-Line-clause-stays
returns-in-Line-clause-stays g c =
    let old = c.args.self.now in
    stays_none old c.reads.self (λ r. ◌≡◌ {A = Result Bool LineError} (Ok true) (Err r) × (c.give.new.self ≡ old)) c.reads.invariant.unread (ap refusal_by c.in-Line.is)

pub returns-in-TooLong-clause-known : goal.returns-in-TooLong-clause-known
returns-in-TooLong-clause-known g c =
    let old = c.args.self.now in
    let now = c.reads.self in
    let kept = c.reads.invariant in
    told_long old.most old.given now.given now.ended (pending_in now) (ahead_in g.S.Source.left old) (g.S.Source.left (now.source).now) now.decision
    old.few (decided_then now.most old.most now.given old.given now.ended (pending_in now) now.decision kept.most kept.given now.decided) now.at_end kept.ahead c.in-TooLong.is kept.given

pub returns-in-TooLong-clause-stays : goal.returns-in-TooLong-clause-stays
returns-in-TooLong-clause-stays g c =
    stays_same c.args.self.now c.reads.self error.TooLong c.reads.invariant.unread (ap refusal_by c.in-TooLong.is)

pub returns-in-TooMuch-clause-known : goal.returns-in-TooMuch-clause-known
returns-in-TooMuch-clause-known g c =
    let old = c.args.self.now in
    let now = c.reads.self in
    let kept = c.reads.invariant in
    told_much old.most old.given now.given now.ended (pending_in now) (ahead_in g.S.Source.left old) (g.S.Source.left (now.source).now) now.decision
    old.few (decided_then now.most old.most now.given old.given now.ended (pending_in now) now.decision kept.most kept.given now.decided) now.at_end kept.ahead c.in-TooMuch.is kept.given

pub returns-in-TooMuch-clause-stays : goal.returns-in-TooMuch-clause-stays
returns-in-TooMuch-clause-stays g c =
    stays_same c.args.self.now c.reads.self error.TooMuch c.reads.invariant.unread (ap refusal_by c.in-TooMuch.is)

pub returns-then-is_err-clause-stays : goal.returns-then-is_err-clause-stays
returns-then-is_err-clause-stays g c =
    let old = c.args.self.now in
    stays_none old c.reads.self (λ r. ◌≡◌ {A = Result Bool LineError} (Err error.ReadFault) (Err r) × (c.read.new.self ≡ old)) c.reads.invariant.unread (ap refusal_by c.in-Open.is)

pub reads-preserved : goal.reads-preserved
reads-preserved g c =
    let old = c.args.self.now in
    let now = c.reads.self in
    let new = c.read.new.self in
    let kept = c.reads.invariant in
    let left = g.S.Source.left in
    let faults : g.S.Source.faults (new.source).now ≡ g.S.Source.faults (now.source).now = search rules in
    record {
      same = c.read.ensures.same ∙ kept.same;
      most = c.read.ensures.most ∙ kept.most;
      given = c.read.ensures.given ∙ kept.given;
      ahead = Keeps-join (ahead_in left old) (ahead_in left now) (ahead_in left new) kept.ahead c.read.ensures.ahead;
      unread = λ d. absurd (was_open old now kept.unread c.in-Open.is d);
      faults = faults ∙ kept.faults;
    }

pub returns-in-Line-clause-short : goal.returns-in-Line-clause-short
returns-in-Line-clause-short g c =
    λ e. let now = c.reads.self in
    let line = decides_line now.most now.given now.ended (pending_in now) now.decision c.in-Line.len c.in-Line.size now.decided c.in-Line.is in
    let short = line.short in
    let most = ap (λ m. m.line) c.reads.invariant.most in
    let len : length (line_in c.give.new.self) ≡ min c.in-Line.len (length (pending_in now)) = ap length c.give.ensures.line ∙ length-take c.in-Line.len (pending_in now) in
    omega arith

pub returns-in-Line-clause-counted : goal.returns-in-Line-clause-counted
returns-in-Line-clause-counted g c =
    λ e. let now = c.reads.self in
    let line = decides_line now.most now.given now.ended (pending_in now) now.decision c.in-Line.len c.in-Line.size now.decided c.in-Line.is in
    counted_by now.most c.args.self.now.given now.given c.give.new.self.given now.ended c.give.new.self.ended (pending_in now) (line_in c.give.new.self) c.in-Line.len c.in-Line.size
    line c.reads.invariant.given c.give.ensures.given c.give.ensures.ended c.give.ensures.line

pub returns-then-is_err-clause-unasked : goal.returns-then-is_err-clause-unasked
returns-then-is_err-clause-unasked g c = λ d. absurd (was_open c.args.self.now c.reads.self c.reads.invariant.unread c.in-Open.is d)
