use Rattle.std.proofs.Common.{◌≡◌, ◌+◌, length, sym, ap, rules, ◌∙◌}
use Rattle.mesh_io.proofs.FirstLines.{ends_at, ends_nowhere}
use Rattle.mesh_io.proofs.Deciding.{longest_of, decision_long, decision_line, decision_much_at, decision_much, decision_open, undecided, decision_end, decision_last}
use Rattle.mesh_io.specs.declared.decision.Decision.TheVariants as decision
use Rattle.mesh_io.proofs.decision.decision_at.Goals as goal

pub returns-then-len-most : goal.returns-then-len-most
returns-then-len-most c =
    c.past.ensures
    ∙ decision_long c.args.most c.args.given c.args.ended c.args.bytes.now c.requires
    (longest_of c.args.most c.args.bytes.now c.memchr-end.result c.unwrap_or-len.result c.memchr-end.ensures c.unwrap_or-len.ensures c.if-len-most.true)

pub returns-in-Some : goal.returns-in-Some
returns-in-Some c =
    let n = c.in-Some.field-0 in
    let found = c.in-Some.ensures in
    let len : c.unwrap_or-len.result ≡ n = search rules in
    let first = ends_at c.args.bytes.now n found.0.high found.0.before found.1 in
    ap (λ k. decision.Line k (k + 1)) len
    ∙ sym (decision_line c.args.most c.args.given c.args.ended c.args.bytes.now n first found.0.high (search rules) (search rules))

pub returns-in-Some-2 : goal.returns-in-Some-2
returns-in-Some-2 c =
    let n = c.in-Some.field-0 in
    let found = c.in-Some.ensures in
    let len : c.unwrap_or-len.result ≡ n = search rules in
    let first = ends_at c.args.bytes.now n found.0.high found.0.before found.1 in
    sym (decision_much_at c.args.most c.args.given c.args.ended c.args.bytes.now n first found.0.high (search rules) (search rules))

pub returns-in-None : goal.returns-in-None
returns-in-None c =
    let none = ends_nowhere c.args.bytes.now c.in-None.ensures in
    sym (decision_much c.args.most c.args.given c.args.ended c.args.bytes.now none c.requires (search rules) (search rules))

pub returns-in-None-2 : goal.returns-in-None-2
returns-in-None-2 c =
    let none = ends_nowhere c.args.bytes.now c.in-None.ensures in
    sym (decision_open c.args.most c.args.given c.args.ended c.args.bytes.now
    (undecided c.args.most c.args.given c.args.ended c.args.bytes.now (search rules) none (search rules) (search rules)))

pub returns-in-None-3 : goal.returns-in-None-3
returns-in-None-3 c = sym (decision_end c.args.most c.args.given c.args.ended c.args.bytes.now (search rules) (search rules))

pub returns-in-None-4 : goal.returns-in-None-4
returns-in-None-4 c =
    let none = ends_nowhere c.args.bytes.now c.in-None.ensures in
    let len : c.unwrap_or-len.result ≡ length c.args.bytes.now = search rules in
    ap (λ k. decision.Line k k) len
    ∙ sym (decision_last c.args.most c.args.given c.args.ended c.args.bytes.now none (search rules) (search rules) (search rules) (search rules))
