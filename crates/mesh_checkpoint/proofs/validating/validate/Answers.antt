use Rattle.std.proofs.Common.{◌≡◌, ◌≢◌, ℕ, ◌+◌, List, [], length, take, Some, None, ap, sym, ◌∙◌, rules, arith}
use Rattle.std.specs.Int.{w32}
use Rattle.std.proofs.lemmas.Bool.{eqb-true, eqb-false}
use Rattle.std.proofs.lemmas.List.{nil_from_length}
use Rattle.aodv_wire.proofs.Lines.{are_bytes}
use Rattle.mesh_checkpoint.specs.declared.limits.TheConstants.{LONGEST_BODY}
use Rattle.mesh_checkpoint.specs.Formats.{number_at}
use Rattle.mesh_checkpoint.specs.Checkpoint.{body}
use Rattle.mesh_checkpoint.specs.State.{magic, IsCheckpoint}
use Rattle.mesh_checkpoint.proofs.State.{read_length, has_length, is_checkpoint, no_checkpoint, left_over, balanced_by, sums_of, few_behind}
use Rattle.mesh_checkpoint.proofs.validating.validate.Goals as goal

pub returns-in_default-pass_body : goal.returns-in_default-pass_body
returns-in_default-pass_body c =
    let b = c.args.b.now in
    let rest = c.in-Some.body.now in
    let front : take 4 b ≡ magic = sym c.split_at.ensures.front ∙ c.is_magic.ensures.0 c.if-not-is_magic.false in
    let length-is : read_length b ≡ Some (c.in-Some.stated, rest) = ap (λ (k : List ℕ). number_at w32 0 (LONGEST_BODY + 1) k) (sym c.split_at.ensures.back) ∙ c.in-Some.ensures.value in
    let whole : length rest ≡ c.in-Some.stated = omega arith in
    let none : body.get rest ≡ None = (search rules) in
    (front, has_length b c.in-Some.stated rest length-is whole, no_checkpoint b c.in-Some.stated rest length-is none)

pub returns-then-not-is_empty : goal.returns-then-not-is_empty
returns-then-not-is_empty c =
    let b = c.args.b.now in
    let rest = c.in-Some.body.now in
    let front : take 4 b ≡ magic = sym c.split_at.ensures.front ∙ c.is_magic.ensures.0 c.if-not-is_magic.false in
    let length-is : read_length b ≡ Some (c.in-Some.stated, rest) = ap (λ (k : List ℕ). number_at w32 0 (LONGEST_BODY + 1) k) (sym c.split_at.ensures.back) ∙ c.in-Some.ensures.value in
    let whole : length rest ≡ c.in-Some.stated = omega arith in
    let passed = c.in-Some-pass_body.ensures.body in
    let left = c.in-Some-pass_body.left.now in
    let some : left ≢ [] = λ none. eqb-false (length left) 0 (sym c.if-not-is_empty.ensures) (ap length none) in
    (front, has_length b c.in-Some.stated rest length-is whole, left_over b c.in-Some.stated rest passed.value left length-is passed.read some)

pub returns-then-head-amount : goal.returns-then-head-amount
returns-then-head-amount c =
    let b = c.args.b.now in
    let rest = c.in-Some.body.now in
    let front : take 4 b ≡ magic = sym c.split_at.ensures.front ∙ c.is_magic.ensures.0 c.if-not-is_magic.false in
    let length-is : read_length b ≡ Some (c.in-Some.stated, rest) = ap (λ (k : List ℕ). number_at w32 0 (LONGEST_BODY + 1) k) (sym c.split_at.ensures.back) ∙ c.in-Some.ensures.value in
    let whole : length rest ≡ c.in-Some.stated = omega arith in
    let passed = c.in-Some-pass_body.ensures.body in
    let left = c.in-Some-pass_body.left.now in
    let none : left ≡ [] = nil_from_length left (eqb-true (length left) 0 (sym c.if-not-is_empty.ensures)) in
    let is : IsCheckpoint b passed.value = is_checkpoint b passed.value c.in-Some.stated rest (are_bytes b c.type_inv.b) front length-is whole (passed.read ∙ ap (λ (k : List ℕ). Some (passed.value, k)) none) in
    (passed.value, is, λ balanced. c.if-head-amount.true (sums_of passed.value c.in-Some-pass_body.head c.in-Some-pass_body.amount passed.head_is passed.count balanced))

pub returns : goal.returns
returns c =
    let b = c.args.b.now in
    let rest = c.in-Some.body.now in
    let front : take 4 b ≡ magic = sym c.split_at.ensures.front ∙ c.is_magic.ensures.0 c.if-not-is_magic.false in
    let length-is : read_length b ≡ Some (c.in-Some.stated, rest) = ap (λ (k : List ℕ). number_at w32 0 (LONGEST_BODY + 1) k) (sym c.split_at.ensures.back) ∙ c.in-Some.ensures.value in
    let whole : length rest ≡ c.in-Some.stated = omega arith in
    let passed = c.in-Some-pass_body.ensures.body in
    let left = c.in-Some-pass_body.left.now in
    let none : left ≡ [] = nil_from_length left (eqb-true (length left) 0 (sym c.if-not-is_empty.ensures)) in
    let is : IsCheckpoint b passed.value = is_checkpoint b passed.value c.in-Some.stated rest (are_bytes b c.type_inv.b) front length-is whole (passed.read ∙ ap (λ (k : List ℕ). Some (passed.value, k)) none) in
    record {
      found = passed.value;
      checkpoint = is;
      balanced = balanced_by passed.value c.in-Some-pass_body.head c.in-Some-pass_body.amount passed.head_is passed.count c.if-head-amount.false;
      count = sym passed.count;
      few = few_behind b _ rest c.in-Some-pass_body.amount c.split_at.ensures.back c.in-Some.ensures.shorter passed.few;
    }
