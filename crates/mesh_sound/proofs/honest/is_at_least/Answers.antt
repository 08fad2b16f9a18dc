use Rattle.std.proofs.Common.{refl, inl, inr}
use Rattle.std.proofs.lemmas.Bool.{leb-true, le-leb}
use Rattle.mesh_sound.proofs.Tables.{least_hops}
use Rattle.mesh_sound.proofs.honest.is_at_least.Goals as goal

pub returns-then-n-entry : goal.returns-then-n-entry
returns-then-n-entry c = (λ _. inl c.if-n-entry.true, λ _. refl)

pub returns-then-entry-n : goal.returns-then-entry-n
returns-then-entry-n c = (
  λ t. inr (c.if-entry-n.true, c.in-Val.is, leb-true c.args.entry.now.hops c.args.h t),
  λ least. le-leb c.args.entry.now.hops c.args.h (least_hops c.args.entry.now c.args.n c.args.h c.if-n-entry.false least),
)
