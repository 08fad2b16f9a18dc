use Rattle.std.proofs.Common.{refl, sym, ◌∙◌}
use Rattle.std.proofs.lemmas.Bool.{false≢true}
use Rattle.mesh_base.specs.Views.{flying_seen}
use Rattle.mesh_sound.specs.Claims.{Holds, IsReadable}
use Rattle.mesh_sound.proofs.Items.{copies_begin, copy_at, copies_go_on, copies_end}
use Rattle.mesh_sound.proofs.packets.holds_of_copies.Goals as goal

pub loop-copy-init : goal.loop-copy-init
loop-copy-init c = copies_begin (λ f. Holds c.args.claim c.args.mesh.now c.args.nodes.now f.from f.bytes) c.args.radio.now.flying

pub holds-requires-clause-readable : goal.holds-requires-clause-readable
holds-requires-clause-readable c =
    copy_at (λ f. IsReadable c.args.claim c.args.mesh.now f.from f.bytes) c.args.radio.now.flying c.loop-copy.start (flying_seen c.in-Some.copy) c.requires.readable c.in-Some.ensures.some

pub returns-then-not-holds : goal.returns-then-not-holds
returns-then-not-holds c = (
  λ t. absurd (false≢true t),
  λ all. absurd (false≢true (sym c.if-not-holds.true
      ∙ c.holds.ensures.1 (copy_at (λ f. Holds c.args.claim c.args.mesh.now c.args.nodes.now f.from f.bytes) c.args.radio.now.flying c.loop-copy.start (flying_seen c.in-Some.copy) all c.in-Some.ensures.some))),
)

pub loop-copy-preserved : goal.loop-copy-preserved
loop-copy-preserved c =
    copies_go_on (λ f. Holds c.args.claim c.args.mesh.now c.args.nodes.now f.from f.bytes) c.args.radio.now.flying c.loop-copy.start (flying_seen c.in-Some.copy) c.in-Some.ensures.some
    (c.holds.ensures.0 c.if-not-holds.false) c.loop-copy.invariant

pub returns : goal.returns
returns c = (
  λ _. copies_end (λ f. Holds c.args.claim c.args.mesh.now c.args.nodes.now f.from f.bytes) c.args.radio.now.flying c.loop-copy.start c.in_default.ensures.none c.loop-copy.invariant,
  λ _. refl,
)
