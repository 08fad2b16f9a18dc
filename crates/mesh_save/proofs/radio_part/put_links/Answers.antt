use Rattle.std.proofs.Common.{◌≡◌, ◌<◌, ℕ, true, arith}
use Rattle.std.specs.FinSet as sets
use Rattle.mesh_save.specs.Bytes.{link_bytes}
use Rattle.mesh_save.specs.Links.{link_of}
use Rattle.mesh_save.proofs.Puts.{row, no_rows, all_mapped_rows}
use Rattle.mesh_save.proofs.radio_part.put_links.Goals as goal

pub loop-a-init : goal.loop-a-init
loop-a-init g c = no_rows g.P.Encoder.wrote (λ p. link_bytes (link_of c.args.radio.now.links p)) c.args.radio.now.ever _ (g.met.P.Encoder.nothing _)

pub loop-a-preserved : goal.loop-a-preserved
loop-a-preserved g c =
    let ever = c.args.radio.now.ever in
    let are = (c.count-count.ensures.linked).earlier in
    let each : (q : ℕ) → sets.contains ever (c.loop-a.a, q) ≡ true → q < c.args.nodes = λ q is. let lt = (are (c.loop-a.a, q) is).1 in omega (arith, lt, c.requires.size) in
    row g.P.Encoder.wrote g.met.P.Encoder.joins (λ p. link_bytes (link_of c.args.radio.now.links p)) ever c.loop-a.a c.args.nodes _ _ _ each c.loop-a.invariant c.put_links_of.ensures

pub returns : goal.returns
returns g c =
    let ever = c.args.radio.now.ever in
    let links = c.args.radio.now.links in
    let are = (c.count-count.ensures.linked).earlier in
    let each : (a b : ℕ) → sets.contains ever (a, b) ≡ true → a < c.loop-a.a = λ a b is. let h = are (a, b) is in omega (arith, h.0, h.1, c.requires.size, c.loop-a-test.false) in
    rw (← c.count_links.ensures) (g.met.P.Encoder.joins _ _ _ _ _ c.put16.ensures (all_mapped_rows g.P.Encoder.wrote link_bytes (link_of links) ever c.loop-a.a _ _ each c.loop-a.invariant))
