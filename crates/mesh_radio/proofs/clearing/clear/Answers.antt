use Rattle.std.proofs.Common.{ℕ, ap, sym, subst, arith}
use Rattle.indexmap.specs.IndexMap.{IndexMap, spare}
use Rattle.mesh_radio.specs.Casts.{AreGone, IsTidied}
use Rattle.mesh_radio.specs.declared.casts.Cast.{Cast}
use Rattle.mesh_radio.proofs.Sweeps.{swept, gone-none, packet-tidied, gone-without-packet, tidied-then}
use Rattle.mesh_radio.proofs.clearing.clear.Goals as goal

pub returns-then-done-lt-LYING-clause-tidied : goal.returns-then-done-lt-LYING-clause-tidied
returns-then-done-lt-LYING-clause-tidied c =
    let done = c.if-not-is_done.ensures in
    let map = c.drop_packet.ensures done.0 done.1 in
    let now = ap (λ (m : IndexMap ℕ Cast _). m.entries) map in
    subst (IsTidied c.args.casts.now.entries) (sym now) (packet-tidied c.args.index c.args.casts.now.entries done.0 done.1 done.2)

pub returns-then-done-lt-LYING-clause-gone : goal.returns-then-done-lt-LYING-clause-gone
returns-then-done-lt-LYING-clause-gone c =
    let done = c.if-not-is_done.ensures in
    let map = c.drop_packet.ensures done.0 done.1 in
    let now = ap (λ (m : IndexMap ℕ Cast _). m.entries) map in
    let rising = c.requires.rising in
    subst (λ es. AreGone es c.args.gone) (sym now)
    (gone-without-packet c.args.casts.now.entries rising.0 c.args.index c.args.gone done.0 rising.1 done.1 done.2 c.requires.gone)

pub returns-then-done-lt-LYING-clause-spare : goal.returns-then-done-lt-LYING-clause-spare
returns-then-done-lt-LYING-clause-spare c =
    let done = c.if-not-is_done.ensures in
    let map = c.drop_packet.ensures done.0 done.1 in
    omega (arith, ap spare map)

pub returns-clause-tidied : goal.returns-clause-tidied
returns-clause-tidied c =
    let done = c.if-not-is_done.ensures in
    let map = c.drop_packet.ensures done.0 done.1 in
    let now = ap (λ (m : IndexMap ℕ Cast _). m.entries) map in
    let es = c.args.casts.now.entries in
    let before = c.drop_packet.new.casts.entries in
    tidied-then es before c.sweep.new.casts.entries
    (subst (IsTidied es) (sym now) (packet-tidied c.args.index es done.0 done.1 done.2))
    (swept before c.sweep.new.casts.entries c.sweep.ensures.entries)

pub returns-clause-gone : goal.returns-clause-gone
returns-clause-gone c = gone-none c.sweep.new.casts.entries

pub returns-clause-spare : goal.returns-clause-spare
returns-clause-spare c =
    let done = c.if-not-is_done.ensures in
    let map = c.drop_packet.ensures done.0 done.1 in
    omega (arith, ap spare map, c.sweep.ensures.spare)
