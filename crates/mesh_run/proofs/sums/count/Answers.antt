use Rattle.std.proofs.Common.{◌+◌, ◌∙◌, ap, refl, subst}
use Rattle.mesh_meaning.specs.Events.{event_of}
use Rattle.mesh_world.specs.CountsOfEvents.{count_of, AreEventCounts}
use Rattle.mesh_report.specs.Sums.{sums_of}
use Rattle.mesh_run.proofs.Counts.{byte_is, no_more, tallied}
use Rattle.mesh_run.proofs.sums.count.Goals as goal

pub returns-in-Idle-clause-counted : goal.returns-in-Idle-clause-counted
returns-in-Idle-clause-counted c = λ o is.
    let e = event_of c.args.e.now in
    let s = c.args.sums.now in
    tallied (sums_of s) e o _ _ _ _ _ _ (subst (AreEventCounts e o) c.in-Idle.is is) (refl) (no_more s.given _ refl)
    (no_more s.delivered _ refl) (no_more s.lost _ refl) (no_more s.copied _ refl)

pub returns-in-Changed-clause-counted : goal.returns-in-Changed-clause-counted
returns-in-Changed-clause-counted c = λ o is.
    let e = event_of c.args.e.now in
    let s = c.args.sums.now in
    tallied (sums_of s) e o _ _ _ _ _ _ (subst (AreEventCounts e o) c.in-Changed.is is) (no_more s.idle _ refl) (ap (λ n. s.given + n) (byte_is c.is_give.result _ c.from.ensures ∙ ap count_of c.is_give.ensures))
    (no_more s.delivered _ refl) (no_more s.lost _ refl) (no_more s.copied _ refl)

pub returns-in-Taken-clause-counted : goal.returns-in-Taken-clause-counted
returns-in-Taken-clause-counted c = λ o is.
    let e = event_of c.args.e.now in
    let s = c.args.sums.now in
    tallied (sums_of s) e o _ _ _ _ _ _ (subst (AreEventCounts e o) c.in-Taken.is is) (no_more s.idle _ refl) (no_more s.given _ refl)
    (ap (λ n. s.delivered + n) (byte_is c.in-Taken.delivered _ c.from-in-Taken.ensures)) (ap (λ n. s.lost + n) (byte_is c.in-Taken.dropped _ c.from-in-Taken-2.ensures)) (no_more s.copied _ refl)

pub returns-in-Lost-clause-counted : goal.returns-in-Lost-clause-counted
returns-in-Lost-clause-counted c = λ o is.
    let e = event_of c.args.e.now in
    let s = c.args.sums.now in
    tallied (sums_of s) e o _ _ _ _ _ _ (subst (AreEventCounts e o) c.in-Lost.is is) (no_more s.idle _ refl) (no_more s.given _ refl)
    (no_more s.delivered _ refl) (ap (λ n. s.lost + n) (byte_is c.in-Lost.parcel _ c.from-in-Lost.ensures)) (no_more s.copied _ refl)

pub returns-in-Doubled-clause-counted : goal.returns-in-Doubled-clause-counted
returns-in-Doubled-clause-counted c = λ o is.
    let e = event_of c.args.e.now in
    let s = c.args.sums.now in
    tallied (sums_of s) e o _ _ _ _ _ _ (subst (AreEventCounts e o) c.in-Doubled.is is) (no_more s.idle _ refl) (no_more s.given _ refl)
    (no_more s.delivered _ refl) (no_more s.lost _ refl) (ap (λ n. s.copied + n) (byte_is c.in-Doubled.parcel _ c.from-in-Doubled.ensures))

pub returns-in-Moved-clause-counted : goal.returns-in-Moved-clause-counted
returns-in-Moved-clause-counted c = λ o is.
    let e = event_of c.args.e.now in
    let s = c.args.sums.now in
    tallied (sums_of s) e o _ _ _ _ _ _ (subst (AreEventCounts e o) c.in-Moved.is is) (no_more s.idle _ refl) (no_more s.given _ refl)
    (no_more s.delivered _ refl) (no_more s.lost _ refl) (no_more s.copied _ refl)
