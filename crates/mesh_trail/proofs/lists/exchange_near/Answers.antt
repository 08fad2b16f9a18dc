use Rattle.std.proofs.Common.{◌≡◌, sym, rules}
use Rattle.mesh_trail.specs.Lists.{put_if}
use Rattle.mesh_trail.proofs.Known.{put_off, put_there}
use Rattle.mesh_trail.proofs.lists.exchange_near.Goals as goal
use Rattle.mesh_trail.proofs.lists.exchange_near.Goals.{else-lesson-via-then-lesson+else-not-hand, else-lesson-via-else-lesson}

pub returns-else-lesson-clause-rows : goal.returns-else-lesson-clause-rows
returns-else-lesson-clause-rows c =
    let l = c.args.lesson in
    let rows = c.args.rows.now.items in
    let near = c.args.hand.now.near in
    elim c.else-lesson.branch as (λ _. rows ≡ put_if l.near l.from near rows) [
      | else-lesson-via-then-lesson+else-not-hand w ↦ sym (put_there l.near l.from near rows c.requires.from (c.requires.known (search rules)))
      | else-lesson-via-else-lesson w ↦ sym (put_off l.near l.from near rows (search rules))
    ]
