use Rattle.std.proofs.Common.{◌≡◌, true, refl, subst}
use Rattle.mesh_io.specs.NextLines.{limits_of}
use Rattle.mesh_io.specs.Decisions.{decides}
use Rattle.mesh_io.specs.Cutting.{given_in, has_ended_in, pending_in, decides_in}
use Rattle.mesh_io.proofs.Lending.{told_refused}
use Rattle.mesh_io.proofs.Readers.{cutter_stays}
use Rattle.mesh_io.proofs.lines.LinesWithin.next.Goals as goal

pub returns-in-Err : goal.returns-in-Err
returns-in-Err g c =
    let s = c.in-Err.ensures in
    let cutter = c.args.self.now.cutter in
    let decided : decides_in cutter ≡ true → decides (limits_of g.row.LINE g.row.INPUT) (given_in cutter) (has_ended_in cutter) (pending_in cutter) ≡ true =
    λ h. subst (λ m. decides m (given_in cutter) (has_ended_in cutter) (pending_in cutter) ≡ true) c.args.self.now.most h in (
      (
        refl,
        (λ _. tt),
        record {
          same = c.advance.ensures.same;
          limits = c.advance.new.self.most;
          known = told_refused _ _ _ _ _ _ _ s.known;
          unread = λ h. c.advance.ensures.unread (decided h);
          stays = cutter_stays c.args.self.now c.advance.new.self _ _ s.stays;
          kept = s.kept;
          unasked = λ h. s.unasked (decided h);
          short = λ e. absurd cc;
          counted = λ e. absurd cc;
          grows = λ e. absurd cc;
          few = c.advance.ensures.few;
          end = λ e. absurd cc;
          pending = s.pending;
          cause = s.cause;
        },
      ),
      record { after = tt },
    )
