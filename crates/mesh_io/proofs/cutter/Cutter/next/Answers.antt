use Rattle.std.proofs.Common.{refl, subst, ◌≤◌}
use Rattle.mesh_io.specs.Cutting.{given_in}
use Rattle.mesh_io.proofs.Lending.{told_refused}
use Rattle.mesh_io.proofs.cutter.Cutter.next.Goals as goal

pub returns-in-Err : goal.returns-in-Err
returns-in-Err g c =
    let s = c.in-Err.ensures in (
      (
        refl,
        (λ _. tt),
        record {
          same = c.advance.ensures.same;
          limits = c.advance.ensures.most;
          known = told_refused _ _ _ _ _ _ _ s.known;
          unread = c.advance.ensures.unread;
          stays = s.stays;
          kept = s.kept;
          unasked = s.unasked;
          short = λ e. absurd cc;
          counted = λ e. absurd cc;
          grows = λ e. absurd cc;
          few = subst (λ m. given_in c.advance.new.self ≤ m.input) c.advance.ensures.most c.advance.ensures.few;
          end = λ e. absurd cc;
          pending = s.pending;
          cause = s.cause;
        },
      ),
      record { after = tt },
    )
