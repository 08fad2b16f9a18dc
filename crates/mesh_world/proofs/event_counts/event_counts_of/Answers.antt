use Rattle.std.proofs.Common.{ap, ◌∙◌}
use Rattle.mesh_model.specs.Accounts.{any, doubled_at, dropped_data}
use Rattle.mesh_meaning.specs.Answers.{outcome_in}
use Rattle.mesh_world.specs.Steps.{is_idle}
use Rattle.mesh_world.proofs.Gains.{gives_none, delivers_none}
use Rattle.mesh_world.proofs.event_counts.event_counts_of.Goals as goal

pub returns-in-Taken : goal.returns-in-Taken
returns-in-Taken c = λ mesh x old new packet e all is.
    let here = is ∙ ap (λ d. outcome_in mesh x new d packet) c.in-Taken.is in
    record {
      idle = ap is_idle here;
      given = gives_none old new e _ tt here;
      delivered = c.delivers.ensures mesh x old new packet e all is;
      dropped = ap (dropped_data any e) is ∙ c.drops.ensures mesh x new packet e all;
      doubled = ap doubled_at here;
    }

pub returns-in-Sent : goal.returns-in-Sent
returns-in-Sent c = λ mesh x old new packet e all is.
    let here = is ∙ ap (λ d. outcome_in mesh x new d packet) c.in-Sent.is in
    record {
      idle = ap is_idle here;
      given = gives_none old new e _ tt here;
      delivered = delivers_none old new e _ tt here;
      dropped = ap (dropped_data any e) here;
      doubled = ap doubled_at here;
    }

pub returns-in-Heard : goal.returns-in-Heard
returns-in-Heard c = λ mesh x old new packet e all is.
    let here = is ∙ ap (λ d. outcome_in mesh x new d packet) c.in-Heard.is in
    record {
      idle = ap is_idle here;
      given = gives_none old new e _ tt here;
      delivered = delivers_none old new e _ tt here;
      dropped = ap (dropped_data any e) here;
      doubled = ap doubled_at here;
    }

pub returns-in-Lost : goal.returns-in-Lost
returns-in-Lost c = λ mesh x old new packet e all is.
    let here = is ∙ ap (λ d. outcome_in mesh x new d packet) c.in-Lost.is in
    record {
      idle = ap is_idle here;
      given = gives_none old new e _ tt here;
      delivered = delivers_none old new e _ tt here;
      dropped = ap (dropped_data any e) is ∙ c.drops-in-Lost.ensures mesh x new packet e all;
      doubled = ap doubled_at here;
    }

pub returns-in-Doubled : goal.returns-in-Doubled
returns-in-Doubled c = λ mesh x old new packet e all is.
    let here = is ∙ ap (λ d. outcome_in mesh x new d packet) c.in-Doubled.is in
    record {
      idle = ap is_idle here;
      given = gives_none old new e _ tt here;
      delivered = delivers_none old new e _ tt here;
      dropped = ap (dropped_data any e) here;
      doubled = ap doubled_at here;
    }
