-- The definitions' sums of a run for the code's.
use Rattle.mesh_text.specs.Schedule as model
use Rattle.mesh_report.specs.declared.sums.Sums.{Sums}
use Rattle.mesh_report.specs.declared.ends.Summary.{Summary}

abbrev pub sums_of : Sums → model.Sums
sums_of s = record {
  events = s.events;
  idle = s.idle;
  given = s.given;
  delivered = s.delivered;
  lost = s.lost;
  copied = s.copied;
}

-- the sums in a summary
abbrev pub sums_in : Summary → model.Sums
sums_in s = record {
  events = s.events;
  idle = s.idle;
  given = s.given;
  delivered = s.delivered;
  lost = s.lost;
  copied = s.copied;
}
