use Rattle.strokes.proofs.CapLaws as caps
use Rattle.strokes.proofs.Meetings.{meeting_met}
use Rattle.strokes.proofs.casts_by_meetings_keep_the_cap_law.Goals as goal

pub returns : goal.returns
returns c = record {
  timely = meeting_met;
  proxy_solid = caps.proxy_solid_law;
  proxy_pseudo = caps.proxy_pseudo_law;
  proxy_clean = caps.proxy_clean_law;
  composite_solid = caps.composite_solid_law;
  composite_pseudo = caps.composite_pseudo_law;
  composite_clean = caps.composite_clean_law;
}
