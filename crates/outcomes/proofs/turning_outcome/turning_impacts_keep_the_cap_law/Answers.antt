use Rattle.outcomes.proofs.Turns.{turns_under_caps}
use Rattle.outcomes.proofs.turning_outcome.turning_impacts_keep_the_cap_law.Goals as goal

pub returns : goal.returns
returns c = turns_under_caps
