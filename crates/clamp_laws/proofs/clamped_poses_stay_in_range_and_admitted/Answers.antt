use Rattle.clamp_laws.proofs.Kept.{clamps_keep}
use Rattle.clamp_laws.proofs.clamped_poses_stay_in_range_and_admitted.Goals as goal

pub returns : goal.returns
returns c = clamps_keep
