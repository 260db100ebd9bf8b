use Rattle.finders.proofs.Settings.{setting_laws}
use Rattle.finders.proofs.laws.what_was_set_is_held.Goals as goal

pub returns : goal.returns
returns c = setting_laws
