-- What the references of a solve stand for. Assumes nothing.
use Rattle.std.specs.Prelude.{ℕ, unwrap_or}
use Rattle.std.specs.Option.{option_map}
use Rattle.hosts.specs.declared.host.Host.{Ghosts as Hosting}
use Rattle.finders.specs.declared.finder.Finder.{Ghosts as Finding}
use Rattle.finders.specs.declared.filter.Filter.{Ghosts as Filtering}
use Rattle.finders.specs.Finders.{Listing}
use Rattle.ccd_solver.specs.declared.scene.Scene.{Scene}
use Rattle.ccd_solver.specs.Stages.{Setting, setting}

-- a scene, with room for some candidates
abbrev pub setting_of : {H L D F : Type 0} → Hosting H → Filtering F → Scene H L D F → ℕ → Setting
setting_of H F s room = setting (H.answers s.host.now) (F.keeps s.filter.now) s.colliders.now s.step room

-- the reports of the list of the colliders at rest or, where that is not whole, of the full finder
abbrev pub near_of : {H L D F : Type 0} → Finding L → Finding D → Scene H L D F → Listing
near_of L D s = unwrap_or (option_map (λ l. L.listed l.now) s.fixed) (D.listed s.finder.now)
