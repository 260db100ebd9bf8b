-- Handles. Assumes nothing.
use Rattle.std.specs.Prelude.{Bool, ◌&&◌, ◌==◌}
use Rattle.geometry.specs.declared.handle.Handle.{Handle}

abbrev pub same : Handle → Handle → Bool
same a b = a.slot == b.slot && a.generation == b.generation
