-- The first impact of a step. Assumes nothing.
use Rattle.std.specs.Prelude.{ℕ, cond, ◌&&◌, List, [], fold, Some, None, Option, Float}
use Rattle.std.specs.Float.Ieee.{lt, mul, neg}
use Rattle.std.specs.Float.{next_up, binary32}
use Rattle.numbers.specs.Constants.{zero_f, one_f}
use Rattle.numbers.specs.Picks.{lesser_of}
use Rattle.geometry.specs.declared.handle.RigidBodyHandle.{RigidBodyHandle}
use Rattle.spaces.specs.Spaces.{nothing_in}
use Rattle.slots.specs.Store.{found}
use Rattle.records.specs.declared.rigid_body.RigidBody.{RigidBody}
use Rattle.records.specs.Lists.{listed}
use Rattle.sweeps.specs.declared.hall.PseudoHitMode.TheVariants.{Ignore}
use Rattle.sweeps.specs.Env.{Env}
use Rattle.sweeps.specs.Sweeps.{body_swept}

-- how far a body comes, where pseudo pairs have no part
abbrev pub free_fraction : Env → ℕ → RigidBodyHandle → RigidBody → Float
free_fraction e room h b = (body_swept e room Ignore h b (nothing_in [], one_f) (listed b.colliders)).1

abbrev pub soonered_by : Env → ℕ → RigidBodyHandle → Float → Option RigidBody → Float
soonered_by e room h least None = least
soonered_by e room h least (Some b) = cond b.marked (lesser_of least (free_fraction e room h b)) least

-- the least fraction of the marked bodies of a list
abbrev pub least_fraction : Env → ℕ → Float → List RigidBodyHandle → Float
least_fraction e room least hs = fold (λ f h. soonered_by e room h f (found e.bodies h.0)) least hs

-- the largest number below x
abbrev pub previous : Float → Float
previous x = neg (next_up binary32 (neg x))

-- a time below dt: the product, or what comes just before dt where rounding takes the product up to it
abbrev pub below_dt : Float → Float → Float
below_dt t dt = cond (lt t dt) t (previous dt)

-- the time of an impact at a fraction, from 0 and below dt; none where nothing is met or no time passes
abbrev pub time_at : Float → Float → Option Float
time_at f dt = cond (lt f one_f && lt zero_f dt) (Some (below_dt (mul binary32 f dt) dt)) None

abbrev pub first_impact : Env → ℕ → List RigidBodyHandle → Option Float
first_impact e room hs = time_at (least_fraction e room one_f hs) e.step.dt
