-- What a command leaves on the estimator's desk. Assumes nothing.
use Rattle.std.specs.Prelude.{min, List, [], ◌∷◌, ◌++◌, length, take}
use Rattle.geometry.specs.declared.vector.Vector.{Vector}
use Rattle.geometry.specs.declared.aabb.Aabb.{Aabb}
use Rattle.geometry.specs.declared.shape_kind.ShapeKind.{ShapeKind}
use Rattle.hosts.specs.declared.questions.Child.{Child}
use Rattle.slide.specs.declared.shapes.Shape.{Shape}
use Rattle.slide.specs.declared.shapes.Shape.TheVariants.{Cuboid, Group}
use Rattle.recorded.specs.declared.rows.Listed.{Listed}
use Rattle.recorded.specs.declared.rows.Row.{Row}
use Rattle.script.specs.declared.command.Children.{Children}
use Rattle.script.specs.declared.command.HostChoice.{HostChoice}
use Rattle.script.specs.declared.command.HostChoice.TheVariants.{Slide}
use Rattle.desk.specs.Contents.{Contents}

abbrev pub empty_desk : Contents
empty_desk = record { host = Slide; shapes = []; listed = []; children = []; rows = [] }

abbrev pub hosted : Contents → HostChoice → Contents
hosted c h = record c { host = h }

abbrev pub shape_added : Contents → Shape → Contents
shape_added c s = record c { shapes = c.shapes ++ s ∷ [] }

abbrev pub listed_added : Contents → Listed → Contents
listed_added c s = record c { listed = c.listed ++ s ∷ [] }

-- what is named of a Compound's children, of which there is room for 16
abbrev pub named : Children → List Child
named k = take (min k.count 16) k.list

-- the children follow those that are there
abbrev pub children_kept : Contents → Children → Contents
children_kept c k = record c { children = c.children ++ named k }

abbrev pub box_listed : Contents → Vector → Contents
box_listed c v = shape_added c (Cuboid v)

-- a Compound names its part of the list of children
abbrev pub compound_listed : Contents → Children → Contents
compound_listed c k = shape_added (children_kept c k) (Group (length c.children) k.count)

abbrev pub shape_listed : Contents → ShapeKind → Aabb → Children → Contents
shape_listed c t b k = listed_added (children_kept c k) (record { kind = t; aabb = b; first = length c.children; count = k.count })

abbrev pub row_listed : Contents → Row → Contents
row_listed c r = record c { rows = c.rows ++ r ∷ [] }
