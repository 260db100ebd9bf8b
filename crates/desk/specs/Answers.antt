-- What each command is answered, and what it leaves on the desk. Assumes nothing.
use Rattle.std.specs.Prelude.{Ok, Err, Result}
use Rattle.casts.specs.declared.flight.Flight.{Flight}
use Rattle.casts.specs.declared.refusal.CastRefusal.{CastRefusal}
use Rattle.casts.specs.declared.report.Report.{Report}
use Rattle.casts.specs.Singles.{flown}
use Rattle.hosts.specs.Hosts as Hosts
use Rattle.slide.specs.Slides.{slide_answers}
use Rattle.recorded.specs.Records.{recorded_answers}
use Rattle.script.specs.declared.command.HostChoice.{HostChoice}
use Rattle.script.specs.declared.command.HostChoice.TheVariants.{Slide, Recorded}
use Rattle.script.specs.declared.command.Command as Commands
use Rattle.script.specs.declared.command.Command.{Command}
use Rattle.texts.specs.declared.trouble.Trouble.{Trouble}
use Rattle.desk.specs.declared.answers.Answer.{Answer}
use Rattle.desk.specs.declared.answers.Answer.TheVariants.{Silent, Hall, Unread, Cast}
use Rattle.desk.specs.Contents.{Contents}
use Rattle.desk.specs.Desks.{empty_desk, hosted, box_listed, compound_listed, shape_listed, row_listed}

-- the geometry of a hall: what is listed, as the host that was chosen answers it
abbrev pub geometry_of : HostChoice → Contents → Hosts.Answers
geometry_of Slide c = slide_answers c.shapes c.children
geometry_of Recorded c = recorded_answers c.listed c.children c.rows

abbrev pub cast_on : Contents → Flight → Result Report CastRefusal
cast_on c f = flown (geometry_of c.host c) f

-- what lies on the desk after a command, and its answer; only a hall, a host and a listing change what lies there
abbrev pub obeyed : Contents → Command → Contents × Answer
obeyed c Commands.TheVariants.Blank = (c, Silent)
obeyed c Commands.TheVariants.Hall = (empty_desk, Hall)
obeyed c (Commands.TheVariants.Host h) = (hosted c h, Silent)
obeyed c (Commands.TheVariants.Cuboid v) = (box_listed c v, Silent)
obeyed c (Commands.TheVariants.Compound k) = (compound_listed c k, Silent)
obeyed c (Commands.TheVariants.Listed t b k) = (shape_listed c t b k, Silent)
obeyed c (Commands.TheVariants.Row r) = (row_listed c r, Silent)
obeyed c (Commands.TheVariants.Cast f) = (c, Cast f.pair (cast_on c f))

-- a line that cannot be read changes nothing
abbrev pub answered : Contents → Result Command Trouble → Contents × Answer
answered c (Ok k) = obeyed c k
answered c (Err t) = (c, Unread t)
