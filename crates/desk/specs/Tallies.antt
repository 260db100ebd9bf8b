-- What a run came to. Assumes nothing.
use Rattle.std.specs.Prelude.{ℕ, ◌+◌, ◌-◌, ◌^◌, min, Ok, Err}
use Rattle.desk.specs.declared.answers.Answer.{Answer}
use Rattle.desk.specs.declared.answers.Answer.TheVariants.{Silent, Hall, Unread, Cast}
use Rattle.desk.specs.declared.tally.Tally.{Tally}

abbrev pub empty_tally : Tally
empty_tally = record { halls = 0; granted = 0; refused = 0; unread = 0 }

-- one more, up to the last number
abbrev pub more : ℕ → ℕ
more n = min (n + 1) (2 ^ 64 - 1)

abbrev pub counted : Tally → Answer → Tally
counted t Silent = t
counted t Hall = record t { halls = more t.halls }
counted t (Unread e) = record t { unread = more t.unread }
counted t (Cast p (Ok r)) = record t { granted = more t.granted }
counted t (Cast p (Err e)) = record t { refused = more t.refused }
