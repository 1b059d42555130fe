-- What a host's structs tell.
use Rattle.place.specs.Call.{Told}
use Rattle.table_calls.specs.Look.{Seen}
use Rattle.pik_channel.specs.declared.answers.Answer.{Answer}
use Rattle.pik_channel.specs.declared.views.View.{View}

abbrev pub told_of : Answer → Told
told_of a = record { number = a.number; up = a.up; returned = a.returned; nack = a.nack; lost = a.lost }

abbrev pub seen_of : View → Seen
seen_of v = record { number = v.number; current = v.current; oldest = v.oldest; latest = v.latest; span = v.span }
