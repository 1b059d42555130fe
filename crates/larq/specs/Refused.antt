-- The number of each refusal of the receiver, and its words. Document 01, 'Numbers the box may answer with'.
use Rattle.std.specs.Prelude.{ℕ, List, codes}
use Rattle.larq.specs.declared.refused.Refused.{Refused}
use Rattle.larq.specs.declared.refused.Refused.TheVariants.{Lent, Number, Priority, Unknown, Full, Broken, Earlier, Far}

abbrev pub number_of : Refused → ℕ
number_of Lent = 1
number_of Number = 2
number_of Priority = 3
number_of Unknown = 4
number_of Full = 5
number_of Broken = 6
number_of Earlier = 7
number_of Far = 8

-- the words by which a help desk knows it
abbrev pub words_of : Refused → List ℕ
words_of Lent = codes "a buffer or a slice of the table has the wrong length"
words_of Number = codes "the sequence number is above 4,095"
words_of Priority = codes "the priority is above 7"
words_of Unknown = codes "no such channel is open"
words_of Full = codes "no place is free for a new channel"
words_of Broken = codes "the channel's record is broken"
words_of Earlier = codes "the time is earlier than the channel's latest"
words_of Far = codes "the reminder's number is more than 64 from the current one"
