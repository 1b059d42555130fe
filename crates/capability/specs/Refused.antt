-- The number of the refusal of a received frame. Document 01, 'Numbers the box may answer with'.
use Rattle.std.specs.Prelude.{ℕ, List, codes}
use Rattle.capability.specs.declared.refused.Refused.{Refused}
use Rattle.capability.specs.declared.refused.Refused.TheVariants.{Opcode}

abbrev pub number_of : Refused → ℕ
number_of Opcode = 30

-- the words by which a help desk knows it
abbrev pub words_of : Refused → List ℕ
words_of Opcode = codes "the opcode of the capability frame is above 1"
