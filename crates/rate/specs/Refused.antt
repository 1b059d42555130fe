-- The number of each refusal of a rate request. Document 01, 'Numbers the box may answer with'.
use Rattle.std.specs.Prelude.{ℕ, List, codes}
use Rattle.rate.specs.declared.refused.Refused.{Refused}
use Rattle.rate.specs.declared.refused.Refused.TheVariants.{Length, Ethertype, SsType, SsLength, SsVersion, Opcode, Bands, Lengths, BandOne, BandTwo, Ranks, Group, NextEthertype, Layout, Room}

abbrev pub number_of : Refused → ℕ
number_of Length = 10
number_of Ethertype = 11
number_of SsType = 12
number_of SsLength = 13
number_of SsVersion = 14
number_of Opcode = 15
number_of Bands = 16
number_of Lengths = 17
number_of BandOne = 18
number_of BandTwo = 19
number_of Ranks = 20
number_of Group = 21
number_of NextEthertype = 22
number_of Layout = 23
number_of Room = 24

-- the words by which a help desk knows it
abbrev pub words_of : Refused → List ℕ
words_of Length = codes "the frame has fewer than 60 or more than 1,514 octets"
words_of Ethertype = codes "the Ethertype is not 0x886c"
words_of SsType = codes "SSType is not 1"
words_of SsLength = codes "SSLength is below 8 or reaches past the frame's end"
words_of SsVersion = codes "SSVersion is not 0"
words_of Opcode = codes "OpCode is above 2"
words_of Bands = codes "NumBands is 0"
words_of Lengths = codes "SSLength does not agree with NumBands and NumAddr"
words_of BandOne = codes "the PE of band 1 is not 1 to 7"
words_of BandTwo = codes "the PE of band 2 is neither 0 nor 9 to 15"
words_of Ranks = codes "a rank is 0, or two ranks are equal"
words_of Group = codes "an extra address is no group address"
words_of NextEthertype = codes "Next Ethertype is not 0"
words_of Layout = codes "a frame cannot hold the request"
words_of Room = codes "the output is too short"
