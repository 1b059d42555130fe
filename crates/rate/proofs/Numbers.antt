-- The numbers of the refusals: the writer's list has them in document 01's order, none is 0, which stands for accepted, and no two are the same.
-- Assumes nothing.
use mathlib.Core.Path.{◌≡◌, refl, sym, ap, ◌∙◌}
use mathlib.Core.Bool.{true, cond}
use mathlib.Core.List.{List, [], ◌∷◌, map}
use Prim.Native.Nat.{ℕ, ◌≤◌}
use native.Mathlib.Omega.{arith}
use borrow.Author.Tests.{leb-true}
use lib.Dec.{leb, eqb}
use Rattle.wire.specs.Refusals.{Refusal}
use Rattle.rate.specs.declared.Request.{Request}
use Rattle.rate.specs.declared.refused.Refused.{Refused}
use Rattle.rate.specs.declared.refused.Refused.TheVariants.{Length, Ethertype, SsType, SsLength, SsVersion, Opcode, Bands, Lengths, BandOne, BandTwo, Ranks, Group, NextEthertype, Layout, Room}
use Rattle.rate.specs.Refused.{number_of}
use Rattle.rate.specs.Writing.{writer_refusals}

-- the writer's list of numbers, by name
pub writer_numbers : (q : Request) (a : List ℕ) (room : ℕ) → map (λ (r : Refusal). r.number) (writer_refusals q a room)
    ≡ map number_of (Opcode ∷ Bands ∷ Layout ∷ BandOne ∷ BandTwo ∷ Ranks ∷ Group ∷ Room ∷ [])
unfolding writer_refusals
writer_numbers q a room = refl

at_least_one : (e : Refused) → leb 1 (number_of e) ≡ true
at_least_one Length = refl
at_least_one Ethertype = refl
at_least_one SsType = refl
at_least_one SsLength = refl
at_least_one SsVersion = refl
at_least_one Opcode = refl
at_least_one Bands = refl
at_least_one Lengths = refl
at_least_one BandOne = refl
at_least_one BandTwo = refl
at_least_one Ranks = refl
at_least_one Group = refl
at_least_one NextEthertype = refl
at_least_one Layout = refl
at_least_one Room = refl

pub not_zero : (e : Refused) → number_of e ≡ 0 → ⊥
not_zero e z = let least : 1 ≤ number_of e = leb-true 1 (number_of e) (at_least_one e) in omega arith

-- the way back: the refusal of a number
named : ℕ → Refused
named n = cond (eqb n 10) Length (cond (eqb n 11) Ethertype (cond (eqb n 12) SsType (cond (eqb n 13) SsLength (cond (eqb n 14) SsVersion (cond (eqb n 15) Opcode (cond (eqb n 16) Bands (cond (eqb n 17) Lengths (cond (eqb n 18) BandOne (cond (eqb n 19) BandTwo (cond (eqb n 20) Ranks (cond (eqb n 21) Group (cond (eqb n 22) NextEthertype (cond (eqb n 23) Layout (Room))))))))))))))

named_back : (e : Refused) → named (number_of e) ≡ e
unfolding named
named_back Length = refl
named_back Ethertype = refl
named_back SsType = refl
named_back SsLength = refl
named_back SsVersion = refl
named_back Opcode = refl
named_back Bands = refl
named_back Lengths = refl
named_back BandOne = refl
named_back BandTwo = refl
named_back Ranks = refl
named_back Group = refl
named_back NextEthertype = refl
named_back Layout = refl
named_back Room = refl

pub one_refused : (d e : Refused) → number_of d ≡ number_of e → d ≡ e
one_refused d e h = sym (named_back d) ∙ ap named h ∙ named_back e
