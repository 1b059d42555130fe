-- `wire::six` meets its contract: a part of six octets is the address, and where there is none the six octets do not lie within the slice.
use Rattle.std.proofs.Common.{ℕ, suc, ◌+◌, ◌<◌, ◌≤◌, List, [], ◌∷◌, Bool, arith, ◌≡◌, sym, ap, ◌∙◌, true, false, take, drop, length, cond, slice_index_or, refl}
use Rattle.wire.specs.Octets.{within, six_at, six_from}
use Rattle.wire.proofs.Octets.{octets_from, take_octets, six_within}
use Rattle.wire.proofs.Within.{within_le}
use Rattle.wire.proofs.six.Goals as goal

same_octets : (s : List ℕ) (at : ℕ) → octets_from 6 at s ≡ six_from s at
same_octets s at =
    let second : suc at ≡ at + 1 = omega arith in
    let third : suc (at + 1) ≡ at + 2 = omega arith in
    let fourth : suc (at + 2) ≡ at + 3 = omega arith in
    let fifth : suc (at + 3) ≡ at + 4 = omega arith in
    let sixth : suc (at + 4) ≡ at + 5 = omega arith in
    simp (second, third, fourth, fifth, sixth)

-- the six octets that the pattern names
abbrev named : List ℕ → List ℕ
named p =
    slice_index_or p 0 0 ∷ slice_index_or p 1 0 ∷ slice_index_or p 2 0 ∷ slice_index_or p 3 0 ∷ slice_index_or p 4 0 ∷ slice_index_or p 5 0 ∷ []

-- the part that is asked for, by the test whether it lies within
abbrev asked : List ℕ → ℕ → Bool → List ℕ
asked s at w = take (cond w 6 0) (drop (cond w at 0) s)

is_there : (s p : List ℕ) (at : ℕ) → within s at 6 ≡ true → p ≡ asked s at true → p ≡ six_from s at
is_there s p at w is = is ∙ (take_octets 6 at s (within_le s at 6 w) ∙ same_octets s at)

six_named : (s p : List ℕ) (at : ℕ) (w : Bool) → within s at 6 ≡ w → p ≡ asked s at w → 6 ≤ length p → named p ≡ six_at s at
six_named s p at true w is long = ap named (is_there s p at w is) ∙ sym (six_within s at (within_le s at 6 w))
six_named s p at false w is long = grind arith

none_there : (s p : List ℕ) (at : ℕ) (w : Bool) → within s at 6 ≡ w → p ≡ asked s at w → length p < 6 → 0 ∷ 0 ∷ 0 ∷ 0 ∷ 0 ∷ 0 ∷ [] ≡ six_at s at
unfolding six_at
none_there s p at true w is short = let six : length p ≡ 6 = ap length (is_there s p at w is) in grind arith
none_there s p at false w is short = simp w

pub returns-in-len6 : goal.returns-in-len6
returns-in-len6 c = six_named c.args.s.now c.part.result.now c.args.at (within c.args.s.now c.args.at 6) refl c.part.ensures.octets c.in-len6.len_at_least

pub returns-in_default : goal.returns-in_default
returns-in_default c = none_there c.args.s.now c.part.result.now c.args.at (within c.args.s.now c.args.at 6) refl c.part.ensures.octets c.in_default.len_below
