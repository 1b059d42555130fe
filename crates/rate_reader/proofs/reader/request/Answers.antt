-- At each place of the chain the tests so far have passed and the values bound are the frame's own; an answer that is none gives the refusal of its own row.
-- The exits before the ranks need nothing but that.
use Rattle.std.proofs.Common.{◌≡◌, sym, ◌∙◌, ap, ℕ, List, [], ◌∷◌, get_or, cond, drop}
use Rattle.wire.specs.Answers as said
use Rattle.wire.specs.Octets.{part_at}
use Rattle.wire.specs.Refusals.{◌else◌, answered}
use Rattle.wire.specs.ShortFormat.{next_ethertype_zero}
use Rattle.wire.proofs.Ruled.{said_passes, said_fails}
use Rattle.rate.specs.Request.{opcode_right, some_band, band_one_right, band_two_right, ranks_right, group_addresses}
use Rattle.rate_reader.specs.Reading.{Read, opcode_of, bands_of, count_of, pe1_of, rank1_of, pe2_of, rank2_of, start_for, extent_for, start_of, extent_of, addresses_of, lengths_agree, refusals, refused_by, accepted, field_value}
use Rattle.rate_reader.proofs.Accepted.{accepted_fields}
use Rattle.rate_reader.proofs.reader.request.Goals as goal

-- the last three tests
last : List ℕ → Read
last s =
    cond (ranks_right (bands_of s) (rank1_of s) (rank2_of s))
    (cond (group_addresses (addresses_of s)) (cond (next_ethertype_zero s) (accepted s) (refused_by 22)) (refused_by 21))
    (refused_by 20)

-- the five fields before them are bound: their tests have passed, and the values are the frame's
record Bound (s : List ℕ) (opcode bands addresses pe1 pe2 : ℕ) : Type 0 where
  left : last s ≡ answered refused_by (drop 5 (refusals s)) (accepted s)
  opcode_is : opcode ≡ opcode_of s
  bands_is : bands ≡ bands_of s
  addresses_is : addresses ≡ count_of s
  pe1_is : pe1 ≡ pe1_of s
  pe2_is : pe2 ≡ pe2_of s

value : {v w : ℕ} → field_value v ≡ w ∷ [] → v ≡ w
value e = ap (λ (l : List ℕ). get_or l 0 0) e

bound : (s : List ℕ) {opcode bands addresses pe1 pe2 : ℕ} → said.accepted (field_value opcode) ≡ said.ruled (opcode_right (opcode_of s) else 15) (opcode_of s ∷ [])
    → said.accepted (field_value bands) ≡ said.ruled (some_band (bands_of s) else 16) (bands_of s ∷ [])
    → said.accepted (field_value addresses) ≡ said.ruled (lengths_agree s else 17) (count_of s ∷ [])
    → said.accepted (field_value pe1) ≡ said.ruled (band_one_right (pe1_of s) else 18) (pe1_of s ∷ [])
    → said.accepted (field_value pe2) ≡ said.ruled (band_two_right (bands_of s) (pe2_of s) else 19) (pe2_of s ∷ [])
    → Bound s opcode bands addresses pe1 pe2
unfolding refusals last
bound s o b a p p' =
    let opcode = said_passes 15 tt (opcode_right (opcode_of s)) _ _ o in
    let bands = said_passes 16 tt (some_band (bands_of s)) _ _ b in
    let addresses = said_passes 17 tt (lengths_agree s) _ _ a in
    let one = said_passes 18 tt (band_one_right (pe1_of s)) _ _ p in
    let two = said_passes 19 tt (band_two_right (bands_of s) (pe2_of s)) _ _ p' in
    record {
      left = simp (opcode.0, bands.0, addresses.0, one.0, two.0);
      opcode_is = value opcode.1;
      bands_is = value bands.1;
      addresses_is = value addresses.1;
      pe1_is = value one.1;
      pe2_is = value two.1;
    }

-- the addresses lie where the counts that were read say
group_test : (s : List ℕ) {bands count start extent : ℕ} → bands ≡ bands_of s → count ≡ count_of s → start ≡ start_for bands → extent ≡ extent_for count
    → group_addresses (part_at s start extent) ≡ group_addresses (addresses_of s)
unfolding addresses_of start_of extent_of
group_test s {extent = extent} b n starts extends =
    ap (λ (k : ℕ). group_addresses (part_at s k extent)) (starts ∙ ap start_for b)
    ∙ ap (λ (k : ℕ). group_addresses (part_at s (start_for (bands_of s)) k)) (extends ∙ ap extent_for n)

pub returns-in_default-ranks : goal.returns-in_default-ranks
unfolding last
returns-in_default-ranks c =
    let s = c.args.frame.now in
    let b = bound s c.in-Some.ensures c.in-Some-bands.ensures c.in-Some-addresses.ensures c.in-Some-band_one.ensures c.in-Some-band_two.ensures in
    let ranks = said_fails 20 tt (ranks_right (bands_of s) (rank1_of s) (rank2_of s)) _ c.in_default-ranks.ensures in
    let e : refused_by 20 ≡ last s = simp ranks in
    e ∙ b.left

pub returns-in_default-groups : goal.returns-in_default-groups
unfolding last
returns-in_default-groups c =
    let s = c.args.frame.now in
    let b = bound s c.in-Some.ensures c.in-Some-bands.ensures c.in-Some-addresses.ensures c.in-Some-band_one.ensures c.in-Some-band_two.ensures in
    let ranks = said_passes 20 tt (ranks_right (bands_of s) (rank1_of s) (rank2_of s)) _ _ c.in-Some-ranks.ensures in
    let groups = sym (group_test s b.bands_is b.addresses_is c.start.ensures c.extent.ensures) ∙ sym c.in_default-groups.ensures in
    let e : refused_by 21 ≡ last s = simp (ranks.0, groups) in
    e ∙ b.left

pub returns-in_default-next_ethertype : goal.returns-in_default-next_ethertype
unfolding last
returns-in_default-next_ethertype c =
    let s = c.args.frame.now in
    let b = bound s c.in-Some.ensures c.in-Some-bands.ensures c.in-Some-addresses.ensures c.in-Some-band_one.ensures c.in-Some-band_two.ensures in
    let ranks = said_passes 20 tt (ranks_right (bands_of s) (rank1_of s) (rank2_of s)) _ _ c.in-Some-ranks.ensures in
    let groups = sym (group_test s b.bands_is b.addresses_is c.start.ensures c.extent.ensures) ∙ sym c.in-true.ensures in
    let next = sym c.in_default-next_ethertype.ensures in
    let e : refused_by 22 ≡ last s = simp (ranks.0, groups, next) in
    e ∙ b.left

pub returns : goal.returns
unfolding last
returns c =
    let s = c.args.frame.now in
    let b = bound s c.in-Some.ensures c.in-Some-bands.ensures c.in-Some-addresses.ensures c.in-Some-band_one.ensures c.in-Some-band_two.ensures in
    let ranks = said_passes 20 tt (ranks_right (bands_of s) (rank1_of s) (rank2_of s)) _ _ c.in-Some-ranks.ensures in
    let rank1 = ap (λ (l : List ℕ). get_or l 0 0) ranks.1 in
    let rank2 = ap (λ (l : List ℕ). get_or l 1 0) ranks.1 in
    let groups = sym (group_test s b.bands_is b.addresses_is c.start.ensures c.extent.ensures) ∙ sym c.in-true.ensures in
    let next = sym c.in-true-next_ethertype.ensures in
    let e : accepted s ≡ last s = simp (ranks.0, groups, next) in
    c.given.ensures ∙ (simp (c.six.ensures, c.six-2.ensures) (accepted_fields s b.opcode_is b.bands_is b.pe1_is rank1 b.pe2_is rank2 b.addresses_is)) ∙ e ∙ b.left
