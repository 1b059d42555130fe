-- The octets that are handed back with a reading: of an accepted frame its addresses, where they stand in the caller's storage; of a refused one none.
-- Document 01, 'The rate request on the wire': the caller's own octets. Assumes nothing.
use mathlib.Core.Path.{◌≡◌, refl, ◌∙◌, sym, ap}
use mathlib.Core.List.{List}
use Prim.Native.Nat.{ℕ, ◌+◌, ◌*◌}
use denote.Ref.{Bor}
use Rattle.std.specs.Prelude.{Result, Ok, Err, IsOkAnd, IsErr}
use Rattle.wire.specs.Octets.{part_at, OwnPart}
use Rattle.wire.specs.Refusals.{first}
use Rattle.wire.proofs.Answered.{first_accepts, first_refuses}
use Rattle.wire.proofs.Within.{le_within}
use Rattle.rate.specs.declared.refused.Refused.{Refused}
use Rattle.rate.specs.Refused.{number_of}
use Rattle.rate.proofs.Numbers.{not_zero}
use Rattle.rate_reader.specs.Reading.{Read, bands_of, start_of, extent_of, addresses_of, request_of, refusals, refused_by, accepted, read_of}
use Rattle.rate_reader.specs.Receiving.{Receives}
use Rattle.rate_reader.specs.declared.reader.Received.{Received}
use Rattle.rate_reader.proofs.Accepted.{addresses_within}

module _ (frame : Bor (List ℕ)) where
  abbrev s : List ℕ
  s = frame.now

  accepts : first (refusals s) ≡ 0 → read_of s ≡ accepted s
  unfolding read_of refusals
  accepts none = first_accepts refused_by (accepted s) (refusals s) refl none

  refuses : (first (refusals s) ≡ 0 → ⊥) → read_of s ≡ refused_by (first (refusals s))
  unfolding read_of
  refuses some = first_refuses refused_by (accepted s) (refusals s) refl some

  -- an accepted frame is received, and what is handed back lies behind the fixed octets and the bands
  held : (r : Result Received Refused) → Receives frame r → first (refusals s) ≡ 0 → IsOkAnd r (λ (x : Received). OwnPart frame (start_of s) (extent_of s) x.addresses)
  unfolding accepted request_of start_of extent_of
  held (Ok x) received none = rw (accepts none) at received.addresses
  held (Err e) received none = let n : number_of e ≡ 0 = ap (λ (a : Read). a.number) (received.reading ∙ accepts none) in absurd (not_zero e n)

  pub held_addresses : (r : Result Received Refused) → Receives frame r → first (refusals s) ≡ 0 → IsOkAnd r (λ (x : Received). x.addresses.now ≡ addresses_of s)
  unfolding addresses_of part_at
  held_addresses (Ok x) received none =
      let part = held (Ok x) received none in
      let w = le_within s (start_of s) (extent_of s) (addresses_within s none) in
      simp w part.octets
  held_addresses (Err e) received none = held (Err e) received none

  pub held_there : (r : Result Received Refused) → Receives frame r → first (refusals s) ≡ 0
      → IsOkAnd r (λ (x : Received). x.addresses.ref_ptr ≡ (frame.ref_ptr.0, 20 + 2 * bands_of s + frame.ref_ptr.1))
  unfolding start_of
  held_there (Ok x) received none = (held (Ok x) received none).place
  held_there (Err e) received none = held (Err e) received none

  -- with a refusal no octets are handed back
  pub held_none : (r : Result Received Refused) → Receives frame r → (first (refusals s) ≡ 0 → ⊥) → IsErr r
  held_none (Ok x) received some =
      let n : 0 ≡ first (refusals s) = ap (λ (a : Read). a.number) (received.reading ∙ refuses some) in absurd (some (sym n))
  held_none (Err e) received some = refl
