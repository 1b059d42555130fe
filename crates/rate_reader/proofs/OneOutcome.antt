-- Any two outcomes that a contract of this crate allows are equal; of octets handed back, as wire's OneOutcome.antt says it.
-- Assumes nothing.
use mathlib.Core.Path.{◌≡◌, sym, ap, ◌∙◌}
use mathlib.Core.List.{List}
use Prim.Native.Nat.{ℕ}
use denote.Ref.{Bor}
use Rattle.std.specs.Prelude.{Result, Ok, Err}
use Rattle.wire.proofs.OneOutcome.{one_value, SamePart, one_part}
use Rattle.rate.specs.declared.refused.Refused.{Refused}
use Rattle.rate.proofs.Numbers.{not_zero, one_refused}
use Rattle.rate_reader.specs.declared.Reading.{Reading}
use Rattle.rate_reader.specs.declared.reader.Received.{Received}
use Rattle.rate_reader.specs.Reading.{Read, read, read_as, read_of}
use Rattle.rate_reader.specs.Receiving.{Receives}

pub one_read : (s : List ℕ) {r t : Read} → r ≡ read_of s → t ≡ read_of s → r ≡ t
one_read s p q = one_value (read_of s) p q

-- the reading that an answer came from
abbrev reading_back : Read → Reading
reading_back a = record { request = a.request; addresses = a.addresses; start = a.start; extent = a.extent }

-- and the results that stand for it
pub same_read : (r t : Result Reading Refused) → read r ≡ read t → r ≡ t
same_read (Ok x) (Ok y) e = ap Ok (ap reading_back e)
same_read (Ok x) (Err d) e = absurd (not_zero d (sym (ap (λ (a : Read). a.number) e)))
same_read (Err d) (Ok y) e = absurd (not_zero d (ap (λ (a : Read). a.number) e))
same_read (Err d) (Err c) e = ap Err (one_refused d c (ap (λ (a : Read). a.number) e))

-- and the number and the reading
pub one_read_as : (n m : ℕ) (r t : Reading) → read_as n r ≡ read_as m t → (n ≡ m) × (r ≡ t)
one_read_as n m r t e = (ap (λ (a : Read). a.number) e, ap reading_back e)

pub record SameReceived (r t : Received) : Type 0 where
  pub reading : r.reading ≡ t.reading
  pub addresses : SamePart r.addresses t.addresses

-- both received, or both refused by the same
abbrev pub SameOutcome : Result Received Refused → Result Received Refused → Type 0
SameOutcome (Ok x) (Ok y) = SameReceived x y
SameOutcome (Err d) (Err c) = d ≡ c
SameOutcome (Ok x) (Err d) = ⊥
SameOutcome (Err d) (Ok x) = ⊥

pub one_receive : (frame : Bor (List ℕ)) (r t : Result Received Refused) → Receives frame r → Receives frame t → SameOutcome r t
one_receive frame (Ok x) (Ok y) p q =
    record { reading = ap reading_back (p.reading ∙ sym q.reading); addresses = one_part frame _ _ p.addresses q.addresses }
one_receive frame (Ok x) (Err d) p q = absurd (not_zero d (sym (ap (λ (a : Read). a.number) (p.reading ∙ sym q.reading))))
one_receive frame (Err d) (Ok x) p q = absurd (not_zero d (ap (λ (a : Read). a.number) (p.reading ∙ sym q.reading)))
one_receive frame (Err d) (Err c) p q = one_refused d c (ap (λ (a : Read). a.number) (p.reading ∙ sym q.reading))
