-- Any two outcomes that a contract of this crate allows are equal. The structs of a rate request stand for what the library answers, and no two of them for the
-- same. The other contracts are equations.
-- Assumes nothing.
use Prim.Native.Nat.{ℕ}
use mathlib.Core.Path.{◌≡◌, refl, sym, ap, ◌∙◌}
use mathlib.Core.List.{List}
use lib.ListN.{get_or}
use Rattle.rate.specs.declared.Request as inner
use Rattle.rate_reader.specs.Reading.{Read, read_of}
use Rattle.rate.specs.Writing as answers
use Rattle.rate.specs.Writing.{Wrote}
use Rattle.rate.proofs.OneOutcome.{one_write}
use Rattle.pik_rate.specs.declared.requests.Address.{Address}
use Rattle.pik_rate.specs.declared.requests.Request.{Request}
use Rattle.pik_rate.specs.declared.requests.Reading.{Reading}
use Rattle.pik_rate.specs.declared.requests.Written.{Written}
use Rattle.pik_rate.specs.Requests.{request_of, reading_of, written_of}

-- the way back: the address of six octets, and the host's structs of what the library answers
abbrev address_for : List ℕ → Address
address_for o =
    record {
      first = get_or o 0 0;
      second = get_or o 1 0;
      third = get_or o 2 0;
      fourth = get_or o 3 0;
      fifth = get_or o 4 0;
      sixth = get_or o 5 0;
    }

abbrev request_for : inner.Request → Request
request_for q =
    record {
      destination = address_for q.destination;
      source = address_for q.source;
      opcode = q.opcode;
      bands = q.bands;
      pe1 = q.pe1;
      rank1 = q.rank1;
      pe2 = q.pe2;
      rank2 = q.rank2;
    }

abbrev reading_for : Read → Reading
reading_for r = record { number = r.number; addresses = r.addresses; request = request_for r.request; start = r.start; extent = r.extent }

abbrev written_for : answers.Written → Written
written_for w = record { number = w.number; count = w.count }

reading_back : (r : Reading) → reading_for (reading_of r) ≡ r
reading_back r = refl

pub one_reading : (s : List ℕ) (r t : Reading) → reading_of r ≡ read_of s → reading_of t ≡ read_of s → r ≡ t
one_reading s r t p q = sym (reading_back r) ∙ ap reading_for (p ∙ sym q) ∙ reading_back t

written_back : (w : Written) → written_for (written_of w) ≡ w
written_back w = refl

pub one_writing : (q : Request) (a before : List ℕ) {after after' : List ℕ} (r t : Written) → Wrote (request_of q) a before after (written_of r)
    → Wrote (request_of q) a before after' (written_of t) → (r ≡ t) × (after ≡ after')
one_writing q a before r t v w =
    let both = one_write (request_of q) a before v w in
    (sym (written_back r) ∙ ap written_for both.0 ∙ written_back t, both.1)
