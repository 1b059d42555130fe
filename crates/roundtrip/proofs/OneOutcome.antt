-- Any two outcomes that a contract of this crate allows are equal.
-- Assumes nothing.
use mathlib.Core.Path.{◌≡◌, sym, ◌∙◌, ap}
use mathlib.Core.List.{List}
use Prim.Native.Nat.{ℕ}
use Rattle.rate.specs.declared.Request.{Request}
use Rattle.std.specs.Prelude.{Result}
use Rattle.rate.specs.declared.refused.Refused.{Refused}
use Rattle.rate_reader.specs.declared.Reading.{Reading}
use Rattle.rate_reader.specs.Reading.{Read}
use Rattle.rate.specs.Writing.{Written}
use Rattle.rate.proofs.OneOutcome.{one_write, same_written}
use Rattle.rate_reader.proofs.OneOutcome.{same_read}
use Rattle.roundtrip.specs.declared.Trip as results
use Rattle.roundtrip.specs.Trip.{Trip, trip, ReadBack, WrittenAgain}

same_trip : (r t : Trip) → r.written ≡ t.written → r.reading ≡ t.reading → r ≡ t
same_trip r t e f = ap (λ (w : Written). record { written = w; reading = r.reading }) e ∙ ap (λ (g : Read). record { written = t.written; reading = g }) f

pub one_back : (q : Request) (a before : List ℕ) {after after' : List ℕ} (r t : Trip) → ReadBack q a before after r → ReadBack q a before after' t → (r ≡ t) × (after ≡ after')
one_back q a before r t v w =
    let both = one_write q a before v.written w.written in
    (same_trip r t both.0 (v.reading ∙ sym w.reading), both.1)

pub one_again : (s before : List ℕ) {after after' : List ℕ} (r t : Trip) → WrittenAgain s before after r → WrittenAgain s before after' t → (r ≡ t) × (after ≡ after')
one_again s before r t v w =
    let both = one_write _ _ before v.written w.written in
    (same_trip r t both.0 (v.reading ∙ sym w.reading), both.1)

-- and the results that stand for it
pub same_results : (r t : results.Trip) → trip r ≡ trip t → r ≡ t
same_results r t e =
    let written : r.written ≡ t.written = same_written r.written t.written (ap (λ (x : Trip). x.written) e) in
    let reading : r.reading ≡ t.reading = same_read r.reading t.reading (ap (λ (x : Trip). x.reading) e) in
    ap (λ (w : Result ℕ Refused). record { written = w; reading = r.reading }) written ∙ ap (λ (g : Result Reading Refused). record { written = t.written; reading = g }) reading
