-- Any two outcomes that a contract of this crate allows are equal. The contracts of the rules are equations.
-- Assumes nothing.
use mathlib.Core.Path.{◌≡◌, refl, sym, ap, ◌∙◌}
use mathlib.Core.List.{List}
use Prim.Native.Nat.{ℕ}
use Rattle.rate.specs.declared.Request.{Request}
use Rattle.std.specs.Prelude.{Option, Some, None, Result, Ok, Err, option_map}
use Rattle.rate.specs.declared.refused.Refused.{Refused}
use Rattle.rate.specs.declared.rates.Band.{Band}
use Rattle.rate.specs.declared.rates.Band.TheVariants.{One, Two}
use Rattle.rate.specs.Writing.{Written, written, written_as, Wrote}
use Rattle.rate.specs.Rates.{rate_of, chosen_of, band_of, rate_of_band}
use Rattle.rate.proofs.Numbers.{one_refused, not_zero}

pub one_write : (q : Request) (a before : List ℕ) {after after' : List ℕ} {r t : Written} → Wrote q a before after r → Wrote q a before after' t → (r ≡ t) × (after ≡ after')
one_write q a before v w = (v.answer ∙ sym w.answer, v.output ∙ sym w.output)

-- and the results that stand for it
pub same_written : (r t : Result ℕ Refused) → written r ≡ written t → r ≡ t
same_written (Ok m) (Ok n) e = ap Ok (ap (λ (w : Written). w.count) e)
same_written (Ok m) (Err d) e = absurd (not_zero d (sym (ap (λ (w : Written). w.number) e)))
same_written (Err d) (Ok n) e = absurd (not_zero d (ap (λ (w : Written). w.number) e))
same_written (Err d) (Err c) e = ap Err (one_refused d c (ap (λ (w : Written). w.number) e))

-- and the number and the count
pub one_written_as : (n m count count' : ℕ) → written_as n count ≡ written_as m count' → (n ≡ m) × (count ≡ count')
one_written_as n m count count' e = (ap (λ (w : Written). w.number) e, ap (λ (w : Written). w.count) e)

pub one_rate : (pe : ℕ) (r t : Option ℕ) → r ≡ rate_of pe → t ≡ rate_of pe → r ≡ t
one_rate pe r t p q = p ∙ sym q

pub one_chosen_rate : (q : Request) (r t : Option ℕ) → r ≡ rate_of_band q (chosen_of q) → t ≡ rate_of_band q (chosen_of q) → r ≡ t
one_chosen_rate q r t v w = v ∙ sym w

same_band : (r t : Option Band) → option_map band_of r ≡ option_map band_of t → r ≡ t
same_band (Some One) (Some One) e = refl
same_band (Some One) (Some Two) e = cc
same_band (Some Two) (Some One) e = cc
same_band (Some Two) (Some Two) e = refl
same_band (Some b) None e = cc
same_band None (Some b) e = cc
same_band None None e = refl

pub one_chosen_band : (q : Request) (r t : Option Band) → option_map band_of r ≡ chosen_of q → option_map band_of t ≡ chosen_of q → r ≡ t
one_chosen_band q r t v w = same_band r t (v ∙ sym w)
