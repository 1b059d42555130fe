-- The chosen band is the one of lowest rank among those whose PE is not 0, and a request with right PEs has one, with a rate.
-- Document 01, 'Rate of a PE'. Assumes nothing.
use mathlib.Core.Path.{◌≡◌, refl}
use mathlib.Core.Bool.{Bool, true, false, cond, ◌&&◌}
use Rattle.std.specs.Prelude.{Some, None, IsSome}
use Prim.Native.Nat.{ℕ, ◌+◌, ◌*◌, ◌-◌, ◌≤◌}
use native.Mathlib.Omega.{arith}
use borrow.Author.Tests.{eqb-true, eqb-false, ltb-true, ltb-false, leb-true}
use lib.Dec.{eqb, ltb, leb}
use Rattle.wire.proofs.Joined.{and_left}
use Rattle.rate.specs.declared.Request.{Request}
use Rattle.rate.specs.Request.{band_one_right, band_two_right}
use Rattle.rate.specs.Rates.{rate_of, chosen_of, rate_of_band}

-- PE and rank of a band by its number
abbrev pub pe_of : Request → ℕ → ℕ
pe_of q n = cond (eqb n 2) q.pe2 q.pe1

abbrev pub rank_of : Request → ℕ → ℕ
rank_of q n = cond (eqb n 2) q.rank2 q.rank1

-- band n is in use, and no band in use has a lower rank
pub record Lowest (q : Request) (n : ℕ) : Type 0 where
  pub used : pe_of q n ≡ 0 → ⊥
  pub least_one : (q.pe1 ≡ 0 → ⊥) → rank_of q n ≤ q.rank1
  pub least_two : (q.pe2 ≡ 0 → ⊥) → rank_of q n ≤ q.rank2

lowest_one : (q : Request) {n : ℕ} → Some 1 ≡ Some n → (q.pe1 ≡ 0 → ⊥) → ((q.pe2 ≡ 0 → ⊥) → q.rank1 ≤ q.rank2) → Lowest q n
lowest_one q {n} e used least =
    let one : 1 ≡ n = cc in
    let lowest : Lowest q 1 = record { used = used; least_one = λ p. omega arith; least_two = least } in
    rw one at lowest

lowest_two : (q : Request) {n : ℕ} → Some 2 ≡ Some n → (q.pe2 ≡ 0 → ⊥) → ((q.pe1 ≡ 0 → ⊥) → q.rank2 ≤ q.rank1) → Lowest q n
lowest_two q {n} e used least =
    let two : 2 ≡ n = cc in
    let lowest : Lowest q 2 = record { used = used; least_one = least; least_two = λ p. omega arith } in
    rw two at lowest

pub chosen_lowest : (q : Request) (n : ℕ) → chosen_of q ≡ Some n → Lowest q n
unfolding chosen_of
chosen_lowest q n e = by_tests (eqb q.pe1 0) (eqb q.pe2 0) (ltb q.rank2 q.rank1) refl refl refl e
  where
    by_tests : (a b l : Bool) → eqb q.pe1 0 ≡ a → eqb q.pe2 0 ≡ b → ltb q.rank2 q.rank1 ≡ l
        → cond a (cond b None (Some 2)) (cond b (Some 1) (cond l (Some 2) (Some 1))) ≡ Some n → Lowest q n
    by_tests true true l ea eb el e = absurd (let z : ◌≡◌ {A = ℕ} 0 1 = cc in omega arith)
    by_tests true false l ea eb el e = lowest_two q e (eqb-false q.pe2 0 eb) (λ p. absurd (p (eqb-true q.pe1 0 ea)))
    by_tests false true l ea eb el e = lowest_one q e (eqb-false q.pe1 0 ea) (λ p. absurd (p (eqb-true q.pe2 0 eb)))
    by_tests false false true ea eb el e = lowest_two q e (eqb-false q.pe2 0 eb) (λ p. omega (arith, ltb-true q.rank2 q.rank1 el))
    by_tests false false false ea eb el e = lowest_one q e (eqb-false q.pe1 0 ea) (λ p. ltb-false q.rank2 q.rank1 el)

one_not_zero : (pe : ℕ) → band_one_right pe ≡ true → pe ≡ 0 → ⊥
unfolding band_one_right
one_not_zero pe e z = let least : 1 ≤ pe = leb-true 1 pe (and_left (leb 1 pe) (leb pe 7) e) in omega arith

-- a PE that an accepted frame can have beside 0 has a rate
rate_one : (pe : ℕ) → band_one_right pe ≡ true → IsSome (rate_of pe)
unfolding band_one_right rate_of
rate_one pe e = rw e refl

rate_two : (bands pe : ℕ) → band_two_right bands pe ≡ true → ltb bands 2 ≡ false → eqb pe 0 ≡ false → IsSome (rate_of pe)
unfolding band_two_right rate_of
rate_two bands pe e b z = let high : (leb 9 pe && leb pe 15) ≡ true = rw (b, z) at e in by_test (leb 1 pe && leb pe 7) high
  where
    by_test : (low : Bool) → (leb 9 pe && leb pe 15) ≡ true → IsSome (cond low (Some (2 + 2 * pe)) (cond (leb 9 pe && leb pe 15) (Some (4 + 4 * (pe - 8))) None))
    by_test true high = refl
    by_test false high = rw high refl

pub some_rate : (q : Request) → band_one_right q.pe1 ≡ true → band_two_right q.bands q.pe2 ≡ true → (ltb q.bands 2 ≡ true → q.pe2 ≡ 0) → IsSome (rate_of_band q (chosen_of q))
unfolding chosen_of
some_rate q one two absent = by_tests (eqb q.pe1 0) (eqb q.pe2 0) (ltb q.rank2 q.rank1) (ltb q.bands 2) refl refl refl
  where
    by_tests : (a b l m : Bool) → eqb q.pe1 0 ≡ a → eqb q.pe2 0 ≡ b → ltb q.bands 2 ≡ m
        → IsSome (rate_of_band q (cond a (cond b None (Some 2)) (cond b (Some 1) (cond l (Some 2) (Some 1)))))
    by_tests true b l m ea eb em = absurd (one_not_zero q.pe1 one (eqb-true q.pe1 0 ea))
    by_tests false true l m ea eb em = rate_one q.pe1 one
    by_tests false false true true ea eb em = absurd (eqb-false q.pe2 0 eb (absent em))
    by_tests false false true false ea eb em = rate_two q.bands q.pe2 two em eb
    by_tests false false false m ea eb em = rate_one q.pe1 one
