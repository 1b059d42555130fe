-- Laws of `answered`, the answer by refusals in their order, for any list of tests and any kind of answer; those of `first` are in First.antt.
-- Assumes nothing.
use mathlib.Core.Path.{◌≡◌, refl, ◌∙◌, sym, ap}
use mathlib.Core.Bool.{Bool, true, false, cond, ◌&&◌}
use mathlib.Core.List.{List, [], ◌∷◌}
use mathlib.Core.Logic.{◌⊎◌, inl, inr, ⊎_elim}
use Prim.Native.Nat.{ℕ, zero, suc, ◌<◌, ◌≤◌}
use native.Mathlib.Nat.{le_of_suc-le-suc, not-suc-le-zero, eq-zero-or-pos}
use native.Mathlib.Omega.{arith}
use borrow.Author.Tests.{leb-true}
use lib.Dec.{leb}
use lib.ListN.{length, drop}
use Rattle.wire.specs.Refusals.{Refusal, first, answered}
use Rattle.wire.proofs.First.{test}
use Rattle.wire.proofs.Joined.{and_left, and_right}

module _ {A : Type 0} (refuse : ℕ → A) (good : A) where
  -- the first k tests pass: what is left to decide is the list from k on
  abbrev pub Past : List Refusal → ℕ → Type 0
  Past l k = answered refuse l good ≡ answered refuse (drop k l) good

  step : (l : List Refusal) (k : ℕ) → k < length l → (test l k).passes ≡ true → answered refuse (drop k l) good ≡ answered refuse (drop (suc k) l) good
  step [] k h e = absurd (not-suc-le-zero h)
  step (r ∷ l) zero h e = simp e
  step (r ∷ l) (suc k) h e = step l k (le_of_suc-le-suc h) e

  stop : (l : List Refusal) (k : ℕ) → k < length l → (test l k).passes ≡ false → answered refuse (drop k l) good ≡ refuse (test l k).number
  stop [] k h e = absurd (not-suc-le-zero h)
  stop (r ∷ l) zero h e = simp e
  stop (r ∷ l) (suc k) h e = stop l k (le_of_suc-le-suc h) e

  pub passes : (l : List Refusal) (k : ℕ) → k < length l → Past l k → (test l k).passes ≡ true → Past l (suc k)
  passes l k h p e = p ∙ step l k h e

  pub fails : (l : List Refusal) (k : ℕ) → k < length l → Past l k → (test l k).passes ≡ false → answered refuse l good ≡ refuse (test l k).number
  fails l k h p e = p ∙ stop l k h e

-- no number of the list is 0, which stands for accepted
abbrev pub numbered : List Refusal → Bool
numbered [] = true
numbered (r ∷ l) = leb 1 r.number && numbered l

-- one test more: no number is given exactly if it passes and the rest gives none
none_given : (p : Bool) (n m : ℕ) → leb 1 n ≡ true → cond p m n ≡ 0 → (p ≡ true) × (m ≡ 0)
none_given true n m h e = (refl, e)
none_given false n m h e = absurd (let w : 1 ≤ n = leb-true 1 n h in omega arith)

-- no number is given: each test passes
pub all_pass : (l : List Refusal) → numbered l ≡ true → first l ≡ 0 → (k : ℕ) → k < length l → (test l k).passes ≡ true
all_pass [] z e k h = absurd (not-suc-le-zero h)
all_pass (r ∷ l) z e zero h = (none_given r.passes r.number (first l) (and_left (leb 1 r.number) (numbered l) z) e).0
all_pass (r ∷ l) z e (suc k) h =
    all_pass l (and_right (leb 1 r.number) (numbered l) z) (none_given r.passes r.number (first l) (and_left (leb 1 r.number) (numbered l) z) e).1 k
    (le_of_suc-le-suc h)

module _ {A : Type 0} (refuse : ℕ → A) (good : A) where
  -- each test passes: the good answer is given
  pub first_accepts : (l : List Refusal) → numbered l ≡ true → first l ≡ 0 → answered refuse l good ≡ good
  first_accepts [] z e = refl
  first_accepts (r ∷ l) z e =
      let h = none_given r.passes r.number (first l) (and_left (leb 1 r.number) (numbered l) z) e in
      rw h.0 (first_accepts l (and_right (leb 1 r.number) (numbered l) z) h.1)

  -- a number is given: so is the refusal by it
  pub first_refuses : (l : List Refusal) {n : ℕ} → n ≡ first l → (n ≡ 0 → ⊥) → answered refuse l good ≡ refuse n
  first_refuses [] e h = absurd (h e)
  first_refuses (r ∷ l) {n} e h = by_test r.passes e (λ rest. first_refuses l rest h)
    where
      by_test : (p : Bool) → n ≡ cond p (first l) r.number → (n ≡ first l → answered refuse l good ≡ refuse n) → cond p (answered refuse l good) (refuse r.number) ≡ refuse n
      by_test true e rest = rest e
      by_test false e rest = ap refuse (sym e)

  -- one of the two: nothing is refused, or the first number that applies
  pub decided : (l : List Refusal) → numbered l ≡ true → ((first l ≡ 0) × (answered refuse l good ≡ good)) ⊎ ((first l ≡ 0 → ⊥) × (answered refuse l good ≡ refuse (first l)))
  decided l z =
      ⊎_elim
      (λ (e : first l ≡ 0). inl (e, first_accepts l z e))
      (λ (h : 0 < first l). let n : first l ≡ 0 → ⊥ = λ e. omega arith in inr (n, first_refuses l refl n))
      (eq-zero-or-pos (first l))
