-- An answer by cases: it is the refusal by one of the listed numbers, or all tests pass and it is the answer to good input. Assumes nothing.
use Prim.Native.Nat.{ℕ}
use mathlib.Core.Logic.{◌⊎◌, inl, inr}
use mathlib.Core.Path.{◌≡◌, refl}
use mathlib.Core.Bool.{Bool, true, false, cond}
use mathlib.Core.List.{List, [], ◌∷◌}
use Rattle.wire.specs.Refusals.{Refusal, answered}

pub cond_case {ℓ ℓ'} : {A : Type ℓ} (P : A → Type ℓ') (b : Bool) (x y : A) → (b ≡ true → P x) → (b ≡ false → P y) → P (cond b x y)
cond_case P true x y f g = f refl
cond_case P false x y f g = g refl

-- all tests pass
abbrev pub AllPass : List Refusal → Type 0
AllPass [] = Unit
AllPass (r ∷ l) = ((r.passes ≡ true) × AllPass l)

-- P holds of each refusal of a list
abbrev pub EachRefused {ℓ} : {A : Type 0} → (A → Type ℓ) → (ℕ → A) → List Refusal → Type ℓ
EachRefused P refuse [] = Unit
EachRefused P refuse (r ∷ l) = (P (refuse r.number) × EachRefused P refuse l)

pub answered_case {ℓ} : {A : Type 0} (P : A → Type ℓ) (refuse : ℕ → A) (l : List Refusal) (good : A)
    → EachRefused P refuse l → (AllPass l → P good) → P (answered refuse l good)
answered_case P refuse [] good r k = k tt
answered_case P refuse (t ∷ l) good r k =
    cond_case P t.passes (answered refuse l good) (refuse t.number)
    (λ e. answered_case P refuse l good r.1 (λ p. k (e, p))) (λ _. r.0)

pub answered_good : {A : Type 0} (refuse : ℕ → A) (l : List Refusal) (good : A) → AllPass l → answered refuse l good ≡ good
answered_good refuse [] good p = refl
answered_good refuse (t ∷ l) good p = rw p.0 (answered_good refuse l good p.1)

-- two answers to good input after the same tests: the tests give the same number to both, or let both through
pub answered_same_or_both : {A : Type 0} (refuse : ℕ → A) (l : List Refusal) (x y : A)
    → (answered refuse l x ≡ answered refuse l y) ⊎ ((answered refuse l x ≡ x) × (answered refuse l y ≡ y))
answered_same_or_both refuse [] x y = inr (refl, refl)
answered_same_or_both refuse (t ∷ l) x y = go t.passes (answered_same_or_both refuse l x y)
  where
    go : (b : Bool) → (answered refuse l x ≡ answered refuse l y) ⊎ ((answered refuse l x ≡ x) × (answered refuse l y ≡ y))
        → (cond b (answered refuse l x) (refuse t.number) ≡ cond b (answered refuse l y) (refuse t.number))
        ⊎ ((cond b (answered refuse l x) (refuse t.number) ≡ x) × (cond b (answered refuse l y) (refuse t.number) ≡ y))
    go true r = r
    go false r = inl refl
