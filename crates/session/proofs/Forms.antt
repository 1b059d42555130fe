-- Laws of the table of kinds: what is known of a form that was found by a kind, or by a kind and a length. Assumes nothing.
use mathlib.Core.Path.{◌≡◌, refl, ◌∙◌, sym, ap}
use mathlib.Core.Bool.{Bool, true, false, cond}
use mathlib.Core.List.{List, [], ◌∷◌}
use mathlib.Core.Option.{Option, none, some}
use Prim.Native.Nat.{ℕ, zero, suc, ◌+◌, ◌≤◌, ◌<◌}
use native.Mathlib.Omega.{arith}
use borrow.Author.Tests.{eqb-true, leb-true, eq-eqb, le-leb}
use lib.Dec.{eqb, leb}
use Rattle.session.specs.Layout.{Form, forms, form_in, form_of, form_for, of_length, form_fits, behind, end_of, end_in, fields_end, is_readable}

pub some_eq : {f g : Form} → some f ≡ some g → f ≡ g
some_eq e = cc

-- a form that is found in a list has the kind asked for
found_in : (fs : List Form) (k : ℕ) (f : Form) → form_in fs k ≡ some f → f.kind ≡ k
found_in [] k f e = cc
found_in (g ∷ fs) k f e = by_kind (eqb k g.kind) refl e (found_in fs k f)
  where
    by_kind : (b : Bool) → eqb k g.kind ≡ b → cond b (some g) (form_in fs k) ≡ some f → (form_in fs k ≡ some f → f.kind ≡ k) → f.kind ≡ k
    by_kind true t e later = ap (λ (f : Form). f.kind) (some_eq (sym e)) ∙ sym (eqb-true k g.kind t)
    by_kind false t e later = later e

pub kind_found : (k : ℕ) (f : Form) → form_of k ≡ some f → f.kind ≡ k
unfolding form_of
kind_found k f e = found_in forms k f e

-- a body that fits a form has its fields
pub fits_end : (f : Form) (n : ℕ) → form_fits f n ≡ true → end_of f ≤ n
fits_end f n h = go f.more h
  where
    go : (b : Bool) → cond b (leb (end_of f) n) (eqb n (end_of f)) ≡ true → end_of f ≤ n
    go true h = leb-true (end_of f) n h
    go false h = let e = eqb-true n (end_of f) h in omega arith

-- a body that has its fields, and no more octets unless they may follow, has a length that fits
pub end_fits : (f : Form) (n : ℕ) → end_of f ≤ n → (f.more ≡ false → n ≡ end_of f) → form_fits f n ≡ true
end_fits f n h exact = go f.more refl
  where
    go : (b : Bool) → f.more ≡ b → cond b (leb (end_of f) n) (eqb n (end_of f)) ≡ true
    go true e = le-leb (end_of f) n h
    go false e = eq-eqb n (end_of f) (exact e)

-- the form of a body is its kind's, and its length fits
by_length : (k n : ℕ) (f : Form) → form_for k n ≡ some f → (form_of k ≡ some f) × (form_fits f n ≡ true)
by_length k n f e = go (form_of k) e
  where
    at : (g : Form) (b : Bool) → form_fits g n ≡ b → cond b (some g) none ≡ some f → (some g ≡ some f) × (form_fits f n ≡ true)
    at g true fits e = (e, ap (λ (f : Form). form_fits f n) (sym (some_eq e)) ∙ fits)
    at g false fits e = cc

    go : (o : Option Form) → of_length n o ≡ some f → (o ≡ some f) × (form_fits f n ≡ true)
    go none e = cc
    go (some g) e = at g (form_fits g n) refl e

pub form_of_law : (k n : ℕ) (f : Form) → form_for k n ≡ some f → form_of k ≡ some f
form_of_law k n f e = (by_length k n f e).0

pub fits_of : (k n : ℕ) (f : Form) → form_for k n ≡ some f → form_fits f n ≡ true
fits_of k n f e = (by_length k n f e).1

-- Readable bodies, by the form of their kind.
end_one : (f : Form) → 1 ≤ end_of f
end_one f = start 1 f.widths
  where
    start : (at : ℕ) (ws : List ℕ) → at ≤ behind at ws
    start at [] = omega arith
    start at (w ∷ ws) = let h = start (at + w) ws in omega arith

module _ (k n : ℕ) where
  pub unreadable_kind : fields_end k ≡ 0 → false ≡ is_readable k n
  unreadable_kind h = grind (arith, end_one)

  pub readable_fixed : (fields_end k ≡ 0 → ⊥) → k < 10 → eqb n (fields_end k) ≡ is_readable k n
  unfolding form_of
  readable_fixed h l = grind arith

  pub readable_followed : (fields_end k ≡ 0 → ⊥) → 10 ≤ k → leb (fields_end k) n ≡ is_readable k n
  unfolding form_of
  readable_followed h l = grind arith

  -- a readable body has the form of its kind, and a length that fits
  pub form_readable : (f : Form) → form_of k ≡ some f → is_readable k n ≡ true → form_for k n ≡ some f
  form_readable f e h = grind arith

  pub rest_unreadable : is_readable k n ≡ false → end_in n (form_for k n) ≡ n
  rest_unreadable h = grind arith

  pub rest_readable : is_readable k n ≡ true → (end_in n (form_for k n) ≡ fields_end k) × (fields_end k ≤ n)
  rest_readable h = grind arith

-- a kind that is none of 1 to n, as a match on it leaves it
abbrev pub NoneTo : ℕ → ℕ → Type 0
NoneTo k zero = Unit {0}
NoneTo k (suc n) = NoneTo k n × (k ≡ suc n → ⊥)

pub form_none : (k : ℕ) → NoneTo k 11 → form_of k ≡ none
unfolding form_of
form_none k h = grind arith
