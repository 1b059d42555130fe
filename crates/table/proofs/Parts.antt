-- The parts of a slice that belong to its places: a part that was lent and comes back, or a store inside it, changes that part alone.
-- n is how many elements a place has, i the place. Assumes nothing.
use Prim.Native.Nat.{ℕ, zero, suc, ◌+◌, ◌-◌, ◌*◌, ◌≤◌, ◌<◌}
use mathlib.Core.Path.{◌≡◌, refl, ap, sym, ◌∙◌}
use mathlib.Core.Logic.{◌⊎◌, inl, inr, ⊎_elim}
use mathlib.Core.List.{List, [], ◌∷◌, ◌++◌}
use native.Mathlib.Omega.{arith}
use native.Mathlib.Nat.{mul-suc, mul-le-mul_left}
use lib.ListN.{length, get_or, set, take, drop, length-drop}
use lib.Seq.{take-nil, take_at, drop_at, take-take, drop-drop, length-take-le, get_or-take, get_or-drop, take-set-le, drop-set-lt}
use borrow.Rule.Slice.PartMut.{mid_of, put_mid, take_put, drop_put, put_same}
use Rattle.table.specs.Table.{part}

-- the slice with y in the place of part i, as it is when the lent part has come back
abbrev pub put : ℕ → ℕ → List ℕ → List ℕ → List ℕ
put n i l y = put_mid (n * i) (n * i + n - n * i) l y

-- the part as it is lent
abbrev pub lent : ℕ → ℕ → List ℕ → List ℕ
lent n i l = mid_of (n * i) (n * i + n - n * i) l

width : (a n : ℕ) → a + n - a ≡ n
width a n = omega arith

pub lent_part : (n i : ℕ) (l : List ℕ) → lent n i l ≡ part n i l
unfolding part
lent_part n i l = ap (λ (k : ℕ). take k (drop (n * i) l)) (width (n * i) n)

pub length_part : (n i : ℕ) (l : List ℕ) → n * i + n ≤ length l → length (part n i l) ≡ n
unfolding part
length_part n i l h = length-take-le n (drop (n * i) l) (let e = length-drop (n * i) l in omega arith)

pub length_lent : (n i : ℕ) (l : List ℕ) → n * i + n ≤ length l → length (lent n i l) ≡ n
length_lent n i l h = ap length (lent_part n i l) ∙ length_part n i l h

pub part_at : (n i : ℕ) (l : List ℕ) (k : ℕ) → k < n → get_or (part n i l) k 0 ≡ get_or l (n * i + k) 0
unfolding part
part_at n i l k h = get_or-take n (drop (n * i) l) k 0 h ∙ get_or-drop (n * i) l k 0

-- a part lies in what is before a point, or in what is behind it
drop_take : (m b : ℕ) (l : List ℕ) → drop m (take (m + b) l) ≡ take b (drop m l)
drop_take zero b l = let e : 0 + b ≡ b = omega arith in rw e
drop_take (suc m) b [] = ap (drop (suc m)) (take-nil (suc m + b)) ∙ sym (take-nil b)
drop_take (suc m) b (x ∷ l) = let e : suc m + b ≡ suc (m + b) = omega arith in rw e (drop_take m b l)

part_front : (n j a : ℕ) (l : List ℕ) → n * j + n ≤ a → part n j (take a l) ≡ part n j l
unfolding part
part_front n j a l h =
    let e : a ≡ n * j + (a - n * j) = omega arith in
    let f : drop (n * j) (take a l) ≡ take (a - n * j) (drop (n * j) l) = ap (λ (k : ℕ). drop (n * j) (take k l)) e ∙ drop_take (n * j) (a - n * j) l in
    ap (take n) f ∙ take-take n (a - n * j) (drop (n * j) l) (omega arith)

part_before : (n j a : ℕ) (l m : List ℕ) → n * j + n ≤ a → take a l ≡ take a m → part n j l ≡ part n j m
part_before n j a l m h e = sym (part_front n j a l h) ∙ ap (part n j) e ∙ part_front n j a m h

part_behind : (n j a : ℕ) (l m : List ℕ) → a ≤ n * j → drop a l ≡ drop a m → part n j l ≡ part n j m
unfolding part
part_behind n j a l m h e =
    let f : a + (n * j - a) ≡ n * j = omega arith in
    let g : drop (n * j) l ≡ drop (n * j) m =
    ap (λ (k : ℕ). drop k l) (sym f) ∙ sym (drop-drop (n * j - a) a l) ∙ ap (drop (n * j - a)) e ∙ drop-drop (n * j - a) a m
    ∙ ap (λ (k : ℕ). drop k m) f in
    ap (take n) g

-- two places' parts lie apart
pub order : (i j : ℕ) → (j ≡ i → ⊥) → (j < i) ⊎ (i < j)
order i j ne = grind arith

ends : (n i j : ℕ) → j < i → n * j + n ≤ n * i
ends n i j h = rw (mul-suc n j) at (mul-le-mul_left n h)

apart : (n i j : ℕ) → (j ≡ i → ⊥) → (n * j + n ≤ n * i) ⊎ (n * i + n ≤ n * j)
apart n i j ne = ⊎_elim (λ h. inl (ends n i j h)) (λ h. inr (ends n j i h)) (order i j ne)

part_else : (n i j : ℕ) (l m : List ℕ) → (j ≡ i → ⊥) → take (n * i) l ≡ take (n * i) m → drop (n * i + n) l ≡ drop (n * i + n) m → part n j l ≡ part n j m
part_else n i j l m ne front back =
    ⊎_elim (λ h. part_before n j (n * i) l m h front) (λ h. part_behind n j (n * i + n) l m h back) (apart n i j ne)

module _ (n i : ℕ) (l : List ℕ) (fits : n * i + n ≤ length l) where
  -- a lent part that has come back
  pub part_put : (y : List ℕ) → length y ≡ n → part n i (put n i l y) ≡ y
  unfolding part
  part_put y e =
      ap (take n) (drop_at (take (n * i) l) (y ++ drop (n * i + n - n * i) (drop (n * i) l)) (n * i) (length-take-le (n * i) l (omega arith)))
      ∙ take_at y (drop (n * i + n - n * i) (drop (n * i) l)) n e

  pub part_put_else : (j : ℕ) (y : List ℕ) → length y ≡ n → (j ≡ i → ⊥) → part n j (put n i l y) ≡ part n j l
  part_put_else j y e ne =
      part_else n i j (put n i l y) l ne (take_put (n * i) (n * i + n - n * i) l y (omega arith))
      (drop_put (n * i) (n * i + n) l y (omega arith) fits (e ∙ sym (width (n * i) n)))

  -- a store inside the part
  pub part_set_else : (j m v : ℕ) → n * i ≤ m → m < n * i + n → (j ≡ i → ⊥) → part n j (set l m v) ≡ part n j l
  part_set_else j m v low high ne = part_else n i j (set l m v) l ne (take-set-le (n * i) l m v low) (drop-set-lt (n * i + n) l m v high)

pub put_part : (n i : ℕ) (l : List ℕ) → put n i l (part n i l) ≡ l
put_part n i l = ap (put n i l) (sym (lent_part n i l)) ∙ put_same (n * i) (n * i + n - n * i) l

-- two neighbouring stores
pub set_pair : (m : ℕ) (l : List ℕ) (a b : ℕ) → m + 2 ≤ length l → take 2 (drop m (set (set l m a) (suc m) b)) ≡ a ∷ (b ∷ [])
set_pair m [] a b h = grind arith
set_pair zero (x ∷ []) a b h = grind arith
set_pair zero (x ∷ (y ∷ l)) a b h = refl
set_pair (suc m) (x ∷ l) a b h = set_pair m l a b (omega arith)
