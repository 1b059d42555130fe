-- The window as a list of cells, read through a function from slot to cell: how it splits, and what a change of slots makes of it.
-- Assumes nothing.
use Prim.Native.Nat.{ℕ, zero, suc, ◌+◌, ◌-◌, ◌%◌, ◌≤◌, ◌<◌}
use mathlib.Core.Path.{◌≡◌, refl, ap, ap₂, sym, ◌∙◌}
use mathlib.Core.List.{List, [], ◌∷◌, ◌++◌}
use native.Mathlib.Omega.{arith}
use native.Mathlib.Nat.{zero-add}
use lib.ListN.{length, get_or, set, take, drop, replicate}
use Rattle.ring.specs.Ring.{size, forward, next}
use Rattle.larq.specs.Channel.{Cell, waits, missing}
use Rattle.slots.specs.Slots.{slots, slot_of, is_missing, time_at, handle_at}
use mathlib.Core.Bool.{true, false}
use Rattle.record.specs.Place.{cells_from, cell_at}
use Rattle.ring.proofs.Steps.{forward_forward}
use Rattle.record.proofs.Rounds.{forward_none, forward_next, slot_none, slot_next, slots_apart}

module _ (f : ℕ → Cell ℕ) where
  pub cells_from_none : (m n : ℕ) → n ≡ 0 → cells_from f m n ≡ []
  unfolding cells_from
  cells_from_none m n e = ap (cells_from f m) e

  pub cells_from_suc : (m n : ℕ) → 0 < n → cells_from f m n ≡ f (slot_of m) ∷ cells_from f (next m) (n - 1)
  unfolding cells_from
  cells_from_suc m n p = ap (cells_from f m) (let e : n ≡ suc (n - 1) = omega arith in e)

  -- A loop over n numbers, at its j-th: what is left of them there, told by the number, or by where the loop began.
  pub cells_from_rest : (m n j : ℕ) → j < n → cells_from f m (n - j) ≡ f (slot_of m) ∷ cells_from f (next m) (n - (j + 1))
  unfolding cells_from
  cells_from_rest m n j p = ap (cells_from f m) (let e : n - j ≡ suc (n - (j + 1)) = omega arith in e)

  pub cells_from_past : (m n j : ℕ) → j < n
      → cells_from f (forward m j) (n - j) ≡ f (slot_of (forward m j)) ∷ cells_from f (forward m (j + 1)) (n - (j + 1))
  cells_from_past m n j p =
      cells_from_rest (forward m j) n j p ∙ ap (λ x. f (slot_of (forward m j)) ∷ cells_from f x (n - (j + 1))) (forward_forward m j 1)

  pub cells_from_start : (m n : ℕ) → cells_from f (forward m 0) (n - 0) ≡ cells_from f m n
  unfolding cells_from
  cells_from_start m zero = refl
  cells_from_start m (suc n) =
      let e : forward m 0 % slots ≡ slot_of m = omega arith in
      let x : next (forward m 0) ≡ next m = omega arith in
      let all : suc n - 0 ≡ suc n = omega arith in
      rw all (ap₂ {C = List (Cell ℕ)} (λ i y. f i ∷ cells_from f y n) e x)

  pub length_cells_from : (m n : ℕ) → length (cells_from f m n) ≡ n
  unfolding cells_from
  length_cells_from m zero = refl
  length_cells_from m (suc n) = ap suc (length_cells_from (next m) n)

  pub cells_from_add : (m a b : ℕ) → m < size → cells_from f m (a + b) ≡ cells_from f m a ++ cells_from f (forward m a) b
  unfolding cells_from
  cells_from_add m zero b h = ap₂ (λ x y. cells_from f x y) (sym (forward_none m h)) (zero-add b)
  cells_from_add m (suc a) b h =
      let e : suc a + b ≡ suc (a + b) = omega arith in
      rw e (ap (λ l. f (slot_of m) ∷ l) (cells_from_add (next m) a b (omega arith) ∙ ap (λ x. cells_from f (next m) a ++ cells_from f x b) (forward_next m a)))

  pub drop_cells_from : (j m n : ℕ) → m < size → drop j (cells_from f m n) ≡ cells_from f (forward m j) (n - j)
  unfolding cells_from
  drop_cells_from zero m n h = ap₂ (λ x y. cells_from f x y) (sym (forward_none m h)) (let e : n ≡ n - 0 = omega arith in e)
  drop_cells_from (suc j) m zero h = let e : 0 - suc j ≡ 0 = omega arith in rw e
  drop_cells_from (suc j) m (suc n) h =
      let e : suc n - suc j ≡ n - j = omega arith in
      rw e (drop_cells_from j (next m) n (omega arith) ∙ ap (λ x. cells_from f x (n - j)) (forward_next m j))

  pub take_cells_from : (j m n : ℕ) → take j (cells_from f m n) ≡ cells_from f m (j - (j - n))
  unfolding cells_from
  take_cells_from zero m n = ap (cells_from f m) (let e : 0 ≡ 0 - (0 - n) = omega arith in e)
  take_cells_from (suc j) m zero = ap (cells_from f m) (let e : 0 ≡ suc j - (suc j - 0) = omega arith in e)
  take_cells_from (suc j) m (suc n) =
      let e : suc j - (suc j - suc n) ≡ suc (j - (j - n)) = omega arith in rw e (ap (λ l. f (slot_of m) ∷ l) (take_cells_from j (next m) n))

  pub cells_from_at : (m n i : ℕ) (d : Cell ℕ) → i < n → get_or (cells_from f m n) i d ≡ f (slot_of (m + i))
  unfolding cells_from
  cells_from_at m zero i d h = absurd (let z : ⊥ = omega arith in z)
  cells_from_at m (suc n) zero d h = ap f (slot_none m)
  cells_from_at m (suc n) (suc i) d h = cells_from_at (next m) n i d (omega arith) ∙ ap f (slot_next m i)

-- a window goes by the slots that it has
pub cells_from_same : (f g : ℕ → Cell ℕ) (m n : ℕ) → ((j : ℕ) → j < n → f (slot_of (m + j)) ≡ g (slot_of (m + j))) → cells_from f m n ≡ cells_from g m n
unfolding cells_from
cells_from_same f g m zero h = refl
cells_from_same f g m (suc n) h =
    ap₂ {C = List (Cell ℕ)} (λ x l. x ∷ l) (rw slot_none (h 0 (omega arith)))
    (cells_from_same f g (next m) n (λ j p. ap f (slot_next m j) ∙ h (suc j) (omega arith) ∙ ap g (sym (slot_next m j))))

-- all its slots hold the same cell
pub cells_from_all : (f : ℕ → Cell ℕ) (x : Cell ℕ) (m n : ℕ) → ((j : ℕ) → j < n → f (slot_of (m + j)) ≡ x) → cells_from f m n ≡ replicate n x
unfolding cells_from
cells_from_all f x m zero h = refl
cells_from_all f x m (suc n) h =
    ap₂ {C = List (Cell ℕ)} (λ x l. x ∷ l) (rw slot_none (h 0 (omega arith)))
    (cells_from_all f x (next m) n (λ j p. ap f (slot_next m j) ∙ h (suc j) (omega arith)))

-- one slot of the window is another
pub cells_from_set : (f g : ℕ → Cell ℕ) (m n k : ℕ) → n ≤ slots → k < n → ((i : ℕ) → (i ≡ slot_of (m + k) → ⊥) → g i ≡ f i)
    → cells_from g m n ≡ set (cells_from f m n) k (g (slot_of (m + k)))
unfolding cells_from
cells_from_set f g m zero k b h o = absurd (let z : ⊥ = omega arith in z)
cells_from_set f g m (suc n) zero b h o =
    ap₂ {C = List (Cell ℕ)} (λ x l. x ∷ l) (ap g (slot_none m))
    (cells_from_same g f (next m) n (λ j p. o _ (λ e. slots_apart m 0 (suc j) (omega arith) (omega arith) (sym (sym (slot_next m j) ∙ e)))))
cells_from_set f g m (suc n) (suc k) b h o =
    let e : slot_of (m + suc k) ≡ slot_of (next m + k) = omega arith in
    ap₂ {C = List (Cell ℕ)} (λ x l. x ∷ l) (o _ (λ r. slots_apart m 0 (suc k) (omega arith) (omega arith) (sym (slot_none m) ∙ r)))
    (cells_from_set f g (next m) n k (omega arith) (omega arith) (λ i q. o i (λ r. q (r ∙ e))) ∙ ap (λ (i : ℕ). set (cells_from f (next m) n) k (g i)) (sym e))

-- A slot by its mark.
module _ (words handles marks : List ℕ) (i : ℕ) where
  pub cell_waits : is_missing marks i ≡ false → cell_at words handles marks i ≡ waits (handle_at handles i)
  cell_waits e = rw e

  pub cell_missing : is_missing marks i ≡ true → cell_at words handles marks i ≡ missing (time_at words i)
  cell_missing e = rw e
