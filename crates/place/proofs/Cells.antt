-- What stores in the parts of a place make of its slots: a number that waits from now on, and numbers that are missing from now on.
-- Assumes nothing.
use Prim.Native.Nat.{ℕ, ◌+◌, ◌≤◌, ◌<◌}
use mathlib.Core.Path.{◌≡◌, ap, ap₂, sym, ◌∙◌}
use mathlib.Core.List.{List, ◌++◌}
use native.Mathlib.Omega.{arith}
use lib.ListN.{length, replicate}
use Rattle.ring.specs.Ring.{size, forward}
use Rattle.larq.specs.Channel.{Cell, waits, missing}
use Rattle.slots.specs.Slots.{slots, slot_of, place_words, with_handle, with_waiting}
use Rattle.record.specs.Place.{cells_from, cell_at}
use Rattle.slots.proofs.Stores.{handle_here, handle_beside, waiting_here, waiting_beside, time_stores, mark_stores}
use Rattle.stepping.specs.Step.{times_missing, marks_missing}
use Rattle.record.proofs.Rounds.{slots_apart}
use Rattle.record.proofs.Windows.{cells_from_add, cells_from_same, cells_from_all, cell_missing}
use Rattle.stepping.proofs.Stamping.{stamped_in, stamped_out}

-- the number of a slot waits with its handle
module _ (w h k : List ℕ) (i x : ℕ) where
  pub cell_brought : i < length h → i < length k → cell_at w (with_handle h i x) (with_waiting k i) i ≡ waits x
  cell_brought p q = rw (waiting_here k i q, handle_here h i x p)

  pub cell_beside : (j : ℕ) → (j ≡ i → ⊥) → cell_at w (with_handle h i x) (with_waiting k i) j ≡ cell_at w h k j
  cell_beside j o = rw (waiting_beside k i j o, handle_beside h i x j o)

-- n numbers from a on become missing at time t
module _ (w h k : List ℕ) (a n t : ℕ) where
  pub cell_missed : (i : ℕ) → place_words ≤ length w → slots ≤ length k → i < n
      → cell_at (times_missing w a n t) h (marks_missing k a n) (slot_of (a + i)) ≡ missing t
  cell_missed i lw lk p =
      cell_missing (times_missing w a n t) h (marks_missing k a n) (slot_of (a + i)) (stamped_in mark_stores k a n i lk p)
      ∙ ap missing (stamped_in (time_stores t) w a n i lw p)

  pub cell_unmissed : (j : ℕ) → ((i : ℕ) → i < n → slot_of (a + i) ≡ j → ⊥)
      → cell_at (times_missing w a n t) h (marks_missing k a n) j ≡ cell_at w h k j
  cell_unmissed j o = rw (stamped_out mark_stores k a n j o, stamped_out (time_stores t) w a n j o)

-- The window when n numbers from `forward m old` on have become missing and `last` has come after them: the old ones stand as they did.
pub cells_from_grown : (f g : ℕ → Cell ℕ) (m old n t : ℕ) (last : List (Cell ℕ)) → m < size → old + (n + length last) ≤ slots
    → ((j : ℕ) → ((i : ℕ) → i < n + length last → slot_of (forward m old + i) ≡ j → ⊥) → g j ≡ f j)
    → ((i : ℕ) → i < n → g (slot_of (forward m old + i)) ≡ missing t)
    → cells_from g (forward (forward m old) n) (length last) ≡ last
    → cells_from g m (old + (n + length last)) ≡ cells_from f m old ++ (replicate n (missing t) ++ last)
cells_from_grown f g m old n t last ring fits kept new end =
    cells_from_add g m old (n + length last) ring
    ∙ ap₂ {C = List (Cell ℕ)} (λ x y. x ++ y)
    (cells_from_same g f m old (λ j p. kept (slot_of (m + j)) (λ i q e. apart i j p q e)))
    (cells_from_add g (forward m old) n (length last) (omega arith)
    ∙ ap₂ {C = List (Cell ℕ)} (λ x y. x ++ y) (cells_from_all g (missing t) (forward m old) n new) end)
  where
    same : (i : ℕ) → slot_of (forward m old + i) ≡ slot_of (m + (old + i))
    same i = omega arith

    apart : (i j : ℕ) → j < old → i < n + length last → slot_of (forward m old + i) ≡ slot_of (m + j) → ⊥
    apart i j p q e = slots_apart m j (old + i) (omega arith) (omega arith) (sym e ∙ same i)
