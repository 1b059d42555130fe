-- What a store leaves: it is read back where it was made, and everything else of the place reads as before. Assumes nothing.
use Prim.Native.Nat.{ℕ, ◌+◌, ◌-◌, ◌≤◌, ◌<◌}
use mathlib.Core.Path.{◌≡◌, refl, ap, ◌∙◌}
use mathlib.Core.Bool.{true, false}
use mathlib.Core.List.{List}
use native.Mathlib.Omega.{arith}
use lib.Dec.{eqb}
use lib.ListN.{length, get_or, set, take, drop, length-set, length-drop}
use lib.Seq.{take_all, get_or-drop, get_or-set_same, get_or-set_other}
use Rattle.slots.specs.Slots.{slots, times_from, place_words, current_in, oldest_in, latest_in, is_missing, time_at, handle_at, with_head, with_latest, with_time, with_handle, with_missing, with_waiting}

-- C, M and the latest time anew
module _ (w : List ℕ) (c m t : ℕ) (sized : times_from ≤ length w) where
  pub head_current : current_in (with_head w c m t) ≡ c
  head_current =
      get_or-set_other (set (set w 0 c) 1 m) 2 0 t 0 (λ e. omega arith)
      ∙ get_or-set_other (set w 0 c) 1 0 m 0 (λ e. omega arith)
      ∙ get_or-set_same w 0 c 0 (omega arith)

  pub head_oldest : oldest_in (with_head w c m t) ≡ m
  head_oldest =
      get_or-set_other (set (set w 0 c) 1 m) 2 1 t 0 (λ e. omega arith)
      ∙ get_or-set_same (set w 0 c) 1 m 0 (simp length-set (omega arith))

  pub head_latest : latest_in (with_head w c m t) ≡ t
  head_latest = get_or-set_same (set (set w 0 c) 1 m) 2 t 0 (simp length-set (omega arith))

pub head_times : (w : List ℕ) (c m t j : ℕ) → time_at (with_head w c m t) j ≡ time_at w j
head_times w c m t j =
    get_or-set_other (set (set w 0 c) 1 m) 2 (times_from + j) t 0 (λ e. omega arith)
    ∙ get_or-set_other (set w 0 c) 1 (times_from + j) m 0 (λ e. omega arith)
    ∙ get_or-set_other w 0 (times_from + j) c 0 (λ e. omega arith)

pub length_headed : (w : List ℕ) (c m t : ℕ) → length (with_head w c m t) ≡ length w
length_headed w c m t = simp length-set refl

-- the times by themselves
pub times_part : (w : List ℕ) (j : ℕ) → get_or (take (length w - times_from) (drop times_from w)) j 0 ≡ time_at w j
times_part w j = ap (λ (l : List ℕ). get_or l j 0) (take_all (length w - times_from) (drop times_from w) (omega (arith, length-drop times_from w))) ∙ get_or-drop times_from w j 0

-- the latest time alone
module _ (w : List ℕ) (t : ℕ) where
  pub latest_current : current_in (with_latest w t) ≡ current_in w
  latest_current = get_or-set_other w 2 0 t 0 (λ e. omega arith)

  pub latest_oldest : oldest_in (with_latest w t) ≡ oldest_in w
  latest_oldest = get_or-set_other w 2 1 t 0 (λ e. omega arith)

  pub latest_latest : times_from ≤ length w → latest_in (with_latest w t) ≡ t
  latest_latest sized = get_or-set_same w 2 t 0 (omega arith)

  pub latest_times : (j : ℕ) → time_at (with_latest w t) j ≡ time_at w j
  latest_times j = get_or-set_other w 2 (times_from + j) t 0 (λ e. omega arith)

-- the number of a slot waits with its handle
pub handle_here : (h : List ℕ) (j x : ℕ) → j < length h → handle_at (with_handle h j x) j ≡ x
handle_here h j x fits = get_or-set_same h j x 0 fits

pub handle_beside : (h : List ℕ) (j x i : ℕ) → (i ≡ j → ⊥) → handle_at (with_handle h j x) i ≡ handle_at h i
handle_beside h j x i other = get_or-set_other h j i x 0 other

pub length_handled : (h : List ℕ) (j x : ℕ) → length (with_handle h j x) ≡ length h
length_handled h j x = length-set h j x

pub length_waiting : (k : List ℕ) (j : ℕ) → length (with_waiting k j) ≡ length k
length_waiting k j = length-set k j 1

pub waiting_here : (k : List ℕ) (j : ℕ) → j < length k → is_missing (with_waiting k j) j ≡ false
waiting_here k j fits = ap (λ (m : ℕ). eqb m 0) (get_or-set_same k j 1 0 fits)

pub waiting_beside : (k : List ℕ) (j i : ℕ) → (i ≡ j → ⊥) → is_missing (with_waiting k j) i ≡ is_missing k i
waiting_beside k j i other = ap (λ (m : ℕ). eqb m 0) (get_or-set_other k j i 1 0 other)

-- A store at a slot of a list that has so much room, and what reads it.
pub record Stores {A : Type 0} (put : List ℕ → ℕ → List ℕ) (get : List ℕ → ℕ → A) (stored : A) (room : ℕ) : Type 0 where
  pub sized : (l : List ℕ) (j : ℕ) → length (put l j) ≡ length l
  pub here : (l : List ℕ) (j : ℕ) → room ≤ length l → j < slots → get (put l j) j ≡ stored
  pub beside : (l : List ℕ) (j i : ℕ) → (i ≡ j → ⊥) → get (put l j) i ≡ get l i

-- the number of a slot is missing since a time
pub time_stores : (t : ℕ) → Stores (λ w j. with_time w j t) time_at t place_words
time_stores t =
    record {
      sized = λ w j. length-set w (times_from + j) t;
      here = λ w j room fits. get_or-set_same w (times_from + j) t 0 (omega arith);
      beside = λ w j i other. get_or-set_other w (times_from + j) (times_from + i) t 0 (λ e. other (omega arith));
    }

pub mark_stores : Stores with_missing is_missing true slots
mark_stores =
    record {
      sized = λ k j. length-set k j 0;
      here = λ k j room fits. ap (λ (m : ℕ). eqb m 0) (get_or-set_same k j 0 0 (omega arith));
      beside = λ k j i other. ap (λ (m : ℕ). eqb m 0) (get_or-set_other k j i 0 0 other);
    }
