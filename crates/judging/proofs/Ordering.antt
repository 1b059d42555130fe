-- The times of missing numbers, which do not fall and of which none is later than the latest time: the turns of the loop that looks.
-- Document 01, 'The channel table': when a record is broken. Assumes nothing.
use Prim.Native.Nat.{ℕ, ◌+◌, ◌-◌, ◌≤◌, ◌<◌}
use mathlib.Core.Path.{◌≡◌, refl, ap, sym, ◌∙◌}
use mathlib.Core.Bool.{Bool, true, false, ◌&&◌, and-false}
use mathlib.Core.List.{List, [], ◌∷◌}
use native.Mathlib.Omega.{arith}
use lib.Dec.{leb}
use borrow.Author.Tests.{le-leb, lt-leb, leb-true}
use Rattle.ring.specs.Ring.{forward}
use Rattle.larq.specs.Channel.{times, orderly}
use Rattle.slots.specs.Slots.{slot_of, latest_in, is_missing, time_at}
use Rattle.record.specs.Place.{cell_at}
use Rattle.judging.specs.Judge.{times_of}
use Rattle.record.proofs.Windows.{cells_from_none, cells_from_past, cells_from_start, cell_waits, cell_missing}

and_true : (b : Bool) → (b && true) ≡ b
and_true true = refl
and_true false = refl

-- times from lo on, where lo itself is no later than hi
abbrev ordered : ℕ → ℕ → List ℕ → Bool
ordered lo hi ts = leb lo hi && orderly lo hi ts

ordered_on : (lo hi t : ℕ) (ts : List ℕ) → lo ≤ t → ordered lo hi (t ∷ ts) ≡ ordered t hi ts
ordered_on lo hi t ts l = rw (le-leb lo t l) (by_latest (leb t hi) refl)
  where
    by_latest : (b : Bool) → leb t hi ≡ b → (leb lo hi && (b && orderly t hi ts)) ≡ (b && orderly t hi ts)
    by_latest true e = let h : lo ≤ hi = omega (arith, leb-true t hi e) in rw (le-leb lo hi h)
    by_latest false e = and-false (leb lo hi)

ordered_falls : (lo hi t : ℕ) (ts : List ℕ) → t < lo → ordered lo hi (t ∷ ts) ≡ false
ordered_falls lo hi t ts l = rw (lt-leb lo t l) (and-false (leb lo hi))

-- What the loop keeps at its j-th number: whether the rest is in order from here is whether the whole is.
pub record Looks (w k : List ℕ) (m n lo j : ℕ) : Type 0 where
  pub says : ordered lo (latest_in w) (times_of w k (forward m j) (n - j)) ≡ orderly 0 (latest_in w) (times_of w k m n)

pub looks_start : (w k : List ℕ) (m n : ℕ) → Looks w k m n 0 0
looks_start w k m n =
    record {
      says =
          ap (λ cs. ordered 0 (latest_in w) (times cs)) (cells_from_start (cell_at w [] k) m n)
          ∙ rw (le-leb 0 (latest_in w) (omega arith));
    }

module _ {w k : List ℕ} {m n lo j : ℕ} (keeps : Looks w k m n lo j) where
  pub looks_end : n ≤ j → leb lo (latest_in w) ≡ orderly 0 (latest_in w) (times_of w k m n)
  looks_end z =
      sym (ap (λ l. ordered lo (latest_in w) (times l)) (cells_from_none (cell_at w [] k) (forward m j) (n - j) (omega arith)) ∙ and_true (leb lo (latest_in w)))
      ∙ keeps.says

  module _ {i : ℕ} (some : j < n) (here : i ≡ forward m j) where
    abbrev rest : List ℕ
    rest = times_of w k (forward m (j + 1)) (n - (j + 1))

    missing_first : {t : ℕ} → is_missing k (slot_of i) ≡ true → t ≡ time_at w (slot_of i) → times_of w k (forward m j) (n - j) ≡ t ∷ rest
    missing_first o since =
        ap times (cells_from_past (cell_at w [] k) m n j some) ∙ rw (← here, cell_missing w [] k (slot_of i) o, since) refl

    pub looks_falls : {t : ℕ} → is_missing k (slot_of i) ≡ true → t ≡ time_at w (slot_of i) → t < lo → false ≡ orderly 0 (latest_in w) (times_of w k m n)
    looks_falls {t} o since l =
        sym (ap (ordered lo (latest_in w)) (missing_first o since) ∙ ordered_falls lo (latest_in w) t rest l)
        ∙ keeps.says

    pub looks_missing : {t : ℕ} → is_missing k (slot_of i) ≡ true → t ≡ time_at w (slot_of i) → lo ≤ t → Looks w k m n t (j + 1)
    looks_missing {t} o since l =
        record {
          says =
              sym (ap (ordered lo (latest_in w)) (missing_first o since) ∙ ordered_on lo (latest_in w) t rest l)
              ∙ keeps.says;
        }

    pub looks_waits : is_missing k (slot_of i) ≡ false → Looks w k m n lo (j + 1)
    looks_waits o =
        let e : times_of w k (forward m j) (n - j) ≡ rest =
        ap times (cells_from_past (cell_at w [] k) m n j some) ∙ rw (← here, cell_waits w [] k (slot_of i) o) refl in
        record { says = sym (ap (ordered lo (latest_in w)) e) ∙ keeps.says }
