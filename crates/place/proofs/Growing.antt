-- The step ahead, which data and reminder share: k numbers from C + 1 on become missing, and the last waits or not. The rules let the window
-- grow and then settle it; the code lets M pass what will be too much first, so that the new numbers find their slots free.
-- Document 01, 'Data', 'Reminder' and 'Settling'. The window w is any number up to the count of slots. Assumes nothing.
use Prim.Native.Nat.{ℕ, zero, suc, ◌+◌, ◌-◌, ◌≤◌, ◌<◌}
use mathlib.Core.Path.{◌≡◌, refl, ap, ap₂, sym, ◌∙◌}
use mathlib.Core.Bool.{true}
use mathlib.Core.List.{List, [], ◌∷◌, ◌++◌, append-nil}
use native.Mathlib.Omega.{arith}
use lib.ListN.{length, take, drop, replicate, length-append, length-replicate, length-drop}
use lib.Seq.{drop-append-le}
use borrow.Author.Tests.{le-ltb}
use Rattle.ring.specs.Ring.{half, size, forward, next, steps, rising}
use Rattle.ring.proofs.Steps.{forward_small, forward_forward}
use Rattle.larq.specs.Channel.{Cell, missing, waiting, head_missing, reach, Channel, span_of}
use Rattle.larq.specs.Settling.{Walked, walk, wide}
use Rattle.larq.specs.Events.{asked}
use Rattle.slots.specs.Slots.{slots, slot_of, is_missing}
use Rattle.record.specs.Place.{cells_from, cell_at}
use Rattle.record.specs.Walk.{earlier, passes, waiting_of}
use Rattle.slots.proofs.Stores.{mark_stores}
use Rattle.stepping.specs.Step.{times_missing, marks_missing}
use Rattle.place.specs.Steps.{Sized, cells_of, handles_with, marks_with, Last, Waits, Missing}
use Rattle.record.proofs.Rounds.{slots_apart, span_end, span_between}
use Rattle.record.proofs.Windows.{length_cells_from, drop_cells_from, take_cells_from}
use Rattle.record.proofs.Waiting.{waiting_cells_from}
use Rattle.stepping.proofs.Stamping.{length_stamped}
use Rattle.place.proofs.Cells.{cell_brought, cell_beside, cell_missed, cell_unmissed, cells_from_grown}
use Rattle.record.proofs.Walks.{so_far, Passed, passed, waiting_append, waiting_fewer, waiting_none, up_few, passes_before, walk_narrow, walk_wide}
use Rattle.record.proofs.Appending.{drop_append, take_append, drop_replicate}
use Rattle.place.proofs.Asking.{asked_run}

-- The numbers of a step: n is the span and d the steps to s, of which k are made missing; M has to pass `over` numbers, `past` of them new;
-- so `count` numbers from `first` on become missing and are asked for.
pub record Grows (w c m s k n d over past count first : ℕ) (last : Last) : Type 0 where
  pub window_some : 0 < w
  pub window_fits : w ≤ slots
  pub m_ring : m < size
  pub s_ring : s < size
  pub n_is : n ≡ span_of c m
  pub n_fits : n ≤ w
  pub d_is : d ≡ steps c s
  pub d_some : 0 < d
  pub d_near : d ≤ reach w
  pub d_all : d ≡ k + length (cells_of last)
  pub over_is : over ≡ n + d - w
  pub past_is : past ≡ over - n
  pub count_is : count ≡ k - past
  pub first_is : first ≡ forward c (1 + past)

-- Plain numbers. e is 1 if the last number waits, else 0.
last_few : (last : Last) → length (cells_of last) ≤ 1
last_few (Waits x) = omega arith
last_few Missing = omega arith

not_too_wide : (w n d over : ℕ) → over ≡ n + d - w → n + d - over ≤ w
not_too_wide w n d over e = omega arith

over_few : (w n d over : ℕ) → over ≡ n + d - w → over ≤ n + d
over_few w n d over e = omega arith

module _ {w c m s k n d over past count first : ℕ} {last : Last} (g : Grows w c m s k n d over past count first last) where
  pub past_few : past ≤ k
  past_few = grind (arith, last_few)

  sizes : n + d - over ≡ (n - over) + (count + length (cells_of last))
  sizes = grind arith

  pub narrow_again : n + d - over ≤ w
  narrow_again = not_too_wide w n d over g.over_is

  after_c : forward m n ≡ next c
  after_c = ap (forward m) g.n_is ∙ span_end c m

  -- the first new number that stays follows the old ones that stay
  first_follows : first ≡ forward (forward m over) (n - over)
  first_follows = grind arith

  -- a waiting last number follows those that became missing
  last_follows : length (cells_of last) ≡ 1 → forward first count ≡ s
  last_follows e = grind arith

  -- the span when s is C and M has passed what was too much
  pub span_again : span_of s (forward m over) ≡ n + d - over
  span_again = grind (arith, span_between)

  -- The window before and after.
  module _ (W H K : List ℕ) (sized : Sized W H K) (t : ℕ) where
    abbrev pub cells : List (Cell ℕ)
    cells = cells_from (cell_at W H K) m n

    abbrev pub cells_all : List (Cell ℕ)
    cells_all = cells ++ (replicate k (missing t) ++ cells_of last)

    abbrev pub new_cell : ℕ → Cell ℕ
    new_cell = cell_at (times_missing W first count t) (handles_with last s H) (marks_with last s (marks_missing K first count))

    abbrev pub walk_again : Walked ℕ
    walk_again = walk (earlier 0) (forward m over) (cells_from new_cell (forward m over) (n + d - over))

    abbrev pub handed : List ℕ
    handed = waiting_of H K m (over - past)

    kept_by : (l : Last) → (length (cells_of l) ≡ 1 → forward first count ≡ s) → (j : ℕ)
        → ((i : ℕ) → i < count + length (cells_of l) → slot_of (first + i) ≡ j → ⊥)
        → cell_at (times_missing W first count t) (handles_with l s H) (marks_with l s (marks_missing K first count)) j ≡ cell_at W H K j
    kept_by Missing f j o = cell_unmissed W H K first count t j (λ i p. o i (omega arith))
    kept_by (Waits x) f j o =
        cell_beside (times_missing W first count t) H (marks_missing K first count) (slot_of s) x j (λ e. o count (omega arith) (slot_of_law (f refl) ∙ sym e))
        ∙ cell_unmissed W H K first count t j (λ i p. o i (omega arith))
      where
        slot_of_law : forward first count ≡ s → slot_of (first + count) ≡ slot_of s
        slot_of_law e = omega arith

    new_by : (l : Last) → (length (cells_of l) ≡ 1 → forward first count ≡ s) → count + length (cells_of l) ≤ slots → (i : ℕ) → i < count
        → cell_at (times_missing W first count t) (handles_with l s H) (marks_with l s (marks_missing K first count)) (slot_of (first + i)) ≡ missing t
    new_by Missing f b i p = cell_missed W H K first count t i (omega (arith, sized.words)) (omega (arith, sized.marks)) p
    new_by (Waits x) f b i p =
        cell_beside (times_missing W first count t) H (marks_missing K first count) (slot_of s) x (slot_of (first + i))
        (λ e. slots_apart first i count p (omega arith) (e ∙ sym (slot_of_law (f refl))))
        ∙ cell_missed W H K first count t i (omega (arith, sized.words)) (omega (arith, sized.marks)) p
      where
        slot_of_law : forward first count ≡ s → slot_of (first + count) ≡ slot_of s
        slot_of_law e = omega arith

    end_by : (l : Last) → (length (cells_of l) ≡ 1 → forward first count ≡ s)
        → cells_from (cell_at (times_missing W first count t) (handles_with l s H) (marks_with l s (marks_missing K first count))) (forward first count) (length (cells_of l))
        ≡ cells_of l
    unfolding cells_from
    end_by Missing f = refl
    end_by (Waits x) f =
        rw (f refl)
        (ap (λ y. y ∷ [])
        (cell_brought (times_missing W first count t) H (marks_missing K first count) (slot_of s) x (omega (arith, sized.handles))
        (omega (arith, sized.marks, length_stamped mark_stores K first count))))

    -- the old numbers that stay, the new ones that stay, and the last
    pub cells_from_again : cells_from new_cell (forward m over) (n + d - over)
        ≡ cells_from (cell_at W H K) (forward m over) (n - over) ++ (replicate count (missing t) ++ cells_of last)
    cells_from_again =
        ap (cells_from new_cell (forward m over)) sizes
        ∙ cells_from_grown (cell_at W H K) new_cell (forward m over) (n - over) count t (cells_of last) (forward_small m over) fits
        (λ j o. kept_by last last_follows j (λ i p e. o i p (ap (λ x. slot_of (x + i)) (sym first_follows) ∙ e)))
        (λ i p. ap (λ x. new_cell (slot_of (x + i))) (sym first_follows) ∙ new_by last last_follows some_fit i p)
        (ap (λ x. cells_from new_cell (forward x count) (length (cells_of last))) (sym first_follows) ∙ end_by last last_follows)
      where
        fits : (n - over) + (count + length (cells_of last)) ≤ slots
        fits = omega (arith, sizes, narrow_again, g.window_fits)

        some_fit : count + length (cells_of last) ≤ slots
        some_fit = omega (arith, fits)

    -- ... are what the rules' grown window has left when M has passed what is too much
    rest : cells_from new_cell (forward m over) (n + d - over) ≡ drop over cells_all
    rest =
        cells_from_again
        ∙ sym (drop_append over cells (replicate k (missing t) ++ cells_of last)
        ∙ ap₂ {C = List (Cell ℕ)} (λ x y. x ++ y) (drop_cells_from (cell_at W H K) over m n g.m_ring)
        (ap (λ j. drop j (replicate k (missing t) ++ cells_of last)) (ap (λ y. over - y) (length_cells_from (cell_at W H K) m n) ∙ sym g.past_is)
        ∙ drop-append-le past (replicate k (missing t)) (cells_of last) (simp length-replicate past_few)
        ∙ ap (λ l. l ++ cells_of last) (drop_replicate past k (missing t) ∙ ap (λ y. replicate y (missing t)) (sym g.count_is))))

    -- those that M passed at once hand up what waits among the old ones
    gone : waiting (take over cells_all) ≡ handed
    gone =
        ap waiting (take_append over cells (replicate k (missing t) ++ cells_of last))
        ∙ waiting_append (take over cells) _
        ∙ ap₂ {C = List ℕ} (λ x y. x ++ y)
        (ap waiting (take_cells_from (cell_at W H K) over m n ∙ ap (λ j. cells_from (cell_at W H K) m (over - j)) (sym g.past_is))
        ∙ waiting_cells_from W H K m (over - past))
        (ap (λ j. waiting (take j (replicate k (missing t) ++ cells_of last)))
        (ap (λ y. over - y) (length_cells_from (cell_at W H K) m n) ∙ sym g.past_is)
        ∙ waiting_none past k t (cells_of last) past_few)
        ∙ append-nil handed

    length_all : length cells_all ≡ n + d
    length_all =
        length-append cells _
        ∙ ap₂ (λ x y. x + y) (length_cells_from (cell_at W H K) m n)
        (length-append (replicate k (missing t)) (cells_of last) ∙ ap (λ y. y + length (cells_of last)) (length-replicate k (missing t)) ∙ sym g.d_all)

    pub walk_grown : walk (wide w) m cells_all ≡ so_far handed (over - length handed) walk_again
    walk_grown =
        walk_wide w over m cells_all g.m_ring (rw length_all (enough w n d over g.over_is))
        ∙ ap₂ (λ x y. so_far x (over - length x) (walk (wide w) (forward m over) y)) gone (sym rest)
        ∙ ap (so_far handed (over - length handed))
        (walk_narrow w (forward m over) (cells_from new_cell (forward m over) (n + d - over))
        (rw (length_cells_from new_cell (forward m over) (n + d - over)) narrow_again))
      where
        enough : (w n d over : ℕ) → over ≡ n + d - w → over ≤ n + d - w
        enough w n d over e = omega arith

    -- No more goes up than waits: fewer than w of the old numbers, as M is missing, and the last.
    pub head_missing_law : (0 < n → is_missing K (slot_of m) ≡ true) → head_missing cells ≡ true
    unfolding cells_from
    head_missing_law o = grind arith

    pub up_room : (0 < n → is_missing K (slot_of m) ≡ true) → length handed + length walk_again.up ≤ w
    up_room o =
        let all : length (handed ++ walk_again.up) ≤ length (waiting cells_all) =
        rw (ap (λ p. length p.up) walk_grown) at (up_few (wide w) m cells_all) in
        let split : length (waiting cells_all) ≡ length (waiting cells) + length (waiting (replicate k (missing t) ++ cells_of last)) =
        ap length (waiting_append cells _) ∙ length-append (waiting cells) _ in
        let old : length (waiting cells) < w =
        waiting_fewer w cells (head_missing_law o) g.window_some (rw (length_cells_from (cell_at W H K) m n) g.n_fits) in
        let new : length (waiting (replicate k (missing t) ++ cells_of last)) ≤ 1 = brought k last in
        omega (arith, length-append handed walk_again.up)
      where
        brought : (k : ℕ) (l : Last) → length (waiting (replicate k (missing t) ++ cells_of l)) ≤ 1
        brought (suc k) l = brought k l
        brought zero (Waits x) = omega arith
        brought zero Missing = omega arith

    -- What is asked for.
    again_passed : Passed (forward m over) (cells_from new_cell (forward m over) (n + d - over)) walk_again
    again_passed = passed (earlier 0) (forward m over) (cells_from new_cell (forward m over) (n + d - over)) (forward_small m over)

    again_few : passes walk_again ≤ n + d - over
    again_few = omega (arith, again_passed.few, length_cells_from new_cell (forward m over) (n + d - over))

    -- M does not pass the first number that this call made missing
    again_before : 0 < count → passes walk_again ≤ n - over
    again_before p = by_count count refl p
      where
        by_count : (j : ℕ) → count ≡ j → 0 < j → passes walk_again ≤ n - over
        by_count zero e q = absurd (let z : ⊥ = omega arith in z)
        by_count (suc j) e q =
            let before =
            passes_before (earlier 0) (forward m over) t (cells_from (cell_at W H K) (forward m over) (n - over))
            (replicate j (missing t) ++ cells_of last) (λ _. le-ltb t 0 (omega arith)) in
            let same : walk_again
            ≡ walk (earlier 0) (forward m over) (cells_from (cell_at W H K) (forward m over) (n - over) ++ (replicate (suc j) (missing t) ++ cells_of last)) =
            ap (walk (earlier 0) (forward m over))
            (cells_from_again ∙ ap (λ i. cells_from (cell_at W H K) (forward m over) (n - over) ++ (replicate i (missing t) ++ cells_of last)) e) in
            rw same (omega (arith, before, length_cells_from (cell_at W H K) (forward m over) (n - over)))

    pub asked_grown : (r : Channel ℕ) → r.current ≡ c → asked r k (so_far handed (over - length handed) walk_again) ≡ rising first count
    asked_grown r ec =
        asked_run r (so_far handed (over - length handed) walk_again) m n k d (over + passes walk_again)
        (small w n d g.window_fits g.n_fits g.d_near) (omega (arith, g.d_all))
        (most n d over (passes walk_again) (over_few w n d over g.over_is) again_few)
        (ap next ec ∙ sym after_c)
        (again_passed.oldest ∙ forward_forward m over (passes walk_again))
        (ap length again_passed.cells
        ∙ length-drop (passes walk_again) (cells_from new_cell (forward m over) (n + d - over))
        ∙ ap (λ y. y - passes walk_again) (length_cells_from new_cell (forward m over) (n + d - over))
        ∙ less (n + d) over (passes walk_again))
        ∙ ap (λ x. rising (forward (next x) (over + passes walk_again - n)) (k - (over + passes walk_again - n))) ec
        ∙ by_count count refl
      where
        small : (w n d : ℕ) → w ≤ slots → n ≤ w → d ≤ reach w → n + d < half
        small w n d a b e = omega arith

        most : (n d over r : ℕ) → over ≤ n + d → r ≤ n + d - over → over + r ≤ n + d
        most n d over r a b = omega arith

        less : (x y z : ℕ) → x - y - z ≡ x - (y + z)
        less x y z = omega arith

        none_left : (k n over past r : ℕ) → past ≡ over - n → k - past ≡ 0 → k - (over + r - n) ≡ 0
        none_left k n over past r a b = omega arith

        not_passed : (n over past r : ℕ) → past ≡ over - n → r ≤ n - over → over + r - n ≡ past
        not_passed n over past r a b = omega arith

        by_count : (j : ℕ) → count ≡ j → rising (forward (next c) (over + passes walk_again - n)) (k - (over + passes walk_again - n)) ≡ rising first count
        by_count zero e =
            ap (rising (forward (next c) (over + passes walk_again - n)))
            (none_left k n over past (passes walk_again) g.past_is (sym g.count_is ∙ e))
            ∙ sym (ap (rising first) e)
        by_count (suc j) e =
            let l = not_passed n over past (passes walk_again) g.past_is (again_before (rw e (omega arith))) in
            ap (λ x. rising (forward (next c) x) (k - x)) l
            ∙ ap₂ rising (forward_forward c 1 past ∙ sym g.first_is) (sym g.count_is)
