-- Number s lies at C or behind it: where it is missing it waits and M settles, else its handle comes back. What the calls leave is what the
-- rules say. Document 01, 'Data'. Assumes nothing.
use Prim.Native.Nat.{ℕ, ◌≤◌, ◌<◌}
use mathlib.Core.Path.{◌≡◌, refl, ap, ap₂, sym, ◌∙◌}
use mathlib.Core.Logic.{⊎_elim}
use mathlib.Core.Option.{some}
use mathlib.Core.List.{List, [], ◌∷◌}
use native.Mathlib.Omega.{arith}
use lib.ListN.{length, get_or, set}
use Rattle.ring.specs.Ring.{steps}
use Rattle.larq.specs.Channel as channel
use Rattle.larq.specs.Channel.{Cell, waits, missing, window}
use Rattle.larq.specs.Settling.{Walked, walk}
use Rattle.larq.specs.Answer.{accepted, holds}
use Rattle.larq.specs.Events.{asked, filled, settled_at, moved, taken}
use Rattle.slots.specs.Slots.{slot_of, time_at, handle_at, with_handle, with_waiting}
use Rattle.record.specs.Place.{cells_from, cell_at, record_with}
use Rattle.place.specs.Call.{DidAt, told, parts, buffers}
use Rattle.std.specs.Prelude.{Ok}
use Rattle.record.specs.Walk.{earlier}
use Rattle.record.specs.Moving.{record_in, span_in}
use Rattle.stepping.specs.Step.{nothing}
use Rattle.place.specs.Steps.{Ready, Roomy, walk_of, Finished, answer_of, filled_at}
use Rattle.judging.specs.Judge.{MissingAt}
use Rattle.judging.proofs.Spots.{UnwantedAt}
use Rattle.stepping.specs.declared.Counts.{Counts}
use Rattle.record.specs.declared.Record.{Record}
use Rattle.record.proofs.Rounds.{slot_steps}
use Rattle.record.proofs.Windows.{length_cells_from, cells_from_at, cells_from_set, cell_waits, cell_missing}
use Rattle.record.proofs.Laying.{wrote_front, wrote_none}
use Rattle.place.proofs.Cells.{cell_brought, cell_beside}
use Rattle.record.proofs.Walks.{up_few, waiting_few, walk_narrow, never_lost}
use Rattle.place_frame.proofs.Filling.{filling_missing, filling_waiting, filling_past}

module _ {r : Record} {W H K : List ℕ} (ready : Ready r W H K) (s x t : ℕ) where
  abbrev m : ℕ
  m = r.oldest.0

  abbrev c : ℕ
  c = r.current.0

  abbrev n : ℕ
  n = span_in r

  abbrev cells : List (Cell ℕ)
  cells = cells_from (cell_at W H K) m n

  at_steps : steps m s < n → get_or cells (steps m s) (missing 0) ≡ cell_at W H K (slot_of s)
  at_steps l = cells_from_at (cell_at W H K) m n (steps m s) (missing 0) l ∙ ap (cell_at W H K) (slot_steps m s)

  within_cells : steps m s < n → steps m s < length cells
  within_cells l = rw (length_cells_from (cell_at W H K) m n) l

  -- It waits already or lies before M.
  pub rule_unwanted : UnwantedAt r K s → filled_at (record_in r W H K) t s x ≡ accepted [] (x ∷ []) [] 0 (holds (taken (record_in r W H K) t))
  unfolding record_with
  rule_unwanted at =
      ap (filled channel.window (record_in r W H K) t x)
      (⊎_elim (λ l. filling_past cells (steps m s) x (rw (length_cells_from (cell_at W H K) m n) l))
      (λ o.
      filling_waiting cells (steps m s) (handle_at H (slot_of s)) (missing 0) x (within_cells o.0)
      (at_steps o.0 ∙ cell_waits W H K (slot_of s) o.1))
      at.unwanted)

  -- It is missing, and waits from now on.
  module _ (at : MissingAt r K s) where
    abbrev H' : List ℕ
    H' = with_handle H (slot_of s) x

    abbrev K' : List ℕ
    K' = with_waiting K (slot_of s)

    abbrev again : Walked ℕ
    again = walk (earlier 0) m (cells_from (cell_at W H' K') m n)

    cells_filled : cells_from (cell_at W H' K') m n ≡ set cells (steps m s) (waits x)
    cells_filled =
        cells_from_set (cell_at W H K) (cell_at W H' K') m n (steps m s) ready.narrow at.within
        (λ j o. cell_beside W H K (slot_of s) x j (λ e. o (e ∙ sym (slot_steps m s))))
        ∙ ap (set cells (steps m s))
        (ap (cell_at W H' K') (slot_steps m s)
        ∙ cell_brought W H K (slot_of s) x (omega (arith, ready.sized.handles)) (omega (arith, ready.sized.marks)))

    rule_missing : filled_at (record_in r W H K) t s x ≡ accepted again.up [] [] again.lost (holds (moved c t again))
    unfolding record_with asked
    rule_missing =
        ap (filled channel.window (record_in r W H K) t x)
        (filling_missing cells (steps m s) (time_at W (slot_of s)) (missing 0) x (within_cells at.within)
        (at_steps at.within ∙ cell_missing W H K (slot_of s) at.marked)
        ∙ ap some (sym cells_filled))
        ∙ ap (settled_at (record_in r W H K) t c 0)
        (walk_narrow channel.window m (cells_from (cell_at W H' K') m n) (rw (length_cells_from (cell_at W H' K') m n) ready.narrow))

    few_up : length again.up ≤ window
    few_up = grind (arith, up_few, waiting_few, length_cells_from)

    -- The number is brought, and M settles with C where it was.
    module _ {h k : List ℕ} {to : Record} (handles-are : h ≡ H') (marks-are : k ≡ K') (to-current : to.current.0 ≡ c)
        (to-oldest : to.oldest.0 ≡ m) (to-latest : to.latest ≡ t) where
      walk_to : walk_of to 0 W h k ≡ again
      walk_to = rw (to-current, to-oldest, handles-are, marks-are)

      none_lost : (walk_of to 0 W h k).lost ≡ 0
      none_lost = never_lost to.oldest.0 (cells_from (cell_at W h k) to.oldest.0 (span_in to))

      pub filled_room : (U : List ℕ) → window ≤ length U → Roomy to nothing W h k U
      filled_room U room = grind (arith, walk_to, few_up, none_lost)

      pub filled_did : {U w u : List ℕ} {n : Counts} → Finished to (parts W h k) nothing U w u n → window ≤ length U
          → DidAt (filled_at (record_in r W H K) t s x) (parts W H K) (parts w h k) (buffers U [] []) (buffers u [] []) (told (Ok (answer_of n)))
      filled_did f room =
          rw rule_missing
          (record {
            answer = record {
              number = refl;
              up = wrote_front (rw walk_to at f.up) (omega (arith, few_up));
              returned = wrote_none [];
              nack = rw f.nack (wrote_none []);
              lost = omega (arith, f.lost, ap (λ p. p.lost) walk_to, none_lost);
            };
            became =
                f.became
                ∙ ap (moved to.current.0 to.latest) walk_to
                ∙ ap₂ (λ y z. moved y z again) to-current to-latest;
          })
