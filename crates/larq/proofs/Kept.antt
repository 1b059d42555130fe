-- Kept: after any run from the empty table, a handle that was accepted has gone up, or has come back, or still waits, and no two of these.
-- Document 01, 'The four channel events', last paragraph. Calls are told apart by their index, so equal handles are too.
use Prim.Native.Nat.{ℕ, zero, suc, ◌+◌, ◌<◌}
use mathlib.Core.Path.{◌≡◌, refl, ap, sym, ◌∙◌}
use mathlib.Core.Bool.{Bool, true, false, cond}
use mathlib.Core.List.{List, [], ◌∷◌, ◌++◌, map}
use native.Mathlib.Omega.{arith}
use lib.Dec.{eqb}
use borrow.Author.Tests.{eq-eqb, ne_eqb}
use Rattle.larq.specs.Answer.{Answer}
use Rattle.larq.specs.Events.{Act, frame, reminder, tick, close}
use Rattle.larq.specs.Table.{Event}
use Rattle.larq.specs.Run.{run, answers, empty}
use Rattle.larq.specs.Counts.{all_up}
use Rattle.larq.specs.Calls.{all_returned, waiting_in, indexed_act, indexed_event, indexed, occurrences, IsData, AcceptedData}
use Rattle.larq.specs.Renaming.{on_answer, on_act, on_event, on_table, own}
use Rattle.larq.proofs.Renamed.{answers_renamed, run_renamed}
use Rattle.larq.proofs.Weights.{given, all_given, total, total_append, run_level}

module _ {A : Type 0} where
  -- how much of call j a handle is
  abbrev is : ℕ → ℕ × A → ℕ
  is j x = cond (eqb x.0 j) 1 0

  occurrences_total : (j : ℕ) (xs : List (ℕ × A)) → occurrences j xs ≡ total (is j) xs
  occurrences_total j [] = refl
  occurrences_total j (x ∷ xs) = ap (λ (n : ℕ). is j x + n) (occurrences_total j xs)

  given_other : (n i j : ℕ) (a : Act A) → (i ≡ j → ⊥) → occurrences j (given n (indexed_act i a)) ≡ 0
  given_other n i j (frame s h) q = go (eqb n 0)
    where
      go : (b : Bool) → occurrences j (cond b ((i, h) ∷ []) []) ≡ 0
      go true = rw (ne_eqb i j q)
      go false = refl
  given_other n i j (reminder s) q = refl
  given_other n i j tick q = refl
  given_other n i j close q = refl

  given_own : (n i : ℕ) (a : Act A) → IsData a → n ≡ 0 → occurrences i (given n (indexed_act i a)) ≡ 1
  given_own n i (frame s h) d e = rw (e, eq-eqb i i refl)
  given_own n i (reminder s) d e = absurd d
  given_own n i tick d e = absurd d
  given_own n i close d e = absurd d

  occurrences_append : (j : ℕ) (xs ys : List (ℕ × A)) → occurrences j (xs ++ ys) ≡ occurrences j xs + occurrences j ys
  occurrences_append j xs ys = occurrences_total j (xs ++ ys) ∙ total_append (is j) xs ys ∙ rw (occurrences_total j xs, occurrences_total j ys)

  -- no later call has an earlier index
  none_before : (i j : ℕ) (es : List (Event A)) (rs : List (Answer (ℕ × A))) → j < i → occurrences j (all_given (indexed i es) rs) ≡ 0
  none_before i j [] rs l = refl
  none_before i j (e ∷ es) [] l = refl
  none_before i j (e ∷ es) (r ∷ rs) l =
      omega (arith, occurrences_append j (given r.number (indexed_act i e.act)) (all_given (indexed (suc i) es) rs), given_other r.number i j e.act (omega arith), none_before (suc i) j es rs (omega arith))

  -- an accepted data call gives its handle once
  given_once : (i j : ℕ) (es : List (Event A)) (rs : List (Answer (ℕ × A))) → AcceptedData es (map (on_answer own) rs) j → occurrences (i + j) (all_given (indexed i es) rs) ≡ 1
  given_once i j [] rs p = absurd p
  given_once i j (e ∷ es) [] p = absurd p
  given_once i zero (e ∷ es) (r ∷ rs) p =
      let z : i + 0 ≡ i = omega arith in
      rw z (omega (arith, occurrences_append i (given r.number (indexed_act i e.act)) (all_given (indexed (suc i) es) rs), given_own r.number i e.act p.0 p.1, none_before (suc i) i es rs (omega arith)))
  given_once i (suc j) (e ∷ es) (r ∷ rs) p =
      let z : i + suc j ≡ suc i + j = omega arith in
      rw z (omega (
        arith,
        occurrences_append (suc i + j) (given r.number (indexed_act i e.act)) (all_given (indexed (suc i) es) rs),
        given_other r.number i (suc i + j) e.act (omega arith),
        given_once (suc i) j es rs p,
      ))

  act_back : (i : ℕ) (a : Act A) → on_act own (indexed_act i a) ≡ a
  act_back i (frame s h) = refl
  act_back i (reminder s) = refl
  act_back i tick = refl
  act_back i close = refl

  event_back : (i : ℕ) (e : Event A) → on_event own (indexed_event i e) ≡ e
  event_back i e = λ k. record { key = e.key; time = e.time; act = act_back i e.act k; lent = e.lent }

  indexed_back : (i : ℕ) (es : List (Event A)) → map (on_event own) (indexed i es) ≡ es
  indexed_back i [] = refl
  indexed_back i (e ∷ es) = rw (event_back i e, indexed_back (suc i) es)

  -- the box's own run is the indexed one with the indexes taken off
  own_answers : (w : ℕ) (es : List (Event A)) → answers w empty es ≡ map (on_answer own) (answers w empty (indexed 0 es))
  own_answers w es = ap (answers w empty) (sym (indexed_back 0 es)) ∙ answers_renamed own w empty (indexed 0 es)

  own_table : (w : ℕ) (es : List (Event A)) → run w empty es ≡ on_table own (run w empty (indexed 0 es))
  own_table w es = ap (run w empty) (sym (indexed_back 0 es)) ∙ run_renamed own w empty (indexed 0 es)

  -- what became of call j after the run es: the answers and the table are those of the indexed run with the indexes taken off, and in the
  -- indexed run the call's handle stands once, among those handed up, returned and waiting together
  pub record KeptOnce (w : ℕ) (es : List (Event A)) (j : ℕ) : Type 0 where
    pub answers_own : answers w empty es ≡ map (on_answer own) (answers w empty (indexed 0 es))
    pub table_own : run w empty es ≡ on_table own (run w empty (indexed 0 es))
    pub once : occurrences j (all_up (answers w empty (indexed 0 es))) + occurrences j (all_returned (answers w empty (indexed 0 es)))
        + occurrences j (waiting_in (run w empty (indexed 0 es))) ≡ 1

  pub kept : (w : ℕ) (es : List (Event A)) (j : ℕ) → AcceptedData es (answers w empty es) j → KeptOnce w es j
  kept w es j p = record { answers_own = own_answers w es; table_own = own_table w es; once = once }
    where
      fs : List (Event (ℕ × A))
      fs = indexed 0 es

      rs : List (Answer (ℕ × A))
      rs = answers w empty fs

      gave : occurrences j (all_given fs rs) ≡ 1
      gave = let z : 0 + j ≡ j = omega arith in rw z at (given_once 0 j es rs (rw (← own_answers w es) p))

      once : occurrences j (all_up rs) + occurrences j (all_returned rs) + occurrences j (waiting_in (run w empty fs)) ≡ 1
      once =
          omega (
            arith,
            run_level (is j) w empty fs,
            gave,
            occurrences_total j (all_given fs rs),
            occurrences_total j (all_up rs),
            occurrences_total j (all_returned rs),
            occurrences_total j (waiting_in (run w empty fs)),
          )
