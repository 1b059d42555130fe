-- Bounds: at most as many handles go up, and numbers are asked for, as the window has numbers, and one handle less comes back.
-- Document 01, 'Numbers the box may answer with', has the bounds 32 and 31 for the two kinds of handles. So a buffer of 32 entries is enough.
use Prim.Native.Nat.{ℕ, zero, suc, ◌+◌, ◌-◌, ◌≤◌, ◌<◌}
use mathlib.Core.Path.{◌≡◌, refl, ap, sym, subst, ◌∙◌}
use mathlib.Core.Bool.{Bool, true}
use mathlib.Core.Option.{Option, some, none}
use mathlib.Core.List.{List, [], ◌∷◌, ◌++◌}
use native.Mathlib.Omega.{arith}
use borrow.Author.Tests.{leb-true}
use lib.ListN.{length, take, replicate, length-append, length-replicate, length-drop}
use Rattle.ring.specs.Ring.{steps, forward, next, Side, Ahead, Behind, Far}
use Rattle.ring.proofs.Sides.{Seen, sees}
use Rattle.ring.proofs.Steps.{length_rising}
use Rattle.larq.specs.Channel.{Cell, waits, missing, Channel, waiting, head_missing, reach}
use Rattle.larq.specs.Answer.{Answer, holds, Outcome}
use Rattle.larq.specs.Events.{Act, frame, reminder, tick, close, after, filling, filled, grown, data_on, reminder_on, side_of, act_on}
use Rattle.larq.specs.Table.{Event, done, one, number_in_ring}
use Rattle.larq.specs.Moving.{filled_or, entered_data, entered_reminder, Moves, Bounded}
use Rattle.larq.proofs.Cases.{Passes, one_case}
use Rattle.larq.proofs.Orderly.{OnSome}
use Rattle.larq.proofs.Sound.{Good, AllGood, Kept, data_good, reminder_good, act_good}
use Rattle.larq.proofs.Moved.{MovesTo, data_moves, reminder_moves, act_moves}

module _ {H : Type 0} where
  waiting_most : (cs : List (Cell H)) → length (waiting cs) ≤ length cs
  waiting_most [] = omega arith
  waiting_most (waits h ∷ cs) = omega (arith, waiting_most cs)
  waiting_most (missing t ∷ cs) = omega (arith, waiting_most cs)

  waiting_taken : (n : ℕ) (cs : List (Cell H)) → length (waiting (take n cs)) ≤ length (waiting cs)
  waiting_taken zero cs = omega arith
  waiting_taken (suc n) [] = omega arith
  waiting_taken (suc n) (waits h ∷ cs) = omega (arith, waiting_taken n cs)
  waiting_taken (suc n) (missing t ∷ cs) = waiting_taken n cs

  waiting_append : (cs ds : List (Cell H)) → length (waiting (cs ++ ds)) ≡ length (waiting cs) + length (waiting ds)
  waiting_append [] ds = omega arith
  waiting_append (waits h ∷ cs) ds = omega (arith, waiting_append cs ds)
  waiting_append (missing t ∷ cs) ds = waiting_append cs ds

  waiting_missing : (k t : ℕ) (ds : List (Cell H)) → waiting (replicate k (missing t) ++ ds) ≡ waiting ds
  waiting_missing zero t ds = refl
  waiting_missing (suc k) t ds = waiting_missing k t ds

  -- M is missing, so one less than the window waits
  waiting_less : (w : ℕ) (cs : List (Cell H)) → head_missing cs ≡ true → length cs ≤ w → length (waiting cs) ≤ w - 1
  waiting_less w [] e l = omega arith
  waiting_less w (waits h ∷ cs) e l = absurd (let z : ◌≡◌ {A = ℕ} 0 1 = cc in omega arith)
  waiting_less w (missing t ∷ cs) e l = omega (arith, waiting_most cs)

  one_longer : (c : Cell H) (cs : List (Cell H)) (o : Option (List (Cell H))) → OnSome (λ ds. length ds ≡ length cs) o → OnSome (λ ds. length ds ≡ suc (length cs)) (after c o)
  one_longer c cs none r = tt
  one_longer c cs (some ds) r = ap suc r

  waiting_filled : (cs : List (Cell H)) (i : ℕ) (h : H) → OnSome (λ ds. length (waiting ds) ≡ suc (length (waiting cs))) (filling cs i h)
  waiting_filled [] i h = tt
  waiting_filled (waits g ∷ cs) zero h = tt
  waiting_filled (missing t ∷ cs) zero h = refl
  waiting_filled (waits g ∷ cs) (suc i) h = go (filling cs i h) (waiting_filled cs i h)
    where
      go : (o : Option (List (Cell H))) → OnSome (λ ds. length (waiting ds) ≡ suc (length (waiting cs))) o
          → OnSome (λ ds. length (waiting ds) ≡ suc (suc (length (waiting cs)))) (after (waits g) o)
      go none r = tt
      go (some ds) r = ap suc r
  waiting_filled (missing t ∷ cs) (suc i) h = go (filling cs i h) (waiting_filled cs i h)
    where
      go : (o : Option (List (Cell H))) → OnSome (λ ds. length (waiting ds) ≡ suc (length (waiting cs))) o
          → OnSome (λ ds. length (waiting ds) ≡ suc (length (waiting cs))) (after (missing t) o)
      go none r = tt
      go (some ds) r = r

  filling_length : (cs : List (Cell H)) (i : ℕ) (h : H) → OnSome (λ ds. length ds ≡ length cs) (filling cs i h)
  filling_length [] i h = tt
  filling_length (waits g ∷ cs) zero h = tt
  filling_length (missing t ∷ cs) zero h = refl
  filling_length (waits g ∷ cs) (suc i) h = one_longer (waits g) cs (filling cs i h) (filling_length cs i h)
  filling_length (missing t ∷ cs) (suc i) h = one_longer (missing t) cs (filling cs i h) (filling_length cs i h)

  -- a move over a window with at most w waiting, that leaves at most w: `k` of its numbers past the old window were made missing
  moves_bounded : (w : ℕ) (c : Channel H) (cs : List (Cell H)) (k : ℕ) (r : Answer H) (d : Channel H) → Moves c cs k r d → length c.cells + k ≤ length cs
      → length (waiting cs) ≤ w → length d.cells ≤ w → length r.returned ≤ w - 1 → Bounded w r
  moves_bounded w c cs k r d m long most short back =
      record { up = omega (arith, ap length m.up, waiting_taken m.by cs); returned = back; nack = few }
    where
      asked : length r.nack ≡ k - (m.by - length c.cells)
      asked = ap length m.nack ∙ length_rising (forward (next c.current) (m.by - length c.cells)) (k - (m.by - length c.cells))

      left : length d.cells ≡ length cs - m.by
      left = ap length m.cells ∙ length-drop m.by cs

      arithmetic : (n k by total l w : ℕ) → n + k ≤ total → by ≤ total → l ≡ total - by → l ≤ w → k - (by - n) ≤ w
      arithmetic n k by total l w a b c d = omega arith

      few : length r.nack ≤ w
      few = subst (λ (n : ℕ). n ≤ w) (sym asked) (arithmetic (length c.cells) k m.by (length cs) (length d.cells) w long m.most left short)

  module _ (w : ℕ) (two : 2 ≤ w) (half : w < 1024) (c : Channel H) (t : ℕ) (g : Good w c) (late : c.latest ≤ t) where
    few_waiting : length (waiting c.cells) ≤ w - 1
    few_waiting = waiting_less w c.cells g.sound.head g.sound.short

    by_moves : (cs : List (Cell H)) (k : ℕ) (o : Outcome H) (d : Channel H) → o.change ≡ holds d → MovesTo c cs k o → Kept w o.change
        → length c.cells + k ≤ length cs → length (waiting cs) ≤ w → length o.answer.returned ≤ w - 1 → Bounded w o.answer
    by_moves cs k o d e m kept long most back =
        moves_bounded w c cs k o.answer d (m d e) long most (subst (Kept w) e kept).sound.short back

    grown_long : (k : ℕ) (last : List (Cell H)) → length c.cells + k ≤ length (grown c t k last)
    grown_long k last = let e : length (grown c t k last) ≡ length c.cells + (k + length last) = simp (length-append, length-replicate) in omega arith

    grown_waiting : (k : ℕ) (last : List (Cell H)) → length (waiting last) ≤ 1 → length (waiting (grown c t k last)) ≤ w
    grown_waiting k last l =
        omega (arith, few_waiting, waiting_append c.cells (replicate k (missing t) ++ last), ap length (waiting_missing k t last))

    data_bounded : (s : ℕ) (h : H) (r : Side) → s ≤ 4095 → Seen (reach w) c.current s r → Bounded w (data_on w c t s h r).answer
    data_bounded s h (Ahead d) l q =
        by_moves (entered_data c t s h (Ahead d)) (d - 1) (data_on w c t s h (Ahead d)) _ refl (data_moves w half c t g s h (Ahead d) q refl)
        (data_good w half c t g late s h (Ahead d) l q) (grown_long (d - 1) (waits h ∷ [])) (grown_waiting (d - 1) (waits h ∷ []) (omega arith)) (omega arith)
    data_bounded s h (Behind d) l q =
        go (filling c.cells (steps c.oldest s) h) (waiting_filled c.cells (steps c.oldest s) h)
        (filling_length c.cells (steps c.oldest s) h) (data_moves w half c t g s h (Behind d) q refl) (data_good w half c t g late s h (Behind d) l q)
      where
        go : (o : Option (List (Cell H))) → OnSome (λ ds. length (waiting ds) ≡ suc (length (waiting c.cells))) o → OnSome (λ ds. length ds ≡ length c.cells) o
            → MovesTo c (filled_or c.cells o) 0 (filled w c t h o) → Kept w (filled w c t h o).change → Bounded w (filled w c t h o).answer
        go none r n m kept = record { up = omega arith; returned = omega arith; nack = omega arith }
        go (some ds) r n m kept = by_moves ds 0 (filled w c t h (some ds)) _ refl m kept (omega arith) (omega (arith, few_waiting)) (omega arith)
    data_bounded s h Far l q = record { up = omega arith; returned = few_waiting; nack = omega arith }

    reminder_bounded : (s : ℕ) (r : Side) → s ≤ 4095 → Seen (reach w) c.current s r → Bounded w (reminder_on w c t s r).answer
    reminder_bounded s (Ahead d) l q =
        by_moves (entered_reminder c t (Ahead d)) d (reminder_on w c t s (Ahead d)) _ refl (reminder_moves w half c t g s (Ahead d) q)
        (reminder_good w half c t g late s (Ahead d) l q) (grown_long d []) (grown_waiting d [] (omega arith)) (omega arith)
    reminder_bounded s (Behind d) l q = record { up = omega arith; returned = omega arith; nack = omega arith }
    reminder_bounded s Far l q = record { up = omega arith; returned = omega arith; nack = omega arith }

    act_bounded : (a : Act H) → number_in_ring a ≡ true → Bounded w (act_on w c t a).answer
    unfolding act_on
    act_bounded (frame s h) l = data_bounded s h (side_of w c s) (leb-true s 4095 l) (sees (reach w) c.current s (omega arith))
    act_bounded (reminder s) l = reminder_bounded s (side_of w c s) (leb-true s 4095 l) (sees (reach w) c.current s (omega arith))
    act_bounded tick l =
        by_moves c.cells 0 (act_on w c t tick) _ refl (act_moves w half c t g tick refl) (act_good w half c t g late tick refl) (omega arith)
        (omega (arith, few_waiting)) (omega arith)
    act_bounded close l = record { up = omega arith; returned = few_waiting; nack = omega arith }

-- Any call, refused ones too, where all records of its key are good. On a lent table nothing is asked of them (`lent_bounded` of table_calls/proofs/Lent)
pub bounded : {H : Type 0} (w : ℕ) → 2 ≤ w → w < 1024 → (spare : Bool) (cs : List (Channel H)) (e : Event H) → AllGood w cs → Bounded w (one w spare cs e).answer
bounded {H} w two half spare cs e g =
    one_case w spare cs e (λ (o : Outcome H). Bounded w o.answer) (λ _. record { up = omega arith; returned = omega arith; nack = omega arith }) (λ p. go cs g p)
  where
    opens : (a : Act H) → Bounded w (done w [] e.time a).answer
    opens (frame s h) = record { up = omega arith; returned = omega arith; nack = omega arith }
    opens (reminder s) = record { up = omega arith; returned = omega arith; nack = omega arith }
    opens tick = record { up = omega arith; returned = omega arith; nack = omega arith }
    opens close = record { up = omega arith; returned = omega arith; nack = omega arith }

    go : (cs : List (Channel H)) → AllGood w cs → Passes w spare cs e → Bounded w (done w cs e.time e.act).answer
    go [] g p = opens e.act
    go (c ∷ cs) g p = act_bounded w two half c e.time g.0 (leb-true c.latest e.time p.time) e.act p.ring
