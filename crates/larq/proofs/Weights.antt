-- Weights: whatever handles weigh, each call's accepted handle and the waiting ones before it weigh as much as those handed up, returned and
-- waiting after it. Any weight at all makes this a count of each single handle. Assumes nothing.
use Prim.Native.Nat.{ℕ, zero, suc, ◌+◌, ◌-◌}
use mathlib.Core.Path.{◌≡◌, refl, ap}
use mathlib.Core.Bool.{Bool, true, false, cond}
use mathlib.Core.Option.{Option, some, none}
use mathlib.Core.List.{List, [], ◌∷◌, ◌++◌}
use native.Mathlib.Omega.{arith}
use lib.ListN.{length, replicate}
use lib.Dec.{eqb, eqb-suc-zero}
use Rattle.wire.proofs.ByCases.{cond_case}
use Rattle.ring.specs.Ring.{next, steps, Side, Ahead, Behind, Far}
use Rattle.larq.specs.Channel.{Cell, waits, missing, Channel, waiting}
use Rattle.larq.specs.Settling.{Walked, walk, wide, stale, stays, losing}
use Rattle.larq.specs.Answer.{Answer, Change, same, holds, freed, Outcome, refused}
use Rattle.larq.specs.Events.{Act, frame, reminder, tick, close, opened, grown, ahead, after, filling, filled, data_on, reminder_on, side_of, act_on}
use Rattle.larq.specs.Table.{Key, same_key, Place, free, held, Table, channels, room, put_open, put_free, changed, Event, done, one, outcome, step}
use Rattle.larq.specs.Run.{run, answers}
use Rattle.larq.specs.Counts.{all_up}
use Rattle.larq.specs.Calls.{all_returned, waiting_at, waiting_in}
use Rattle.larq.proofs.Cases.{one_case}
use Rattle.larq.proofs.Orderly.{OnSome}

-- the handle that a call leaves with the box, if it is accepted
abbrev pub given : {H : Type 0} → ℕ → Act H → List H
given n (frame s h) = cond (eqb n 0) (h ∷ []) []
given n (reminder s) = []
given n tick = []
given n close = []

-- the handles that the accepted calls of a run left with the box
abbrev pub all_given : {H : Type 0} → List (Event H) → List (Answer H) → List H
all_given [] rs = []
all_given (e ∷ es) [] = []
all_given (e ∷ es) (r ∷ rs) = given r.number e.act ++ all_given es rs

module _ {H : Type 0} (weight : H → ℕ) where
  abbrev pub total : List H → ℕ
  total [] = 0
  total (h ∷ hs) = weight h + total hs

  pub total_append : (hs gs : List H) → total (hs ++ gs) ≡ total hs + total gs
  total_append [] gs = omega arith
  total_append (h ∷ hs) gs = omega (arith, total_append hs gs)

  waiting_append : (cs ds : List (Cell H)) → total (waiting (cs ++ ds)) ≡ total (waiting cs) + total (waiting ds)
  waiting_append [] ds = omega arith
  waiting_append (waits h ∷ cs) ds = omega (arith, waiting_append cs ds)
  waiting_append (missing t ∷ cs) ds = waiting_append cs ds

  waiting_missing : (k t : ℕ) (ds : List (Cell H)) → total (waiting (replicate k (missing t) ++ ds)) ≡ total (waiting ds)
  waiting_missing zero t ds = refl
  waiting_missing (suc k) t ds = waiting_missing k t ds

  walk_weighs : (givesUp : ℕ → ℕ → Bool) (m : ℕ) (cs : List (Cell H))
      → total (walk givesUp m cs).up + total (waiting (walk givesUp m cs).cells) ≡ total (waiting cs)
  walk_weighs g m [] = omega arith
  walk_weighs g m (waits h ∷ cs) = omega (arith, walk_weighs g (next m) cs)
  walk_weighs g m (missing t ∷ cs) =
      cond_case (λ (p : Walked H). total p.up + total (waiting p.cells) ≡ total (waiting cs)) (g t (suc (length cs)))
      (losing (walk g (next m) cs)) (stays m (missing t ∷ cs)) (λ _. walk_weighs g (next m) cs) (λ _. omega arith)

  filling_weighs : (cs : List (Cell H)) (i : ℕ) (h : H) → OnSome (λ ds. total (waiting ds) ≡ weight h + total (waiting cs)) (filling cs i h)
  filling_weighs [] i h = tt
  filling_weighs (waits g ∷ cs) zero h = tt
  filling_weighs (missing t ∷ cs) zero h = refl
  filling_weighs (waits g ∷ cs) (suc i) h = go (filling cs i h) (filling_weighs cs i h)
    where
      go : (o : Option (List (Cell H))) → OnSome (λ ds. total (waiting ds) ≡ weight h + total (waiting cs)) o
          → OnSome (λ ds. total (waiting ds) ≡ weight h + (weight g + total (waiting cs))) (after (waits g) o)
      go none r = tt
      go (some ds) r = omega arith
  filling_weighs (missing t ∷ cs) (suc i) h = go (filling cs i h) (filling_weighs cs i h)
    where
      go : (o : Option (List (Cell H))) → OnSome (λ ds. total (waiting ds) ≡ weight h + total (waiting cs)) o
          → OnSome (λ ds. total (waiting ds) ≡ weight h + total (waiting cs)) (after (missing t) o)
      go none r = tt
      go (some ds) r = r

  -- what the channel holds after a change
  abbrev left : Channel H → Change H → ℕ
  left c same = total (waiting c.cells)
  left c (holds d) = total (waiting d.cells)
  left c freed = 0

  abbrev Even : Channel H → Act H → Outcome H → Type 0
  Even c a o =
      total (given o.answer.number a) + total (waiting c.cells) ≡ total o.answer.up + total o.answer.returned + left c o.change

  ahead_even : (w : ℕ) (c : Channel H) (t s k : ℕ) (last : List (Cell H))
      → total (waiting last) + total (waiting c.cells)
      ≡ total (ahead w c t s k last).answer.up + total (ahead w c t s k last).answer.returned + left c (ahead w c t s k last).change
  ahead_even w c t s k last =
      omega (arith, walk_weighs (wide w) c.oldest (grown c t k last), waiting_append c.cells (replicate k (missing t) ++ last), waiting_missing k t last)

  data_even : (w : ℕ) (c : Channel H) (t s : ℕ) (h : H) (r : Side) → Even c (frame s h) (data_on w c t s h r)
  data_even w c t s h (Ahead d) = ahead_even w c t s (d - 1) (waits h ∷ [])
  data_even w c t s h (Behind d) = go (filling c.cells (steps c.oldest s) h) (filling_weighs c.cells (steps c.oldest s) h)
    where
      go : (o : Option (List (Cell H))) → OnSome (λ ds. total (waiting ds) ≡ weight h + total (waiting c.cells)) o → Even c (frame s h) (filled w c t h o)
      go none r = omega arith
      go (some ds) r = omega (arith, walk_weighs (wide w) c.oldest ds)
  data_even w c t s h Far = omega arith

  reminder_even : (w : ℕ) (c : Channel H) (t s : ℕ) (r : Side) → Even c (reminder s) (reminder_on w c t s r)
  reminder_even w c t s (Ahead d) = ahead_even w c t s d []
  reminder_even w c t s (Behind d) = refl
  reminder_even w c t s Far = refl

  act_even : (w : ℕ) (c : Channel H) (t : ℕ) (a : Act H) → Even c a (act_on w c t a)
  unfolding act_on
  act_even w c t (frame s h) = data_even w c t s h (side_of w c s)
  act_even w c t (reminder s) = reminder_even w c t s (side_of w c s)
  act_even w c t tick = omega (arith, walk_weighs (stale t) c.oldest c.cells)
  act_even w c t close = omega arith

  refused_even : (c : Channel H) (a : Act H) (n : ℕ) → Even c a (refused (suc n))
  refused_even c (frame s h) n = rw (eqb-suc-zero n)
  refused_even c (reminder s) n = refl
  refused_even c tick n = refl
  refused_even c close n = refl

  put_open_weighs : (k : Key) (p : Place H) (t : Table H) (b : Channel H) (cs : List (Channel H)) → channels k t ≡ b ∷ cs
      → total (waiting_in (put_open k p t)) + total (waiting b.cells) ≡ total (waiting_in t) + total (waiting_at p)
  put_open_weighs k p [] b cs e = cc
  put_open_weighs k p (free ∷ t) b cs e = put_open_weighs k p t b cs e
  put_open_weighs k p (held i c ∷ t) b cs e = go (same_key i k) refl e (put_open_weighs k p t b cs)
    where
      go : (q : Bool) → same_key i k ≡ q → cond q (c ∷ channels k t) (channels k t) ≡ b ∷ cs
          → (channels k t ≡ b ∷ cs → total (waiting_in (put_open k p t)) + total (waiting b.cells) ≡ total (waiting_in t) + total (waiting_at p))
          → total (waiting_in (cond q (p ∷ t) (held i c ∷ put_open k p t))) + total (waiting b.cells)
          ≡ total (waiting c.cells ++ waiting_in t) + total (waiting_at p)
      go true _ e ih =
          let cb : c ≡ b = cc in
          omega (arith, total_append (waiting_at p) (waiting_in t), total_append (waiting c.cells) (waiting_in t), ap (λ (x : Channel H). total (waiting x.cells)) cb)
      go false _ e ih =
          omega (arith, ih e, total_append (waiting c.cells) (waiting_in (put_open k p t)), total_append (waiting c.cells) (waiting_in t))

  put_free_weighs : (p : Place H) (t : Table H) → room t ≡ true → total (waiting_in (put_free p t)) ≡ total (waiting_in t) + total (waiting_at p)
  put_free_weighs p [] e = cc
  put_free_weighs p (free ∷ t) e = omega (arith, total_append (waiting_at p) (waiting_in t))
  put_free_weighs p (held i c ∷ t) e =
      omega (arith, put_free_weighs p t e, total_append (waiting c.cells) (waiting_in (put_free p t)), total_append (waiting c.cells) (waiting_in t))

  -- the same over the whole table
  Level : Key → Table H → List (Channel H) → Act H → Outcome H → Type 0
  Level k t cs a o =
      total (given o.answer.number a) + total (waiting_in t)
      ≡ total o.answer.up + total o.answer.returned + total (waiting_in (changed k t cs o.change))

  refused_level : (k : Key) (t : Table H) (cs : List (Channel H)) (a : Act H) (n : ℕ) → Level k t cs a (refused (suc n))
  unfolding Level
  refused_level k t cs (frame s h) n = rw (eqb-suc-zero n)
  refused_level k t cs (reminder s) n = refl
  refused_level k t cs tick n = refl
  refused_level k t cs close n = refl

  open_level : (w : ℕ) (k : Key) (t : Table H) (time : ℕ) (a : Act H) → room t ≡ true → Level k t [] a (done w [] time a)
  unfolding Level
  open_level w k t time (frame s h) e = omega (arith, put_free_weighs (held k (opened s time)) t e)
  open_level w k t time (reminder s) e = refl
  open_level w k t time tick e = refl
  open_level w k t time close e = refl

  held_level : (k : Key) (t : Table H) (c : Channel H) (cs : List (Channel H)) → channels k t ≡ c ∷ cs → (a : Act H) (o : Outcome H) → Even c a o → Level k t (c ∷ cs) a o
  unfolding Level
  held_level k t c cs e a o v = go o.change v
    where
      go : (ch : Change H) → total (given o.answer.number a) + total (waiting c.cells) ≡ total o.answer.up + total o.answer.returned + left c ch
          → total (given o.answer.number a) + total (waiting_in t)
          ≡ total o.answer.up + total o.answer.returned + total (waiting_in (changed k t (c ∷ cs) ch))
      go same v = omega arith
      go (holds d) v = omega (arith, put_open_weighs k (held k d) t c cs e)
      go freed v = omega (arith, put_open_weighs k free t c cs e)

  one_level : (w : ℕ) (t : Table H) (e : Event H) (cs : List (Channel H)) → channels e.key t ≡ cs → Level e.key t cs e.act (one w (room t) cs e)
  one_level w t e [] q =
      one_case w (room t) [] e (Level e.key t [] e.act) (refused_level e.key t [] e.act) (λ p. open_level w e.key t e.time e.act p.room)
  one_level w t e (c ∷ cs) q =
      held_level e.key t c cs q e.act (one w (room t) (c ∷ cs) e)
      (one_case w (room t) (c ∷ cs) e (Even c e.act) (refused_even c e.act) (λ _. act_even w c e.time e.act))

  step_level : (w : ℕ) (t : Table H) (e : Event H)
      → total (given (outcome w t e).answer.number e.act) + total (waiting_in t)
      ≡ total (outcome w t e).answer.up + total (outcome w t e).answer.returned + total (waiting_in (step w t e))
  unfolding step outcome Level
  step_level w t e = one_level w t e (channels e.key t) refl

  pub run_level : (w : ℕ) (t : Table H) (es : List (Event H))
      → total (all_given es (answers w t es)) + total (waiting_in t)
      ≡ total (all_up (answers w t es)) + total (all_returned (answers w t es)) + total (waiting_in (run w t es))
  run_level w t [] = omega arith
  run_level w t (e ∷ es) =
      omega (
        arith,
        run_level w (step w t e) es,
        step_level w t e,
        total_append (given (outcome w t e).answer.number e.act) (all_given es (answers w (step w t e) es)),
        total_append (outcome w t e).answer.up (all_up (answers w (step w t e) es)),
        total_append (outcome w t e).answer.returned (all_returned (answers w (step w t e) es)),
      )
