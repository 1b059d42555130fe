-- Sound: from the empty table no record is ever broken, its cells are as many as its span says, and no key stands twice.
-- Demand 1 and document 01, 'The channel table': number 6 is for tables that were not made by the box. For any window below 1,024.
use Prim.Native.Nat.{ℕ, ◌+◌, ◌-◌, ◌≤◌, ◌<◌}
use mathlib.Core.Path.{◌≡◌, refl, ap, sym, subst, ◌∙◌}
use mathlib.Core.Bool.{Bool, true, false}
use mathlib.Core.Option.{Option, some, none}
use mathlib.Core.List.{List, [], ◌∷◌, ◌++◌, append-nil}
use native.Mathlib.Omega.{arith}
use lib.ListN.{length, replicate, length-append, length-replicate, length-drop}
use lib.Dec.{leb}
use borrow.Author.Tests.{leb-true, ltb-false}
use Rattle.ring.specs.Ring.{forward, next, steps, Side, Ahead, Behind, Far}
use Rattle.ring.proofs.Sides.{Seen, sees}
use Rattle.ring.proofs.Steps.{forward_forward, forward_steps}
use Rattle.larq.specs.Channel.{Cell, waits, missing, Channel, times, head_missing, orderly, sound, span, reach}
use Rattle.larq.specs.Settling.{Walked, walk, wide, stale}
use Rattle.larq.specs.Answer.{Change, same, holds, freed, Outcome}
use Rattle.larq.specs.Events.{Act, frame, reminder, tick, close, opened, taken, moved, grown, filling, filled, data_on, reminder_on, side_of, act_on}
use Rattle.larq.specs.Table.{Key, same_key, Table, channels, room, Event, number_in_ring, done, one, step}
use Rattle.larq.specs.Run.{empty, run}
use Rattle.larq.proofs.Cases.{Passes, one_case}
use Rattle.larq.proofs.Keys.{same_key_eq, after_change, step_own, step_other}
use Rattle.larq.proofs.Walk.{Passed, walk_passes, walk_head, walk_short}
use Rattle.larq.proofs.Orderly.{both_true, times_append, times_missing_law, orderly_wider, orderly_more, orderly_drop, OnSome, Filled, filling_orderly}

-- the tests of a sound record, as facts
pub record Sound {H : Type 0} (w : ℕ) (c : Channel H) : Type 0 where
  pub current : c.current ≤ 4095
  pub oldest : c.oldest ≤ 4095
  pub short : length c.cells ≤ w
  pub head : head_missing c.cells ≡ true
  pub times : orderly 0 c.latest (times c.cells) ≡ true

-- the numbers from M on, one for each cell, end at C
abbrev pub Joined : {H : Type 0} → Channel H → Type 0
Joined c = forward c.oldest (length c.cells) ≡ next c.current

pub sound_is : {H : Type 0} (w : ℕ) (c : Channel H) → sound w c ≡ true → Sound w c
unfolding sound
sound_is w c e =
    let a = both_true (leb c.current 4095) _ e in
    let b = both_true (leb c.oldest 4095) _ a.1 in
    let d = both_true (leb (length c.cells) w) _ b.1 in
    let f = both_true (head_missing c.cells) _ d.1 in
    record {
      current = leb-true c.current 4095 a.0;
      oldest = leb-true c.oldest 4095 b.0;
      short = leb-true (length c.cells) w d.0;
      head = f.0;
      times = f.1;
    }

-- a record that is not broken, and whose cells reach from M to C. In a lent table every one that is not broken is good (`lent_good` of
-- table_calls/proofs/Lent)
pub record Good {H : Type 0} (w : ℕ) (c : Channel H) : Type 0 where
  pub sound : Sound w c
  pub joined : Joined c

abbrev pub Kept : {H : Type 0} → ℕ → Change H → Type 0
Kept w same = Unit
Kept w (holds d) = Good w d
Kept w freed = Unit

-- the numbers from M on reach one past C, and d more reach one past s, where s is d ahead of C
ends : (c m s d n n' : ℕ) → forward m n ≡ next c → steps c s ≡ d → n' ≡ n + d → s ≤ 4095 → forward m n' ≡ next s
ends c m s d n n' e is sum l =
    ap (forward m) sum ∙ sym (forward_forward m n d) ∙ ap (λ (a : ℕ). forward a d) e ∙ turned c d ∙ ap next (ap (forward c) (sym is) ∙ forward_steps c s ∙ omega arith)
  where
    turned : (c d : ℕ) → forward (next c) d ≡ next (forward c d)
    turned c d = omega arith

-- settling leaves no more than the window
settles_short : (w n t span : ℕ) → wide w t span ≡ false → span ≤ n → span ≤ w
settles_short w n t span e l = ltb-false w span e

module _ {H : Type 0} (w : ℕ) where
  pub opened_good : (s t : ℕ) → s ≤ 4095 → Good {H = H} w (opened s t)
  opened_good s t l =
      record { sound = record { current = l; oldest = omega arith; short = omega arith; head = refl; times = refl }; joined = omega arith }

  -- M moves on over a window whose times are in order: the record that is left is good
  module _ (givesUp : ℕ → ℕ → Bool) (m t s : ℕ) (cs : List (Cell H)) (l : m ≤ 4095) (in_ring_law : s ≤ 4095) (o : orderly 0 t (times cs) ≡ true) (e : forward m (length cs) ≡ next s)
      (short : (t span : ℕ) → givesUp t span ≡ false → span ≤ length cs → span ≤ w) where
    moved_good : Good w (moved s t (walk givesUp m cs))
    moved_good = go (walk givesUp m cs) (walk_passes givesUp m cs (omega arith)) (walk_short givesUp w m cs short) (walk_head givesUp m cs)
      where
        go : (p : Walked H) → Passed m cs p → length p.cells ≤ w → head_missing p.cells ≡ true → Good w (moved s t p)
        go p r q h =
            record {
              sound = record {
                current = in_ring_law;
                oldest = omega (arith, r.oldest);
                short = q;
                head = h;
                times = rw r.cells (orderly_drop 0 t r.by cs o);
              };
              joined = rest m (length cs) r.by p.oldest (length p.cells) (next s) r.most r.oldest (ap length r.cells ∙ length-drop r.by cs) e;
            }
          where
            rest : (m n by m' n' s' : ℕ) → by ≤ n → m' ≡ forward m by → n' ≡ n - by → forward m n ≡ s' → forward m' n' ≡ s'
            rest m n by m' n' s' l a b e = omega arith

  module _ (half : w < 1024) (c : Channel H) (t : ℕ) (g : Good w c) (late : c.latest ≤ t) where
    p : Sound w c
    p = g.sound

    in_order : orderly 0 t (times c.cells) ≡ true
    in_order = orderly_wider 0 0 c.latest t (times c.cells) (omega arith) late p.times

    taken_good : Good w (taken c t)
    taken_good = record { sound = record { current = p.current; oldest = p.oldest; short = p.short; head = p.head; times = in_order }; joined = g.joined }

    -- C comes to s, d ahead: k missing and `last` make d numbers, and no time of `last` matters
    ahead_good : (s d k : ℕ) (last : List (Cell H)) → s ≤ 4095 → steps c.current s ≡ d → k + length last ≡ d → times last ≡ []
        → Good w (moved s t (walk (wide w) c.oldest (grown c t k last)))
    ahead_good s d k last in_ring_law is sum untimed =
        moved_good (wide w) c.oldest t s (grown c t k last) p.oldest in_ring_law
        (rw grown_times (orderly_more 0 c.latest t k (times c.cells) p.times (omega arith) late))
        (ends c.current c.oldest s d (length c.cells) (length (grown c t k last)) g.joined is (grown_length ∙ omega arith) in_ring_law)
        (settles_short w (length (grown c t k last)))
      where
        grown_times : times (grown c t k last) ≡ times c.cells ++ replicate k t
        grown_times =
            times_append c.cells (replicate k (missing t) ++ last)
            ∙ ap (λ l. times c.cells ++ l) (times_append (replicate k (missing t)) last ∙ rw (times_missing_law H k t, untimed) (append-nil (replicate k t)))

        grown_length : length (grown c t k last) ≡ length c.cells + (k + length last)
        grown_length = simp (length-append, length-replicate)

    filled_good : (h : H) (o : Option (List (Cell H))) → OnSome (Filled 0 t c.cells) o → Kept w (filled w c t h o).change
    filled_good h none r = taken_good
    filled_good h (some ds) r =
        moved_good (wide w) c.oldest t c.current ds p.oldest p.current r.times (ap (forward c.oldest) r.length ∙ g.joined)
        (settles_short w (length ds))

    pub data_good : (s : ℕ) (h : H) (r : Side) → s ≤ 4095 → Seen (reach w) c.current s r → Kept w (data_on w c t s h r).change
    data_good s h (Ahead d) l q = ahead_good s d (d - 1) (waits h ∷ []) l q.is (omega (arith, q.some)) refl
    data_good s h (Behind d) l q = filled_good h (filling c.cells (steps c.oldest s) h) (filling_orderly 0 t c.cells (steps c.oldest s) h in_order)
    data_good s h Far l q = opened_good s t l

    pub reminder_good : (s : ℕ) (r : Side) → s ≤ 4095 → Seen (reach w) c.current s r → Kept w (reminder_on w c t s r).change
    reminder_good s (Ahead d) l q = ahead_good s d d [] l q.is (omega arith) refl
    reminder_good s (Behind d) l q = taken_good
    reminder_good s Far l q = taken_good

    pub act_good : (a : Act H) → number_in_ring a ≡ true → Kept w (act_on w c t a).change
    unfolding act_on
    act_good (frame s h) l = data_good s h (side_of w c s) (leb-true s 4095 l) (sees (reach w) c.current s (omega arith))
    act_good (reminder s) l = reminder_good s (side_of w c s) (leb-true s 4095 l) (sees (reach w) c.current s (omega arith))
    act_good tick l =
        moved_good (stale t) c.oldest t c.current c.cells p.oldest p.current in_order g.joined
        (λ _ span _ q. omega (arith, p.short))
    act_good close l = tt

  abbrev pub AllGood : List (Channel H) → Type 0
  AllGood [] = Unit
  AllGood (c ∷ cs) = (Good w c × AllGood cs)

  done_good : w < 1024 → (spare : Bool) (cs : List (Channel H)) (e : Event H) → AllGood cs → Passes w spare cs e → Kept w (done w cs e.time e.act).change
  done_good half spare (c ∷ cs) e q r = act_good half c e.time q.0 (leb-true c.latest e.time r.time) e.act r.ring
  done_good half spare [] e q r = go e.act r.ring
    where
      go : (a : Act H) → number_in_ring a ≡ true → Kept w (done w [] e.time a).change
      go (frame s h) l = opened_good s e.time (leb-true s 4095 l)
      go (reminder s) l = tt
      go tick l = tt
      go close l = tt

  after_good : (cs : List (Channel H)) (ch : Change H) → AllGood cs → Kept w ch → AllGood (after_change cs ch)
  after_good cs same q k = q
  after_good [] (holds d) q k = (k, tt)
  after_good (c ∷ cs) (holds d) q k = (k, q.1)
  after_good [] freed q k = tt
  after_good (c ∷ cs) freed q k = q.1

  after_once : (cs : List (Channel H)) (ch : Change H) → length cs ≤ 1 → length (after_change cs ch) ≤ 1
  after_once cs same q = q
  after_once [] (holds d) q = omega arith
  after_once (c ∷ cs) (holds d) q = q
  after_once [] freed q = q
  after_once (c ∷ cs) freed q = omega arith

  -- every record of the table is good, and no key stands twice
  pub record Tidy (t : Table H) : Type 0 where
    pub good : (k : Key) → AllGood (channels k t)
    pub once : (k : Key) → length (channels k t) ≤ 1

  pub step_tidy : w < 1024 → (t : Table H) (e : Event H) → Tidy t → Tidy (step w t e)
  step_tidy half t e q = record { good = λ k. good_at k (same_key e.key k) refl; once = λ k. once_at k (same_key e.key k) refl }
    where
      cs : List (Channel H)
      cs = channels e.key t

      good_at : (k : Key) (b : Bool) → same_key e.key k ≡ b → AllGood (channels k (step w t e))
      good_at k true s =
          subst (λ j. AllGood (channels j (step w t e))) (same_key_eq e.key k s)
          (rw (step_own w t e) (after_good cs (one w (room t) cs e).change (q.good e.key)
          (one_case w (room t) cs e (λ (o : Outcome H). Kept w o.change) (λ _. tt) (λ r. done_good half (room t) cs e (q.good e.key) r))))
      good_at k false s = rw (step_other w t e k s) (q.good k)

      once_at : (k : Key) (b : Bool) → same_key e.key k ≡ b → length (channels k (step w t e)) ≤ 1
      once_at k true s =
          subst (λ j. length (channels j (step w t e)) ≤ 1) (same_key_eq e.key k s)
          (rw (step_own w t e) (after_once cs (one w (room t) cs e).change (q.once e.key)))
      once_at k false s = rw (step_other w t e k s) (q.once k)

  run_tidy : w < 1024 → (t : Table H) (es : List (Event H)) → Tidy t → Tidy (run w t es)
  run_tidy half t [] q = q
  run_tidy half t (e ∷ es) q = run_tidy half (step w t e) es (step_tidy half t e q)

  empty_tidy : Tidy empty
  empty_tidy = record { good = λ k. tt; once = λ k. omega arith }

  -- After any run from the empty table, every record is sound with as many cells as its span, and no key stands twice
  pub sound_from_empty : w < 1024 → (es : List (Event H)) → Tidy (run w empty es)
  sound_from_empty half es = run_tidy half empty es empty_tidy

  -- a good record's cells are as many as its span
  pub good_span : w < 1024 → (c : Channel H) → Good w c → length c.cells ≡ span c
  good_span half c g = omega (arith, g.joined, g.sound.short, g.sound.oldest)
