-- The rules only pass handles on: if every handle is renamed by f, the answers and the table are those with every handle renamed.
-- This is what carries a theorem about marked handles over to the host's own handles, equal ones too. Assumes nothing.
use Prim.Native.Nat.{ℕ, zero, suc, ◌-◌}
use mathlib.Core.Path.{◌≡◌, refl, ap, sym, ◌∙◌}
use mathlib.Core.Bool.{Bool, true, false, cond}
use mathlib.Core.Option.{Option, some, none}
use mathlib.Core.List.{List, [], ◌∷◌, ◌++◌, map}
use lib.ListN.{length, replicate, length-map}
use lib.Dec.{ltb}
use Rattle.wire.specs.Refusals.{Refusal, answered}
use Rattle.ring.specs.Ring.{next, steps, rising, Side, Ahead, Behind, Far}
use Rattle.larq.specs.Channel.{Cell, waits, missing, Channel, waiting, times, head_missing, sound}
use Rattle.larq.specs.Settling.{Walked, walk, wide, stale, stays, losing}
use Rattle.larq.specs.Answer.{Answer, Change, same, holds, freed, Outcome, refused}
use Rattle.larq.specs.Events.{Act, frame, reminder, tick, close, those, asked, grown, settled_at, ahead, after, filling, filled, data_on, reminder_on, side_of, act_on}
use Rattle.larq.specs.Table.{Key, same_key, Place, free, held, Table, channels, room, put_open, put_free, changed, Event, refusals, done, one, outcome, step}
use Rattle.larq.specs.Run.{run, answers, events_of, answers_to}
use Rattle.larq.specs.Renaming.{on_cell, on_cells, on_channel, on_answer, on_change, on_outcome, on_act, on_place, on_table, on_event}

module _ {A B : Type 0} (f : A → B) where
  abbrev on_walked : Walked A → Walked B
  on_walked p = record { oldest = p.oldest; cells = on_cells f p.cells; up = map f p.up; lost = p.lost }

  abbrev on_option : Option (List (Cell A)) → Option (List (Cell B))
  on_option none = none
  on_option (some cs) = some (on_cells f cs)

  cond_renamed : {X Y : Type 0} (g : X → Y) (b : Bool) (x y : X) → cond b (g x) (g y) ≡ g (cond b x y)
  cond_renamed g true x y = refl
  cond_renamed g false x y = refl

  cells_append : (cs ds : List (Cell A)) → on_cells f (cs ++ ds) ≡ on_cells f cs ++ on_cells f ds
  cells_append [] ds = refl
  cells_append (c ∷ cs) ds = ap (λ l. on_cell f c ∷ l) (cells_append cs ds)

  cells_missing : (k t : ℕ) → on_cells f (replicate k (missing t)) ≡ replicate k (missing t)
  cells_missing zero t = refl
  cells_missing (suc k) t = ap (λ l. missing t ∷ l) (cells_missing k t)

  waiting_renamed : (cs : List (Cell A)) → waiting (on_cells f cs) ≡ map f (waiting cs)
  waiting_renamed [] = refl
  waiting_renamed (waits h ∷ cs) = ap (λ l. f h ∷ l) (waiting_renamed cs)
  waiting_renamed (missing t ∷ cs) = waiting_renamed cs

  times_renamed : (cs : List (Cell A)) → times (on_cells f cs) ≡ times cs
  times_renamed [] = refl
  times_renamed (waits h ∷ cs) = times_renamed cs
  times_renamed (missing t ∷ cs) = ap (λ l. t ∷ l) (times_renamed cs)

  walk_renamed : (g : ℕ → ℕ → Bool) (m : ℕ) (cs : List (Cell A)) → walk g m (on_cells f cs) ≡ on_walked (walk g m cs)
  walk_renamed g m [] = refl
  walk_renamed g m (waits h ∷ cs) = rw (walk_renamed g (next m) cs)
  walk_renamed g m (missing t ∷ cs) =
      rw (walk_renamed g (next m) cs, length-map cs (on_cell f))
      (cond_renamed on_walked (g t (suc (length cs))) (losing (walk g (next m) cs)) (stays m (missing t ∷ cs)))

  after_renamed : (c : Cell A) (o : Option (List (Cell A))) → after (on_cell f c) (on_option o) ≡ on_option (after c o)
  after_renamed c none = refl
  after_renamed c (some ds) = refl

  filling_renamed : (cs : List (Cell A)) (i : ℕ) (h : A) → filling (on_cells f cs) i (f h) ≡ on_option (filling cs i h)
  filling_renamed [] i h = refl
  filling_renamed (waits g ∷ cs) zero h = refl
  filling_renamed (missing t ∷ cs) zero h = refl
  filling_renamed (waits g ∷ cs) (suc i) h = rw (filling_renamed cs i h) (after_renamed (waits g) (filling cs i h))
  filling_renamed (missing t ∷ cs) (suc i) h = rw (filling_renamed cs i h) (after_renamed (missing t) (filling cs i h))

  asked_renamed : (c : Channel A) (k : ℕ) (p : Walked A) → asked (on_channel f c) k (on_walked p) ≡ asked c k p
  unfolding asked
  asked_renamed c k p =
      ap (λ (span : ℕ). those (λ (n : ℕ). ltb (steps p.oldest n) span) (rising (next c.current) k)) (length-map p.cells (on_cell f))

  settled_at_renamed : (c : Channel A) (t s k : ℕ) (p : Walked A) → settled_at (on_channel f c) t s k (on_walked p) ≡ on_outcome f (settled_at c t s k p)
  settled_at_renamed c t s k p = rw (asked_renamed c k p)

  ahead_renamed : (w : ℕ) (c : Channel A) (t s k : ℕ) (last : List (Cell A)) → ahead w (on_channel f c) t s k (on_cells f last) ≡ on_outcome f (ahead w c t s k last)
  ahead_renamed w c t s k last =
      ap (settled_at (on_channel f c) t s k) (ap (walk (wide w) c.oldest) (sym all) ∙ walk_renamed (wide w) c.oldest (grown c t k last))
      ∙ settled_at_renamed c t s k (walk (wide w) c.oldest (grown c t k last))
    where
      all : (on_cells f) (grown c t k last) ≡ grown (on_channel f c) t k (on_cells f last)
      all = rw (cells_append c.cells (replicate k (missing t) ++ last), cells_append (replicate k (missing t)) last, cells_missing k t)

  filled_renamed : (w : ℕ) (c : Channel A) (t : ℕ) (h : A) (o : Option (List (Cell A))) → filled w (on_channel f c) t (f h) (on_option o) ≡ on_outcome f (filled w c t h o)
  filled_renamed w c t h none = refl
  filled_renamed w c t h (some ds) = rw (walk_renamed (wide w) c.oldest ds) (settled_at_renamed c t c.current 0 (walk (wide w) c.oldest ds))

  data_renamed : (w : ℕ) (c : Channel A) (t s : ℕ) (h : A) (r : Side) → data_on w (on_channel f c) t s (f h) r ≡ on_outcome f (data_on w c t s h r)
  data_renamed w c t s h (Ahead d) = ahead_renamed w c t s (d - 1) (waits h ∷ [])
  data_renamed w c t s h (Behind d) = rw (filling_renamed c.cells (steps c.oldest s) h) (filled_renamed w c t h (filling c.cells (steps c.oldest s) h))
  data_renamed w c t s h Far = rw (waiting_renamed c.cells)

  reminder_renamed : (w : ℕ) (c : Channel A) (t s : ℕ) (r : Side) → reminder_on w (on_channel f c) t s r ≡ on_outcome f (reminder_on w c t s r)
  reminder_renamed w c t s (Ahead d) = ahead_renamed w c t s d []
  reminder_renamed w c t s (Behind d) = refl
  reminder_renamed w c t s Far = refl

  act_renamed : (w : ℕ) (c : Channel A) (t : ℕ) (a : Act A) → act_on w (on_channel f c) t (on_act f a) ≡ on_outcome f (act_on w c t a)
  unfolding act_on
  act_renamed w c t (frame s h) = data_renamed w c t s h (side_of w c s)
  act_renamed w c t (reminder s) = reminder_renamed w c t s (side_of w c s)
  act_renamed w c t tick =
      rw (walk_renamed (stale t) c.oldest c.cells) (settled_at_renamed c t c.current 0 (walk (stale t) c.oldest c.cells))
  act_renamed w c t close = rw (waiting_renamed c.cells)

  head_missing_renamed : (cs : List (Cell A)) → head_missing (on_cells f cs) ≡ head_missing cs
  head_missing_renamed [] = refl
  head_missing_renamed (waits h ∷ cs) = refl
  head_missing_renamed (missing t ∷ cs) = refl

  sound_renamed : (w : ℕ) (c : Channel A) → sound w (on_channel f c) ≡ sound w c
  unfolding sound
  sound_renamed w c = rw (length-map c.cells (on_cell f), head_missing_renamed c.cells, times_renamed c.cells)

  done_renamed : (w : ℕ) (cs : List (Channel A)) (t : ℕ) (a : Act A) → done w (map (on_channel f) cs) t (on_act f a) ≡ on_outcome f (done w cs t a)
  done_renamed w (c ∷ cs) t a = act_renamed w c t a
  done_renamed w [] t (frame s h) = refl
  done_renamed w [] t (reminder s) = refl
  done_renamed w [] t tick = refl
  done_renamed w [] t close = refl

  -- the tests see no handle
  refusals_renamed : (w : ℕ) (spare : Bool) (cs : List (Channel A)) (e : Event A) → refusals w spare (map (on_channel f) cs) (on_event f e) ≡ refusals w spare cs e
  refusals_renamed w spare cs e = go cs e.act
    where
      event : Act A → Event A
      event a = record { key = e.key; time = e.time; act = a; lent = e.lent }

      go : (cs : List (Channel A)) (a : Act A) → refusals w spare (map (on_channel f) cs) (on_event f (event a)) ≡ refusals w spare cs (event a)
      go [] (frame s h) = refl
      go [] (reminder s) = refl
      go [] tick = refl
      go [] close = refl
      go (c ∷ cs) (frame s h) = rw (sound_renamed w c)
      go (c ∷ cs) (reminder s) = rw (sound_renamed w c)
      go (c ∷ cs) tick = rw (sound_renamed w c)
      go (c ∷ cs) close = rw (sound_renamed w c)

  answered_renamed : (l : List Refusal) (o : Outcome A) → answered refused l (on_outcome f o) ≡ on_outcome f (answered refused l o)
  answered_renamed [] o = refl
  answered_renamed (r ∷ l) o = rw (answered_renamed l o) (cond_renamed (on_outcome f) r.passes (answered refused l o) (refused r.number))

  pub one_renamed : (w : ℕ) (spare : Bool) (cs : List (Channel A)) (e : Event A) → one w spare (map (on_channel f) cs) (on_event f e) ≡ on_outcome f (one w spare cs e)
  unfolding one
  one_renamed w spare cs e =
      ap (λ l. answered refused l (done w (map (on_channel f) cs) e.time (on_act f e.act))) (refusals_renamed w spare cs e)
      ∙ ap (answered refused (refusals w spare cs e)) (done_renamed w cs e.time e.act)
      ∙ answered_renamed (refusals w spare cs e) (done w cs e.time e.act)

  pub channels_renamed : (k : Key) (t : Table A) → channels k (on_table f t) ≡ map (on_channel f) (channels k t)
  channels_renamed k [] = refl
  channels_renamed k (free ∷ t) = channels_renamed k t
  channels_renamed k (held j c ∷ t) = rw (channels_renamed k t) (cond_renamed (map (on_channel f)) (same_key j k) (c ∷ channels k t) (channels k t))

  room_renamed : (t : Table A) → room (on_table f t) ≡ room t
  room_renamed [] = refl
  room_renamed (free ∷ t) = refl
  room_renamed (held j c ∷ t) = room_renamed t

  put_open_renamed : (k : Key) (p : Place A) (t : Table A) → put_open k (on_place f p) (on_table f t) ≡ on_table f (put_open k p t)
  put_open_renamed k p [] = refl
  put_open_renamed k p (free ∷ t) = ap (λ l. free ∷ l) (put_open_renamed k p t)
  put_open_renamed k p (held j c ∷ t) = rw (put_open_renamed k p t) (cond_renamed (on_table f) (same_key j k) (p ∷ t) (held j c ∷ put_open k p t))

  put_free_renamed : (p : Place A) (t : Table A) → put_free (on_place f p) (on_table f t) ≡ on_table f (put_free p t)
  put_free_renamed p [] = refl
  put_free_renamed p (free ∷ t) = refl
  put_free_renamed p (held j c ∷ t) = ap (λ l. held j (on_channel f c) ∷ l) (put_free_renamed p t)

  changed_renamed : (k : Key) (t : Table A) (cs : List (Channel A)) (ch : Change A)
      → changed k (on_table f t) (map (on_channel f) cs) (on_change f ch) ≡ on_table f (changed k t cs ch)
  changed_renamed k t cs same = refl
  changed_renamed k t [] (holds c) = put_free_renamed (held k c) t
  changed_renamed k t (b ∷ cs) (holds c) = put_open_renamed k (held k c) t
  changed_renamed k t cs freed = put_open_renamed k free t

  pub outcome_renamed : (w : ℕ) (t : Table A) (e : Event A) → outcome w (on_table f t) (on_event f e) ≡ on_outcome f (outcome w t e)
  unfolding outcome
  outcome_renamed w t e = rw (channels_renamed e.key t, room_renamed t) (one_renamed w (room t) (channels e.key t) e)

  pub step_renamed : (w : ℕ) (t : Table A) (e : Event A) → step w (on_table f t) (on_event f e) ≡ on_table f (step w t e)
  unfolding step
  step_renamed w t e =
      rw (channels_renamed e.key t, outcome_renamed w t e) (changed_renamed e.key t (channels e.key t) (outcome w t e).change)

  pub answers_renamed : (w : ℕ) (t : Table A) (es : List (Event A)) → answers w (on_table f t) (map (on_event f) es) ≡ map (on_answer f) (answers w t es)
  answers_renamed w t [] = refl
  answers_renamed w t (e ∷ es) = rw (outcome_renamed w t e, step_renamed w t e, answers_renamed w (step w t e) es)

  pub run_renamed : (w : ℕ) (t : Table A) (es : List (Event A)) → run w (on_table f t) (map (on_event f) es) ≡ on_table f (run w t es)
  run_renamed w t [] = refl
  run_renamed w t (e ∷ es) = ap (λ x. run w x (map (on_event f) es)) (step_renamed w t e) ∙ run_renamed w (step w t e) es

  pub events_renamed : (k : Key) (es : List (Event A)) → events_of k (map (on_event f) es) ≡ map (on_event f) (events_of k es)
  events_renamed k [] = refl
  events_renamed k (e ∷ es) = rw (events_renamed k es) (cond_renamed (map (on_event f)) (same_key e.key k) (e ∷ events_of k es) (events_of k es))

  pub answers_to_renamed : (k : Key) (es : List (Event A)) (rs : List (Answer A)) → answers_to k (map (on_event f) es) (map (on_answer f) rs) ≡ map (on_answer f) (answers_to k es rs)
  answers_to_renamed k [] rs = refl
  answers_to_renamed k (e ∷ es) [] = refl
  answers_to_renamed k (e ∷ es) (r ∷ rs) = rw (answers_to_renamed k es rs) (cond_renamed (map (on_answer f)) (same_key e.key k) (r ∷ answers_to k es rs) (answers_to k es rs))
