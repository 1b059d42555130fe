-- Restart: a far frame restarts its channel, which from then on answers as one just opened by it, until it is closed.
-- Demand 3, first half. The other box is any in which this very frame has just opened the channel.
use Prim.Native.Nat.{ℕ}
use mathlib.Core.Path.{◌≡◌, refl, ap, sym, ◌∙◌}
use mathlib.Core.Bool.{Bool, true, false, cond, ◌&&◌, and-false}
use mathlib.Core.List.{List, [], ◌∷◌, map}
use mathlib.Core.Option.{Option, some, none}
use native.Mathlib.Omega.{arith}
use lib.Dec.{eqb, eqb-suc-zero}
use Rattle.ring.specs.Ring.{steps, Side, Ahead, Behind, Far}
use Rattle.larq.specs.Channel.{Cell, Channel, waiting}
use Rattle.larq.specs.Answer.{Answer, Change, same, holds, freed, Outcome, accepted}
use Rattle.larq.specs.Events.{Act, frame, reminder, tick, close, opened, side_of, restarted, data_on, reminder_on, filled, filling, act_on}
use Rattle.larq.specs.Table.{Key, Table, channels, room, Event, one, outcome, step}
use Rattle.larq.specs.Run.{answers, events_of, answers_to}
use Rattle.larq.specs.Demands.{Told, told, told_of, Anew, is_close, until_closed}
use Rattle.larq.proofs.Cases.{Passes, one_case, one_passes, accepted_passes, told_decides}
use Rattle.larq.proofs.Keys.{after_change, step_own}
use Rattle.larq.proofs.Apart.{View, views, solo, alone, views_events}

-- what follows a change of an open channel: on its record, or nothing once it is closed
abbrev pub onward : {H A : Type 0} → Change H → Channel H → (Channel H → A) → A → A
onward same c f closed = f c
onward (holds d) c f closed = f d
onward freed c f closed = closed

-- the answers that a record decides, up to the close
abbrev pub until : {H : Type 0} → ℕ → Channel H → List (Event H) → List (Answer H)
until w c [] = []
until w c (e ∷ es) = (one w true (c ∷ []) e).answer ∷ onward (one w true (c ∷ []) e).change c (λ d. until w d es) []

-- an open channel is freed exactly by an accepted close
abbrev frees : {H : Type 0} → Change H → Bool
frees same = false
frees (holds d) = false
frees freed = true

abbrev Frees : {H : Type 0} → Act H → Outcome H → Type 0
Frees a o = is_close a && eqb o.answer.number 0 ≡ frees o.change

module _ {H : Type 0} (w : ℕ) where
  data_keeps : (c : Channel H) (t s : ℕ) (h : H) (r : Side) → frees (data_on w c t s h r).change ≡ false
  data_keeps c t s h (Ahead d) = refl
  data_keeps c t s h (Behind d) = go (filling c.cells (steps c.oldest s) h)
    where
      go : (o : Option (List (Cell H))) → frees (filled w c t h o).change ≡ false
      go none = refl
      go (some cs) = refl
  data_keeps c t s h Far = refl

  reminder_keeps : (c : Channel H) (t s : ℕ) (r : Side) → frees (reminder_on w c t s r).change ≡ false
  reminder_keeps c t s (Ahead d) = refl
  reminder_keeps c t s (Behind d) = refl
  reminder_keeps c t s Far = refl

  act_frees : (c : Channel H) (t : ℕ) (a : Act H) → Frees a (act_on w c t a)
  unfolding act_on
  act_frees c t (frame s h) = sym (data_keeps c t s h (side_of w c s))
  act_frees c t (reminder s) = sym (reminder_keeps c t s (side_of w c s))
  act_frees c t tick = refl
  act_frees c t close = refl

  one_frees : (c : Channel H) (e : Event H) → Frees e.act (one w true (c ∷ []) e)
  one_frees c e =
      one_case w true (c ∷ []) e (Frees e.act) (λ n. rw (eqb-suc-zero n, and-false (is_close e.act))) (λ _. act_frees c e.time e.act)

  solo_until : (c : Channel H) (cs : List (Channel H)) (vs : List (View H))
      → until_closed (map (λ (v : View H). v.event) vs) (solo w (c ∷ cs) vs) ≡ until w c (map (λ (v : View H). v.event) vs)
  unfolding one
  solo_until c cs [] = refl
  solo_until c cs (v ∷ vs) =
      ap (λ l. (one w true (c ∷ []) v.event).answer ∷ l)
      (go (is_close v.event.act && eqb (one w true (c ∷ []) v.event).answer.number 0) (one w true (c ∷ []) v.event).change (one_frees c v.event)
      (λ d. solo_until d cs vs))
    where
      go : (b : Bool) (ch : Change H) → b ≡ frees ch
          → ((d : Channel H) → until_closed (map (λ (v : View H). v.event) vs) (solo w (d ∷ cs) vs) ≡ until w d (map (λ (v : View H). v.event) vs))
          → cond b [] (until_closed (map (λ (v : View H). v.event) vs) (solo w (after_change (c ∷ cs) ch) vs))
          ≡ onward ch c (λ d. until w d (map (λ (v : View H). v.event) vs)) []
      go b same e ih = rw e (ih c)
      go b (holds d) e ih = rw e (ih d)
      go b freed e ih = rw e

  -- until its close, an open channel's answers are decided by its record and its own events
  pub from_record : (k : Key) (t : Table H) (c : Channel H) (cs : List (Channel H)) → channels k t ≡ c ∷ cs → (es : List (Event H))
      → until_closed (events_of k es) (answers_to k es (answers w t es)) ≡ until w c (events_of k es)
  from_record k t c cs q es = rw (alone w k t es, q, ← views_events w k t es) (solo_until c cs (views w k t es))

  -- what the rules read of the events decides it
  pub until_told : (c : Channel H) (es fs : List (Event H)) → map (told w) es ≡ map (told w) fs → until w c es ≡ until w c fs
  until_told c [] [] q = refl
  until_told c [] (f ∷ fs) q = absurd (let z : ◌≡◌ {A = ℕ} 0 1 = cc in omega arith)
  until_told c (e ∷ es) [] q = absurd (let z : ◌≡◌ {A = ℕ} 0 1 = cc in omega arith)
  until_told c (e ∷ es) (f ∷ fs) q =
      let same_told : told w e ≡ told w f = cc in
      rw (told_decides w true (c ∷ []) e f same_told)
      (ap (λ l. (one w true (c ∷ []) f).answer ∷ l) (go (one w true (c ∷ []) f).change (λ d. until_told d es fs (cc))))
    where
      go : (ch : Change H) → ((d : Channel H) → until w d es ≡ until w d fs) → onward ch c (λ d. until w d es) [] ≡ onward ch c (λ d. until w d fs) []
      go same ih = ih c
      go (holds d) ih = ih d
      go freed ih = refl

-- an accepted frame of e's channel that is far from its current number
pub record FarFrame {H : Type 0} (w : ℕ) (t : Table H) (e : Event H) (c : Channel H) (cs : List (Channel H)) (s : ℕ) (h : H) : Type 0 where
  pub is_open_law : channels e.key t ≡ c ∷ cs
  pub is_data_law : e.act ≡ frame s h
  pub is_accepted : (outcome w t e).answer.number ≡ 0
  pub far : side_of w c s ≡ Far

-- an accepted frame of a channel that is not open
pub record OpeningFrame {H : Type 0} (w : ℕ) (t : Table H) (e : Event H) (s : ℕ) (h : H) : Type 0 where
  pub not_open : channels e.key t ≡ []
  pub is_data_law : e.act ≡ frame s h
  pub is_accepted : (outcome w t e).answer.number ≡ 0

-- The frame alone goes up, `back` comes back, and e's channel has the record of one that s has just opened. Later places of its key keep `cs`
pub record LeavesOpened {H : Type 0} (w : ℕ) (t : Table H) (e : Event H) (s : ℕ) (h : H) (back : List H) (cs : List (Channel H)) : Type 0 where
  pub answer : (outcome w t e).answer ≡ record { number = 0; up = h ∷ []; returned = back; nack = []; lost = 0 }
  pub records : channels e.key (step w t e) ≡ opened s e.time ∷ cs

module _ {H : Type 0} (w : ℕ) (t : Table H) (e : Event H) (s : ℕ) (h : H) where
  pub opening_leaves : OpeningFrame w t e s h → LeavesOpened w t e s h [] []
  unfolding outcome
  opening_leaves is = record { answer = rw (is.not_open, here); records = step_own w t e ∙ rw (is.not_open, here) }
    where
      here : one w (room t) [] e ≡ accepted (h ∷ []) [] [] 0 (holds (opened s e.time))
      here = (accepted_passes w (room t) [] e (rw is.not_open at is.is_accepted)).1 ∙ rw is.is_data_law

  pub restart_leaves : (c : Channel H) (cs : List (Channel H)) → FarFrame w t e c cs s h → LeavesOpened w t e s h (waiting c.cells) cs
  unfolding outcome act_on
  restart_leaves c cs is = record { answer = rw (is.is_open_law, here); records = step_own w t e ∙ rw (is.is_open_law, here) }
    where
      here : one w (room t) (c ∷ cs) e ≡ restarted c e.time s h
      here = (accepted_passes w (room t) (c ∷ cs) e (rw is.is_open_law at is.is_accepted)).1 ∙ rw (is.is_data_law, is.far)

-- the accepted frame with which a channel begins
pub record BeginningFrame {H : Type 0} (w : ℕ) (t : Table H) (e : Event H) (s : ℕ) (h : H) : Type 0 where
  pub is_data_law : e.act ≡ frame s h
  pub is_accepted : (outcome w t e).answer.number ≡ 0
  pub anew : Anew w (channels e.key t) s

-- what it leaves, whichever of the two it is
pub record LeavesAnew {H : Type 0} (w : ℕ) (t : Table H) (e : Event H) (s : ℕ) (h : H) : Type 0 where
  pub up : (outcome w t e).answer.up ≡ h ∷ []
  pub others : List (Channel H)
  pub records : channels e.key (step w t e) ≡ opened s e.time ∷ others

pub beginning_leaves : {H : Type 0} (w : ℕ) (t : Table H) (e : Event H) (s : ℕ) (h : H) → BeginningFrame w t e s h → LeavesAnew w t e s h
beginning_leaves {H} w t e s h is = go (channels e.key t) refl is.anew
  where
    go : (cs : List (Channel H)) → channels e.key t ≡ cs → Anew w cs s → LeavesAnew w t e s h
    go [] q a =
        let l = opening_leaves w t e s h (record { not_open = q; is_data_law = is.is_data_law; is_accepted = is.is_accepted }) in
        record { up = ap (λ (r : Answer H). r.up) l.answer; others = []; records = l.records }
    go (c ∷ cs) q a =
        let l = restart_leaves w t e s h c cs (record { is_open_law = q; is_data_law = is.is_data_law; is_accepted = is.is_accepted; far = a }) in
        record { up = ap (λ (r : Answer H). r.up) l.answer; others = cs; records = l.records }

-- a table in which e's channel is not open, and which has a place for it
pub record NotOpen {H : Type 0} (u : Table H) (e : Event H) : Type 0 where
  pub none : channels e.key u ≡ []
  pub place : room u ≡ true

-- Frame e restarts the channel in t: it alone goes up, and every waiting handle comes back in order. The same frame, f, with whatever buffers are lent
-- for it, opens the channel in u. And whatever comes later on all channels, in both tables, the channel's answers are the same, up to and with the
-- first accepted close.
pub record Restarts {H : Type 0} (w : ℕ) (t u : Table H) (e f : Event H) (c : Channel H) (h : H) (es fs : List (Event H)) : Type 0 where
  pub answer : (outcome w t e).answer ≡ record { number = 0; up = h ∷ []; returned = waiting c.cells; nack = []; lost = 0 }
  pub opening : (outcome w u f).answer ≡ record { number = 0; up = h ∷ []; returned = []; nack = []; lost = 0 }
  pub later : until_closed (events_of e.key es) (answers_to e.key es (answers w (step w t e) es))
      ≡ until_closed (events_of e.key fs) (answers_to e.key fs (answers w (step w u f) fs))

module _ {H : Type 0} (w : ℕ) (t u : Table H) (e f : Event H) (same_told : told w e ≡ told w f) (c : Channel H) (cs : List (Channel H)) (s : ℕ) (h : H)
    (is : FarFrame w t e c cs s h) (not : NotOpen u f) where
  -- the tests that the frame passed in t let it through in u
  is_opening : OpeningFrame w u f s h
  unfolding outcome
  is_opening = record { not_open = not.none; is_data_law = its_act; is_accepted = rw (not.none, one_passes w (room u) [] f passes, its_act) }
    where
      its_act : f.act ≡ frame s h
      its_act = sym (ap (λ (x : Told H). x.act) same_told) ∙ is.is_data_law

      passes : Passes w (room u) [] f
      passes =
          let p : Passes w (room t) (c ∷ cs) e = (accepted_passes w (room t) (c ∷ cs) e (rw is.is_open_law at is.is_accepted)).0 in
          record {
            lent = sym (ap (λ (x : Told H). x.enough) same_told) ∙ p.lent;
            ring = rw (← ap (λ (x : Told H). x.act) same_told) p.ring;
            priority = rw (← ap (λ (x : Told H). x.key) same_told) p.priority;
            known = rw its_act;
            room = not.place;
            whole = refl;
            time = refl;
            near = refl;
          }

  pub restart : (es fs : List (Event H)) → told_of w e.key es ≡ told_of w e.key fs → Restarts w t u e f c h es fs
  restart es fs q =
      let left = restart_leaves w t e s h c cs is in
      let new = opening_leaves w u f s h is_opening in
      record {
        answer = left.answer;
        opening = new.answer;
        later =
            from_record w e.key (step w t e) (opened s e.time) cs left.records es
            ∙ ap (λ (x : Told H). until w (opened s x.time) (events_of e.key es)) same_told
            ∙ until_told w (opened s f.time) (events_of e.key es) (events_of e.key fs) q
            ∙ sym (from_record w e.key (step w u f) (opened s f.time) [] (ap (λ (x : Told H). channels x.key (step w u f)) same_told ∙ new.records) fs);
      }
