-- Apart: nothing of another channel enters an answer, except that a new channel is refused when all places are taken.
-- Demand 3, last sentence, for runs. A channel's answers follow from its records and events and, at each event, from whether a place is free.
use Prim.Native.Nat.{ℕ}
use mathlib.Core.Path.{◌≡◌, refl, ap, sym, ◌∙◌}
use mathlib.Core.Logic.{◌⊎◌, inl, inr, ⊎_elim}
use mathlib.Core.Bool.{Bool, true, false, cond}
use native.Mathlib.Omega.{arith}
use mathlib.Core.List.{List, [], ◌∷◌, map}
use lib.ListN.{take}
use Rattle.wire.proofs.ByCases.{answered_same_or_both}
use Rattle.wire.specs.Refusals.{Refusal}
use Rattle.larq.specs.Channel.{Channel}
use Rattle.larq.specs.Answer.{Answer, Outcome, refused}
use Rattle.larq.specs.Events.{Act, frame, reminder, tick, close}
use Rattle.larq.specs.Table.{Key, same_key, Table, channels, room, Event, way_refusals, done, one, outcome, step}
use Rattle.larq.specs.Run.{answers, events_of, answers_to}
use Rattle.larq.specs.Demands.{told, told_of, full, just_one, AgreeButFull}
use Rattle.larq.proofs.Cases.{told_decides}
use Rattle.larq.proofs.Keys.{same_key_eq, after_change, step_own, step_other}

-- an event, and whether a place was free when it came
pub record View (H : Type 0) : Type 0 where
  pub spare : Bool
  pub event : Event H

abbrev view : {H : Type 0} → Bool → Event H → View H
view b e = record { spare = b; event = e }

-- a key's events of a run, each with whether a place was free
abbrev pub views : {H : Type 0} → ℕ → Key → Table H → List (Event H) → List (View H)
views w k t [] = []
views w k t (e ∷ es) = cond (same_key e.key k) (view (room t) e ∷ views w k (step w t e) es) (views w k (step w t e) es)

-- the answers of a channel by itself, from its records on
abbrev pub solo : {H : Type 0} → ℕ → List (Channel H) → List (View H) → List (Answer H)
solo w cs [] = []
solo w cs (v ∷ vs) = (one w v.spare cs v.event).answer ∷ solo w (after_change cs (one w v.spare cs v.event).change) vs

module _ {H : Type 0} (w : ℕ) where
  -- a channel's answers are those of the channel by itself
  pub alone : (k : Key) (t : Table H) (es : List (Event H)) → answers_to k es (answers w t es) ≡ solo w (channels k t) (views w k t es)
  unfolding outcome
  alone k t [] = refl
  alone k t (e ∷ es) = go (same_key e.key k) refl (alone k (step w t e) es)
    where
      go : (b : Bool) → same_key e.key k ≡ b → answers_to k es (answers w (step w t e) es) ≡ solo w (channels k (step w t e)) (views w k (step w t e) es)
          → cond b ((outcome w t e).answer ∷ answers_to k es (answers w (step w t e) es)) (answers_to k es (answers w (step w t e) es))
          ≡ solo w (channels k t) (cond b (view (room t) e ∷ views w k (step w t e) es) (views w k (step w t e) es))
      go true s ih = rw (ih, ← same_key_eq e.key k s, step_own w t e) (cc (same_key_eq e.key k s))
      go false s ih = rw (ih, step_other w t e k s)

  -- and its events are those of the run
  pub views_events : (k : Key) (t : Table H) (es : List (Event H)) → map (λ (v : View H). v.event) (views w k t es) ≡ events_of k es
  views_events k t [] = refl
  views_events k t (e ∷ es) = go (same_key e.key k) (views_events k (step w t e) es)
    where
      go : (b : Bool) → map (λ (v : View H). v.event) (views w k (step w t e) es) ≡ events_of k es
          → map (λ (v : View H). v.event) (cond b (view (room t) e ∷ views w k (step w t e) es) (views w k (step w t e) es)) ≡ cond b (e ∷ events_of k es) (events_of k es)
      go true ih = rw ih
      go false ih = ih

  -- the tests before number 5, where the key has no channel
  abbrev before_5 : Event H → List Refusal
  before_5 e = take 4 (way_refusals w false false e)

  -- that a place is free matters to number 5 alone
  spare_or_full : (cs : List (Channel H)) (e : Event H)
      → (one w true cs e ≡ one w false cs e) ⊎ ((full (one w true cs e).answer ≡ false) × (one w false cs e ≡ refused 5))
  unfolding one
  spare_or_full (c ∷ cs) e = inl refl
  spare_or_full [] e =
      ⊎_elim inl (λ p. inr (ap (λ (o : Outcome H). full o.answer) p.0 ∙ not_full e.act, p.1))
      (answered_same_or_both refused (before_5 e) (done w [] e.time e.act) (refused 5))
    where
      not_full : (a : Act H) → full (done w [] e.time a).answer ≡ false
      not_full (frame s h) = refl
      not_full (reminder s) = refl
      not_full tick = refl
      not_full close = refl

  -- two outcomes at the same records: then the rest agrees, or just one has number 5
  Meets : (cs : List (Channel H)) → Outcome H → Outcome H → (vs us : List (View H)) → Type 0
  Meets cs o p vs us = AgreeButFull (o.answer ∷ solo w (after_change cs o.change) vs) (p.answer ∷ solo w (after_change cs p.change) us)

  equal_meets : (cs : List (Channel H)) (o p : Outcome H) (vs us : List (View H)) → o ≡ p
      → ((ds : List (Channel H)) → AgreeButFull (solo w ds vs) (solo w ds us)) → Meets cs o p vs us
  unfolding Meets
  equal_meets cs o p vs us e ih =
      rw e (go (full p.answer))
    where
      go : (b : Bool) → cond (just_one b b) Unit ((p.answer ≡ p.answer) × AgreeButFull (solo w (after_change cs p.change) vs) (solo w (after_change cs p.change) us))
      go true = (refl, ih (after_change cs p.change))
      go false = (refl, ih (after_change cs p.change))

  one_meets : (a b : Bool) (cs : List (Channel H)) (e : Event H) (vs us : List (View H))
      → ((ds : List (Channel H)) → AgreeButFull (solo w ds vs) (solo w ds us)) → Meets cs (one w a cs e) (one w b cs e) vs us
  unfolding Meets
  one_meets true true cs e vs us ih = equal_meets cs (one w true cs e) (one w true cs e) vs us refl ih
  one_meets false false cs e vs us ih = equal_meets cs (one w false cs e) (one w false cs e) vs us refl ih
  one_meets true false cs e vs us ih =
      ⊎_elim (λ q. equal_meets cs (one w true cs e) (one w false cs e) vs us q ih) (λ q. rw (q.0, q.1) tt) (spare_or_full cs e)
  one_meets false true cs e vs us ih =
      ⊎_elim (λ q. equal_meets cs (one w false cs e) (one w true cs e) vs us (sym q) ih) (λ q. rw (q.0, q.1) tt) (spare_or_full cs e)

  solo_agrees : (cs : List (Channel H)) (vs us : List (View H))
      → map (told w) (map (λ (v : View H). v.event) vs) ≡ map (told w) (map (λ (v : View H). v.event) us) → AgreeButFull (solo w cs vs) (solo w cs us)
  unfolding Meets
  solo_agrees cs [] [] q = tt
  solo_agrees cs [] (u ∷ us) q = absurd (let z : ◌≡◌ {A = ℕ} 0 1 = cc in omega arith)
  solo_agrees cs (v ∷ vs) [] q = absurd (let z : ◌≡◌ {A = ℕ} 0 1 = cc in omega arith)
  solo_agrees cs (v ∷ vs) (u ∷ us) q =
      let same_told : told w v.event ≡ told w u.event = cc in
      rw (told_decides w v.spare cs v.event u.event same_told) (one_meets v.spare u.spare cs u.event vs us (λ ds. solo_agrees ds vs us (cc)))

  -- Two tables that agree on a key's records, and two runs that agree on what is told in its events, give it the same answers, but where just one of
  -- them has no place free
  pub apart : (k : Key) (t u : Table H) (es fs : List (Event H)) → channels k t ≡ channels k u → told_of w k es ≡ told_of w k fs
      → AgreeButFull (answers_to k es (answers w t es)) (answers_to k fs (answers w u fs))
  apart k t u es fs q r =
      rw (alone k t es, alone k u fs, q)
      (solo_agrees (channels k u) (views w k t es) (views w k u fs) (ap (map (told w)) (views_events k t es) ∙ r ∙ sym (ap (map (told w)) (views_events k u fs))))
