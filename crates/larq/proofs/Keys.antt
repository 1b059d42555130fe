-- What an event of one key does to the records of every key: its own change by `after_change`, the others' stay.
-- Demand 3, last sentence, for one step. Assumes nothing.
use Prim.Native.Nat.{ℕ}
use mathlib.Core.Path.{◌≡◌, refl, sym, ◌∙◌}
use mathlib.Core.Bool.{Bool, true, false, cond, ◌&&◌}
use mathlib.Core.List.{List, [], ◌∷◌, ◌++◌}
use lib.Dec.{eqb}
use borrow.Author.Tests.{eqb-true, eq-eqb}
use Rattle.larq.specs.Channel.{Channel}
use Rattle.larq.specs.Answer.{Change, same, holds, freed}
use Rattle.larq.specs.Events.{Act, frame, reminder, tick, close, opened}
use Rattle.larq.specs.Table.{Key, same_key, Place, free, held, Table, channels, room, put_open, put_free, changed, Event, done, one, outcome, step}
use Rattle.larq.proofs.Cases.{one_case}

pub same_key_refl : (k : Key) → same_key k k ≡ true
unfolding same_key
same_key_refl k = rw (eq-eqb k.destination k.destination refl, eq-eqb k.source k.source refl, eq-eqb k.priority k.priority refl)

pub same_key_eq : (j k : Key) → same_key j k ≡ true → j ≡ k
unfolding same_key
same_key_eq j k e = go (eqb j.destination k.destination) refl (eqb j.source k.source) refl (eqb j.priority k.priority) refl e
  where
    go : (a : Bool) → eqb j.destination k.destination ≡ a → (b : Bool) → eqb j.source k.source ≡ b
        → (c : Bool) → eqb j.priority k.priority ≡ c → a && (b && c) ≡ true → j ≡ k
    go true ea true eb true ec h =
        λ i. record {
          destination = eqb-true j.destination k.destination ea i;
          source = eqb-true j.source k.source eb i;
          priority = eqb-true j.priority k.priority ec i;
        }
    go true ea true eb false ec h = cc
    go true ea false eb c ec h = cc
    go false ea b eb c ec h = cc

-- the records of a key's places after a change
abbrev pub after_change : {H : Type 0} → List (Channel H) → Change H → List (Channel H)
after_change cs same = cs
after_change [] (holds c) = c ∷ []
after_change (b ∷ cs) (holds c) = c ∷ cs
after_change [] freed = []
after_change (b ∷ cs) freed = cs

module _ {H : Type 0} (k j : Key) (apart : same_key k j ≡ false) where
  put_open_other : (p : Place H) → ((r : Table H) → channels j (p ∷ r) ≡ channels j r) → (t : Table H) → channels j (put_open k p t) ≡ channels j t
  put_open_other p q [] = refl
  put_open_other p q (free ∷ t) = put_open_other p q t
  put_open_other p q (held i c ∷ t) = go (same_key i k) refl (put_open_other p q t)
    where
      go : (b : Bool) → same_key i k ≡ b → channels j (put_open k p t) ≡ channels j t
          → channels j (cond b (p ∷ t) (held i c ∷ put_open k p t)) ≡ channels j (held i c ∷ t)
      go true e ih = q t ∙ sym (rw (same_key_eq i k e, apart))
      go false e ih = rw ih

  put_free_other : (c : Channel H) (t : Table H) → channels j (put_free (held k c) t) ≡ channels j t
  put_free_other c [] = refl
  put_free_other c (free ∷ t) = rw apart
  put_free_other c (held i b ∷ t) = rw (put_free_other c t)

  changed_other : (t : Table H) (cs : List (Channel H)) (ch : Change H) → channels j (changed k t cs ch) ≡ channels j t
  changed_other t cs same = refl
  changed_other t [] (holds c) = put_free_other c t
  changed_other t (b ∷ cs) (holds c) = put_open_other (held k c) (λ r. rw apart) t
  changed_other t cs freed = put_open_other free (λ r. refl) t

-- an event of one key leaves the records of every other key as they were
pub step_other : {H : Type 0} (w : ℕ) (t : Table H) (e : Event H) (j : Key) → same_key e.key j ≡ false → channels j (step w t e) ≡ channels j t
unfolding step
step_other w t e j apart = changed_other e.key j apart t (channels e.key t) (outcome w t e).change

abbrev renewed : {H : Type 0} → List (Channel H) → List (Channel H) → List (Channel H)
renewed new [] = []
renewed new (b ∷ cs) = new ++ cs

module _ {H : Type 0} (k : Key) where
  put_open_own : (p : Place H) (new : List (Channel H)) → ((r : Table H) → channels k (p ∷ r) ≡ new ++ channels k r) → (t : Table H)
      → channels k (put_open k p t) ≡ renewed new (channels k t)
  put_open_own p new q [] = refl
  put_open_own p new q (free ∷ t) = put_open_own p new q t
  put_open_own p new q (held i c ∷ t) = go (same_key i k) refl (put_open_own p new q t)
    where
      go : (b : Bool) → same_key i k ≡ b → channels k (put_open k p t) ≡ renewed new (channels k t)
          → channels k (cond b (p ∷ t) (held i c ∷ put_open k p t)) ≡ renewed new (cond b (c ∷ channels k t) (channels k t))
      go true e ih = q t
      go false e ih = rw (e, ih)

  put_free_own : (c : Channel H) (t : Table H) → room t ≡ true → channels k t ≡ [] → channels k (put_free (held k c) t) ≡ c ∷ []
  put_free_own c [] r n = cc
  put_free_own c (free ∷ t) r n = rw (same_key_refl k, n)
  put_free_own c (held i b ∷ t) r n = go (same_key i k) refl n (put_free_own c t r)
    where
      go : (b' : Bool) → same_key i k ≡ b' → cond b' (b ∷ channels k t) (channels k t) ≡ []
          → (channels k t ≡ [] → channels k (put_free (held k c) t) ≡ c ∷ []) → channels k (put_free (held k c) (held i b ∷ t)) ≡ c ∷ []
      go true e n ih = cc
      go false e n ih = rw (e, ih n)

  changed_own : (t : Table H) (b : Channel H) (cs : List (Channel H)) → channels k t ≡ b ∷ cs → (ch : Change H)
      → channels k (changed k t (b ∷ cs) ch) ≡ after_change (b ∷ cs) ch
  changed_own t b cs e same = e
  changed_own t b cs e (holds c) = rw (put_open_own (held k c) (c ∷ []) (λ r. rw (same_key_refl k)) t, e)
  changed_own t b cs e freed = rw (put_open_own free [] (λ r. refl) t, e)

  opened_own : (w : ℕ) (t : Table H) (e : Event H) → channels k t ≡ []
      → channels k (changed k t [] (one w (room t) [] e).change) ≡ after_change [] (one w (room t) [] e).change
  opened_own w t e n =
      one_case w (room t) [] e (λ o. channels k (changed k t [] o.change) ≡ after_change [] o.change) (λ _. n) (λ p. go e.act p.room)
    where
      go : (a : Act H) → room t ≡ true → channels k (changed k t [] (done w [] e.time a).change) ≡ after_change [] (done w [] e.time a).change
      go (frame s h) r = put_free_own (opened s e.time) t r n
      go (reminder s) r = n
      go tick r = n
      go close r = n

  key_own : (w : ℕ) (t : Table H) (cs : List (Channel H)) → channels k t ≡ cs → (e : Event H)
      → channels k (changed k t cs (one w (room t) cs e).change) ≡ after_change cs (one w (room t) cs e).change
  key_own w t [] n e = opened_own w t e n
  key_own w t (b ∷ cs) n e = changed_own t b cs n (one w (room t) (b ∷ cs) e).change

-- the key's own records after its event follow from its records before and whether a place is free, and from nothing else
pub step_own : {H : Type 0} (w : ℕ) (t : Table H) (e : Event H)
    → channels e.key (step w t e) ≡ after_change (channels e.key t) (one w (room t) (channels e.key t) e).change
unfolding step outcome
step_own w t e = key_own e.key w t (channels e.key t) refl e
