-- Order for the host's own handles, equal ones too: each handle is marked with the sender's count of its frame, the rules run on the marked handles,
-- and what the box answers is what they answer with the marks taken off. Demand 3, second half.
use Prim.Native.Nat.{ℕ, suc, ◌%◌, ◌<◌}
use mathlib.Core.Path.{◌≡◌, refl, ap, sym, ◌∙◌}
use mathlib.Core.Bool.{true}
use mathlib.Core.List.{List, [], ◌∷◌, map}
use Rattle.ring.specs.Ring.{size}
use Rattle.larq.specs.Channel.{Channel}
use Rattle.larq.specs.Answer.{Answer}
use Rattle.larq.specs.Events.{opened}
use Rattle.larq.specs.Table.{Key, held, Table, channels, Event}
use Rattle.larq.specs.Run.{answers, events_of, answers_to}
use Rattle.larq.specs.Demands.{until_closed}
use Rattle.larq.specs.Counts.{count_of, marked, Note, event_of_note, Within, Rising, all_up, numbers}
use Rattle.larq.proofs.Order.{order_opened}
use Rattle.larq.specs.Answer.{Change, same, holds, freed}
use Rattle.larq.specs.Table.{one, outcome, step}
use Rattle.larq.proofs.Keys.{same_key_refl}
use Rattle.larq.proofs.Restart.{onward, until, from_record, BeginningFrame, beginning_leaves}
use Rattle.larq.specs.Renaming.{on_channel, on_change, on_answer, on_event, own}
use Rattle.larq.proofs.Renamed.{one_renamed}

-- what a record decides, with every handle renamed
until_renamed : {A B : Type 0} (f : A → B) (w : ℕ) (c : Channel A) (es : List (Event A)) → until w (on_channel f c) (map (on_event f) es) ≡ map (on_answer f) (until w c es)
until_renamed f w c [] = refl
until_renamed {A} {B} f w c (e ∷ es) = rw (one_renamed f w true (c ∷ []) e) (ap (λ l. on_answer f (one w true (c ∷ []) e).answer ∷ l) (go (one w true (c ∷ []) e).change (λ d. until_renamed f w d es)))
  where
    go : (ch : Change A) → ((d : Channel A) → until w (on_channel f d) (map (on_event f) es) ≡ map (on_answer f) (until w d es))
        → onward (on_change f ch) (on_channel f c) (λ d. until w d (map (on_event f) es)) [] ≡ map (on_answer f) (onward ch c (λ d. until w d es) [])
    go same ih = ih c
    go (holds d) ih = ih d
    go freed ih = refl

numbers_renamed : {A B : Type 0} (f : A → B) (rs : List (Answer A)) → numbers (map (on_answer f) rs) ≡ numbers rs
numbers_renamed f [] = refl
numbers_renamed f (r ∷ rs) = ap (λ l. r.number ∷ l) (numbers_renamed f rs)

-- events of one channel only
module _ {H : Type 0} (count : H → ℕ) (k : Key) where
  events_all : (ns : List (Note H)) → events_of k (map (event_of_note count k) ns) ≡ map (event_of_note count k) ns
  events_all [] = refl
  events_all (n ∷ ns) = rw (same_key_refl k) (ap (λ l. event_of_note count k n ∷ l) (events_all ns))

  answers_all : (w : ℕ) (t : Table H) (ns : List (Note H))
      → answers_to k (map (event_of_note count k) ns) (answers w t (map (event_of_note count k) ns)) ≡ answers w t (map (event_of_note count k) ns)
  answers_all w t [] = refl
  answers_all w t (n ∷ ns) = rw (same_key_refl k) (ap (λ l. (outcome w t (event_of_note count k n)).answer ∷ l) (answers_all w (step w t (event_of_note count k n)) ns))

module _ {A : Type 0} where
  marked_until : (w : ℕ) (k : Key) (c : Channel (ℕ × A)) (ns : List (Note (ℕ × A))) → marked w k c ns ≡ until w c (map (event_of_note count_of k) ns)
  marked_until w k c ns =
      ap (until_closed (map (event_of_note count_of k) ns)) (sym (answers_all count_of k w (held k c ∷ []) ns))
      ∙ ap (λ l. until_closed l (answers_to k (map (event_of_note count_of k) ns) (answers w (held k c ∷ []) (map (event_of_note count_of k) ns)))) (sym (events_all count_of k ns))
      ∙ from_record w k (held k c ∷ []) c [] (rw (same_key_refl k)) (map (event_of_note count_of k) ns)
      ∙ ap (until w c) (events_all count_of k ns)

  -- what the box answers, rs, is what the marked run answers with the marks taken off; and by the marks what goes up rises strictly
  record Opened (w : ℕ) (k : Key) (u time : ℕ) (ns : List (Note (ℕ × A))) (rs : List (Answer A)) : Type 0 where
    answers : rs ≡ map (on_answer own) (marked w k (opened (u % size) time) ns)
    rising : Rising count_of (suc u) (all_up (marked w k (opened (u % size) time) ns))

  own_opened : (w : ℕ) → w < 1024 → (k : Key) (t : Table A) (u time : ℕ) (cs : List (Channel A)) → channels k t ≡ opened (u % size) time ∷ cs
      → (es : List (Event A)) (ns : List (Note (ℕ × A))) → events_of k es ≡ map (on_event own) (map (event_of_note count_of k) ns)
      → Within count_of w u ns (numbers (until_closed (events_of k es) (answers_to k es (answers w t es))))
      → Opened w k u time ns (until_closed (events_of k es) (answers_to k es (answers w t es)))
  own_opened w half k t u time cs e es ns v q =
      record { answers = unmarked; rising = rw one_channel (order_opened count_of w half k (held k c ∷ []) u time [] (rw (same_key_refl k)) ms ns (events_all count_of k ns) near) }
    where
      c : Channel (ℕ × A)
      c = opened (u % size) time

      ms : List (Event (ℕ × A))
      ms = map (event_of_note count_of k) ns

      unmarked : until_closed (events_of k es) (answers_to k es (answers w t es)) ≡ map (on_answer own) (marked w k c ns)
      unmarked =
          from_record w k t (opened (u % size) time) cs e es
          ∙ ap (until w (opened (u % size) time)) v
          ∙ until_renamed own w c ms
          ∙ ap (map (on_answer own)) (sym (marked_until w k c ns))

      one_channel : marked w k c ns ≡ until_closed (events_of k ms) (answers_to k ms (answers w (held k c ∷ []) ms))
      one_channel =
          ap (λ l. until_closed l (answers w (held k c ∷ []) ms)) (sym (events_all count_of k ns))
          ∙ ap (until_closed (events_of k ms)) (sym (answers_all count_of k w (held k c ∷ []) ns))

      near : Within count_of w u ns (numbers (until_closed (events_of k ms) (answers_to k ms (answers w (held k c ∷ []) ms))))
      near = rw (← one_channel, ← numbers_renamed own (marked w k c ns), ← unmarked) q

  -- The frame e has the handle a and the count u, and begins its channel: it alone goes up. What the box answers to the channel's later events, until its
  -- close, is what a box answers that has this channel alone, on handles marked with their counts, with the marks taken off; and by the marks what goes
  -- up rises strictly, past u
  pub record OwnOrder (w : ℕ) (t : Table A) (e : Event A) (u : ℕ) (a : A) (ns : List (Note (ℕ × A))) (es : List (Event A)) : Type 0 where
    pub first : (outcome w t e).answer.up ≡ a ∷ []
    pub answers : until_closed (events_of e.key es) (answers_to e.key es (answers w (step w t e) es))
        ≡ map (on_answer own) (marked w e.key (opened (u % size) e.time) ns)
    pub rising : Rising count_of (suc u) (all_up (marked w e.key (opened (u % size) e.time) ns))

  pub own_order : (w : ℕ) → w < 1024 → (t : Table A) (e : Event A) (u : ℕ) (a : A) → BeginningFrame w t e (u % size) a
      → (es : List (Event A)) (ns : List (Note (ℕ × A))) → events_of e.key es ≡ map (on_event own) (map (event_of_note count_of e.key) ns)
      → Within count_of w u ns (numbers (until_closed (events_of e.key es) (answers_to e.key es (answers w (step w t e) es))))
      → OwnOrder w t e u a ns es
  own_order w half t e u a is es ns v q =
      let left = beginning_leaves w t e (u % size) a is in
      let later = own_opened w half e.key (step w t e) u e.time left.others left.records es ns v q in
      record { first = left.up; answers = later.answers; rising = later.rising }
