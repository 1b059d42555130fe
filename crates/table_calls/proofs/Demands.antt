-- Demand 3 of calls: each of its sentences over chains of calls on lent slices, such as every host makes them. Assumes nothing.
use Prim.Native.Nat.{ℕ, ◌%◌}
use mathlib.Core.Path.{◌≡◌, ap, sym, ◌∙◌}
use mathlib.Core.Bool.{true}
use mathlib.Core.List.{List, [], ◌∷◌, map}
use native.Mathlib.Omega.{arith}
use Rattle.ring.specs.Ring.{size}
use Rattle.larq.specs.Answer.{Answer}
use Rattle.larq.specs.Channel.{window, Channel}
use Rattle.larq.specs.Events.{frame}
use Rattle.larq.specs.Table.{Key, channels, room, Event, outcome, step}
use Rattle.larq.specs.Run.{answers, events_of, answers_to}
use Rattle.larq.specs.Demands.{told, told_of, AgreeButFull}
use Rattle.larq.specs.Counts.{count_of, Note, event_of_note, Within, numbers}
use Rattle.larq.specs.Calls.{AcceptedData}
use Rattle.larq.proofs.Cases.{accepted_passes}
use Rattle.larq.proofs.Apart.{apart}
use Rattle.larq.proofs.Restart.{FarFrame, restart}
use Rattle.larq.proofs.Sequence.{restart_in_sequence}
use Rattle.larq.proofs.OwnHandles.{own_order}
use Rattle.larq.specs.Renaming.{on_event, own}
use Rattle.larq.proofs.Kept.{kept}
use Rattle.table.specs.Table.{Slices, table_of}
use Rattle.table_calls.specs.Emptied.{all_zeros}
use Rattle.table_calls.specs.Calls.{Calls}
use Rattle.table_calls.specs.Demands.{RestartCall, OpeningCall, BeginningCall, heard_of, HearsAsOpened, HearsInOrder, HearsKept}
use Rattle.table_calls.proofs.Lent.{lent_at_once}
use Rattle.table_calls.proofs.Running.{hears, heard_from_empty, from_empty}

heads : {A : Type 0} (x y : A) (xs ys : List A) → x ∷ xs ≡ y ∷ ys → (x ≡ y) × (xs ≡ ys)
heads x y xs ys q = (cc, cc)

-- what the first call of a chain hears, and what the others hear
module _ {s x : Slices} {e : Event ℕ} {es : List (Event ℕ)} {r : Answer ℕ} {rs : List (Answer ℕ)} (cs : Calls s (e ∷ es) (r ∷ rs) x) where
  heard_first : (r ≡ (outcome window (table_of s) e).answer) × (rs ≡ answers window (step window (table_of s) e) es)
  heard_first = heads r (outcome window (table_of s) e).answer rs (answers window (step window (table_of s) e) es) (hears cs)

-- 'Nothing of another channel enters an answer, except that a new channel is refused when all 64 places are taken': two chains that begin with the same
-- records of a key, and tell it the same events
pub calls_apart : (k : Key) {s x t y : Slices} {es fs : List (Event ℕ)} {rs qs : List (Answer ℕ)} → Calls s es rs x → Calls t fs qs y
    → channels k (table_of s) ≡ channels k (table_of t) → told_of window k es ≡ told_of window k fs → AgreeButFull (answers_to k es rs) (answers_to k fs qs)
calls_apart k {s} {t = t} {es = es} {fs = fs} cs ds same told = rw (hears cs, hears ds) (apart window k (table_of s) (table_of t) es fs same told)

-- 'A far frame restarts its channel, which from then on answers as one just opened by it'
module _ {s x t y : Slices} {e f : Event ℕ} {es fs : List (Event ℕ)} {r q : Answer ℕ} {rs qs : List (Answer ℕ)} (cs : Calls s (e ∷ es) (r ∷ rs) x)
    (ds : Calls t (f ∷ fs) (q ∷ qs) y) (c : Channel ℕ) (n h : ℕ) (is : RestartCall s e r c n h) (opens : OpeningCall t f q n h) where
  far_frame : FarFrame window (table_of s) e c is.others n h
  far_frame = record { is_open_law = is.is_open_law; is_data_law = is.is_data_law; is_accepted = rw (← (heard_first cs).0) is.is_accepted; far = is.far }

  a_place : room (table_of t) ≡ true
  unfolding outcome
  a_place =
      let ok : (outcome window (table_of t) f).answer.number ≡ 0 = rw (← (heard_first ds).0) opens.is_accepted in
      (accepted_passes window (room (table_of t)) [] f (rw opens.not_open at ok)).0.room

  pub calls_restart : told window e ≡ told window f → told_of window e.key es ≡ told_of window e.key fs → HearsAsOpened c h e.key es r rs fs q qs
  calls_restart same later =
      let both = restart window (table_of s) (table_of t) e f same c is.others n h far_frame (record { none = opens.not_open; place = a_place }) es fs later in
      let back = sym (ap (λ (a : Answer ℕ). a.returned) both.answer) ∙ restart_in_sequence window (omega arith) (table_of s) e c is.others n h far_frame in
      record {
        restart = (heard_first cs).0 ∙ both.answer ∙ ap (λ (l : List ℕ). record { number = 0; up = h ∷ []; returned = l; nack = []; lost = 0 }) back;
        opening = (heard_first ds).0 ∙ both.opening;
        later = rw ((heard_first cs).1, (heard_first ds).1) both.later;
      }

-- 'Within reach no count goes up twice or out of order'
pub calls_order : {s x : Slices} {e : Event ℕ} {es : List (Event ℕ)} {r : Answer ℕ} {rs : List (Answer ℕ)} → Calls s (e ∷ es) (r ∷ rs) x
    → (u a : ℕ) → BeginningCall s e r (u % size) a → (ns : List (Note (ℕ × ℕ))) → events_of e.key es ≡ map (on_event own) (map (event_of_note count_of e.key) ns)
    → Within count_of window u ns (numbers (heard_of e.key es rs)) → HearsInOrder e.key u e.time a ns es r rs
calls_order {s} {e = e} {es = es} cs u a is ns told near =
    let order = own_order window (omega arith) (table_of s) e u a (record { is_data_law = is.is_data_law; is_accepted = rw (← (heard_first cs).0) is.is_accepted; anew = is.anew }) es ns told (rw (heard_first cs).1 at near) in
    record { first = rw (heard_first cs).0 order.first; later = rw (heard_first cs).1 order.answers; rising = order.rising }

-- '.. and the next expected one goes up at once'
pub calls_at_once : {s x : Slices} {e : Event ℕ} {es : List (Event ℕ)} {r : Answer ℕ} {rs : List (Answer ℕ)} → Calls s (e ∷ es) (r ∷ rs) x
    → (c : Channel ℕ) (others : List (Channel ℕ)) → channels e.key (table_of s) ≡ c ∷ others → (h : ℕ) → e.act ≡ frame c.oldest h → r.number ≡ 0
    → (hs : List ℕ) × (r.up ≡ h ∷ hs)
calls_at_once {s} {e = e} cs c others is h act ok = rw (heard_first cs).0 (lent_at_once s e c others is h act (rw (← (heard_first cs).0) ok))

-- 'the handle of each accepted data call is, at any moment, exactly one of handed up, returned, or waiting'
pub calls_kept : {x : Slices} {es : List (Event ℕ)} {rs : List (Answer ℕ)} → Calls all_zeros es rs x → (j : ℕ) → AcceptedData es rs j → HearsKept j es rs x
calls_kept {es = es} cs j is =
    let once = kept window es j (rw (heard_from_empty cs) at is) in
    record { answers_own = heard_from_empty cs ∙ once.answers_own; table_own = from_empty cs ∙ once.table_own; once = once.once }
