-- What an answer of `judge` says, taken apart: a number is the first of the list that applies, and a record is the place's, with every test passed.
-- Assumes nothing.
use Prim.Native.Nat.{ℕ}
use mathlib.Core.Path.{◌≡◌, refl, ap, sym}
use mathlib.Core.Bool.{Bool, true, false, cond}
use mathlib.Core.List.{List, [], ◌∷◌}
use lib.ListN.{length}
use Rattle.wire.specs.Answers.{accepted, refused}
use Rattle.wire.proofs.Said.{number_is, values_are, some_none}
use Rattle.wire.specs.Refusals.{Refusal, answered}
use Rattle.wire.proofs.ByCases.{AllPass}
use Rattle.ring.specs.Ring.{is_number}
use Rattle.larq.specs.Channel.{window, sound}
use Rattle.larq.specs.Table.{Lent, lent_enough, not_before}
use Rattle.slots.specs.Slots.{current_in, oldest_in, latest_in}
use Rattle.record.specs.Place.{record_of, place_lent}
use Rattle.record.specs.declared.Lengths.{Lengths}
use Rattle.record.specs.declared.Record.{Record}
use Rattle.judging.specs.Judge.{common, judged_says, judged_for}
use Rattle.std.specs.Prelude.{Result, Ok, Err}
use Rattle.larq.specs.Refused.{number_of}
use Rattle.larq.specs.declared.refused.Refused.{Refused}
use Rattle.larq.proofs.OneRefusal.{one_refused}

-- what is said by a list of tests where good input has values: a number is that by which the list refuses, whatever it answers to good input
pub said_refused : {A : Type 0} (refuse : ℕ → A) (good : A) (l : List Refusal) (v : ℕ) (vs : List ℕ) (n : ℕ) → refused n ≡ answered refused l (accepted (v ∷ vs))
    → answered refuse l good ≡ refuse n
said_refused refuse good [] v vs n e = absurd (some_none v vs (sym (values_are (refused n) (accepted (v ∷ vs)) e)))
said_refused refuse good (r ∷ l) v vs n e = go r.passes e (said_refused refuse good l v vs n)
  where
    go : (b : Bool) → refused n ≡ cond b (answered refused l (accepted (v ∷ vs))) (refused r.number)
        → (refused n ≡ answered refused l (accepted (v ∷ vs)) → answered refuse l good ≡ refuse n)
        → cond b (answered refuse l good) (refuse r.number) ≡ refuse n
    go true q later = later q
    go false q later = ap refuse (sym (number_is (refused n) (refused r.number) q))

-- and values are those of good input, with every test passed
pub said_accepted : (l : List Refusal) (u : ℕ) (us vs : List ℕ) → accepted (u ∷ us) ≡ answered refused l (accepted vs) → AllPass l × ((u ∷ us) ≡ vs)
said_accepted [] u us vs e = (tt, values_are (accepted (u ∷ us)) (accepted vs) e)
said_accepted (r ∷ l) u us vs e = go r.passes refl e (said_accepted l u us vs)
  where
    go : (b : Bool) → r.passes ≡ b → accepted (u ∷ us) ≡ cond b (answered refused l (accepted vs)) (refused r.number)
        → (accepted (u ∷ us) ≡ answered refused l (accepted vs) → AllPass l × ((u ∷ us) ≡ vs))
        → ((r.passes ≡ true) × AllPass l) × ((u ∷ us) ≡ vs)
    go true f q later = let x = later q in ((f, x.0), x.1)
    go false f q later = absurd (some_none u us (values_are (accepted (u ∷ us)) (refused r.number) q))

-- what is lent, as `judge` has it: the words and marks by their own lengths, the others as they are told
abbrev pub measured : List ℕ → List ℕ → Lengths → Lent
measured words marks l = place_lent (length words) l.handles (length marks) l.up l.returned l.nack

-- all of them pass, and the record is at hand
pub record OpenAt (l : Lent) (words marks : List ℕ) (s time : ℕ) (r : Record) : Type 0 where
  pub lent : lent_enough window l ≡ true
  pub number : is_number s ≡ true
  pub whole : sound window (record_of words [] marks) ≡ true
  pub late : not_before time (record_of words [] marks) ≡ true
  pub current : r.current.0 ≡ current_in words
  pub oldest : r.oldest.0 ≡ oldest_in words
  pub latest : r.latest ≡ latest_in words

pub open_at : (lent : Lent) (words marks : List ℕ) (s time : ℕ) (r : Record) → judged_says (Ok r) ≡ judged_for lent words marks s time
    → OpenAt lent words marks s time r
open_at lent words marks s time r e =
    let x = said_accepted (common lent s time (record_of words [] marks)) r.current.0 _ _ e in
    let p = x.0 in
    let vs = x.1 in
    record {
      lent = p.0;
      number = p.1.0;
      whole = p.1.1.1.1.1.0;
      late = p.1.1.1.1.1.1.0;
      current = cc;
      oldest = cc;
      latest = cc;
    }

-- answers that say the same are the same, so what an answer says settles it
one_record : (r q : Record) → judged_says (Ok r) ≡ judged_says (Ok q) → r ≡ q
one_record r q e =
    let vs = values_are (judged_says (Ok r)) (judged_says (Ok q)) e in
    let c : r.current.0 ≡ q.current.0 = cc in
    let m : r.oldest.0 ≡ q.oldest.0 = cc in
    let t : r.latest ≡ q.latest = cc in
    rw (c, m, t) refl

pub one_judged : (a b : Result Record Refused) → judged_says a ≡ judged_says b → a ≡ b
one_judged (Err d) (Err f) e = ap Err (one_refused d f (number_is (refused (number_of d)) (refused (number_of f)) e))
one_judged (Err d) (Ok r) e = absurd (some_none _ _ (sym (values_are (refused (number_of d)) (judged_says (Ok r)) e)))
one_judged (Ok r) (Err d) e = absurd (some_none _ _ (values_are (judged_says (Ok r)) (refused (number_of d)) e))
one_judged (Ok r) (Ok q) e = ap Ok (one_record r q e)
