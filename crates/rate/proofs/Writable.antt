-- What an accepted request to write has: each test passed, what number 23 leaves, and the writer's answer with the output that goes with it.
-- Assumes nothing.
use mathlib.Core.Path.{◌≡◌, refl, ◌∙◌, sym, ap}
use mathlib.Core.Bool.{Bool, true, not, ◌&&◌}
use mathlib.Core.List.{List, ◌++◌}
use mathlib.Core.Logic.{◌⊎◌, inl, inr, ⊎_elim}
use Prim.Native.Nat.{ℕ, ◌%◌, ◌≤◌, ◌<◌}
use native.Mathlib.Nat.{eq-zero-or-pos}
use borrow.Author.Tests.{leb-true, eqb-true, eqb-false, not-true}
use lib.Dec.{leb, eqb, lit<}
use lib.ListN.{length, drop}
use Rattle.wire.specs.Refusals.{Refusal, first}
use Rattle.wire.proofs.First.{test}
use Rattle.wire.proofs.Answered.{all_pass, first_accepts, first_refuses, decided}
use Rattle.wire.proofs.Joined.{and_left, and_right}
use Rattle.rate.specs.declared.Request.{Request}
use Rattle.rate.specs.Request.{some_band}
use Rattle.rate.specs.Writing.{ss_length_for, absent_band_empty, layout_holds, output_holds, frame_for, writer_refusals, Layable, Frames, Written, write_of, output_of, Wrote}

pub record Layout (q : Request) (a : List ℕ) : Type 0 where
  pub whole : length a % 6 ≡ 0
  pub two : q.bands ≤ 2
  pub empty : absent_band_empty q ≡ true
  pub short : ss_length_for q a ≤ 255

pub layout : (q : Request) (a : List ℕ) → layout_holds q a ≡ true → Layout q a
unfolding layout_holds
layout q a e =
    let whole : Bool = eqb (length a % 6) 0 in
    let two : Bool = leb q.bands 2 in
    let short : Bool = leb (ss_length_for q a) 255 in
    let rest = and_right whole (two && (absent_band_empty q && short)) e in
    let last = and_right two (absent_band_empty q && short) rest in
    record {
      whole = eqb-true (length a % 6) 0 (and_left whole (two && (absent_band_empty q && short)) e);
      two = leb-true q.bands 2 (and_left two (absent_band_empty q && short) rest);
      empty = and_left (absent_band_empty q) short last;
      short = leb-true (ss_length_for q a) 255 (and_right (absent_band_empty q) short last);
    }

module _ (q : Request) (a : List ℕ) (room : ℕ) (none : first (writer_refusals q a room) ≡ 0) where
  pub may_write : (k : ℕ) → k < length (writer_refusals q a room) → (test (writer_refusals q a room) k).passes ≡ true
  unfolding writer_refusals
  may_write k h = all_pass (writer_refusals q a room) refl none k h

  pub may_layout : Layout q a
  unfolding writer_refusals
  may_layout = layout q a (may_write 2 (lit< tt))

  pub may_fit : length (frame_for q a) ≤ room
  unfolding writer_refusals output_holds
  may_fit = leb-true (length (frame_for q a)) room (may_write 7 (lit< tt))

  pub some_band_law : 1 ≤ q.bands
  unfolding writer_refusals some_band
  some_band_law =
      let e : not (eqb q.bands 0) ≡ true = may_write 1 (lit< tt) in
      ⊎_elim (λ z. absurd (eqb-false q.bands 0 (not-true (eqb q.bands 0) e) z)) (λ p. p) (eq-zero-or-pos q.bands)

module _ (q : Request) (a out : List ℕ) where
  pub layable : first (writer_refusals q a (length out)) ≡ 0 → Layable q a out
  unfolding ss_length_for
  layable none =
      let l = may_layout q a (length out) none in
      record { some = some_band_law q a (length out) none; two = l.two; short = l.short; room = may_fit q a (length out) none }

  pub wrote_nothing : (n : ℕ) → n ≡ first (writer_refusals q a (length out)) → (n ≡ 0 → ⊥) → Wrote q a out out (record { number = n; count = 0 })
  unfolding write_of output_of
  wrote_nothing n e h =
      record {
        answer = sym (first_refuses (λ k. record { number = k; count = 0 }) _ (writer_refusals q a (length out)) e h);
        output = sym (first_refuses (λ k. out) _ (writer_refusals q a (length out)) e h);
      }

  pub wrote_frame : {after : List ℕ} {count : ℕ} → first (writer_refusals q a (length out)) ≡ 0 → Frames q a out after count → Wrote q a out after (record { number = 0; count = count })
  unfolding writer_refusals write_of output_of
  wrote_frame none f =
      record {
        answer = ap (λ (k : ℕ). record { number = 0; count = k }) f.count ∙ sym (first_accepts (λ k. record { number = k; count = 0 }) _ (writer_refusals q a (length out)) refl none);
        output = f.output ∙ sym (first_accepts (λ k. out) _ (writer_refusals q a (length out)) refl none);
      }

-- the two ways in which a write can end
pub record Accepted (q : Request) (a before after : List ℕ) (r : Written) : Type 0 where
  pub none : first (writer_refusals q a (length before)) ≡ 0
  pub answer : r ≡ record { number = 0; count = length (frame_for q a) }
  pub output : after ≡ frame_for q a ++ drop (length (frame_for q a)) before

pub record Declined (q : Request) (a before after : List ℕ) (r : Written) : Type 0 where
  pub some : first (writer_refusals q a (length before)) ≡ 0 → ⊥
  pub answer : r ≡ record { number = first (writer_refusals q a (length before)); count = 0 }
  pub output : after ≡ before

pub wrote_either : (q : Request) (a before after : List ℕ) (r : Written) → Wrote q a before after r → Accepted q a before after r ⊎ Declined q a before after r
unfolding writer_refusals write_of output_of
wrote_either q a before after r w =
    let rows : List Refusal = writer_refusals q a (length before) in
    ⊎_elim
    (λ d. inl (record { none = d.0; answer = w.answer ∙ d.1; output = w.output ∙ first_accepts (λ n. before) _ rows refl d.0 }))
    (λ d. inr (record { some = d.0; answer = w.answer ∙ d.1; output = w.output ∙ first_refuses (λ n. before) _ rows refl d.0 }))
    (decided (λ n. record { number = n; count = 0 }) (record { number = 0; count = length (frame_for q a) }) rows refl)
