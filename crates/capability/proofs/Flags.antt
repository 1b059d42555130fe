-- What the definitions say flag by flag, for the auditor to hold against document 01, 'Capability sets', and 001, 6.5.4 and 6.5.5.
-- Each law reads a union or a difference at one flag; a premise `Word` says that a set is a 32-bit word. Assumes nothing.
use Prim.Native.Nat.{ℕ, ◌<◌}
use mathlib.Core.Path.{◌≡◌, refl, ap}
use mathlib.Core.Logic.Iff
use mathlib.Core.Logic.{◌≢◌, ◌↔◌, ◌⊎◌, inr}
use mathlib.Core.Bool.{Bool, true, false, not, false≢true}
use native.Mathlib.Omega.{arith}
use lib.Dec.{eqb, ltb}
use borrow.Author.Tests.{eqb-true, eqb-false, eq-eqb, ne_eqb, not-true, ltb-true, lt-ltb, le-ltb}
use Rattle.capability.specs.declared.Tx.{Tx}
use Rattle.capability.specs.declared.Rx.{Rx}
use Rattle.capability.specs.declared.Frame.{Frame}
use Rattle.capability.specs.declared.Station.{Station}
use Rattle.capability.specs.Sets.{◌with◌, ◌without◌, current_tx, current_rx}
use Rattle.capability.specs.Answers.{refused}
use Rattle.capability.specs.Events.{unannounced, after_end, really_new, taken_away, heard_rx, used, ended, received}
use Rattle.capability.specs.Flags.{Word, ◌isIn◌, ◌isNotIn◌, SomeFlag, SomeDifference, SomeUnannounced}
use Rattle.capability.proofs.Bits.{flag_with, in_with, in_without, word_with, word_without, some_flag, some_difference}

-- a test that two numbers differ holds exactly if they do
unequal : (a b : ℕ) → (not (eqb a b) ≡ true) ↔ (a ≢ b)
unequal a b = (λ e. eqb-false a b (not-true (eqb a b) e), λ n. ap not (ne_eqb a b n))

-- in neither of two sets
pub in_neither : (i a b : ℕ) → (i isNotIn a with b) ↔ ((i isNotIn a) × (i isNotIn b))
in_neither i a b = rw (flag_with i a b) (λ e. (omega arith, omega arith), λ e. omega arith)

-- in the first set and in neither of two others
in_first_alone : (i a b c : ℕ) → i < 32 → Word b → Word c
    → (i isIn a without (b with c)) ↔ ((i isIn a) × (i isNotIn b) × (i isNotIn c))
in_first_alone i a b c h hb hc =
    let apart = in_without i a (b with c) h (word_with b c hb hc) in (
      λ e. ((apart.0 e).0, ((in_neither i b c).0 (apart.0 e).1).0, ((in_neither i b c).0 (apart.0 e).1).1),
      λ e. apart.1 (e.0, (in_neither i b c).1 (e.1, e.2)),
    )

-- ---- the composite sets (6-7, 6-8, 6-9)

pub in_current_tx : (i : ℕ) (t : Tx) → (i isIn current_tx t) ↔ ((i isIn t.new) ⊎ (i isIn t.previous))
in_current_tx i t = in_with i t.new t.previous

pub in_current_rx : (i : ℕ) (r : Rx) → (i isIn current_rx r) ↔ ((i isIn r.new) ⊎ (i isIn r.previous))
in_current_rx i r = in_with i r.new r.previous

-- ---- use of flags (6.5.5.1)

-- afterwards a flag is in NewTx exactly if it was there or is used, announced or not
pub in_added : (i : ℕ) (s : Station) (f : ℕ) → (i isIn (used s f).station.tx.new) ↔ ((i isIn s.tx.new) ⊎ (i isIn f))
in_added i s f = in_with i s.tx.new f

-- a use sends a frame where f has a flag that neither set of CurrentTx has, and only there
pub announced_exactly : (s : Station) (f : ℕ) → Word s.tx.new → Word s.tx.previous → Word f
    → ((used s f).sends ≡ true) ↔ SomeUnannounced s.tx f
announced_exactly s f hn hp hf = Iff.trans (unequal missing 0) (Iff.trans (some_flag missing (word_without f _ hf)) (names, unnames))
  where
    missing : ℕ
    missing = unannounced s.tx f

    alone : (i : ℕ) → i < 32 → (i isIn missing) ↔ ((i isIn f) × (i isNotIn s.tx.new) × (i isNotIn s.tx.previous))
    alone i h = in_first_alone i f s.tx.new s.tx.previous h hn hp

    names : SomeFlag missing → SomeUnannounced s.tx f
    names r =
        let e = (alone r.at r.below).0 r.held in
        record { at = r.at; below = r.below; used = e.0; not_new = e.1; not_previous = e.2 }

    unnames : SomeUnannounced s.tx f → SomeFlag missing
    unnames r = record { at = r.at; below = r.below; held = (alone r.at r.below).1 (r.used, r.not_new, r.not_previous) }

-- ---- period end (6.5.5.3)

-- the timer is started exactly if some flag is in one of CurrentTx and OldestTx alone, as they then are
pub started_exactly : (s : Station) → Word s.default → Word s.tx.new → Word s.tx.previous
    → ((ended s).timer.starts ≡ true) ↔ SomeDifference (ended s).frame.current (ended s).frame.oldest
started_exactly s hd hn hp =
    Iff.trans (unequal (current_tx (after_end s).tx) s.tx.previous)
    (some_difference (current_tx (after_end s).tx) s.tx.previous (word_with s.default s.tx.new hd hn) hp)

-- ---- received frame (6.5.5.2)

module _ (s : Station) (opcode : ℕ) (f : Frame) where
  -- refused exactly if the opcode is above 1
  pub refused_exactly : ((received s opcode f).number ≡ 30) ↔ (1 < opcode)
  refused_exactly = (tells (ltb 1 opcode) refl, λ h. rw (lt-ltb 1 opcode h))
    where
      tells : (b : Bool) → ltb 1 opcode ≡ b → (received s opcode f).number ≡ 30 → 1 < opcode
      tells true e n = ltb-true 1 opcode e
      tells false e n = let z : ◌≡◌ {A = ℕ} 0 30 = rw e at n in absurd (omega arith)

  -- and then nothing is changed, sent or reported, and the timer is kept
  pub untouched : 1 < opcode → received s opcode f ≡ refused 30 s
  untouched h = rw (lt-ltb 1 opcode h)

  -- the timer is started exactly if the opcode is 1
  pub requested_exactly : ((received s opcode f).timer.starts ≡ true) ↔ (opcode ≡ 1)
  requested_exactly = (tells (ltb 1 opcode) refl, λ e. rw (le-ltb 1 opcode (omega arith), eq-eqb opcode 1 e))
    where
      tells : (b : Bool) → ltb 1 opcode ≡ b → (received s opcode f).timer.starts ≡ true → opcode ≡ 1
      tells true e t = absurd (false≢true (rw e at t))
      tells false e t = eqb-true opcode 1 (rw e at t)

module _ (i : ℕ) (below : i < 32) (r : Rx) (f : Frame) where
  -- reported exactly if in its CurrentTx and in neither NewRx nor PreviousRx before (6-1 and 6-3)
  pub really_new_exactly : Word r.new → Word r.previous
      → (i isIn really_new r f) ↔ ((i isIn f.current) × (i isNotIn r.new) × (i isNotIn r.previous))
  really_new_exactly hn hp = in_first_alone i f.current r.new r.previous below hn hp

  -- taken away exactly if its OldestTx has it and its CurrentTx lacks it (6-4, which also asks that its CurrentRx lacks it)
  pub taken_exactly : Word f.current → (i isIn taken_away f) ↔ ((i isIn f.oldest) × (i isNotIn f.current))
  unfolding taken_away
  taken_exactly hc = in_without i f.oldest f.current below hc

  word_taken : Word f.oldest → Word (taken_away f)
  unfolding taken_away
  word_taken ho = word_without f.oldest f.current ho

  -- NewRx afterwards: what it held and what the frame carries, but for what is taken away (6-2, 6-5)
  pub in_new_rx : Word f.oldest
      → (i isIn (heard_rx r f).new) ↔ (((i isIn r.new) ⊎ (i isIn f.current)) × (i isNotIn taken_away f))
  in_new_rx ho =
      let left = in_without i (r.new with f.current) (taken_away f) below (word_taken ho) in
      let either = in_with i r.new f.current in
      (λ e. (either.0 (left.0 e).0, (left.0 e).1), λ e. left.1 (either.1 e.0, e.1))

  -- PreviousRx afterwards (6-6)
  pub in_previous_rx : Word f.oldest → (i isIn (heard_rx r f).previous) ↔ ((i isIn r.previous) × (i isNotIn taken_away f))
  in_previous_rx ho = in_without i r.previous (taken_away f) below (word_taken ho)

  -- what the frame carries in its CurrentTx is in NewRx afterwards: nothing of it is taken away
  pub current_is_heard : Word f.oldest → Word f.current → i isIn f.current → i isIn (heard_rx r f).new
  current_is_heard ho hc h = (in_new_rx ho).1 (inr h, kept (λ e. absent ((taken_exactly hc).0 e).1))
    where
      absent : i isNotIn f.current → ⊥
      absent e = omega arith

      kept : ¬ (i isIn taken_away f) → i isNotIn taken_away f
      kept n = omega (arith, n)
