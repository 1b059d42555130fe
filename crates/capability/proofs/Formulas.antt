-- The formulas of 001, 6.5.5.2, held against the definitions as equations of words. Assumes nothing.
-- Both sides of each have the same flags. 6-4 to 6-9 are the definitions `taken_away`, `heard_rx`, `current_rx` and `current_tx` themselves, but that
-- 6-4 takes no flag away that is in the frame's CurrentRx; 6-10, the set in use, is no set of document 01.
use Prim.Native.Nat.{ℕ, ◌≤◌, ◌-◌, min, max}
use mathlib.Core.Path.{◌≡◌}
use native.Mathlib.Omega.{arith}
use native.Mathlib.Nat.{le-max_left}
use Rattle.capability.specs.declared.Rx.{Rx}
use Rattle.capability.specs.declared.Frame.{Frame}
use Rattle.capability.specs.Sets.{◌with◌, ◌without◌, current_rx}
use Rattle.capability.specs.Events.{really_new}
use Rattle.capability.specs.Flags.{Word}
use Rattle.capability.proofs.Bits.{flag_none, flag_with, flag_without, word_with, word_without, same_flags}

-- 6-3 at one flag
again : (n p : ℕ) → max p (max n p) ≡ max n p
again n p = omega arith

taken_twice : (c n m : ℕ) → n ≤ m → min (min c (1 - n)) (1 - m) ≡ min c (1 - m)
taken_twice c n m h = omega arith

module _ (r : Rx) (f : Frame) (hn : Word r.new) (hp : Word r.previous) (hc : Word f.current) where
  -- NewRxFlags
  abbrev new_rx_flags : ℕ
  new_rx_flags = f.current without r.new

  -- 6-1 and 6-2: adding only what is new to NewRx adds the frame's whole CurrentTx
  pub formula_6_2 : r.new with new_rx_flags ≡ r.new with f.current
  formula_6_2 =
      same_flags (word_with _ _ hn (word_without _ _ hc)) (word_with _ _ hn hc)
      (λ i h. simp (flag_with, flag_without i f.current r.new h hn) (omega arith))

  -- 6-3 as its prose and the newer edition (000, 10.6.5.2) have it, with CurrentRx as it was before the frame
  pub formula_6_3 : new_rx_flags without (r.previous with current_rx r) ≡ really_new r f
  formula_6_3 =
      let hr : Word (current_rx r) = word_with _ _ hn hp in
      same_flags (word_without _ _ (word_without _ _ hc)) (word_without _ _ hc)
      (λ i h. simp (flag_without i new_rx_flags (r.previous with current_rx r) h (word_with _ _ hp hr), flag_without i f.current r.new h hn, flag_without i f.current (current_rx r) h hr, flag_with, again) (taken_twice _ _ _ (le-max_left _ _)))

  -- why it must be CurrentRx before: by the sets after 6-2 no flag would ever be new
  pub none_after_adding : f.current without (r.new with f.current) ≡ 0
  none_after_adding =
      same_flags (word_without _ _ hc) (omega arith)
      (λ i h. simp (flag_without i f.current (r.new with f.current) h (word_with _ _ hn hc), flag_with, flag_none) (omega arith))
