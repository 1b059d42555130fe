-- A run of octets laid one behind the other from the start of a slice: what `lay` and `clear` leave, carried from call to call.
-- Assumes nothing.
use mathlib.Core.Path.{◌≡◌, refl, ◌∙◌, sym, ap}
use mathlib.Core.Bool.{true, false}
use mathlib.Core.List.{List, [], ◌++◌}
use Prim.Native.Nat.{ℕ, ◌+◌, ◌≤◌}
use native.Mathlib.Omega.{arith}
use lib.ListN.{length, length-append}
use Rattle.wire.specs.Octets.{within}
use Rattle.wire.specs.Laying.{over, Lays}
use Rattle.wire.proofs.Within.{le_within}
use Rattle.wire.proofs.Over.{over_over, over_start, length_over}

pub lays_nothing : (at : ℕ) (x out : List ℕ) → within out at (length x) ≡ false → Lays at x out out at
lays_nothing at x out w = record { output = simp w; place = simp w }

pub lays_all : (at : ℕ) (x out : List ℕ) {after : List ℕ} → within out at (length x) ≡ true → after ≡ over out at x → Lays at x out after (at + length x)
lays_all at x out w e = record { output = simp w e; place = simp w }

-- the octets x are laid over the start of a slice, and the next place is behind them
pub record Laid (before after : List ℕ) (next : ℕ) (x : List ℕ) : Type 0 where
  pub done : after ≡ over before 0 x
  pub end : next ≡ length x
  pub size : length after ≡ length before

pub laid_nothing : (out : List ℕ) → Laid out out 0 []
laid_nothing out = record { done = sym (over_start out []); end = refl; size = refl }

pub laid_more : {out after x : List ℕ} {n : ℕ} {after' : List ℕ} {n' : ℕ} (y : List ℕ) → Laid out after n x → n + length y ≤ length out → Lays n y after after' n' → Laid out after' n' (x ++ y)
laid_more {out} {after} {x} {n} {after'} {n'} y l room d =
    let size = l.size in
    let room' : n + length y ≤ length after = omega arith in
    let w : within after n (length y) ≡ true = le_within after n (length y) room' in
    let out' : after' ≡ over after n y = rw w at d.output in
    let next : n' ≡ n + length y = rw w at d.place in
    let behind : n ≡ 0 + length x = omega (arith, l.end) in
    let fits : 0 + length x + length y ≤ length out = omega arith in
    let joined : after' ≡ over out 0 (x ++ y) =
    out' ∙ (ap (λ (k : ℕ). over after k y) behind ∙ (ap (λ (o : List ℕ). over o (0 + length x) y) l.done ∙ over_over out 0 x y fits)) in
    record {
      done = joined;
      end = next ∙ (ap (λ (k : ℕ). k + length y) l.end ∙ sym (length-append x y));
      size = ap length joined ∙ length_over out 0 (x ++ y) (omega (arith, length-append x y));
    }
