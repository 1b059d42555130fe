-- Laws of `over`, octets laid over a list from a place on, and the turn and the end of a loop that lays them one by one.
-- Assumes nothing.
use mathlib.Core.Path.{◌≡◌, ◌∙◌, sym, ap}
use mathlib.Core.List.{List, ◌++◌, append_assoc}
use Prim.Native.Nat.{ℕ, ◌+◌, ◌≤◌, ◌<◌}
use native.Mathlib.Nat.{add_assoc, le_refl}
use native.Mathlib.Omega.{arith}
use native.Mathlib.Numerals.{add-one}
use lib.ListN.{length, take, drop, get_or, set, length-append}
use lib.Seq.{paste, paste-suc, length-paste, take-length, take_at, drop-append-add, drop-drop, length-take-le}
use Rattle.wire.specs.Laying.{over}

pub over_paste : (out : List ℕ) (at : ℕ) (x : List ℕ) → paste out at x (length x) ≡ over out at x
unfolding over
over_paste out at x = rw take-length

pub length_over : (out : List ℕ) (at : ℕ) (x : List ℕ) → at + length x ≤ length out → length (over out at x) ≡ length out
length_over out at x h = ap length (sym (over_paste out at x)) ∙ length-paste out at x (length x) h (le_refl (length x))

-- what is laid right behind the last joins it
pub over_over : (out : List ℕ) (at : ℕ) (x y : List ℕ) → at + length x + length y ≤ length out → over (over out at x) (at + length x) y ≡ over out at (x ++ y)
unfolding over
over_over out at x y h =
    let n : ℕ = at + length x in
    let front : List ℕ = take at out ++ x in
    let rest : List ℕ = drop n out in
    let lt : length (take at out) ≡ at = length-take-le at out (omega arith) in
    let lf : length front ≡ n = length-append (take at out) x ∙ ap (λ (k : ℕ). k + length x) lt in
    let t : take n (front ++ rest) ≡ front = take_at front rest n lf in
    let e : drop (n + length y) (front ++ rest) ≡ drop (n + length y) out =
    ap (λ (k : ℕ). drop (k + length y) (front ++ rest)) (sym lf) ∙ (drop-append-add front rest (length y) ∙ drop-drop (length y) n out) in
    ap (λ (l : List ℕ). l ++ y ++ drop (n + length y) (front ++ rest)) t
    ∙ (ap (λ (l : List ℕ). front ++ y ++ l) e
    ∙ (ap (λ (l : List ℕ). l ++ drop (n + length y) out) (append_assoc (take at out) x y)
    ∙ ap (λ (k : ℕ). take at out ++ (x ++ y) ++ drop k out) (add_assoc at (length x) (length y) ∙ ap (λ (k : ℕ). at + k) (sym (length-append x y)))))

-- laid from the very start: the octets, and what stood behind them
pub over_start : (out x : List ℕ) → over out 0 x ≡ x ++ drop (length x) out
unfolding over
over_start out x = let n : 0 + length x ≡ length x = omega arith in ap (λ (k : ℕ). x ++ drop k out) n

-- one more octet of x is laid
pub laid_one : (out₀ out : List ℕ) (at : ℕ) (x : List ℕ) (done octet : ℕ) → at + length x ≤ length out₀ → done < length x → out ≡ paste out₀ at x done → octet ≡ get_or x done 0 → set out (at + done) octet ≡ paste out₀ at x (done + 1)
laid_one out₀ out at x done octet h l e q = rw (e, q, add-one) (paste-suc out₀ at x done 0 (omega arith) l)

-- all of x is laid
pub laid_all : (out₀ out : List ℕ) (at : ℕ) (x : List ℕ) (done : ℕ) → done ≡ length x → out ≡ paste out₀ at x done → out ≡ over out₀ at x
laid_all out₀ out at x done l e = e ∙ (ap (λ (k : ℕ). paste out₀ at x k) l ∙ over_paste out₀ at x)
