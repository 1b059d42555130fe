-- Laws of M's walk over a window: how many numbers it passes and what is left, that it hands up only what waits, and how settling a window
-- that is too wide comes apart: M first passes what is too much, and then those that wait. Document 01, 'Settling'. Assumes nothing.
use Prim.Native.Nat.{ℕ, zero, suc, ◌+◌, ◌-◌, ◌≤◌, ◌<◌}
use mathlib.Core.Path.{◌≡◌, refl, ap, sym, ◌∙◌}
use mathlib.Core.Bool.{Bool, true, false, cond}
use mathlib.Core.List.{List, [], ◌∷◌, ◌++◌}
use native.Mathlib.Omega.{arith}
use lib.Dec.{ltb, leb}
use lib.ListN.{length, take, drop, replicate}
use borrow.Author.Tests.{lt-ltb, le-ltb, leb-true, leb-false}
use Rattle.ring.specs.Ring.{size, forward, next}
use Rattle.larq.specs.Channel.{Cell, waits, missing, waiting, head_missing}
use Rattle.larq.specs.Settling.{Walked, walk, stays, handing, losing, wide, hold, stale}
use Rattle.slots.specs.Slots.{slot_of}
use Rattle.record.specs.Place.{cells_from}
use Rattle.record.specs.Walk.{earlier, passes, most}
use Rattle.record.proofs.Rounds.{forward_none, forward_next}

-- what went up and was given up before a walk
abbrev pub so_far : {H : Type 0} → List H → ℕ → Walked H → Walked H
so_far us n p = record { oldest = p.oldest; cells = p.cells; up = us ++ p.up; lost = n + p.lost }

-- M passed so many numbers of the window
pub record Passed {H : Type 0} (m : ℕ) (cs : List (Cell H)) (p : Walked H) : Type 0 where
  pub few : passes p ≤ length cs
  pub oldest : p.oldest ≡ forward m (passes p)
  pub cells : p.cells ≡ drop (passes p) cs

module _ {H : Type 0} where
  pub waiting_append : (xs ys : List (Cell H)) → waiting (xs ++ ys) ≡ waiting xs ++ waiting ys
  waiting_append [] ys = refl
  waiting_append (waits h ∷ xs) ys = ap (λ l. h ∷ l) (waiting_append xs ys)
  waiting_append (missing t ∷ xs) ys = waiting_append xs ys

  pub waiting_few : (cs : List (Cell H)) → length (waiting cs) ≤ length cs
  waiting_few [] = omega arith
  waiting_few (waits h ∷ cs) = omega (arith, waiting_few cs)
  waiting_few (missing t ∷ cs) = omega (arith, waiting_few cs)

  -- among the first j none wait, if so many are missing there
  pub waiting_none : (j n t : ℕ) (ys : List (Cell H)) → j ≤ n → waiting (take j (replicate n (missing t) ++ ys)) ≡ []
  waiting_none zero n t ys h = refl
  waiting_none (suc j) zero t ys h = absurd (let z : ⊥ = omega arith in z)
  waiting_none (suc j) (suc n) t ys h = waiting_none j n t ys (omega arith)

  -- where M is missing, or nothing is, not all can wait
  pub waiting_fewer : (w : ℕ) (cs : List (Cell H)) → head_missing cs ≡ true → 0 < w → length cs ≤ w → length (waiting cs) < w
  waiting_fewer w [] e p q = omega arith
  waiting_fewer w (waits h ∷ cs) e p q = absurd (let z : ◌≡◌ {A = ℕ} 0 1 = cc e in let y : ⊥ = omega arith in y)
  waiting_fewer w (missing t ∷ cs) e p q = omega (arith, waiting_few cs)

  waiting_take : (j : ℕ) (cs : List (Cell H)) → length (waiting (take j cs)) ≤ j
  waiting_take zero cs = omega arith
  waiting_take (suc j) [] = omega arith
  waiting_take (suc j) (waits h ∷ cs) = omega (arith, waiting_take j cs)
  waiting_take (suc j) (missing t ∷ cs) = omega (arith, waiting_take j cs)

  -- M passes one number more
  one_more : (m : ℕ) (x : Cell H) (cs : List (Cell H)) (p p' : Walked H) → passes p' ≡ suc (passes p) → p'.oldest ≡ p.oldest
      → p'.cells ≡ p.cells → Passed (next m) cs p → Passed m (x ∷ cs) p'
  one_more m x cs p p' e eo ec i =
      record {
        few = omega (arith, i.few);
        oldest = eo ∙ i.oldest ∙ forward_next m (passes p) ∙ ap (forward m) (sym e);
        cells = ec ∙ i.cells ∙ ap (λ n. drop n (x ∷ cs)) (sym e);
      }

  module _ (givesUp : ℕ → ℕ → Bool) where
    pub passed : (m : ℕ) (cs : List (Cell H)) → m < size → Passed m cs (walk givesUp m cs)
    passed m [] h = record { few = omega arith; oldest = sym (forward_none m h); cells = refl }
    passed m (waits x ∷ cs) h =
        let p = walk givesUp (next m) cs in
        one_more m (waits x) cs p (handing x p) (omega arith) refl refl (passed (next m) cs (omega arith))
    passed m (missing t ∷ cs) h = by_test (givesUp t (suc (length cs))) (passed (next m) cs (omega arith))
      where
        by_test : (b : Bool) → Passed (next m) cs (walk givesUp (next m) cs)
            → Passed m (missing t ∷ cs) (cond b (losing (walk givesUp (next m) cs)) (stays m (missing t ∷ cs)))
        by_test true i =
            let p = walk givesUp (next m) cs in
            one_more m (missing t) cs p (losing p) (omega arith) refl refl i
        by_test false i = record { few = omega arith; oldest = sym (forward_none m h); cells = refl }

    -- only what waits goes up
    pub up_few : (m : ℕ) (cs : List (Cell H)) → length (walk givesUp m cs).up ≤ length (waiting cs)
    up_few m [] = omega arith
    up_few m (waits x ∷ cs) = omega (arith, up_few (next m) cs)
    up_few m (missing t ∷ cs) = by_test (givesUp t (suc (length cs))) (up_few (next m) cs)
      where
        by_test : (b : Bool) → length (walk givesUp (next m) cs).up ≤ length (waiting cs)
            → length (cond b (losing (walk givesUp (next m) cs)) (stays m (missing t ∷ cs))).up ≤ length (waiting cs)
        by_test true i = i
        by_test false i = omega arith

    -- M does not pass a missing number that is not given up
    pub passes_before : (m t : ℕ) (xs ys : List (Cell H)) → ((n : ℕ) → givesUp t n ≡ false)
        → passes (walk givesUp m (xs ++ (missing t ∷ ys))) ≤ length xs
    passes_before m t [] ys never = rw (never (suc (length ys))) (omega arith)
    passes_before m t (waits x ∷ xs) ys never = omega (arith, passes_before (next m) t xs ys never)
    passes_before m t (missing u ∷ xs) ys never =
        by_test (givesUp u (suc (length (xs ++ (missing t ∷ ys))))) (passes_before (next m) t xs ys never)
      where
        by_test : (b : Bool) → passes (walk givesUp (next m) (xs ++ (missing t ∷ ys))) ≤ length xs
            → passes (cond b (losing (walk givesUp (next m) (xs ++ (missing t ∷ ys)))) (stays m (missing u ∷ (xs ++ (missing t ∷ ys)))))
            ≤ suc (length xs)
        by_test true i = omega arith
        by_test false i = omega arith

  -- two tests that agree on the window
  pub walk_same : (f g : ℕ → ℕ → Bool) (m : ℕ) (cs : List (Cell H)) → ((t n : ℕ) → n ≤ length cs → f t n ≡ g t n) → walk f m cs ≡ walk g m cs
  walk_same f g m [] e = refl
  walk_same f g m (waits x ∷ cs) e = ap (handing x) (walk_same f g (next m) cs (λ t n l. e t n (omega arith)))
  walk_same f g m (missing t ∷ cs) e =
      rw (e t (suc (length cs)) (omega arith))
      (ap (λ p. cond (g t (suc (length cs))) (losing p) (stays m (missing t ∷ cs))) (walk_same f g (next m) cs (λ t n l. e t n (omega arith))))

  -- in a window that is not too wide no missing number is given up
  pub walk_narrow : (w m : ℕ) (cs : List (Cell H)) → length cs ≤ w → walk (wide w) m cs ≡ walk (earlier 0) m cs
  walk_narrow w m cs l = walk_same (wide w) (earlier 0) m cs (λ t n q. le-ltb w n (omega arith) ∙ sym (le-ltb t 0 (omega arith)))

  -- a tick gives up what is missing since before its time less the hold, and one tick more
  pub walk_stale : (time m : ℕ) (cs : List (Cell H)) → walk (stale time) m cs ≡ walk (earlier (time + 1 - hold)) m cs
  walk_stale time m cs = walk_same (stale time) (earlier (time + 1 - hold)) m cs (λ t n q. by_age t (leb (t + hold) time) refl)
    where
      by_age : (t : ℕ) (b : Bool) → leb (t + hold) time ≡ b → b ≡ ltb t (time + 1 - hold)
      by_age t true e = sym (lt-ltb t (time + 1 - hold) (omega (arith, leb-true (t + hold) time e)))
      by_age t false e = sym (le-ltb t (time + 1 - hold) (omega (arith, leb-false (t + hold) time e)))

  -- while the span exceeds the window M passes on, whatever it is
  pub walk_wide : (w j m : ℕ) (cs : List (Cell H)) → m < size → j ≤ length cs - w
      → walk (wide w) m cs ≡ so_far (waiting (take j cs)) (j - length (waiting (take j cs))) (walk (wide w) (forward m j) (drop j cs))
  walk_wide w zero m cs h l =
      let p = walk (wide w) m cs in
      let e : 0 + p.lost ≡ p.lost = omega arith in
      rw (forward_none m h, e)
  walk_wide w (suc j) m [] h l = absurd (let z : ⊥ = omega arith in z)
  walk_wide w (suc j) m (waits x ∷ cs) h l =
      let e : suc j - suc (length (waiting (take j cs))) ≡ j - length (waiting (take j cs)) = omega arith in
      rw (e, ← forward_next m j) (ap (handing x) (walk_wide w j (next m) cs (omega arith) (omega arith)))
  walk_wide w (suc j) m (missing t ∷ cs) h l =
      let n = length (waiting (take j cs)) in
      let few = waiting_take j cs in
      let b = (walk (wide w) (forward (next m) j) (drop j cs)).lost in
      let e : suc j - n + b ≡ suc (j - n + b) = omega arith in
      rw (lt-ltb w (suc (length cs)) (omega arith), ← forward_next m j, e) (ap losing (walk_wide w j (next m) cs (omega arith) (omega arith)))

  -- up to time 0 nothing is given up
  pub never_lost : (m : ℕ) (cs : List (Cell H)) → (walk (earlier 0) m cs).lost ≡ 0
  never_lost m [] = refl
  never_lost m (waits h ∷ cs) = never_lost (next m) cs
  never_lost m (missing t ∷ cs) = rw (le-ltb t 0 (omega arith)) refl

-- M comes as far on the first numbers of a window as on the whole, where it passes no more of them.
abbrev Alike : Walked ℕ → Walked ℕ → Type 0
Alike p q = (p.up ≡ q.up) × (p.lost ≡ q.lost) × (p.oldest ≡ q.oldest)

module _ (until : ℕ) where
  abbrev on : ℕ → List (Cell ℕ) → Walked ℕ
  on = walk (earlier until)

  none_passed : (m : ℕ) (x : Cell ℕ) (ys : List (Cell ℕ)) → passes (on m (x ∷ ys)) ≤ 0 → Alike (on m []) (on m (x ∷ ys))
  none_passed m (waits h) ys l = absurd (let z : ⊥ = omega arith in z)
  none_passed m (missing t) ys l = by_time (ltb t until) l
    where
      by_time : (b : Bool) → passes (cond b (losing (on (next m) ys)) (stays m (missing t ∷ ys))) ≤ 0
          → Alike (on m []) (cond b (losing (on (next m) ys)) (stays m (missing t ∷ ys)))
      by_time true l = absurd (let z : ⊥ = omega arith in z)
      by_time false l = (refl, refl, refl)

  one_passed : (m : ℕ) (x : Cell ℕ) (ys zs : List (Cell ℕ)) (j : ℕ) → (passes (on (next m) ys) ≤ j → Alike (on (next m) zs) (on (next m) ys))
      → passes (on m (x ∷ ys)) ≤ suc j → Alike (on m (x ∷ zs)) (on m (x ∷ ys))
  one_passed m (waits h) ys zs j rest l = let e = rest (omega arith) in (ap (λ us. h ∷ us) e.0, e.1, e.2)
  one_passed m (missing t) ys zs j rest l = by_time (ltb t until) l
    where
      by_time : (b : Bool) → passes (cond b (losing (on (next m) ys)) (stays m (missing t ∷ ys))) ≤ suc j
          → Alike (cond b (losing (on (next m) zs)) (stays m (missing t ∷ zs))) (cond b (losing (on (next m) ys)) (stays m (missing t ∷ ys)))
      by_time true l = let e = rest (omega arith) in (e.0, omega (arith, e.1), e.2)
      by_time false l = (refl, refl, refl)

  walk_part : (f : ℕ → Cell ℕ) (m j n : ℕ) → j ≤ n → passes (on m (cells_from f m n)) ≤ j → Alike (on m (cells_from f m j)) (on m (cells_from f m n))
  unfolding cells_from
  walk_part f m zero zero h l = (refl, refl, refl)
  walk_part f m zero (suc n) h l = none_passed m (f (slot_of m)) (cells_from f (next m) n) l
  walk_part f m (suc j) zero h l = absurd (let z : ⊥ = omega arith in z)
  walk_part f m (suc j) (suc n) h l =
      one_passed m (f (slot_of m)) (cells_from f (next m) n) (cells_from f (next m) j) j (walk_part f (next m) j n (omega arith)) l

  pub walk_first : (f : ℕ → Cell ℕ) (m n room : ℕ) → passes (on m (cells_from f m n)) ≤ room → Alike (on m (cells_from f m (most n room))) (on m (cells_from f m n))
  walk_first f m n room l = by_test (leb n room) refl
    where
      by_test : (b : Bool) → leb n room ≡ b → Alike (on m (cells_from f m (most n room))) (on m (cells_from f m n))
      by_test true e = let all : most n room ≡ n = omega (arith, leb-true n room e) in rw all (refl, refl, refl)
      by_test false e =
          let some : most n room ≡ room = omega (arith, leb-false n room e) in rw some (walk_part f m room n (omega (arith, leb-false n room e)) l)
