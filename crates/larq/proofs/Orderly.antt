-- Times that do not fall and are not too late stay so as the window moves, grows and fills. Assumes nothing.
use Prim.Native.Nat.{ℕ, zero, suc, ◌≤◌}
use mathlib.Core.Path.{◌≡◌, refl, ap}
use mathlib.Core.Bool.{Bool, true, false, ◌&&◌}
use mathlib.Core.Option.{Option, some, none}
use mathlib.Core.List.{List, [], ◌∷◌, ◌++◌}
use native.Mathlib.Omega.{arith}
use lib.ListN.{length, drop, replicate}
use lib.Dec.{leb}
use borrow.Author.Tests.{leb-true, le-leb}
use Rattle.larq.specs.Channel.{Cell, waits, missing, times, orderly}
use Rattle.larq.specs.Events.{after, filling}

pub both_true : (a b : Bool) → a && b ≡ true → (a ≡ true) × (b ≡ true)
both_true true b e = (refl, e)
both_true false b e = (cc, cc)

pub times_append : {H : Type 0} (cs ds : List (Cell H)) → times (cs ++ ds) ≡ times cs ++ times ds
times_append [] ds = refl
times_append (waits h ∷ cs) ds = times_append cs ds
times_append (missing t ∷ cs) ds = ap (λ l. t ∷ l) (times_append cs ds)

pub times_missing_law : (H : Type 0) (k t : ℕ) → times {H = H} (replicate k (missing t)) ≡ replicate k t
times_missing_law H zero t = refl
times_missing_law H (suc k) t = ap (λ l. t ∷ l) (times_missing_law H k t)

-- the first time and what follows it
pub record First (lo hi t : ℕ) (ts : List ℕ) : Type 0 where
  pub low : lo ≤ t
  pub high : t ≤ hi
  pub rest : orderly t hi ts ≡ true

pub orderly_first : (lo hi t : ℕ) (ts : List ℕ) → orderly lo hi (t ∷ ts) ≡ true → First lo hi t ts
orderly_first lo hi t ts e =
    let p : (leb lo t ≡ true) × (leb t hi && orderly t hi ts ≡ true) = both_true (leb lo t) (leb t hi && orderly t hi ts) e in
    let q : (leb t hi ≡ true) × (orderly t hi ts ≡ true) = both_true (leb t hi) (orderly t hi ts) p.1 in
    record { low = leb-true lo t p.0; high = leb-true t hi q.0; rest = q.1 }

pub orderly_cons : (lo hi t : ℕ) (ts : List ℕ) → First lo hi t ts → orderly lo hi (t ∷ ts) ≡ true
orderly_cons lo hi t ts f = rw (le-leb lo t f.low, le-leb t hi f.high) f.rest

-- wider bounds
pub orderly_wider : (lo lo' hi hi' : ℕ) (ts : List ℕ) → lo' ≤ lo → hi ≤ hi' → orderly lo hi ts ≡ true → orderly lo' hi' ts ≡ true
orderly_wider lo lo' hi hi' [] l h e = refl
orderly_wider lo lo' hi hi' (t ∷ ts) l h e =
    let f : First lo hi t ts = orderly_first lo hi t ts e in
    orderly_cons lo' hi' t ts
    (record { low = omega (arith, f.low); high = omega (arith, f.high); rest = orderly_wider t t hi hi' ts (omega arith) h f.rest })

-- k more at the time t, which is not before the rest
pub orderly_more : (lo hi t k : ℕ) (ts : List ℕ) → orderly lo hi ts ≡ true → lo ≤ t → hi ≤ t → orderly lo t (ts ++ replicate k t) ≡ true
orderly_more lo hi t zero [] e l h = refl
orderly_more lo hi t (suc k) [] e l h =
    orderly_cons lo t t (replicate k t) (record { low = l; high = omega arith; rest = orderly_more t t t k [] refl (omega arith) (omega arith) })
orderly_more lo hi t k (u ∷ ts) e l h =
    let f : First lo hi u ts = orderly_first lo hi u ts e in
    orderly_cons lo t u (ts ++ replicate k t)
    (record { low = f.low; high = omega (arith, f.high); rest = orderly_more u hi t k ts f.rest (omega (arith, f.high)) h })

abbrev pub OnSome : {A : Type 0} → (A → Type 0) → Option A → Type 0
OnSome P none = Unit
OnSome P (some x) = P x

module _ {H : Type 0} where
  -- a window without its first numbers
  pub orderly_drop : (lo hi n : ℕ) (cs : List (Cell H)) → orderly lo hi (times cs) ≡ true → orderly lo hi (times (drop n cs)) ≡ true
  orderly_drop lo hi zero cs e = e
  orderly_drop lo hi (suc n) [] e = refl
  orderly_drop lo hi (suc n) (waits h ∷ cs) e = orderly_drop lo hi n cs e
  orderly_drop lo hi (suc n) (missing t ∷ cs) e =
      let f : First lo hi t (times cs) = orderly_first lo hi t (times cs) e in
      orderly_drop lo hi n cs (orderly_wider t lo hi hi (times cs) f.low (omega arith) f.rest)

  -- a window in which a missing number has come to wait
  pub record Filled (lo hi : ℕ) (cs ds : List (Cell H)) : Type 0 where
    pub times : orderly lo hi (times ds) ≡ true
    pub length : length ds ≡ length cs

  pub filling_orderly : (lo hi : ℕ) (cs : List (Cell H)) (i : ℕ) (h : H) → orderly lo hi (times cs) ≡ true → OnSome (Filled lo hi cs) (filling cs i h)
  filling_orderly lo hi [] i h e = tt
  filling_orderly lo hi (waits g ∷ cs) zero h e = tt
  filling_orderly lo hi (missing t ∷ cs) zero h e =
      let f : First lo hi t (times cs) = orderly_first lo hi t (times cs) e in
      record { times = orderly_wider t lo hi hi (times cs) f.low (omega arith) f.rest; length = refl }
  filling_orderly lo hi (waits g ∷ cs) (suc i) h e = go (filling cs i h) (filling_orderly lo hi cs i h e)
    where
      go : (o : Option (List (Cell H))) → OnSome (Filled lo hi cs) o → OnSome (Filled lo hi (waits g ∷ cs)) (after (waits g) o)
      go none r = tt
      go (some ds) r = record { times = r.times; length = ap suc r.length }
  filling_orderly lo hi (missing t ∷ cs) (suc i) h e = go (orderly_first lo hi t (times cs) e) (filling cs i h) (λ f. filling_orderly t hi cs i h f)
    where
      go : First lo hi t (times cs) → (o : Option (List (Cell H))) → (orderly t hi (times cs) ≡ true → OnSome (Filled t hi cs) o)
          → OnSome (Filled lo hi (missing t ∷ cs)) (after (missing t) o)
      go f none r = tt
      go f (some ds) r =
          let q : Filled t hi cs ds = r f.rest in
          record { times = orderly_cons lo hi t (times ds) (record { low = f.low; high = f.high; rest = q.times }); length = ap suc q.length }
