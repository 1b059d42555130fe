-- The table as the list of its places. The rules walk the list; the code walks the places by their index. These laws lead from the place
-- at which a walk over the indexes ends to what the rules' recursions do. Assumes nothing.
use Prim.Native.Nat.{ℕ, zero, suc, ◌+◌, ◌<◌, ◌≤◌}
use mathlib.Core.Path.{◌≡◌, refl, ap, ap₂, sym, ◌∙◌}
use mathlib.Core.Bool.{Bool, true, false, cond}
use mathlib.Core.List.{List, [], ◌∷◌}
use native.Mathlib.Omega.{arith}
use Rattle.std.specs.Prelude.{Option, Some, None}
use lib.Dec.{eqb}
use Rattle.larq.specs.Channel.{Channel}
use Rattle.larq.specs.Table.{Key, Place, free, held, Table, channels, is_open, room, put_open, put_free}
use Rattle.table.specs.First.{first_from}
use Rattle.table.specs.Table.{places_from}
use Rattle.table.specs.Addressed.{is_of, is_free}
use Rattle.table.specs.Way.{is_found}

-- what the place says that a walk finds: it is one of those walked over, and it passes
pub record Finds (test : ℕ → Bool) (i n j : ℕ) : Type 0 where
  pub low : i ≤ j
  pub high : j < i + n
  pub passes : test j ≡ true

pub finds : (test : ℕ → Bool) (n i j : ℕ) → first_from test i n ≡ Some j → Finds test i n j
unfolding first_from
finds test zero i j e = grind arith
finds test (suc n) i j e = grind (arith, finds test n (suc i) j)

pub same_places : (f g : ℕ → Place ℕ) (n i : ℕ) → ((j : ℕ) → i ≤ j → j < i + n → f j ≡ g j) → places_from f i n ≡ places_from g i n
unfolding places_from
same_places f g zero i e = refl
same_places f g (suc n) i e =
    ap₂ {C = Table ℕ} (λ p t. p ∷ t) (e i (omega arith) (omega arith)) (same_places f g n (suc i) (λ j l h. e j (omega arith) (omega arith)))

-- the places, but one of them anew
abbrev pub but : (ℕ → Place ℕ) → ℕ → Place ℕ → ℕ → Place ℕ
but place j p i = cond (eqb i j) p (place i)

-- A recursion that puts the first place anew that passes a test, as `put_open` and `put_free` do: it changes the place that the walk finds.
module _ (test : Place ℕ → Bool) (put : Place ℕ → Table ℕ → Table ℕ)
    (passes-by : (p q : Place ℕ) (t : Table ℕ) → test q ≡ false → put p (q ∷ t) ≡ q ∷ put p t)
    (puts : (p q : Place ℕ) (t : Table ℕ) → test q ≡ true → put p (q ∷ t) ≡ p ∷ t) (place : ℕ → Place ℕ) (p : Place ℕ) where
  put_found : (n i j : ℕ) → first_from (λ x. test (place x)) i n ≡ Some j → put p (places_from place i n) ≡ places_from (but place j p) i n
  unfolding first_from places_from
  put_found zero i j e = grind arith
  put_found (suc n) i j e =
      grind (arith, puts, passes-by, finds (λ x. test (place x)) n (suc i) j, put_found n (suc i) j, same_places place (but place j p) n (suc i))

-- the records of a key, of which c is the first
pub record Begins (c : Channel ℕ) (cs : List (Channel ℕ)) : Type 0 where
  pub others : List (Channel ℕ)
  pub is : cs ≡ c ∷ others

module _ (k : Key) where
  passed : (p : Place ℕ) (t : Table ℕ) → is_of k p ≡ false → channels k (p ∷ t) ≡ channels k t
  passed free t e = refl
  passed (held j c) t e = rw e

  headed : (p : Place ℕ) (t : Table ℕ) (j : Key) (c : Channel ℕ) → is_of k p ≡ true → p ≡ held j c → channels k (p ∷ t) ≡ c ∷ channels k t
  headed p t j c e h = rw (h, ap (is_of k) (sym h) ∙ e)

  pub channels_found : (place : ℕ → Place ℕ) (j : Key) (c : Channel ℕ) (n i at : ℕ) → first_from (λ x. is_of k (place x)) i n ≡ Some at → place at ≡ held j c
      → Begins c (channels k (places_from place i n))
  unfolding first_from places_from
  channels_found place j c zero i at e h = grind arith
  channels_found place j c (suc n) i at e h = grind (arith, passed, headed, channels_found place j c n (suc i) at)

  pub channels_none : (place : ℕ → Place ℕ) (n i : ℕ) → first_from (λ x. is_of k (place x)) i n ≡ None → channels k (places_from place i n) ≡ []
  unfolding first_from places_from
  channels_none place zero i e = refl
  channels_none place (suc n) i e = grind (arith, channels_none place n (suc i), passed)

  open_is : (q : Place ℕ) (t : Table ℕ) (i : ℕ) (f : Option ℕ) → is_open (channels k t) ≡ is_found f
      → is_open (channels k (q ∷ t)) ≡ is_found (cond (is_of k q) (Some i) f)
  open_is free t i f e = e
  open_is (held j c) t i f e = grind arith

  -- a key has a record exactly if a walk finds its place
  pub open_is_found : (place : ℕ → Place ℕ) (n i : ℕ) → is_open (channels k (places_from place i n)) ≡ is_found (first_from (λ x. is_of k (place x)) i n)
  unfolding first_from places_from
  open_is_found place zero i = refl
  open_is_found place (suc n) i =
      open_is (place i) (places_from place (suc i) n) i (first_from (λ x. is_of k (place x)) (suc i) n) (open_is_found place n (suc i))

  put_open_past : (p q : Place ℕ) (t : Table ℕ) → is_of k q ≡ false → put_open k p (q ∷ t) ≡ q ∷ put_open k p t
  put_open_past p free t e = refl
  put_open_past p (held j c) t e = rw e

  put_open_here : (p q : Place ℕ) (t : Table ℕ) → is_of k q ≡ true → put_open k p (q ∷ t) ≡ p ∷ t
  put_open_here p free t e = grind arith
  put_open_here p (held j c) t e = rw e

  pub put_open_found : (place : ℕ → Place ℕ) (p : Place ℕ) (n i at : ℕ) → first_from (λ x. is_of k (place x)) i n ≡ Some at
      → put_open k p (places_from place i n) ≡ places_from (but place at p) i n
  put_open_found place p = put_found (is_of k) (put_open k) put_open_past put_open_here place p

put_free_past : (p q : Place ℕ) (t : Table ℕ) → is_free q ≡ false → put_free p (q ∷ t) ≡ q ∷ put_free p t
put_free_past p free t e = grind arith
put_free_past p (held j c) t e = refl

put_free_here : (p q : Place ℕ) (t : Table ℕ) → is_free q ≡ true → put_free p (q ∷ t) ≡ p ∷ t
put_free_here p free t e = refl
put_free_here p (held j c) t e = grind arith

pub put_free_found : (place : ℕ → Place ℕ) (p : Place ℕ) (n i at : ℕ) → first_from (λ x. is_free (place x)) i n ≡ Some at
    → put_free p (places_from place i n) ≡ places_from (but place at p) i n
put_free_found place p = put_found is_free put_free put_free_past put_free_here place p

room_is : (q : Place ℕ) (t : Table ℕ) (i : ℕ) (f : Option ℕ) → room t ≡ is_found f → room (q ∷ t) ≡ is_found (cond (is_free q) (Some i) f)
room_is free t i f e = refl
room_is (held j c) t i f e = e

-- a place is free exactly if a walk finds one
pub room_is_found : (place : ℕ → Place ℕ) (n i : ℕ) → room (places_from place i n) ≡ is_found (first_from (λ x. is_free (place x)) i n)
unfolding first_from places_from
room_is_found place zero i = refl
room_is_found place (suc n) i =
    room_is (place i) (places_from place (suc i) n) i (first_from (λ x. is_free (place x)) (suc i) n) (room_is_found place n (suc i))

pub room_found : (place : ℕ → Place ℕ) (n i at : ℕ) → first_from (λ x. is_free (place x)) i n ≡ Some at → room (places_from place i n) ≡ true
room_found place n i at e = room_is_found place n i ∙ rw e

pub room_none : (place : ℕ → Place ℕ) (n i : ℕ) → first_from (λ x. is_free (place x)) i n ≡ None → room (places_from place i n) ≡ false
room_none place n i e = room_is_found place n i ∙ rw e
