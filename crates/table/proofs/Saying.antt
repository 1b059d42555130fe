-- What is said of an event by numbers 1 to 5, taken apart: a number is the first of them that applies, and a place is the key's, or the free one that
-- data opens. Document 01, 'Numbers the box may answer with'. Assumes nothing.
use Prim.Native.Nat.{ℕ}
use mathlib.Core.Path.{◌≡◌, sym, ◌∙◌}
use mathlib.Core.Logic.{◌⊎◌}
use mathlib.Core.List.{List}
use native.Mathlib.Omega.{arith}
use Rattle.std.specs.Prelude.{Option, Some, None, Result, Ok, Err}
use Rattle.larq.specs.Table.{Key, Lent}
use Rattle.larq.specs.Refused.{number_of}
use Rattle.larq.specs.declared.refused.Refused.{Refused}
use Rattle.larq.proofs.OneRefusal.{one_refused}
use Rattle.table.specs.First.{first_place, stores, stores_none}
use Rattle.table.specs.Words.{words_of}
use Rattle.table.specs.Way.{early_number, place_for, way_says, way_for, data_way_says, data_way_for}
use Rattle.table.specs.declared.key.StoredKey.{StoredKey}
use Rattle.table.specs.declared.way.DataPlace.{DataPlace}
use Rattle.table.specs.declared.way.DataPlace.TheVariants.{Known, Free}

-- a place that is said is the key's, and a number is that of 1 to 3 which applies first, or 4 where the key has no place
module _ (l : Lent) (number priority : ℕ) (place : Option ℕ) where
  pub way_known : (i : ℕ) → way_says (Ok i) ≡ way_for l number priority place → (early_number l number priority ≡ 0) × (place ≡ Some i)
  unfolding early_number
  way_known i e = grind arith

  pub way_refused : (e : Refused) → way_says (Err e) ≡ way_for l number priority place
      → ((early_number l number priority ≡ number_of e) × (number_of e ≡ 0 → ⊥)) ⊎ ((early_number l number priority ≡ 0) × (place ≡ None) × (number_of e ≡ 4))
  unfolding early_number
  way_refused e says = grind arith

-- the same of data, whose number is 5 where the key has no place and none is free
module _ (l : Lent) (number priority : ℕ) (place spare : Option ℕ) where
  pub data_known : (i : ℕ) → data_way_says (Ok (Known i)) ≡ data_way_for l number priority place spare
      → (early_number l number priority ≡ 0) × (place ≡ Some i)
  unfolding early_number
  data_known i e = grind arith

  pub data_free : (i : ℕ) → data_way_says (Ok (Free i)) ≡ data_way_for l number priority place spare
      → (early_number l number priority ≡ 0) × (place ≡ None) × (spare ≡ Some i)
  unfolding early_number
  data_free i e = grind arith

  pub data_refused : (e : Refused) → data_way_says (Err e) ≡ data_way_for l number priority place spare
      → ((early_number l number priority ≡ number_of e) × (number_of e ≡ 0 → ⊥))
      ⊎ ((early_number l number priority ≡ 0) × (place ≡ None) × (spare ≡ None) × (number_of e ≡ 5))
  unfolding early_number
  data_refused e says = grind arith

-- number 4 comes of a lookup that finds nothing: none of 1 to 3 is it
pub unknown_way : (l : Lent) (number priority : ℕ) (place : Option ℕ) (e : Refused) → way_says (Err e) ≡ way_for l number priority place
    → number_of e ≡ 4 → (early_number l number priority ≡ 0) × (place ≡ None)
unfolding early_number
unknown_way l number priority place e says four = grind arith

-- The other way round: a way that goes by the number that 1 to 3 lead to, and by the places, says what is to be said of the event.
abbrev pub WayBy : ℕ → Option ℕ → Result ℕ Refused → Type 0
WayBy n place (Ok i) = (n ≡ 0) × (place ≡ Some i)
WayBy n place (Err e) = ((n ≡ number_of e) × (number_of e ≡ 0 → ⊥)) ⊎ ((n ≡ 0) × (place ≡ None) × (number_of e ≡ 4))

pub way_says_law : (l : Lent) (number priority : ℕ) (place : Option ℕ) (w : Result ℕ Refused) → WayBy (early_number l number priority) place w
    → way_says w ≡ way_for l number priority place
unfolding early_number
way_says_law l number priority place (Ok i) by = grind arith
way_says_law l number priority place (Err e) by = grind arith

abbrev pub DataWayBy : ℕ → Option ℕ → Option ℕ → Result DataPlace Refused → Type 0
DataWayBy n place spare (Ok (Known i)) = (n ≡ 0) × (place ≡ Some i)
DataWayBy n place spare (Ok (Free i)) = (n ≡ 0) × (place ≡ None) × (spare ≡ Some i)
DataWayBy n place spare (Err e) =
    ((n ≡ number_of e) × (number_of e ≡ 0 → ⊥)) ⊎ ((n ≡ 0) × (place ≡ None) × (spare ≡ None) × (number_of e ≡ 5))

pub data_way_says_law : (l : Lent) (number priority : ℕ) (place spare : Option ℕ) (w : Result DataPlace Refused)
    → DataWayBy (early_number l number priority) place spare w → data_way_says w ≡ data_way_for l number priority place spare
unfolding early_number
data_way_says_law l number priority place spare (Ok (Known i)) by = grind arith
data_way_says_law l number priority place spare (Ok (Free i)) by = grind arith
data_way_says_law l number priority place spare (Err e) by = grind arith

-- ways that say the same are the same, so what a way says settles it
pub one_way : (v w : Result ℕ Refused) → way_says v ≡ way_says w → v ≡ w
one_way v w e = grind (arith, one_refused)

pub one_data_way : (v w : Result DataPlace Refused) → data_way_says v ≡ data_way_says w → v ≡ w
one_data_way v w e = grind (arith, one_refused)

-- so any two ways that are allowed for the same event are equal
pub said_way : (l : Lent) (number priority : ℕ) (place : Option ℕ) (v w : Result ℕ Refused) → way_says v ≡ way_for l number priority place
    → way_says w ≡ way_for l number priority place → v ≡ w
said_way l number priority place v w a b = one_way v w (a ∙ sym b)

pub said_data_way : (l : Lent) (number priority : ℕ) (place spare : Option ℕ) (v w : Result DataPlace Refused)
    → data_way_says v ≡ data_way_for l number priority place spare → data_way_says w ≡ data_way_for l number priority place spare → v ≡ w
said_data_way l number priority place spare v w a b = one_data_way v w (a ∙ sym b)

-- what is said of the two words that store a key is said of the key
module _ (l : Lent) (number : ℕ) (keys : List ℕ) (k : Key) (q : StoredKey) (is : q ≡ words_of k) where
  pub way_of_stored : (w : Result ℕ Refused) → way_says w ≡ way_for l number q.priority (first_place (stores keys q.first q.second))
      → way_says w ≡ way_for l number k.priority (place_for keys k)
  way_of_stored w e = rw is at e

  pub data_way_of_stored : (w : Result DataPlace Refused)
      → data_way_says w ≡ data_way_for l number q.priority (first_place (stores keys q.first q.second)) (first_place (stores_none keys))
      → data_way_says w ≡ data_way_for l number k.priority (place_for keys k) (first_place (stores_none keys))
  data_way_of_stored w e = rw is at e
