-- Keys by their two words: a place stores a call's key exactly if it is an open place with that key. Assumes nothing.
use Prim.Native.Nat.{ℕ, ◌+◌, ◌-◌, ◌*◌, ◌/◌, ◌%◌, ◌≤◌}
use mathlib.Core.Path.{◌≡◌, refl, ap, sym, ◌∙◌}
use mathlib.Core.Bool.{true, cond, ◌&&◌}
use mathlib.Core.List.{List}
use native.Mathlib.Omega.{arith}
use borrow.Author.Tests.{eqb-true, ne_eqb}
use lib.ListN.{get_or}
use lib.Dec.{eqb}
use Rattle.larq.specs.Channel.{Channel}
use Rattle.larq.specs.Table.{Key, same_key, Place, free, held, channels, is_open, room}
use Rattle.slots.specs.Slots.{slots, place_words}
use Rattle.record.specs.Place.{record_of}
use Rattle.table.specs.First.{first_place, stores, stores_none, places}
use Rattle.table.specs.Key.{first_word, stored_key, key_words}
use Rattle.table.specs.Table.{Slices, slices, part, place_of, place_at, table_of, zeros}
use Rattle.table.specs.Way.{place_for, is_found}
use Rattle.table.specs.Addressed.{is_of, is_free}
use Rattle.table.proofs.First.{same}
use Rattle.table.proofs.Parts.{part_at}
use Rattle.table.proofs.Places.{open_is_found, room_is_found}
use Rattle.table.proofs.Ways.{both}

-- the key of a first word and a source
pub stored_back : (k : Key) → k.priority ≤ 7 → stored_key (first_word k) k.source ≡ k
stored_back k h =
    let d : (k.destination * 16 + k.priority + 1 - 1) / 16 ≡ k.destination = omega arith in
    let p : (k.destination * 16 + k.priority + 1 - 1) % 16 ≡ k.priority = omega arith in
    rw (d, p)

word_of : (a d p : ℕ) → 1 ≤ a → (a - 1) / 16 ≡ d → (a - 1) % 16 ≡ p → a ≡ d * 16 + p + 1
word_of a d p h e f = omega arith

-- words that store a key are that key's own
same_words : (k : Key) (a b : ℕ) → k.priority ≤ 7 → 1 ≤ a → same_key (stored_key a b) k ≡ (eqb a (first_word k) && eqb b k.source)
unfolding same_key
same_words k a b h pos = grind (arith, word_of a k.destination k.priority pos)

-- the place whose key words are a and b
placed : (a b : ℕ) → Channel ℕ → Place ℕ
placed a b c = cond (eqb a 0) free (held (stored_key a b) c)

of_words : (k : Key) (a b : ℕ) (c : Channel ℕ) → k.priority ≤ 7 → is_of k (placed a b c) ≡ (eqb a (first_word k) && eqb b k.source)
unfolding placed
of_words k a b c h = grind (arith, same_words k a b h)

free_words : (a b : ℕ) (c : Channel ℕ) → is_free (placed a b c) ≡ eqb a 0
unfolding placed
free_words a b c = grind arith

module _ (keys : List ℕ) (i : ℕ) where
  first_at : get_or (part key_words i keys) 0 0 ≡ get_or keys (key_words * i) 0
  first_at = part_at key_words i keys 0 (omega arith) ∙ ap (λ (j : ℕ). get_or keys j 0) (let e : key_words * i + 0 ≡ key_words * i = omega arith in e)

  second_at : get_or (part key_words i keys) 1 0 ≡ get_or keys (key_words * i + 1) 0
  second_at = part_at key_words i keys 1 (omega arith)

  placed_at : (w h m : List ℕ) → place_of (slices (part key_words i keys) w h m) ≡ placed (get_or keys (key_words * i) 0) (get_or keys (key_words * i + 1) 0) (record_of w h m)
  unfolding placed place_of
  placed_at w h m = rw (first_at, second_at)

  -- a place that stores a key holds the record in its other parts under that key
  pub own_place : (k : Key) (w h m : List ℕ) → k.priority ≤ 7 → stores keys (first_word k) k.source i ≡ true
      → place_of (slices (part key_words i keys) w h m) ≡ held k (record_of w h m)
  unfolding placed
  own_place k w h m fits e =
      let words = both (eqb (get_or keys (key_words * i) 0) (first_word k)) (eqb (get_or keys (key_words * i + 1) 0) k.source) e in
      placed_at w h m
      ∙ rw (eqb-true (get_or keys (key_words * i) 0) (first_word k) words.0, eqb-true (get_or keys (key_words * i + 1) 0) k.source words.1, ne_eqb (first_word k) 0 (λ q. omega arith))
      (ap (λ (j : Key). held j (record_of w h m)) (stored_back k fits))

module _ (s : Slices) (i : ℕ) where
  pub stores_is : (k : Key) → k.priority ≤ 7 → stores s.keys (first_word k) k.source i ≡ is_of k (place_at s i)
  stores_is k h =
      sym
      (ap (is_of k) (placed_at s.keys i (part place_words i s.words) (part slots i s.handles) (part slots i s.marks))
      ∙ of_words k (get_or s.keys (key_words * i) 0) (get_or s.keys (key_words * i + 1) 0) _ h)

  pub stores_none_is : stores_none s.keys i ≡ is_free (place_at s i)
  stores_none_is =
      sym
      (ap is_free (placed_at s.keys i (part place_words i s.words) (part slots i s.handles) (part slots i s.marks))
      ∙ free_words (get_or s.keys (key_words * i) 0) (get_or s.keys (key_words * i + 1) 0) _)

-- what the two walks over the keys find
pub place_is : (s : Slices) (k : Key) → k.priority ≤ 7 → place_for s.keys k ≡ first_place (λ i. is_of k (place_at s i))
place_is s k h = same (stores s.keys (first_word k) k.source) (λ i. is_of k (place_at s i)) (λ i. stores_is s i k h) places 0

pub spare_is : (s : Slices) → first_place (stores_none s.keys) ≡ first_place (λ i. is_free (place_at s i))
spare_is s = same (stores_none s.keys) (λ i. is_free (place_at s i)) (λ i. stores_none_is s i) places 0

-- so what numbers 4 and 5 are judged by is so of the table that the slices hold: the key has a record, and a place is free
pub known_is_open : (s : Slices) (k : Key) → k.priority ≤ 7 → is_found (place_for s.keys k) ≡ is_open (channels k (table_of s))
known_is_open s k h = ap is_found (place_is s k h) ∙ sym (open_is_found k (place_at s) places 0)

pub spare_is_room : (s : Slices) → is_found (first_place (stores_none s.keys)) ≡ room (table_of s)
spare_is_room s = ap is_found (spare_is s) ∙ sym (room_is_found (place_at s) places 0)

-- zeros are a free place
pub zeros_free : place_of zeros ≡ free
unfolding place_of
zeros_free = refl
