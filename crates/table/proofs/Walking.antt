-- A walk over the places by one word of their keys: with j words before the place, what is still to be walked finds what the whole walk finds. And
-- what the first place of a source says of the first place of a key. Assumes nothing.
use Prim.Native.Nat.{ℕ, ◌+◌, ◌*◌, ◌-◌, ◌/◌, ◌<◌, ◌≤◌}
use mathlib.Core.Path.{◌≡◌, refl, ap, sym, ◌∙◌}
use mathlib.Core.Bool.{Bool, true, false, and-false}
use mathlib.Core.List.{List}
use native.Mathlib.Omega.{arith}
use Rattle.std.specs.Prelude.{Some, None}
use borrow.Author.Tests.{eq-eqb, ne_eqb}
use lib.ListN.{get_or}
use lib.Dec.{eqb}
use Rattle.table.specs.Key.{key_words}
use Rattle.table.specs.Table.{table_keys}
use Rattle.table.specs.First.{first_place, first_from, has_word, stores, places}
use Rattle.table.proofs.First.{here, past, none, none_there, from_there}
use Rattle.table.proofs.Places.{Finds, finds}

module _ (keys : List ℕ) (w word : ℕ) where
  abbrev test : ℕ → Bool
  test = has_word keys w word

  pub record Walked (j : ℕ) : Type 0 where
    pub even : j ≡ 2 * (j / 2)
    pub high : j ≤ table_keys
    pub still : first_place test ≡ first_from test (j / 2) (places - j / 2)

  pub begins : Walked 0
  begins = record { even = refl; high = omega arith; still = refl }

  module _ (j : ℕ) (before : Walked j) where
    more_left : (j ≡ table_keys → ⊥) → j / 2 < places
    more_left more = omega (arith, before.even, before.high)

    word_is : (b : Bool) → eqb (get_or keys (j + w) 0) word ≡ b → test (j / 2) ≡ b
    word_is b e = ap (λ (x : ℕ). eqb (get_or keys (x + w) 0) word) (sym before.even) ∙ e

    pub goes_on : (j ≡ table_keys → ⊥) → (get_or keys (j + w) 0 ≡ word → ⊥) → Walked (j + 2)
    goes_on more other =
        let next : j / 2 + 1 ≡ (j + 2) / 2 = omega arith in
        record {
          even = omega (arith, before.even);
          high = omega (arith, before.even, before.high);
          still =
              before.still
              ∙ past test places (j / 2) (more_left more) (word_is false (ne_eqb (get_or keys (j + w) 0) word other))
              ∙ ap (λ (x : ℕ). first_from test x (places - x)) next;
        }

    pub ends : j ≡ table_keys → None ≡ first_place test
    ends over = sym (before.still ∙ none test places (j / 2) (omega arith))

    pub found : (j ≡ table_keys → ⊥) → get_or keys (j + w) 0 ≡ word → Some (j / 2) ≡ first_place test
    found more same = sym (before.still ∙ here test places (j / 2) (more_left more) (word_is true (eq-eqb (get_or keys (j + w) 0) word same)))

module _ (keys : List ℕ) (first second : ℕ) where
  abbrev of_source : ℕ → Bool
  of_source = has_word keys 1 second

  abbrev of_key : ℕ → Bool
  of_key = stores keys first second

  narrower : (j : ℕ) → of_source j ≡ false → of_key j ≡ false
  narrower j e = rw e (and-false (eqb (get_or keys (key_words * j) 0) first))

  pub unknown_source : first_place of_source ≡ None → None ≡ first_place of_key
  unknown_source e = sym (none_there of_source of_key narrower places 0 e)

  module _ (i : ℕ) (there : first_place of_source ≡ Some i) where
    it : Finds of_source 0 places i
    it = finds of_source places 0 i there

    pub inside : i < places
    inside = it.high

    from_it : first_place of_key ≡ first_from of_key i (places - i)
    from_it = from_there of_source of_key narrower places 0 i there

    pub its_first : get_or keys (key_words * i) 0 ≡ first → Some i ≡ first_place of_key
    its_first e = sym (from_it ∙ here of_key places i inside (rw (eq-eqb (get_or keys (key_words * i) 0) first e) it.passes))

    pub a_later_one : (get_or keys (key_words * i) 0 ≡ first → ⊥) → first_from of_key (i + 1) (places - (i + 1)) ≡ first_place of_key
    a_later_one other = sym (from_it ∙ past of_key places i inside (rw (ne_eqb (get_or keys (key_words * i) 0) first other)))
