-- The first of the 64 places that passes a test: a key is looked for by one, and a place for a new channel by another. Document 01, 'The
-- channel table'.
use Rattle.std.specs.Prelude.{ℕ, zero, suc, ◌+◌, ◌*◌, Bool, cond, ◌&&◌, List, get_or, eqb, Option, Some, None}
use Rattle.table.specs.Key.{key_words}

abbrev pub places : ℕ
places = 64

-- of n places from the i-th on
unfoldable pub first_from : (ℕ → Bool) → ℕ → ℕ → Option ℕ
first_from test i zero = None
first_from test i (suc n) = cond (test i) (Some i) (first_from test (suc i) n)

abbrev pub first_place : (ℕ → Bool) → Option ℕ
first_place test = first_from test 0 places

-- the key of place i has this word: its first where w is 0, its source where w is 1
abbrev pub has_word : List ℕ → ℕ → ℕ → ℕ → Bool
has_word keys w word i = eqb (get_or keys (key_words * i + w) 0) word

-- place i stores a key of these two words
abbrev pub stores : List ℕ → ℕ → ℕ → ℕ → Bool
stores keys first second i = eqb (get_or keys (key_words * i) 0) first && eqb (get_or keys (key_words * i + 1) 0) second

-- place i stores no key
abbrev pub stores_none : List ℕ → ℕ → Bool
stores_none keys i = eqb (get_or keys (key_words * i) 0) 0
