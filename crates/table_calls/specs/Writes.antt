-- What the functions leave that write into the table themselves: a key at a place, and a channel that begins there.
use Rattle.std.specs.Prelude.{ℕ, ◌+◌, ◌*◌, ◌≡◌, List, set}
use Rattle.slots.specs.Slots.{place_words}
use Rattle.table.specs.Key.{key_words}
use Rattle.place.specs.Call.{Begins}
use Rattle.table.specs.Table.{part}
use Rattle.place.specs.declared.Answer.{Answer}

-- the two words of a key at place i
abbrev pub keyed : List ℕ → ℕ → ℕ → ℕ → List ℕ
keyed keys i first second = set (set keys (key_words * i) first) (key_words * i + 1) second

-- a channel is opened at place i, and its first frame goes up
pub record Opens (i first second s handle time : ℕ) (keys words up keys' words' up' : List ℕ) (given : Answer) : Type 0 where
  pub key : keys' ≡ keyed keys i first second
  pub begins : Begins s handle time (part place_words i words) up (part place_words i words') up' given
  pub elsewhere : (j : ℕ) → (j ≡ i → ⊥) → part place_words j words' ≡ part place_words j words
