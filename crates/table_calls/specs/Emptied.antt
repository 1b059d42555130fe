-- What emptying a table leaves: zeros everywhere, or a number and everything as it was.
use Rattle.std.specs.Prelude.{ℕ, ◌≡◌, Bool, cond, length, replicate}
use Rattle.table.specs.Table.{Slices, slices, whole, table_keys, table_words, table_slots}

abbrev pub whole_slices : Slices → Bool
whole_slices s = whole (length s.keys) (length s.words) (length s.handles) (length s.marks)

abbrev pub all_zeros : Slices
all_zeros = slices (replicate table_keys 0) (replicate table_words 0) (replicate table_slots 0) (replicate table_slots 0)

-- number 1 and nothing changed where the slices are not those of 64 places; else number 0 and zeros
pub record Emptied (before after : Slices) (given : ℕ) : Type 0 where
  pub number : given ≡ cond (whole_slices before) 0 1
  pub table : after ≡ cond (whole_slices before) all_zeros before
