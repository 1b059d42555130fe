-- Where a place of the table keeps what. Its words are C, M and the latest time, and then a time for each slot; its handles and its marks have one
-- for each slot. Every other definition asks here. docs/LAYOUT.md has the layout; document 01, 'The channel table', has what a record holds.
use Rattle.std.specs.Prelude.{ℕ, ◌+◌, ◌%◌, Bool, ◌&&◌, List, get_or, set, eqb}

-- how many slots a place has. They divide the ring's 4,096 numbers, so its wrap needs no care, and moving M shifts nothing
abbrev pub slots : ℕ
slots = 32

-- the slot of a number
abbrev pub slot_of : ℕ → ℕ
slot_of n = n % slots

-- where the times begin, behind C, M and the latest time
abbrev pub times_from : ℕ
times_from = 3

-- how many words a place has
abbrev pub place_words : ℕ
place_words = times_from + slots

-- parts of these lengths are those of a place
abbrev pub place_sized : ℕ → ℕ → ℕ → Bool
place_sized words handles marks = eqb words place_words && (eqb handles slots && eqb marks slots)

-- C, M and the latest time, as the words hold them
abbrev pub current_in : List ℕ → ℕ
current_in words = get_or words 0 0

abbrev pub oldest_in : List ℕ → ℕ
oldest_in words = get_or words 1 0

abbrev pub latest_in : List ℕ → ℕ
latest_in words = get_or words 2 0

-- of a slot: whether its number is missing (mark 0; any other waits), since when, and with which handle it waits
abbrev pub is_missing : List ℕ → ℕ → Bool
is_missing marks j = eqb (get_or marks j 0) 0

abbrev pub time_at : List ℕ → ℕ → ℕ
time_at words j = get_or words (times_from + j) 0

abbrev pub handle_at : List ℕ → ℕ → ℕ
handle_at handles j = get_or handles j 0

-- the words with C, M and the latest time anew; with the latest time alone; with the time of a slot
abbrev pub with_head : List ℕ → ℕ → ℕ → ℕ → List ℕ
with_head words c m t = set (set (set words 0 c) 1 m) 2 t

abbrev pub with_latest : List ℕ → ℕ → List ℕ
with_latest words t = set words 2 t

abbrev pub with_time : List ℕ → ℕ → ℕ → List ℕ
with_time words j t = set words (times_from + j) t

-- the handles with that of a slot anew; the marks, with the number of a slot missing or waiting
abbrev pub with_handle : List ℕ → ℕ → ℕ → List ℕ
with_handle handles j handle = set handles j handle

abbrev pub with_missing : List ℕ → ℕ → List ℕ
with_missing marks j = set marks j 0

abbrev pub with_waiting : List ℕ → ℕ → List ℕ
with_waiting marks j = set marks j 1
