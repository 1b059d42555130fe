-- How a channel's key is stored: two words, of which the first is 0 where the place is free.
-- Document 01, 'The channel table': a channel is two addresses of six octets and a priority (001, 6.6.2.1).
use Rattle.std.specs.Prelude.{ℕ, ◌+◌, ◌-◌, ◌*◌, ◌/◌, ◌%◌, List, get_or}
use Rattle.larq.specs.Table.{Key}

-- how many words a stored key has
abbrev pub key_words : ℕ
key_words = 2

-- six octets read as one big-endian number
abbrev pub address_of : List ℕ → ℕ
address_of o = ((((get_or o 0 0 * 256 + get_or o 1 0) * 256 + get_or o 2 0) * 256 + get_or o 3 0) * 256 + get_or o 4 0) * 256 + get_or o 5 0

-- the key of a call
abbrev pub key_of : List ℕ → List ℕ → ℕ → Key
key_of destination source priority = record { destination = address_of destination; source = address_of source; priority = priority }

-- the first word of a stored key; the second is the source
abbrev pub first_word : Key → ℕ
first_word k = k.destination * 16 + k.priority + 1

-- the key that two words store. Words that no call's key gives are a key too, one that nobody can address
abbrev pub stored_key : ℕ → ℕ → Key
stored_key first second = record { destination = (first - 1) / 16; source = second; priority = (first - 1) % 16 }
