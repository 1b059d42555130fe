-- A key by value: as a host names it, and as the table stores it.
use Rattle.larq.specs.Table as rules
use Rattle.table.specs.Key.{key_of, first_word}
use Rattle.table.specs.declared.key.Key.{Key}
use Rattle.table.specs.declared.key.StoredKey.{StoredKey}

abbrev pub key_in : Key → rules.Key
key_in k = key_of k.destination.now k.source.now k.priority

abbrev pub words_of : rules.Key → StoredKey
words_of k = record { first = first_word k; second = k.source; priority = k.priority }
