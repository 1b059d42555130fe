-- A body of the example session, read by computing (examples/east-dormitory.session), and two that are unreadable. Assumes nothing.
use Prim.Native.Nat.{ℕ}
use mathlib.Core.Path.{◌≡◌, refl}
use mathlib.Core.List.{List, [], ◌∷◌}
use Rattle.session.specs.Numbers.{number_at}
use Rattle.session.specs.Layout.{form_of, said}

-- its first event: data, number 10 with handle 10,010 at time 100, from 0200 0000 0e01 to 0200 0000 0001 at priority 5
abbrev pub first_event : List ℕ
first_event =
    1 ∷ 2 ∷ 0 ∷ 0 ∷ 0 ∷ 0 ∷ 1 ∷ 2 ∷ 0 ∷ 0 ∷ 0 ∷ 0x0e ∷ 1 ∷ 5 ∷ 0 ∷ 0 ∷ 0 ∷ 0 ∷ 0 ∷ 0 ∷ 0 ∷ 100 ∷ 0 ∷ 10 ∷ 0 ∷ 0 ∷ 0x27 ∷ 0x1a ∷ []

pub first_event_said :
    said first_event ≡ record { kind = 1; values = 0x020000000001 ∷ 0x020000000e01 ∷ 5 ∷ 100 ∷ 10 ∷ 10010 ∷ []; rest = [] }
unfolding said form_of number_at
first_event_said = refl

-- no octets, and a period end with an octet behind it
pub nothing_said : said [] ≡ record { kind = 0; values = []; rest = [] }
unfolding said form_of
nothing_said = refl

pub too_long_said : (octet : ℕ) → said (8 ∷ octet ∷ []) ≡ record { kind = 0; values = []; rest = [] }
unfolding said form_of
too_long_said octet = refl
