-- What the reader's answer stands for: kind and values of each case (document 01, 'Where to use each form', on answers that are enums).
use Rattle.std.specs.Prelude.{ℕ, ◌≡◌, List, [], ◌∷◌, ◌++◌, Option, Some, None}
use Rattle.session.specs.Numbers.{number_at}
use Rattle.session.specs.Layout.{said}
use Rattle.session.specs.declared.Key.{Key}
use Rattle.session.specs.declared.Request.{Request}
use Rattle.session.specs.declared.Body.{Body}
use Rattle.session.specs.declared.Body.TheVariants.{Data, Reminder, Tick, Close, Look, Fresh, Use, Period, Received, Read, Write}

-- a key and a request as they stand in a body
abbrev pub key_at : List ℕ → Key
key_at s = record { destination = number_at s 1 6; source = number_at s 7 6; priority = number_at s 13 1 }

abbrev pub request_at : List ℕ → Request
request_at s =
    record {
      destination = number_at s 1 6;
      source = number_at s 7 6;
      opcode = number_at s 13 1;
      bands = number_at s 14 1;
      pe1 = number_at s 15 1;
      rank1 = number_at s 16 1;
      pe2 = number_at s 17 1;
      rank2 = number_at s 18 1;
    }

abbrev pub key_values : Key → List ℕ
key_values k = k.destination ∷ k.source ∷ k.priority ∷ []

abbrev pub request_values : Request → List ℕ
request_values q = q.destination ∷ q.source ∷ q.opcode ∷ q.bands ∷ q.pe1 ∷ q.rank1 ∷ q.pe2 ∷ q.rank2 ∷ []

abbrev pub kind_of : Body → ℕ
kind_of (Data k t n h) = 1
kind_of (Reminder k t n) = 2
kind_of (Tick k t) = 3
kind_of (Close k t) = 4
kind_of (Look k) = 5
kind_of (Fresh d) = 6
kind_of (Use f) = 7
kind_of Period = 8
kind_of (Received o a b c) = 9
kind_of Read = 10
kind_of (Write q r) = 11

abbrev pub values_of : Body → List ℕ
values_of (Data k t n h) = key_values k ++ (t ∷ n ∷ h ∷ [])
values_of (Reminder k t n) = key_values k ++ (t ∷ n ∷ [])
values_of (Tick k t) = key_values k ++ (t ∷ [])
values_of (Close k t) = key_values k ++ (t ∷ [])
values_of (Look k) = key_values k
values_of (Fresh d) = d ∷ []
values_of (Use f) = f ∷ []
values_of Period = []
values_of (Received o a b c) = o ∷ a ∷ b ∷ c ∷ []
values_of Read = []
values_of (Write q r) = request_values q ++ (r ∷ [])

-- what an answer says: where there is none kind 0, and no values
abbrev pub kind_read : Option Body → ℕ
kind_read None = 0
kind_read (Some b) = kind_of b

abbrev pub values_read : Option Body → List ℕ
values_read None = []
values_read (Some b) = values_of b

-- the answer has the kind and the values that the body says
pub record Reads (s : List ℕ) (r : Option Body) : Type 0 where
  pub kind : kind_read r ≡ (said s).kind
  pub values : values_read r ≡ (said s).values
