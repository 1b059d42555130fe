-- The layout of a session's bodies: what an octet string says as a body, and the body that says it (docs/LAYOUT.md, 'Sessions').
-- A body is its kind, then fields of fixed widths one behind the other, each a big-endian number, and in two kinds any octets behind them.
use Rattle.std.specs.Prelude.{ℕ, ◌+◌, ◌^◌, ◌<◌, ◌≡◌, Bool, true, false, cond, List, [], ◌∷◌, ◌++◌, eqb, leb, length, drop}
use Rattle.std.proofs.Math.Option.{Option, none, some}
use Rattle.std.specs.Borrow.{Bor}
use Rattle.wire.specs.Octets.{octet_at}
use Rattle.session.specs.Numbers.{number_at, spelled}

-- a kind of body: the widths of its fields in octets, and whether more octets may follow
pub record Form : Type 0 where
  pub kind : ℕ
  pub widths : List ℕ
  pub more : Bool

abbrev pub fixed : ℕ → List ℕ → Form
fixed k ws = record { kind = k; widths = ws; more = false }

abbrev pub followed : ℕ → List ℕ → Form
followed k ws = record { kind = k; widths = ws; more = true }

-- the table of kinds. The first three fields of kinds 1 to 5 are a channel's key: destination, source and priority
abbrev pub forms : List Form
forms =
    fixed 1 (6 ∷ 6 ∷ 1 ∷ 8 ∷ 2 ∷ 4 ∷ [])  -- data: key, time, number, handle
    ∷ fixed 2 (6 ∷ 6 ∷ 1 ∷ 8 ∷ 2 ∷ [])  -- reminder: key, time, number
    ∷ fixed 3 (6 ∷ 6 ∷ 1 ∷ 8 ∷ [])  -- tick: key, time
    ∷ fixed 4 (6 ∷ 6 ∷ 1 ∷ 8 ∷ [])  -- close: key, time
    ∷ fixed 5 (6 ∷ 6 ∷ 1 ∷ [])  -- look: key
    ∷ fixed 6 (4 ∷ [])  -- fresh station: default set
    ∷ fixed 7 (4 ∷ [])  -- use of flags: flags
    ∷ fixed 8 []  -- period end
    ∷ fixed 9 (1 ∷ 4 ∷ 4 ∷ 4 ∷ [])  -- received capability frame: opcode, OldestTx, CurrentTx, CurrentRx
    ∷ followed 10 []  -- rate frame to read, which follows
    ∷ followed 11 (6 ∷ 6 ∷ 1 ∷ 1 ∷ 1 ∷ 1 ∷ 1 ∷ 1 ∷ 2 ∷ [])  -- rate request: destination to rank 2 as in the frame, room; addresses follow
    ∷ []

-- the place behind fields of these widths, the first of which starts at a place
abbrev pub behind : ℕ → List ℕ → ℕ
behind at [] = at
behind at (w ∷ ws) = behind (at + w) ws

-- how many octets the kind and the fields take
abbrev pub end_of : Form → ℕ
end_of f = behind 1 f.widths

-- a body of this length has the form: exactly so long, or at least so long where more octets may follow
abbrev pub form_fits : Form → ℕ → Bool
form_fits f n = cond f.more (leb (end_of f) n) (eqb n (end_of f))

-- the form of a kind, if the kind is known
abbrev pub form_in : List Form → ℕ → Option Form
form_in [] k = none
form_in (f ∷ fs) k = cond (eqb k f.kind) (some f) (form_in fs k)

unfoldable pub form_of : ℕ → Option Form
form_of k = form_in forms k

abbrev pub end_in : ℕ → Option Form → ℕ
end_in n none = n
end_in n (some f) = end_of f

-- how many octets the kind and the fields take; 0 where the kind is unknown
abbrev pub fields_end : ℕ → ℕ
fields_end k = end_in 0 (form_of k)

-- the form of a body of this kind and length, if the body is readable: the kind is known, and the length fits it
abbrev pub of_length : ℕ → Option Form → Option Form
of_length n none = none
of_length n (some f) = cond (form_fits f n) (some f) none

abbrev pub form_for : ℕ → ℕ → Option Form
form_for k n = of_length n (form_of k)

abbrev pub form_at : List ℕ → Option Form
form_at s = form_for (octet_at s 0) (length s)

abbrev pub known : Option Form → Bool
known none = false
known (some f) = true

abbrev pub is_readable : ℕ → ℕ → Bool
is_readable k n = known (form_for k n)

-- where the octets behind the fields start: at the end, where the body is unreadable
abbrev pub rest_at : List ℕ → ℕ
rest_at s = end_in (length s) (form_at s)

-- the numbers of fields of these widths, the first of which starts at a place
abbrev pub fields_at : List ℕ → ℕ → List ℕ → List ℕ
fields_at s at [] = []
fields_at s at (w ∷ ws) = number_at s at w ∷ fields_at s (at + w) ws

-- what a body says: its kind, 0 where it is unreadable; the numbers in its fields; and the octets behind them
pub record Saying : Type 0 where
  pub kind : ℕ
  pub values : List ℕ
  pub rest : List ℕ

abbrev pub said_by : List ℕ → Option Form → Saying
said_by s none = record { kind = 0; values = []; rest = [] }
said_by s (some f) = record { kind = f.kind; values = fields_at s 1 f.widths; rest = drop (end_of f) s }

unfoldable pub said : List ℕ → Saying
said s = said_by s (form_at s)

-- the octets behind a body's fields: the caller's own, and no copy of them
pub record OwnRest (whole rest : Bor (List ℕ)) : Type 0 where
  pub octets : rest.now ≡ (said whole.now).rest
  pub place : rest.ref_ptr ≡ (whole.ref_ptr.0, rest_at whole.now + whole.ref_ptr.1)

-- values that fields of these widths can hold
abbrev pub Fit : List ℕ → List ℕ → Type 0
Fit [] [] = Unit {0}
Fit [] (v ∷ vs) = ⊥
Fit (w ∷ ws) [] = ⊥
Fit (w ∷ ws) (v ∷ vs) = (v < 256 ^ w) × Fit ws vs

-- the values, spelled in fields of these widths one behind the other
unfoldable pub fields_of : List ℕ → List ℕ → List ℕ
fields_of [] vs = []
fields_of (w ∷ ws) [] = []
fields_of (w ∷ ws) (v ∷ vs) = spelled w v ++ fields_of ws vs

-- the body of a form that says these values, with these octets behind them
unfoldable pub body_of : Form → List ℕ → List ℕ → List ℕ
body_of f vs rest = f.kind ∷ (fields_of f.widths vs ++ rest)
