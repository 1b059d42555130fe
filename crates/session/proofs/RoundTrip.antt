-- A body and what it says determine each other: what is written reads back, and whatever is readable is the body of what it says.
-- Assumes nothing but that octets are below 256.
use mathlib.Core.Path.{◌≡◌, refl, ◌∙◌, sym, ap, ap₂}
use mathlib.Core.Bool.{Bool, true, false, cond}
use mathlib.Core.List.{List, [], ◌∷◌, ◌++◌, append_assoc}
use mathlib.Core.Option.{none, some}
use Prim.Native.Nat.{ℕ, suc, ◌+◌, ◌≤◌, ◌<◌}
use native.Mathlib.Omega.{arith}
use lib.ListN.{length, drop, length-append, take-append-drop}
use lib.Seq.{drop-cons, drop-drop, drop_at}
use Rattle.wire.specs.Octets.{octet_at}
use Rattle.session.specs.Numbers.{number_at, spelled}
use Rattle.session.specs.Layout.{Form, behind, end_of, form_fits, form_of, form_at, of_length, fields_at, Saying, said_by, said, Fit, fields_of, body_of}
use Rattle.session.proofs.Spelling.{length_spelled, number_spelled, spelled_number}
use Rattle.session.proofs.Forms.{some_eq, kind_found, fits_end, end_fits, form_of_law, fits_of}

abbrev pub Octets : List ℕ → Type 0
Octets s = (k : ℕ) → octet_at s k < 256

-- fields end behind what is spelled in them
behind_fields : (at : ℕ) (ws vs : List ℕ) → Fit ws vs → behind at ws ≡ at + length (fields_of ws vs)
unfolding fields_of
behind_fields at [] [] h = omega arith
behind_fields at [] (v ∷ vs) h = absurd h
behind_fields at (w ∷ ws) [] h = absurd h
behind_fields at (w ∷ ws) (v ∷ vs) h =
    let rest = behind_fields (at + w) ws vs h.1 in
    let both = length-append (spelled w v) (fields_of ws vs) in
    let first = length_spelled w v in
    omega arith

-- what is spelled in fields behind other octets reads back
fields_read : (ws vs before after : List ℕ) → Fit ws vs → fields_at (before ++ (fields_of ws vs ++ after)) (length before) ws ≡ vs
unfolding fields_of
fields_read [] [] before after h = refl
fields_read [] (v ∷ vs) before after h = absurd h
fields_read (w ∷ ws) [] before after h = absurd h
fields_read (w ∷ ws) (v ∷ vs) before after h =
    let later : List ℕ = fields_of ws vs ++ after in
    let octets : List ℕ = before ++ (fields_of (w ∷ ws) (v ∷ vs) ++ after) in
    let grouped : octets ≡ before ++ (spelled w v ++ later) = ap (λ (l : List ℕ). before ++ l) (append_assoc (spelled w v) (fields_of ws vs) after) in
    let behind : octets ≡ (before ++ spelled w v) ++ later = grouped ∙ sym (append_assoc before (spelled w v) later) in
    let place : length (before ++ spelled w v) ≡ length before + w = length-append before (spelled w v) ∙ ap (λ (n : ℕ). length before + n) (length_spelled w v) in
    let first : number_at octets (length before) w ≡ v =
    ap (λ (l : List ℕ). number_at l (length before) w) grouped ∙ number_spelled w v before later h.0 in
    let rest : fields_at octets (length before + w) ws ≡ vs =
    ap₂ (λ (l : List ℕ) (n : ℕ). fields_at l n ws) behind (sym place) ∙ fields_read ws vs (before ++ spelled w v) after h.1 in
    ap₂ ◌∷◌ first rest

same_said : {k k' : ℕ} {vs vs' rest rest' : List ℕ} → k ≡ k' → vs ≡ vs' → rest ≡ rest'
    → ◌≡◌ {A = Saying} (record { kind = k; values = vs; rest = rest }) (record { kind = k'; values = vs'; rest = rest' })
same_said p q r = λ i. record { kind = p i; values = q i; rest = r i }

-- a body of a known form reads back as what was written
pub reads_back : (k : ℕ) (f : Form) → form_of k ≡ some f → (vs rest : List ℕ) → Fit f.widths vs → (f.more ≡ false → rest ≡ [])
    → said (body_of f vs rest) ≡ record { kind = k; values = vs; rest = rest }
unfolding said body_of
reads_back k f e vs rest fit alone =
    let fields : List ℕ = fields_of f.widths vs in
    let n : ℕ = suc (length (fields ++ rest)) in
    let same : f.kind ≡ k = kind_found k f e in
    let end : end_of f ≡ 1 + length fields = behind_fields 1 f.widths vs fit in
    let size : length (fields ++ rest) ≡ length fields + length rest = length-append fields rest in
    let exact : (f.more ≡ false → n ≡ end_of f) = λ m. let none : length rest ≡ 0 = ap length (alone m) in omega arith in
    let fits : form_fits f n ≡ true = end_fits f n (omega arith) exact in
    let form : of_length n (form_of f.kind) ≡ some f = ap (of_length n) (ap form_of same ∙ e) ∙ ap (λ (b : Bool). cond b (some f) none) fits in
    let length_fixed : length (f.kind ∷ fields) ≡ end_of f = omega arith in
    ap (said_by (f.kind ∷ (fields ++ rest))) form
    ∙ same_said same (fields_read f.widths vs (f.kind ∷ []) rest fit) (drop_at (f.kind ∷ fields) rest (end_of f) length_fixed)

-- fields reach at least to where they start
start_behind : (at : ℕ) (ws : List ℕ) → at ≤ behind at ws
start_behind at [] = omega arith
start_behind at (w ∷ ws) = let h = start_behind (at + w) ws in omega arith

-- fields that lie within octets, read and spelled again, are those octets
fields_written : (s : List ℕ) (at : ℕ) (ws : List ℕ) → Octets s → behind at ws ≤ length s
    → fields_of ws (fields_at s at ws) ++ drop (behind at ws) s ≡ drop at s
unfolding fields_of
fields_written s at [] bytes h = refl
fields_written s at (w ∷ ws) bytes h =
    let lies : at + w ≤ length s = omega (arith, start_behind (at + w) ws) in
    append_assoc (spelled w (number_at s at w)) (fields_of ws (fields_at s (at + w) ws)) (drop (behind (at + w) ws) s)
    ∙ (ap₂ ◌++◌ (spelled_number s at w bytes lies) (fields_written s (at + w) ws bytes h ∙ sym (drop-drop w at s))
    ∙ take-append-drop w (drop at s))

-- a readable body is the body of what it says
pub written_again : (s : List ℕ) → Octets s → (f : Form) → form_at s ≡ some f → body_of f (said s).values (said s).rest ≡ s
unfolding said body_of
written_again s bytes f e =
    let k : ℕ = octet_at s 0 in
    let known-kind : form_of k ≡ some f = form_of_law k (length s) f e in
    let lies : end_of f ≤ length s = fits_end f (length s) (fits_of k (length s) f e) in
    let some-octet : 1 ≤ length s = omega (arith, start_behind 1 f.widths) in
    let said-so : said s ≡ said_by s (some f) = ap (said_by s) e in
    rw said-so
    (ap₂ ◌∷◌ (kind_found k f known-kind) (fields_written s 1 f.widths bytes lies) ∙ sym (drop-cons s 0 0 some-octet))

-- so two readable bodies that say the same are the same
pub read_uniquely : (s s' : List ℕ) → Octets s → Octets s' → (f f' : Form) → form_at s ≡ some f → form_at s' ≡ some f'
    → said s ≡ said s' → s ≡ s'
unfolding said
read_uniquely s s' bytes bytes' f f' e e' h =
    let k : ℕ = octet_at s 0 in
    let k' : ℕ = octet_at s' 0 in
    let of : form_of k ≡ some f = form_of_law k (length s) f e in
    let of' : form_of k' ≡ some f' = form_of_law k' (length s') f' e' in
    let kinds : f.kind ≡ f'.kind =
    ap (λ (w : Saying). w.kind) (sym (ap (said_by s) e) ∙ (h ∙ ap (said_by s') e')) in
    let same : f ≡ f' = some_eq (sym of ∙ (ap form_of (sym (kind_found k f of) ∙ (kinds ∙ kind_found k' f' of')) ∙ of')) in
    sym (written_again s bytes f e)
    ∙ (ap₂ (λ (f : Form) (w : Saying). body_of f w.values w.rest) same h ∙ written_again s' bytes' f' e')
