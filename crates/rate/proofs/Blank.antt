-- The request by default, of which a derive says what each field is: zeros. Assumes nothing.
use mathlib.Core.Path.{◌≡◌, sym, ◌∙◌}
use mathlib.Core.List.{List}
use Prim.Native.Nat.{ℕ, ◌<◌}
use native.Mathlib.Omega.{arith}
use lib.ListN.{replicate, get_or-replicate}
use lib.Seq.{ext_get_or}
use Rattle.std.specs.Array.{AllOfLen}
use Rattle.rate.specs.declared.Request.{Request}

zeros : (xs : List ℕ) → AllOfLen (λ x. x ≡ 0) xs 6 → xs ≡ replicate 6 0
zeros xs all = ext_get_or 0 xs (replicate 6 0) all.long (λ k h. let below : k < 6 = omega (arith, all.long) in all.at k 0 below ∙ sym (get_or-replicate 6 k 0 0 below))

abbrev pub Blank : Request → Type 0
Blank q = AllOfLen (λ x. x ≡ 0) q.destination 6 × (AllOfLen (λ x. x ≡ 0) q.source 6
    × ((q.opcode ≡ 0) × ((q.bands ≡ 0) × ((q.pe1 ≡ 0) × ((q.rank1 ≡ 0) × ((q.pe2 ≡ 0) × (q.rank2 ≡ 0)))))))

pub blank : (q : Request) → Blank q
    → q ≡ record { destination = replicate 6 0; source = replicate 6 0; opcode = 0; bands = 0; pe1 = 0; rank1 = 0; pe2 = 0; rank2 = 0 }
blank q b =
    let destination = zeros q.destination b.0 in
    let source = zeros q.source b.1.0 in
    let fields = b.1.1 in
    let whole : ◌≡◌ {A = Request}
    (record { destination = q.destination; source = q.source; opcode = q.opcode; bands = q.bands; pe1 = q.pe1; rank1 = q.rank1; pe2 = q.pe2; rank2 = q.rank2 })
    (record { destination = replicate 6 0; source = replicate 6 0; opcode = 0; bands = 0; pe1 = 0; rank1 = 0; pe2 = 0; rank2 = 0 }) = cc in
    whole
