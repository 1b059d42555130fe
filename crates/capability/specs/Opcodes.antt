-- The opcode of a received frame: 0 and 1 are the opcodes, and any other is refused. 001, Table 12.
use Rattle.std.specs.Prelude.{ℕ, cond, ltb, eqb, Result, Ok, Err}
use Rattle.capability.specs.declared.refused.Refused.{Refused}
use Rattle.capability.specs.declared.refused.Refused.TheVariants as refusal
use Rattle.capability.specs.declared.opcode.Opcode.{Opcode}
use Rattle.capability.specs.declared.opcode.Opcode.TheVariants.{Announcement, Request}

abbrev pub opcode_of : ℕ → Result Opcode Refused
opcode_of octet = cond (ltb 1 octet) (Err refusal.Opcode) (Ok (cond (eqb octet 1) Request Announcement))
