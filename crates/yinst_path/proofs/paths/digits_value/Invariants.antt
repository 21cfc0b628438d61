use Rattle.std.proofs.Common.{◌≡◌, ◌≤◌, drop}
use Rattle.std.specs.Prelude.{min}
use Rattle.yspec.specs.edit.EditText.{digits_value, last_position}
use Rattle.yinst_path.proofs.paths.digits_value.Given as goal

abbrev pub invariant-loop-byte : goal.invariant-loop-byte
invariant-loop-byte l = record {
  fits : l.number ≤ last_position;
  rest : min (digits_value l.number (drop l.byte-index l.bytes)) last_position ≡ min (digits_value 0 l.bytes) last_position;
}
