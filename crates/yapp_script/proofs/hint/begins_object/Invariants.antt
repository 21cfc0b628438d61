use Rattle.std.proofs.Common.{◌≡◌, drop}
use Rattle.yspec_run.specs.Hint.{begins_object}
use Rattle.yapp_script.proofs.hint.begins_object.Given as goal

abbrev pub invariant-loop-byte : goal.invariant-loop-byte
invariant-loop-byte l = begins_object (drop l.byte-index l.bytes) ≡ begins_object l.fn.bytes
