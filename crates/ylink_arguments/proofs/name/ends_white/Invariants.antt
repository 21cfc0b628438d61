use Rattle.std.proofs.Common.{◌≡◌, drop, false}
use Rattle.yspec.specs.types.Names.{ends_white}
use Rattle.ylink_arguments.proofs.name.ends_white.Given as goal

abbrev pub invariant-loop-byte : goal.invariant-loop-byte
invariant-loop-byte l = ends_white l.white (drop l.byte-index l.byte-items) ≡ ends_white false l.text
