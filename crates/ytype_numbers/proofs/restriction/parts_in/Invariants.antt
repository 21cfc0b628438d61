use Rattle.std.proofs.Common.{◌≡◌, ◌++◌, drop}
use Rattle.std.specs.Prelude.{option_map}
use Rattle.yspec.specs.types.Ranges.{parts_in}
use Rattle.ytype_numbers.proofs.restriction.parts_in.Given as goal

abbrev pub invariant-spans : goal.invariant-spans
invariant-spans l = option_map (λ ps. l.parts.items ++ ps) (parts_in l.ends l.digits (drop l.span-index l.spans)) ≡ parts_in l.ends l.digits l.spans
