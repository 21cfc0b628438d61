-- Types of octets, for worked examples.
use Rattle.std.specs.Prelude.{pos, List, [], ◌∷◌}
use Rattle.yspec.specs.types.Ranges.{within, Limit}
use Rattle.yspec.specs.types.Types.{SimpleType, binary_base}
use Rattle.ysay_value.specs.Samples.{silent}

abbrev pub octets_type : List Limit → SimpleType
octets_type limits = record { base = binary_base; limits = limits }

-- one to three
abbrev pub few_octets : SimpleType
few_octets = octets_type (silent (within (record { low = pos 1; high = pos 3 } ∷ [])) ∷ [])
