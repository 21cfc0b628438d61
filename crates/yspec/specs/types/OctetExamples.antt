-- Worked examples of binaries.
use Rattle.std.specs.Prelude.{ℕ, pos, List, [], ◌∷◌, map, codes, Option, Some, None}
use Rattle.yspec.specs.text.Text.{Text}
use Rattle.yspec.specs.types.Ranges.{greatest}
use Rattle.yspec.specs.types.Types.{text, Val, octets_value, YangType, plain, binary_base, taken, value}
use Rattle.yspec.specs.types.Restriction.{length}
use Rattle.yspec.specs.types.TypeExamples.{at, one, all_narrowed, with_tag}

abbrev pub binary_sample : YangType
binary_sample = plain binary_base

abbrev pub octets_are : List ℕ → Option Val
octets_are octets = Some (value None (octets_value octets))

-- what a binary takes of each of some texts
abbrev pub all_octets : List Text → List (Option Val)
all_octets texts = map (λ t. taken binary_sample (text t)) texts

-- three octets, or more than four
abbrev pub measured_octets : Option YangType
measured_octets = all_narrowed binary_sample (length (one (pos 3) ∷ record { first = at (pos 5); last = greatest } ∷ []) (with_tag (codes "octets")) ∷ [])
