-- A worked example of a union with leafrefs among its members.
use Rattle.std.specs.Prelude.{ℕ, ◌==◌, ◌&&◌, ◌++◌, true, false, List, [], ◌∷◌, codes, Option, None, option_map, option_and_then, if◌then◌else◌}
use Rattle.yspec.specs.types.Types.{Raw, Val, YangType, plain, integer_type, int8, uint16, uint8_type, boolean_base, string_type, taken}
use Rattle.yspec.specs.types.Order.{same_value}
use Rattle.yspec.specs.types.Restriction.{union_type}
use Rattle.yspec.specs.schema.Schema.{LeafType, by_type}
use Rattle.yspec.specs.schema.References.{Reference, reference_in}
use Rattle.yspec.specs.document.Fault.{Fault}
use Rattle.yspec.specs.document.Faults.{Times, reference_faults}
use Rattle.yspec.specs.linking.Planned.{targets_by}

-- the types of the nodes 3 and 5
abbrev pub third : YangType
third = union_type (integer_type int8 ∷ plain boolean_base ∷ [])

abbrev pub fifth : YangType
fifth = integer_type uint16

-- a union of uint8, a leafref to the node 3, one to the node 5 that requires no instance, and string
abbrev pub union_sample : LeafType
union_sample = record {
  name = codes "union";
  type = union_type (uint8_type ∷ third ∷ fifth ∷ string_type ∷ []);
  target = None;
  targets = None ∷ (targets_by 3 true third.shape ++ (targets_by 5 false fifth.shape ++ None ∷ []));
  form = by_type;
}

-- what it refers to where a document has something
abbrev pub referred : Raw → Option Reference
referred raw = option_and_then (reference_in union_sample) (taken union_sample.type raw)

-- one instance of a node, which has a value
abbrev pub one_instance : ℕ → Val → Times
one_instance m w number v = if m == number && same_value v w then 1 else 0

-- what is told of it besides V1
abbrev pub told_of : Times → Raw → Option (List Fault)
told_of times raw = option_map (reference_faults times union_sample) (taken union_sample.type raw)
