-- What compiles without a language has no `anydata` and no `anyxml`.
use Rattle.std.proofs.Common.{◌≡◌, Bool, true, false, not, ◌||◌, Ok, refl, ap₂, subst}
use Rattle.yspec.specs.Forest.{Forest, end, node, relabelled}
use Rattle.yspec.specs.text.Statement.{Statement}
use Rattle.yspec.specs.schema.Schema.{Schema, is_anything, form_in, has_anything}
use Rattle.yspec.specs.linking.Keyword.{Keyword}
use Rattle.yspec.specs.linking.Source.{sources_of}
use Rattle.yspec.specs.linking.Planned.{Planned, Plan}
use Rattle.yspec.specs.linking.SchemaNodes.{kind_by, schema_node}
use Rattle.yspec.specs.linking.Compiling.{compiled, plan_of}
use Rattle.yspec.proofs.LinkingProofs.KeywordLemmas.{of_each}
use Rattle.yspec.proofs.LinkingProofs.LinkedLemmas.{compiles}

none : (b : Bool) → not b ≡ true → b ≡ false
none true h = absurd cc
none false h = refl

pub none_of_kind : (plan : Plan) (p : Planned) (k : Keyword) → is_anything (form_in (kind_by plan p k)) ≡ false
none_of_kind plan p k = none _ (of_each (λ k. not (is_anything (form_in (kind_by plan p k)))) refl k)

none_of_row : (plan : Plan) (f : Forest Planned) → has_anything (relabelled (schema_node plan) f) ≡ false
none_of_row plan end = refl
none_of_row plan (node p below after) = ap₂ ◌||◌ (none_of_kind plan p p.part.source.keyword) (ap₂ ◌||◌ (none_of_row plan below) (none_of_row plan after))

pub linked_anything : (modules : Forest Statement) (schema : Schema) → compiled modules ≡ Ok schema → has_anything schema.nodes ≡ false
linked_anything modules schema e =
    subst (λ (s : Schema). has_anything s.nodes ≡ false) (compiles modules schema e).is (none_of_row (plan_of (sources_of modules)) (plan_of (sources_of modules)).nodes)
