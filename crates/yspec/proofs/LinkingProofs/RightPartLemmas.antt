-- Right parts: each is named by an identifier, a leaf has nothing below it, and a choice has cases alone.
use Rattle.std.proofs.Common.{◌≡◌, ℕ, ◌+◌, ◌<◌, Bool, true, false, cond, ◌||◌, refl, sym, ap, ◌∙◌}
use Rattle.yspec.specs.Forest.{Forest, end, node, join, relabelled}
use Rattle.yspec.specs.text.Text.{is_identifier}
use Rattle.yspec.specs.schema.Schema.{has_value}
use Rattle.yspec.specs.document.Fitting.{LeafsAreBare}
use Rattle.yspec.specs.linking.Keyword.{Keyword, same_keyword, leaf_word, leaf_list_word, choice_word, case_word}
use Rattle.yspec.specs.linking.Source.{argument_in}
use Rattle.yspec.specs.linking.Parts.{Part, defines_node, case_for, as_cases}
use Rattle.yspec.specs.linking.Planned.{Planned, Plan, Around, planned_node, around_below, planned}
use Rattle.yspec.specs.linking.SchemaNodes.{kind_by, schema_node}
use Rattle.yspec.proofs.LinkingProofs.KeywordLemmas.{by_definition}

abbrev pub is_leaf_word : Keyword → Bool
is_leaf_word k = same_keyword leaf_word k || (same_keyword leaf_list_word k || false)

abbrev pub AllCases : Forest Part → Type 0
AllCases end = Unit {0}
AllCases (node p below after) = (same_keyword case_word p.source.keyword ≡ true) × AllCases after

pub record IsRightAt (count : ℕ) (p : Part) (below : Forest Part) : Type 0 where
  pub defines : defines_node p.source.keyword ≡ true
  pub name : is_identifier (argument_in p.source) ≡ true
  pub owner : p.owner < count
  pub bare : is_leaf_word p.source.keyword ≡ true → below ≡ end
  pub cases : same_keyword choice_word p.source.keyword ≡ true → AllCases below

-- parts of some of so many modules
abbrev pub AreRight : ℕ → Forest Part → Type 0
AreRight count end = Unit {0}
AreRight count (node p below after) = IsRightAt count p below × AreRight count below × AreRight count after

-- ---- cases

pub all_cases : (f : Forest Part) → AllCases (as_cases f)
all_cases end = tt
all_cases (node p below after) = by (same_keyword case_word p.source.keyword) refl (all_cases after)
  where
    by : (b : Bool) → same_keyword case_word p.source.keyword ≡ b → AllCases (as_cases after)
        → AllCases (cond b (node p below (as_cases after)) (node (case_for p) (node p below end) (as_cases after)))
    by true is rest = (is, rest)
    by false is rest = (refl, rest)

pub right_joined : (count : ℕ) (f g : Forest Part) → AreRight count f → AreRight count g → AreRight count (join f g)
right_joined count end g first second = second
right_joined count (node p below after) g first second = (first.0, first.1, right_joined count after g first.2 second)

-- ---- as schema nodes

with_value : (plan : Plan) (p : Planned) (k : Keyword) → defines_node k ≡ true → has_value (kind_by plan p k) ≡ is_leaf_word k
with_value plan p k defines = by_definition k (λ k. has_value (kind_by plan p k) ≡ is_leaf_word k) refl refl refl refl refl refl defines

pub bare_of : (plan : Plan) (count next : ℕ) (around : Around) (f : Forest Part) → AreRight count f → LeafsAreBare (relabelled (schema_node plan) (planned next around f))
unfolding planned
bare_of plan count next around end right = tt
bare_of plan count next around (node p below after) right = (
  λ value. ap (λ f. relabelled (schema_node plan) (planned (next + 1) (around_below next around p) f))
      (right.0.bare (sym (with_value plan (planned_node next around p) p.source.keyword right.0.defines) ∙ value)),
  bare_of plan count (next + 1) (around_below next around p) below right.1,
  bare_of plan count _ around after right.2,
)
