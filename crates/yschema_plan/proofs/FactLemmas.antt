-- What planned nodes state.
use Rattle.std.proofs.Common.{◌≡◌, ℕ, Bool, true, false, not, cond, ◌&&◌, ◌||◌, Option, Some, None, is_some, refl, ap}
use Rattle.std.specs.Prelude.{option_map, unwrap_or, nat_lt}
use Rattle.yspec.specs.linking.Keyword.{Keyword, same_keyword, leaf_word, leaf_list_word, list_word, choice_word, container_word, presence_word}
use Rattle.yspec.specs.linking.Planned.{Planned, Plan, stated_in}
use Rattle.yspec.specs.linking.SchemaNodes.{is_mandatory, min_elements_of, number_in}
use Rattle.yspec.specs.linking.NodeBreaks.{must_be, has_mandatory, row_below, is_wrong_case}
use Rattle.yspec.specs.schema.Schema.{Amount}

pub unwrap_map : {A B : Type 0} (f : A → B) (o : Option A) (x : A) → f (unwrap_or o x) ≡ unwrap_or (option_map f o) (f x)
unwrap_map f (Some y) x = refl
unwrap_map f None x = refl

abbrev pub amount_by : ℕ → Option ℕ → Amount
amount_by least most = record { min_elements = least; max_elements = most }

-- by its keyword
abbrev pub must_by : Planned → Bool → Keyword → Bool
must_by p inside w = cond (same_keyword leaf_word w || same_keyword choice_word w) (is_mandatory p)
    (cond (same_keyword leaf_list_word w || same_keyword list_word w) (nat_lt 0 (min_elements_of p))
    (same_keyword container_word w && (not (is_some (stated_in presence_word p)) && inside)))

pub must_as : (p : Planned) (inside : Bool) (w : Keyword) → w ≡ p.part.source.keyword → must_by p inside w ≡ must_be p inside
must_as p inside w e = ap (must_by p inside) e

pub both_turned : (inside absent : Bool) → inside ≡ true → absent ≡ absent && inside
both_turned true true e = refl
both_turned true false e = refl
both_turned false absent e = absurd cc

-- by the number of the case that is found
abbrev pub wrong_by : Plan → Planned → Option ℕ → Bool
wrong_by plan p None = true
wrong_by plan p (Some n) = is_mandatory p || has_mandatory (row_below plan n)

pub wrong_case : (plan : Plan) (p : Planned) (found : Option Planned) → wrong_by plan p (option_map number_in found) ≡ is_wrong_case plan p found
wrong_case plan p None = refl
wrong_case plan p (Some found) = refl
