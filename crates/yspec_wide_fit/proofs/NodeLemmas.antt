-- The schema nodes of sound parts: leafs are bare, cases stand below choices alone, and all are named and numbered.
use Rattle.std.proofs.Common.{◌≡◌, ℕ, suc, ◌+◌, Bool, true, false, cond, not, ◌||◌, length, refl, sym, ap, ◌∙◌, subst, arith}
use Rattle.yspec.specs.Forest.{Forest, end, node, size, relabelled}
use Rattle.yspec.specs.schema.Schema.{Schema, Kind, leaf, leaf_list, is_data, has_value}
use Rattle.yspec.specs.document.Fitting.{IsNumbered, LeafsAreBare}
use Rattle.yspec.specs.document.Writing.{NodesAreNamed}
use Rattle.yspec.specs.linking.Keyword.{Keyword, same_keyword, leaf_word, leaf_list_word, choice_word, case_word}
use Rattle.yspec.specs.linking.Source.{argument_in}
use Rattle.yspec.specs.linking.Parts.{Part, defines_node}
use Rattle.yspec.specs.linking.Planned.{Planned, Plan, Around, planned_node, around_below, planned}
use Rattle.yspec.specs.linking.SchemaNodes.{kind_by, amount_of}
use Rattle.yspec.proofs.LinkingProofs.KeywordLemmas.{by_definition}
use Rattle.yspec.proofs.LinkingProofs.LinkedLemmas.{relabelled-size, planned-size}
use Rattle.yspec.proofs.IdentifierLemmas.{identifier_plain}
use Rattle.yspec_wide.specs.Language.{Language}
use Rattle.yspec_wide.specs.Guards.{is_guarded, asked_kind}
use Rattle.yspec_wide.specs.Types.{leaf_type_in, absence_in, default_values_in, schema_node_in}
use Rattle.yspec_fit.specs.Fit.{is_choice, is_case, CasesInChoices, AreCases, HoldCases, ChoicesHoldCases}
use Rattle.yspec_wide_fit.proofs.SoundLemmas.{is_leaf_word, is_choice_part, Row, of_choice, stands_in, row_below, AreSound}

-- ---- kinds by keywords

-- the kind of a node, if it were of a keyword
abbrev pub kind_for : Language → Plan → Planned → Keyword → Kind
kind_for language plan p k = asked_kind (is_guarded language plan p)
    (cond (same_keyword leaf_word k) (leaf (leaf_type_in language plan p) (absence_in language plan p))
    (cond (same_keyword leaf_list_word k) (leaf_list (leaf_type_in language plan p) (default_values_in language plan p) (amount_of p)) (kind_by plan p k)))

abbrev pub is_passed : Keyword → Bool
is_passed k = same_keyword choice_word k || same_keyword case_word k

module _ (language : Language) (plan : Plan) (p : Planned) (k : Keyword) (defines : defines_node k ≡ true) where
  value_by : has_value (kind_for language plan p k) ≡ is_leaf_word k
  value_by = by_definition k (λ k. has_value (kind_for language plan p k) ≡ is_leaf_word k) refl refl refl refl refl refl defines

  pub data_by : is_data (kind_for language plan p k) ≡ not (is_passed k)
  data_by = by_definition k (λ k. is_data (kind_for language plan p k) ≡ not (is_passed k)) refl refl refl refl refl refl defines

  choice_by : is_choice (kind_for language plan p k) ≡ same_keyword choice_word k
  choice_by = by_definition k (λ k. is_choice (kind_for language plan p k) ≡ same_keyword choice_word k) refl refl refl refl refl refl defines

  case_by : is_case (kind_for language plan p k) ≡ same_keyword case_word k
  case_by = by_definition k (λ k. is_case (kind_for language plan p k) ≡ same_keyword case_word k) refl refl refl refl refl refl defines

-- ---- what stands below what

case_allowed : (r : Row) (b c : Bool) → (stands_in r true ≡ true → b ≡ true) → stands_in r c ≡ true → c ≡ true → b ≡ true
case_allowed r b c may stands is = may (ap (stands_in r) (sym is) ∙ stands)

case_below : (c : Bool) → stands_in (row_below c) true ≡ true → c ≡ true
case_below true e = refl
case_below false e = absurd cc

module _ (language : Language) (plan : Plan) (count : ℕ) where
  pub bare_of : (next : ℕ) (around : Around) (r : Row) (f : Forest Part) → AreSound count r f → LeafsAreBare (relabelled (schema_node_in language plan) (planned next around f))
  unfolding planned
  bare_of next around r end sound = tt
  bare_of next around r (node p below after) sound = (
    λ value. ap (λ f. relabelled (schema_node_in language plan) (planned (next + 1) (around_below next around p) f))
        (sound.1.bare (sym (value_by language plan (planned_node next around p) p.source.keyword sound.1.defines) ∙ value)),
    bare_of (next + 1) (around_below next around p) (row_below (is_choice_part p)) below sound.2,
    bare_of (next + suc (size below)) around r after sound.3,
  )

  pub cases_in : (next : ℕ) (around : Around) (r : Row) (b : Bool) (f : Forest Part) → (stands_in r true ≡ true → b ≡ true) → AreSound count r f
      → CasesInChoices b (relabelled (schema_node_in language plan) (planned next around f))
  unfolding planned
  cases_in next around r b end may sound = tt
  cases_in next around r b (node p below after) may sound =
      let n = planned_node next around p in
      let k = p.source.keyword in (
        λ is. case_allowed r b (same_keyword case_word k) may sound.0 (sym (case_by language plan n k sound.1.defines) ∙ is),
        subst (λ c. CasesInChoices c (relabelled (schema_node_in language plan) (planned (next + 1) (around_below next around p) below)))
            (sym (choice_by language plan n k sound.1.defines))
            (cases_in (next + 1) (around_below next around p) (row_below (is_choice_part p)) (is_choice_part p) below (case_below (is_choice_part p)) sound.2),
        cases_in (next + suc (size below)) around r b after may sound.3,
      )

  cases_row : (next : ℕ) (around : Around) (f : Forest Part) → AreSound count of_choice f → AreCases (relabelled (schema_node_in language plan) (planned next around f))
  unfolding planned
  cases_row next around end sound = tt
  cases_row next around (node p below after) sound = (
    case_by language plan (planned_node next around p) p.source.keyword sound.1.defines ∙ sound.0,
    cases_row (next + suc (size below)) around after sound.3,
  )

  pub choices_of : (next : ℕ) (around : Around) (r : Row) (f : Forest Part) → AreSound count r f → ChoicesHoldCases (relabelled (schema_node_in language plan) (planned next around f))
  unfolding planned
  choices_of next around r end sound = tt
  choices_of next around r (node p below after) sound =
      let inner = planned (next + 1) (around_below next around p) below in (
        by_definition p.source.keyword
            (λ k. AreSound count (row_below (same_keyword choice_word k)) below → HoldCases (kind_for language plan (planned_node next around p) k) (relabelled (schema_node_in language plan) inner))
            (λ those. tt) (λ those. tt) (λ those. tt) (λ those. tt) (λ those. cases_row (next + 1) (around_below next around p) below those) (λ those. tt)
            sound.1.defines sound.2,
        choices_of (next + 1) (around_below next around p) (row_below (is_choice_part p)) below sound.2,
        choices_of (next + suc (size below)) around r after sound.3,
      )

pub nodes_named : (language : Language) (schema : Schema) (plan : Plan) (next : ℕ) (around : Around) (r : Row) (f : Forest Part) → AreSound (length schema.modules) r f
    → NodesAreNamed schema (relabelled (schema_node_in language plan) (planned next around f))
unfolding planned
nodes_named language schema plan next around r end sound = tt
nodes_named language schema plan next around r (node p below after) sound = (
  (identifier_plain (argument_in p.source) sound.1.name, sound.1.owner),
  nodes_named language schema plan (next + 1) (around_below next around p) (row_below (is_choice_part p)) below sound.2,
  nodes_named language schema plan (next + suc (size below)) around r after sound.3,
)

-- ---- numbers

pub numbered_from : (language : Language) (plan : Plan) (next : ℕ) (around : Around) (f : Forest Part) → IsNumbered next (relabelled (schema_node_in language plan) (planned next around f))
unfolding planned
numbered_from language plan next around end = tt
numbered_from language plan next around (node p below after) =
    let label = schema_node_in language plan in
    let inner = planned (next + 1) (around_below next around p) below in
    let count : size (relabelled label inner) ≡ size below = relabelled-size label inner ∙ planned-size (next + 1) (around_below next around p) below in (
      refl,
      numbered_from language plan (next + 1) (around_below next around p) below,
      subst (λ (k : ℕ). IsNumbered k (relabelled label (planned (next + suc (size below)) around after))) (omega (arith, count))
          (numbered_from language plan (next + suc (size below)) around after),
    )
