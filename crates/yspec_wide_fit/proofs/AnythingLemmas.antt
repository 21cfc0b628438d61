-- A schema has an `anydata` or `anyxml` where one of its planned nodes is one.
use Rattle.std.proofs.Common.{◌≡◌, Bool, true, false, cond, ◌||◌, ◌++◌, refl, sym, ap, ◌∙◌}
use Rattle.std.proofs.lemmas.List.Folds.{list_any-append}
use Rattle.std.specs.List.{list_any}
use Rattle.yspec.specs.Forest.{Forest, end, node, preorder, relabelled}
use Rattle.yspec.specs.schema.Schema.{Kind, container, leaf, leaf_list, list, choice, case, by_type, any_value, any_object, is_anything, form_in, has_anything}
use Rattle.yspec.specs.linking.Keyword.{leaf_word, leaf_list_word}
use Rattle.yspec.specs.linking.Source.{Source}
use Rattle.yspec.specs.linking.Planned.{Planned, Plan, is_a}
use Rattle.yspec.specs.linking.SchemaNodes.{amount_of, kind_by}
use Rattle.yspec_fit.proofs.AnythingLemmas.{none_of_kind}
use Rattle.yspec_wide.specs.Language.{Language}
use Rattle.yspec_wide.specs.Words.{anydata_word, anyxml_word}
use Rattle.yspec_wide.specs.Sources as sources
use Rattle.yspec_wide.specs.Sources.{is_added}
use Rattle.yspec_wide.specs.Guards.{asked_kind, is_guarded}
use Rattle.yspec_wide.specs.Types.{form_of, leaf_type_in, absence_in, default_values_in, kind_stated, kind_in, schema_node_in}

asked_form : (guarded : Bool) (k : Kind) → form_in (asked_kind guarded k) ≡ form_in k
asked_form guarded (container presence) = refl
asked_form guarded (leaf type absence) = refl
asked_form guarded (leaf_list type defaults amount) = refl
asked_form guarded (list tuples amount) = refl
asked_form guarded (choice default_case is_mandatory) = refl
asked_form guarded case = refl

-- one of two alternatives follows from one of two others
either : (a b c d : Bool) → (a ≡ true → c ≡ true) → (b ≡ true → d ≡ true) → (a || b) ≡ true → (c || d) ≡ true
either true b c d first second some = ap (λ x. x || d) (first refl)
either false b true d first second some = refl
either false b false d first second some = second some

-- what is no leaf and no leaf-list has no value
anything_by : (a b : Bool) (first second third : Kind) (told : Bool) → is_anything (form_in first) ≡ told → is_anything (form_in second) ≡ told
    → is_anything (form_in third) ≡ false → is_anything (form_in (cond a first (cond b second third))) ≡ true → told ≡ true
anything_by true b first second third told one two none some = sym one ∙ some
anything_by false true first second third told one two none some = sym two ∙ some
anything_by false false first second third told one two none some = absurd (let no : false ≡ true = sym none ∙ some in cc)

module _ (language : Language) (plan : Plan) where
  form_is : (s : Source) → is_anything (form_of language s) ≡ sources.is_anything language s
  form_is s = by (is_added language anydata_word s) (is_added language anyxml_word s)
    where
      by : (a b : Bool) → is_anything (cond a any_object (cond b any_value by_type)) ≡ (a || b)
      by true b = refl
      by false true = refl
      by false false = refl

  kind_is : (p : Planned) → is_anything (form_in (kind_in language plan p)) ≡ true → sources.is_anything language p.part.source ≡ true
  kind_is p some =
      anything_by (is_a leaf_word p) (is_a leaf_list_word p) (leaf (leaf_type_in language plan p) (absence_in language plan p))
      (leaf_list (leaf_type_in language plan p) (default_values_in language plan p) (amount_of p)) (kind_by plan p p.part.source.keyword)
      (sources.is_anything language p.part.source) (form_is p.part.source) (form_is p.part.source) (none_of_kind plan p p.part.source.keyword)
      (sym (ap is_anything (asked_form (is_guarded language plan p) (kind_stated language plan p))) ∙ some)

  pub any_planned : (f : Forest Planned) → has_anything (relabelled (schema_node_in language plan) f) ≡ true
      → list_any (λ p. sources.is_anything language p.part.source) (preorder f) ≡ true
  any_planned end some = absurd cc
  any_planned (node p below after) some =
      either _ _ (sources.is_anything language p.part.source) (list_any (λ q. sources.is_anything language q.part.source) (preorder below ++ preorder after)) (kind_is p)
      (λ more. list_any-append (λ q. sources.is_anything language q.part.source) (preorder below) (preorder after)
      ∙ either _ _ (list_any (λ q. sources.is_anything language q.part.source) (preorder below)) (list_any (λ q. sources.is_anything language q.part.source) (preorder after))
      (any_planned below) (any_planned after) more) some
