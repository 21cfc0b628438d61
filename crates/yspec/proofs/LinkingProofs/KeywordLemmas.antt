-- Of keywords: each is known by its number, and what holds of all of them is tried on each.
use Rattle.std.proofs.Common.{◌≡◌, ℕ, zero, suc, Bool, true, false, cond, not, ◌||◌, List, [], ◌∷◌, Option, Some, None, refl, sym, ap, ◌∙◌, subst}
use Rattle.std.proofs.lemmas.Bool.{eqb-true, and_parts}
use Rattle.std.proofs.lemmas.Slice.Eq.{bytes_eq-Decides}
use Rattle.std.specs.Prelude.{find, slice_get, unwrap_or}
use Rattle.std.specs.List.{list_all}
use Rattle.yspec.specs.text.Text.{Text, is_text}
use Rattle.yspec.specs.linking.Keyword.{Keyword, keyword_number, keyword_text, same_keyword, keywords, keyword_named, module_word, yang_version_word, namespace_word, prefix_word, import_word, revision_date_word, organization_word, contact_word, description_word, reference_word, revision_word, extension_word, typedef_word, grouping_word, augment_word, container_word, leaf_word, leaf_list_word, list_word, choice_word, case_word, uses_word, refine_word, type_word, fraction_digits_word, range_word, length_word, enum_word, bit_word, path_word, require_instance_word, error_message_word, error_app_tag_word, value_word, position_word, units_word, default_word, config_word, mandatory_word, presence_word, min_elements_word, max_elements_word, ordered_by_word, status_word, key_word, unique_word, identity_word, base_word}
use Rattle.yspec.specs.linking.Arguments.{identifier_form}
use Rattle.yspec.specs.linking.StatementBreaks.{is_prefixed}
use Rattle.yspec.specs.linking.Table.{rule_of}
use Rattle.yspec.specs.linking.Parts.{defines_node}

pub by_number : (k : Keyword) → slice_get keywords (keyword_number k) ≡ Some k
by_number module_word = refl
by_number yang_version_word = refl
by_number namespace_word = refl
by_number prefix_word = refl
by_number import_word = refl
by_number revision_date_word = refl
by_number organization_word = refl
by_number contact_word = refl
by_number description_word = refl
by_number reference_word = refl
by_number revision_word = refl
by_number extension_word = refl
by_number typedef_word = refl
by_number grouping_word = refl
by_number augment_word = refl
by_number container_word = refl
by_number leaf_word = refl
by_number leaf_list_word = refl
by_number list_word = refl
by_number choice_word = refl
by_number case_word = refl
by_number uses_word = refl
by_number refine_word = refl
by_number type_word = refl
by_number fraction_digits_word = refl
by_number range_word = refl
by_number length_word = refl
by_number enum_word = refl
by_number bit_word = refl
by_number path_word = refl
by_number require_instance_word = refl
by_number error_message_word = refl
by_number error_app_tag_word = refl
by_number value_word = refl
by_number position_word = refl
by_number units_word = refl
by_number default_word = refl
by_number config_word = refl
by_number mandatory_word = refl
by_number presence_word = refl
by_number min_elements_word = refl
by_number max_elements_word = refl
by_number ordered_by_word = refl
by_number status_word = refl
by_number key_word = refl
by_number unique_word = refl
by_number identity_word = refl
by_number base_word = refl

pub same_is : (j k : Keyword) → same_keyword j k ≡ true → j ≡ k
same_is j k same = ap (λ o. unwrap_or o j) (sym (by_number j) ∙ (ap (slice_get keywords) (eqb-true (keyword_number j) (keyword_number k) same) ∙ by_number k))

-- a test that all keywords pass
pub of_each : (test : Keyword → Bool) → list_all test keywords ≡ true → (k : Keyword) → test k ≡ true
of_each test all k = at keywords (keyword_number k) all (by_number k)
  where
    at : (ks : List Keyword) (i : ℕ) → list_all test ks ≡ true → slice_get ks i ≡ Some k → test k ≡ true
    at [] i all is = absurd cc
    at (j ∷ js) zero all is = subst (λ (k : Keyword). test k ≡ true) (ap (λ o. unwrap_or o j) is) (and_parts (test j) (list_all test js) all).0
    at (j ∷ js) (suc i) all is = at js i (and_parts (test j) (list_all test js) all).1 is

pub among : (j k : Keyword) (P : Keyword → Type 0) (others : Bool) → P j → (others ≡ true → P k) → (same_keyword j k || others) ≡ true → P k
among j k P others here rest e = by (same_keyword j k) refl e
  where
    by : (b : Bool) → same_keyword j k ≡ b → (b || others) ≡ true → P k
    by true same e = subst P (same_is j k same) here
    by false same e = rest e

-- ---- those that define schema nodes

abbrev is_one_of_six : Keyword → Bool
is_one_of_six k = same_keyword container_word k || (same_keyword leaf_word k || (same_keyword leaf_list_word k || (same_keyword list_word k
    || (same_keyword choice_word k || (same_keyword case_word k || false)))))

six : (k : Keyword) → defines_node k ≡ true → is_one_of_six k ≡ true
six k defines = by (defines_node k) (is_one_of_six k) defines (of_each (λ k. not (defines_node k) || is_one_of_six k) refl k)
  where
    by : (a b : Bool) → a ≡ true → (not a || b) ≡ true → b ≡ true
    by true b is e = e
    by false b is e = absurd cc

pub by_definition : (k : Keyword) (P : Keyword → Type 0) → P container_word → P leaf_word → P leaf_list_word → P list_word → P choice_word → P case_word
    → defines_node k ≡ true → P k
by_definition k P of_container of_leaf of_leaf_list of_list of_choice of_case defines =
    among container_word k P _ of_container
    (among leaf_word k P _ of_leaf
    (among leaf_list_word k P _ of_leaf_list
    (among list_word k P _ of_list
    (among choice_word k P _ of_choice
    (among case_word k P false of_case (λ none. absurd cc)))))) (six k defines)

pub named_by_identifier : (k : Keyword) → defines_node k ≡ true → (rule_of k).form ≡ identifier_form
named_by_identifier k defines = by_definition k (λ k. (rule_of k).form ≡ identifier_form) refl refl refl refl refl refl defines

-- ---- their texts

find_holds : {A : Type 0} (test : A → Bool) (xs : List A) (x : A) → find test xs ≡ Some x → test x ≡ true
find_holds test [] x e = absurd cc
find_holds test (y ∷ ys) x e = by (test y) refl e (find_holds test ys x)
  where
    by : (b : Bool) → test y ≡ b → cond b (Some y) (find test ys) ≡ Some x → (find test ys ≡ Some x → test x ≡ true) → test x ≡ true
    by true is e rest = subst (λ z. test z ≡ true) (ap (λ o. unwrap_or o y) e) is
    by false is e rest = rest e

text_is : (t : Text) (k : Keyword) → keyword_named t ≡ Some k → t ≡ keyword_text k
text_is t k named = (bytes_eq-Decides t (keyword_text k)).0 (find_holds (λ k. is_text t (keyword_text k)) keywords k named)

-- no keyword of the table has a prefix
pub prefixed_is_none : (t : Text) → is_prefixed t ≡ true → keyword_named t ≡ None
prefixed_is_none t prefixed = by (keyword_named t) refl
  where
    by : (o : Option Keyword) → keyword_named t ≡ o → o ≡ None
    by None is = refl
    by (Some k) is =
        let plain : not (is_prefixed (keyword_text k)) ≡ true = of_each (λ k. not (is_prefixed (keyword_text k))) refl k in
        let same : is_prefixed (keyword_text k) ≡ true = sym (ap is_prefixed (text_is t k is)) ∙ prefixed in
        absurd (let no : false ≡ true = sym (ap not same) ∙ plain in cc)
