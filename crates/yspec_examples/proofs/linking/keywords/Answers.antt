use Rattle.std.proofs.Common.{refl}
use Rattle.std.specs.Prelude.{◌≡◌, Some}
use Rattle.yspec_run.proofs.ProgramLiterals.{yprogram_on_literals}
use Rattle.yspec.specs.linking.Keyword.{Keyword, keyword_named, keyword_text, module_word, yang_version_word, namespace_word, prefix_word, import_word, revision_date_word, organization_word, contact_word, description_word, reference_word, revision_word, extension_word, typedef_word, grouping_word, augment_word, container_word, leaf_word, leaf_list_word, list_word, choice_word, case_word, uses_word, refine_word, type_word, fraction_digits_word, range_word, length_word, enum_word, bit_word, path_word, require_instance_word, error_message_word, error_app_tag_word, value_word, position_word, units_word, default_word, config_word, mandatory_word, presence_word, min_elements_word, max_elements_word, ordered_by_word, status_word, key_word, unique_word, identity_word, base_word}
use Rattle.yspec_examples.proofs.linking.keywords.Goals as goal

named : (k : Keyword) → keyword_named (keyword_text k) ≡ Some k
unfolding yprogram_on_literals
named module_word = refl
named yang_version_word = refl
named namespace_word = refl
named prefix_word = refl
named import_word = refl
named revision_date_word = refl
named organization_word = refl
named contact_word = refl
named description_word = refl
named reference_word = refl
named revision_word = refl
named extension_word = refl
named typedef_word = refl
named grouping_word = refl
named augment_word = refl
named container_word = refl
named leaf_word = refl
named leaf_list_word = refl
named list_word = refl
named choice_word = refl
named case_word = refl
named uses_word = refl
named refine_word = refl
named type_word = refl
named fraction_digits_word = refl
named range_word = refl
named length_word = refl
named enum_word = refl
named bit_word = refl
named path_word = refl
named require_instance_word = refl
named error_message_word = refl
named error_app_tag_word = refl
named value_word = refl
named position_word = refl
named units_word = refl
named default_word = refl
named config_word = refl
named mandatory_word = refl
named presence_word = refl
named min_elements_word = refl
named max_elements_word = refl
named ordered_by_word = refl
named status_word = refl
named key_word = refl
named unique_word = refl
named identity_word = refl
named base_word = refl

pub returns : goal.returns
unfolding yprogram_on_literals
returns c = record { named = named; prefixed = refl; other_case = refl }
