-- The table of statements: which argument each takes, and which substatements, how many of each (RFC 7950, 7 and 14).
use Rattle.std.specs.Prelude.{List, [], ◌∷◌, ◌++◌}
pub use Rattle.yspec.specs.schema.Breaks.{Count, exactly_one, at_most_one, any_number}
use Rattle.yspec.specs.linking.Keyword.{Keyword, module_word, yang_version_word, namespace_word, prefix_word, import_word, revision_date_word, organization_word, contact_word, description_word, reference_word, revision_word, extension_word, typedef_word, grouping_word, augment_word, container_word, leaf_word, leaf_list_word, list_word, choice_word, case_word, uses_word, refine_word, type_word, fraction_digits_word, range_word, length_word, enum_word, bit_word, path_word, require_instance_word, error_message_word, error_app_tag_word, value_word, position_word, units_word, default_word, config_word, mandatory_word, presence_word, min_elements_word, max_elements_word, ordered_by_word, status_word, key_word, unique_word, identity_word, base_word}
use Rattle.yspec.specs.linking.Arguments.{Form, identifier_form, name_form, date_form, relative_path_form, absolute_path_form, leafref_path_form, key_form, unique_form, flag_form, status_form, ordered_by_form, count_form, max_elements_form, value_form, fraction_digits_form, spans_form, any_form}

pub record Allowed : Type 0 where
  pub keyword : Keyword
  pub count : Count

pub record Rule : Type 0 where
  pub form : Form
  pub substatements : List Allowed

abbrev pub one : Keyword → Allowed
one k = record { keyword = k; count = exactly_one }

abbrev pub perhaps : Keyword → Allowed
perhaps k = record { keyword = k; count = at_most_one }

abbrev pub many : Keyword → Allowed
many k = record { keyword = k; count = any_number }

abbrev pub rule : Form → List Allowed → Rule
rule form substatements = record { form = form; substatements = substatements }

-- ---- substatements that stand together

abbrev pub texts : List Allowed
texts = perhaps description_word ∷ perhaps reference_word ∷ []

abbrev pub doc : List Allowed
doc = perhaps status_word ∷ texts

abbrev pub nodes_without_uses : List Allowed
nodes_without_uses = many container_word ∷ many leaf_word ∷ many leaf_list_word ∷ many list_word ∷ many choice_word ∷ []

abbrev pub nodes : List Allowed
nodes = many uses_word ∷ nodes_without_uses

abbrev pub definitions : List Allowed
definitions = many typedef_word ∷ many grouping_word ∷ []

abbrev pub amounts : List Allowed
amounts = perhaps min_elements_word ∷ perhaps max_elements_word ∷ []

-- ---- the rows

abbrev pub in_module : List Allowed
in_module = one yang_version_word ∷ one namespace_word ∷ one prefix_word ∷ many import_word ∷ perhaps organization_word
    ∷ perhaps contact_word ∷ many revision_word ∷ many extension_word ∷ many augment_word ∷ many identity_word ∷ (texts ++ definitions ++ nodes)

abbrev pub in_import : List Allowed
in_import = one prefix_word ∷ perhaps revision_date_word ∷ texts

abbrev pub in_typedef : List Allowed
in_typedef = one type_word ∷ perhaps units_word ∷ perhaps default_word ∷ doc

abbrev pub in_type : List Allowed
in_type = perhaps fraction_digits_word ∷ perhaps range_word ∷ perhaps length_word ∷ many enum_word ∷ many bit_word
    ∷ perhaps path_word ∷ perhaps require_instance_word ∷ many type_word ∷ many base_word ∷ []

abbrev pub in_range : List Allowed
in_range = perhaps error_message_word ∷ perhaps error_app_tag_word ∷ texts

abbrev pub in_container : List Allowed
in_container = perhaps presence_word ∷ perhaps config_word ∷ (definitions ++ nodes ++ doc)

abbrev pub in_leaf : List Allowed
in_leaf = one type_word ∷ perhaps units_word ∷ perhaps default_word ∷ perhaps config_word ∷ perhaps mandatory_word ∷ doc

abbrev pub in_leaf_list : List Allowed
in_leaf_list = one type_word ∷ perhaps units_word ∷ many default_word ∷ perhaps config_word ∷ perhaps ordered_by_word
    ∷ (amounts ++ doc)

abbrev pub in_list : List Allowed
in_list = perhaps key_word ∷ many unique_word ∷ perhaps config_word ∷ perhaps ordered_by_word
    ∷ (amounts ++ definitions ++ nodes ++ doc)

abbrev pub in_choice : List Allowed
in_choice = perhaps default_word ∷ perhaps config_word ∷ perhaps mandatory_word ∷ many case_word ∷ (nodes_without_uses ++ doc)

abbrev pub in_refine : List Allowed
in_refine = many default_word ∷ perhaps mandatory_word ∷ perhaps presence_word ∷ perhaps config_word ∷ (amounts ++ texts)

abbrev pub rule_of : Keyword → Rule
rule_of module_word = rule identifier_form in_module
rule_of yang_version_word = rule any_form []
rule_of namespace_word = rule any_form []
rule_of prefix_word = rule identifier_form []
rule_of import_word = rule identifier_form in_import
rule_of revision_date_word = rule date_form []
rule_of organization_word = rule any_form []
rule_of contact_word = rule any_form []
rule_of description_word = rule any_form []
rule_of reference_word = rule any_form []
rule_of revision_word = rule date_form texts
rule_of extension_word = rule any_form []
rule_of typedef_word = rule identifier_form in_typedef
rule_of grouping_word = rule identifier_form (definitions ++ nodes ++ doc)
rule_of augment_word = rule absolute_path_form (many case_word ∷ (nodes ++ doc))
rule_of container_word = rule identifier_form in_container
rule_of leaf_word = rule identifier_form in_leaf
rule_of leaf_list_word = rule identifier_form in_leaf_list
rule_of list_word = rule identifier_form in_list
rule_of choice_word = rule identifier_form in_choice
rule_of case_word = rule identifier_form (nodes ++ doc)
rule_of uses_word = rule name_form (many refine_word ∷ doc)
rule_of refine_word = rule relative_path_form in_refine
rule_of type_word = rule name_form in_type
rule_of fraction_digits_word = rule fraction_digits_form []
rule_of range_word = rule spans_form in_range
rule_of length_word = rule spans_form in_range
rule_of enum_word = rule any_form (perhaps value_word ∷ doc)
rule_of bit_word = rule identifier_form (perhaps position_word ∷ doc)
rule_of path_word = rule leafref_path_form []
rule_of require_instance_word = rule flag_form []
rule_of error_message_word = rule any_form []
rule_of error_app_tag_word = rule any_form []
rule_of value_word = rule value_form []
rule_of position_word = rule count_form []
rule_of units_word = rule any_form []
rule_of default_word = rule any_form []
rule_of config_word = rule flag_form []
rule_of mandatory_word = rule flag_form []
rule_of presence_word = rule any_form []
rule_of min_elements_word = rule count_form []
rule_of max_elements_word = rule max_elements_form []
rule_of ordered_by_word = rule ordered_by_form []
rule_of status_word = rule status_form []
rule_of key_word = rule key_form []
rule_of unique_word = rule unique_form []
rule_of identity_word = rule identifier_form (many base_word ∷ doc)
rule_of base_word = rule name_form []
