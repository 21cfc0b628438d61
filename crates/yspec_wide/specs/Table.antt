-- The table of statements by language and version (RFC 7950, 7 and 14; RFC 6020, 7 and 12).
use Rattle.std.specs.Prelude.{◌==◌, ◌&&◌, ◌||◌, Bool, true, false, not, List, [], ◌∷◌, ◌++◌, codes, map, filter, is_some, if◌then◌else◌}
use Rattle.yspec.specs.text.Text.{Text, is_text}
use Rattle.yspec.specs.linking.Keyword as keyword
use Rattle.yspec.specs.linking.Keyword.{Keyword}
use Rattle.yspec.specs.linking.Arguments.{Form, identifier_form, any_form, fits}
use Rattle.yspec.specs.linking.Table as narrow
use Rattle.yspec.specs.linking.Table.{Count, at_most_one, any_number, rule_of, in_range, doc, texts, definitions, nodes}
use Rattle.yspec_wide.specs.Language.{Language, core, rfc, YangVersion, yang_1, yang_1_1}
use Rattle.yspec_wide.specs.Words.{Word, known, feature_word, if_feature_word, pattern_word, modifier_word, must_word, when_word, rpc_word, action_word, notification_word, input_word, output_word, anydata_word, anyxml_word, same_word}
use Rattle.yspec_wide.specs.Expressions.{expression_of}

pub record Allowed : Type 0 where
  pub word : Word
  pub count : Count

-- ---- forms

pub data WideForm : Type 0 where
  as_before : Form → WideForm
  -- an identifier that may begin with `xml` in YANG 1 too
  prefix_form : WideForm
  -- an expression of features
  if_feature_form : WideForm
  -- `invert-match`
  modifier_form : WideForm
  -- that there is none
  no_argument : WideForm

pub record Rule : Type 0 where
  pub form : WideForm
  pub substatements : List Allowed

-- `x`, `m`, `l`, in either case (RFC 6020, 12)
abbrev pub begins_xml : Text → Bool
begins_xml (x ∷ m ∷ l ∷ others) = (x == 120 || x == 88) && ((m == 109 || m == 77) && (l == 108 || l == 76))
begins_xml _ = false

-- In YANG 1 no identifier begins with `xml`.
abbrev pub fits_before : YangVersion → Form → Text → Bool
fits_before yang_1 identifier_form t = fits identifier_form t && not (begins_xml t)
fits_before _ form t = fits form t

abbrev pub fits_in : YangVersion → WideForm → Text → Bool
fits_in version (as_before form) t = fits_before version form t
fits_in version prefix_form t = fits identifier_form t
fits_in version if_feature_form t = is_some (expression_of version t)
fits_in version modifier_form t = is_text t (codes "invert-match")
fits_in version no_argument t = false

abbrev pub takes_none : WideForm → Bool
takes_none no_argument = true
takes_none _ = false

-- ---- the core's rows

abbrev pub allowed_before : narrow.Allowed → Allowed
allowed_before a = record { word = known a.keyword; count = a.count }

abbrev pub row_before : List narrow.Allowed → List Allowed
row_before rows = map allowed_before rows

abbrev pub rule_before : narrow.Rule → Rule
rule_before r = record { form = as_before r.form; substatements = row_before r.substatements }

-- ---- what the wide language adds to them, and its own

abbrev pub many : Word → Allowed
many w = record { word = w; count = any_number }

abbrev pub perhaps : Word → Allowed
perhaps w = record { word = w; count = at_most_one }

abbrev pub conditions : List Allowed
conditions = many if_feature_word ∷ []

-- those of nodes with values or with children in documents
abbrev pub constraints : List Allowed
constraints = many if_feature_word ∷ many must_word ∷ []

-- those of nodes below which actions and notifications may stand (RFC 7950, 7.15 and 7.16)
abbrev pub operations : List Allowed
operations = many action_word ∷ many notification_word ∷ []

-- nodes without a type (RFC 7950, 7.10 and 7.11)
abbrev pub anything : List Allowed
anything = many anydata_word ∷ many anyxml_word ∷ []

-- the substatements that a statement of the core may bear besides
abbrev pub added : Keyword → List Allowed
added keyword.module_word = anything ++ (many feature_word ∷ many rpc_word ∷ many notification_word ∷ [])
added keyword.grouping_word = anything ++ operations
added keyword.container_word = anything ++ (constraints ++ operations)
added keyword.leaf_word = constraints
added keyword.leaf_list_word = constraints
added keyword.list_word = anything ++ (constraints ++ operations)
added keyword.choice_word = anything ++ conditions
added keyword.case_word = anything ++ conditions
added keyword.uses_word = conditions ++ (many (known keyword.augment_word) ∷ [])
added keyword.refine_word = constraints
added keyword.augment_word = anything ++ (conditions ++ operations)
added keyword.identity_word = conditions
added keyword.enum_word = conditions
added keyword.bit_word = conditions
added keyword.type_word = many pattern_word ∷ []
added _ = []

-- A `when` may stand, once, wherever it says whether nodes are there (RFC 7950, 7.21.5).
abbrev pub one_when : List Allowed
one_when = record { word = when_word; count = at_most_one } ∷ []

abbrev pub bearing_when : Keyword → List Allowed
bearing_when keyword.container_word = one_when
bearing_when keyword.leaf_word = one_when
bearing_when keyword.leaf_list_word = one_when
bearing_when keyword.list_word = one_when
bearing_when keyword.choice_word = one_when
bearing_when keyword.case_word = one_when
bearing_when keyword.uses_word = one_when
bearing_when keyword.augment_word = one_when
bearing_when _ = []

-- ---- what YANG 1 lacks of YANG 1.1 (RFC 7950, 1.1)

abbrev pub lacks : Keyword → Word → Bool
lacks keyword.import_word (known keyword.description_word) = true
lacks keyword.import_word (known keyword.reference_word) = true
lacks keyword.identity_word if_feature_word = true
lacks keyword.enum_word if_feature_word = true
lacks keyword.bit_word if_feature_word = true
lacks keyword.refine_word if_feature_word = true
lacks keyword.leaf_list_word (known keyword.default_word) = true
lacks keyword.choice_word (known keyword.choice_word) = true
lacks _ action_word = true
lacks _ anydata_word = true
lacks keyword.container_word notification_word = true
lacks keyword.list_word notification_word = true
lacks keyword.grouping_word notification_word = true
lacks keyword.augment_word notification_word = true
lacks _ _ = false

-- of which it has one at most
abbrev pub has_fewer : Keyword → Word → Bool
has_fewer keyword.type_word (known keyword.base_word) = true
has_fewer keyword.identity_word (known keyword.base_word) = true
has_fewer keyword.refine_word (known keyword.default_word) = true
has_fewer _ _ = false

abbrev pub with_fewer : Keyword → Allowed → Allowed
with_fewer k a = if has_fewer k a.word then record { word = a.word; count = at_most_one } else a

abbrev pub of_version : YangVersion → Keyword → List Allowed → List Allowed
of_version yang_1 k rows = map (with_fewer k) (filter (λ a. not (lacks k a.word)) rows)
of_version yang_1_1 k rows = rows

-- ---- `yang-version` may be missing

abbrev pub is_version_row : Allowed → Bool
is_version_row a = same_word a.word (known keyword.yang_version_word)

abbrev pub with_version_free : Allowed → Allowed
with_version_free a = if is_version_row a then record { word = a.word; count = at_most_one } else a

abbrev pub wide_substatements : YangVersion → Keyword → List Allowed
wide_substatements version k =
    bearing_when k ++ of_version version k (map with_version_free (row_before (rule_of k).substatements) ++ added k)

abbrev pub wide_form : Keyword → Form → WideForm
wide_form keyword.prefix_word form = prefix_form
wide_form k form = as_before form

-- YANG 1 has no `modifier` (RFC 7950, 1.1).
abbrev pub in_pattern : YangVersion → List Allowed
in_pattern yang_1 = row_before in_range
in_pattern yang_1_1 = perhaps modifier_word ∷ row_before in_range

-- ---- operations (RFC 7950, 7.14 to 7.16; RFC 6020, 7.13 and 7.14)

-- of an `rpc` and of an `action`
abbrev pub in_call : List Allowed
in_call = perhaps input_word ∷ perhaps output_word ∷ many if_feature_word ∷ row_before (definitions ++ doc)

-- In YANG 1 no `must` stands in them.
abbrev pub bearing_must : YangVersion → List Allowed
bearing_must yang_1 = []
bearing_must yang_1_1 = many must_word ∷ []

-- Of nodes without a type it has `anyxml` alone.
abbrev pub bearing_anything : YangVersion → List Allowed
bearing_anything yang_1 = many anyxml_word ∷ []
bearing_anything yang_1_1 = anything

-- of an `input` and of an `output`
abbrev pub in_side : YangVersion → List Allowed
in_side version = bearing_must version ++ (bearing_anything version ++ row_before (definitions ++ nodes))

abbrev pub in_notification : YangVersion → List Allowed
in_notification version =
    many if_feature_word ∷ (bearing_must version ++ (bearing_anything version ++ row_before (definitions ++ nodes ++ doc)))

-- ---- nodes without a type (RFC 7950, 7.10 and 7.11; RFC 6020, 7.10)

abbrev pub in_anything : List Allowed
in_anything = one_when ++ (constraints ++ row_before (narrow.perhaps keyword.config_word ∷ narrow.perhaps keyword.mandatory_word ∷ doc))

-- ---- the table

abbrev pub wide_rule : YangVersion → Word → Rule
wide_rule version (known k) = record { form = wide_form k (rule_of k).form; substatements = wide_substatements version k }
wide_rule version feature_word =
    record { form = as_before identifier_form; substatements = many if_feature_word ∷ row_before doc }
wide_rule version if_feature_word = record { form = if_feature_form; substatements = [] }
wide_rule version pattern_word = record { form = as_before any_form; substatements = in_pattern version }
wide_rule version modifier_word = record { form = modifier_form; substatements = [] }
wide_rule version must_word = record { form = as_before any_form; substatements = row_before in_range }
wide_rule version when_word = record { form = as_before any_form; substatements = row_before texts }
wide_rule version rpc_word = record { form = as_before identifier_form; substatements = in_call }
wide_rule version action_word = record { form = as_before identifier_form; substatements = in_call }
wide_rule version notification_word = record { form = as_before identifier_form; substatements = in_notification version }
wide_rule version input_word = record { form = no_argument; substatements = in_side version }
wide_rule version output_word = record { form = no_argument; substatements = in_side version }
wide_rule version anydata_word = record { form = as_before identifier_form; substatements = in_anything }
wide_rule version anyxml_word = record { form = as_before identifier_form; substatements = in_anything }

-- nothing is known of a keyword that the core doesn't have
abbrev pub core_rule : Word → Rule
core_rule (known k) = rule_before (rule_of k)
core_rule _ = record { form = as_before any_form; substatements = [] }

abbrev pub rule_in : Language → YangVersion → Word → Rule
rule_in core version w = core_rule w
rule_in (rfc wide) version w = wide_rule version w
