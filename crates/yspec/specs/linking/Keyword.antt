-- The keywords of YANG's statements (RFC 7950, 7 and 14).
use Rattle.std.specs.Prelude.{ℕ, ◌==◌, Bool, List, [], ◌∷◌, codes, Option, find}
use Rattle.yspec.specs.text.Text.{Text, is_text}

pub data Keyword : Type 0 where
  module_word : Keyword
  yang_version_word : Keyword
  namespace_word : Keyword
  prefix_word : Keyword
  import_word : Keyword
  revision_date_word : Keyword
  organization_word : Keyword
  contact_word : Keyword
  description_word : Keyword
  reference_word : Keyword
  revision_word : Keyword
  extension_word : Keyword
  typedef_word : Keyword
  grouping_word : Keyword
  augment_word : Keyword
  container_word : Keyword
  leaf_word : Keyword
  leaf_list_word : Keyword
  list_word : Keyword
  choice_word : Keyword
  case_word : Keyword
  uses_word : Keyword
  refine_word : Keyword
  type_word : Keyword
  fraction_digits_word : Keyword
  range_word : Keyword
  length_word : Keyword
  enum_word : Keyword
  bit_word : Keyword
  path_word : Keyword
  require_instance_word : Keyword
  error_message_word : Keyword
  error_app_tag_word : Keyword
  value_word : Keyword
  position_word : Keyword
  units_word : Keyword
  default_word : Keyword
  config_word : Keyword
  mandatory_word : Keyword
  presence_word : Keyword
  min_elements_word : Keyword
  max_elements_word : Keyword
  ordered_by_word : Keyword
  status_word : Keyword
  key_word : Keyword
  unique_word : Keyword
  identity_word : Keyword
  base_word : Keyword

abbrev pub keyword_text : Keyword → Text
keyword_text module_word = codes "module"
keyword_text yang_version_word = codes "yang-version"
keyword_text namespace_word = codes "namespace"
keyword_text prefix_word = codes "prefix"
keyword_text import_word = codes "import"
keyword_text revision_date_word = codes "revision-date"
keyword_text organization_word = codes "organization"
keyword_text contact_word = codes "contact"
keyword_text description_word = codes "description"
keyword_text reference_word = codes "reference"
keyword_text revision_word = codes "revision"
keyword_text extension_word = codes "extension"
keyword_text typedef_word = codes "typedef"
keyword_text grouping_word = codes "grouping"
keyword_text augment_word = codes "augment"
keyword_text container_word = codes "container"
keyword_text leaf_word = codes "leaf"
keyword_text leaf_list_word = codes "leaf-list"
keyword_text list_word = codes "list"
keyword_text choice_word = codes "choice"
keyword_text case_word = codes "case"
keyword_text uses_word = codes "uses"
keyword_text refine_word = codes "refine"
keyword_text type_word = codes "type"
keyword_text fraction_digits_word = codes "fraction-digits"
keyword_text range_word = codes "range"
keyword_text length_word = codes "length"
keyword_text enum_word = codes "enum"
keyword_text bit_word = codes "bit"
keyword_text path_word = codes "path"
keyword_text require_instance_word = codes "require-instance"
keyword_text error_message_word = codes "error-message"
keyword_text error_app_tag_word = codes "error-app-tag"
keyword_text value_word = codes "value"
keyword_text position_word = codes "position"
keyword_text units_word = codes "units"
keyword_text default_word = codes "default"
keyword_text config_word = codes "config"
keyword_text mandatory_word = codes "mandatory"
keyword_text presence_word = codes "presence"
keyword_text min_elements_word = codes "min-elements"
keyword_text max_elements_word = codes "max-elements"
keyword_text ordered_by_word = codes "ordered-by"
keyword_text status_word = codes "status"
keyword_text key_word = codes "key"
keyword_text unique_word = codes "unique"
keyword_text identity_word = codes "identity"
keyword_text base_word = codes "base"

abbrev pub keyword_number : Keyword → ℕ
keyword_number module_word = 0
keyword_number yang_version_word = 1
keyword_number namespace_word = 2
keyword_number prefix_word = 3
keyword_number import_word = 4
keyword_number revision_date_word = 5
keyword_number organization_word = 6
keyword_number contact_word = 7
keyword_number description_word = 8
keyword_number reference_word = 9
keyword_number revision_word = 10
keyword_number extension_word = 11
keyword_number typedef_word = 12
keyword_number grouping_word = 13
keyword_number augment_word = 14
keyword_number container_word = 15
keyword_number leaf_word = 16
keyword_number leaf_list_word = 17
keyword_number list_word = 18
keyword_number choice_word = 19
keyword_number case_word = 20
keyword_number uses_word = 21
keyword_number refine_word = 22
keyword_number type_word = 23
keyword_number fraction_digits_word = 24
keyword_number range_word = 25
keyword_number length_word = 26
keyword_number enum_word = 27
keyword_number bit_word = 28
keyword_number path_word = 29
keyword_number require_instance_word = 30
keyword_number error_message_word = 31
keyword_number error_app_tag_word = 32
keyword_number value_word = 33
keyword_number position_word = 34
keyword_number units_word = 35
keyword_number default_word = 36
keyword_number config_word = 37
keyword_number mandatory_word = 38
keyword_number presence_word = 39
keyword_number min_elements_word = 40
keyword_number max_elements_word = 41
keyword_number ordered_by_word = 42
keyword_number status_word = 43
keyword_number key_word = 44
keyword_number unique_word = 45
keyword_number identity_word = 46
keyword_number base_word = 47

abbrev pub same_keyword : Keyword → Keyword → Bool
same_keyword a b = keyword_number a == keyword_number b

-- each of them, by number
abbrev pub keywords : List Keyword
keywords = module_word ∷ yang_version_word ∷ namespace_word ∷ prefix_word ∷ import_word ∷ revision_date_word ∷
    organization_word ∷ contact_word ∷ description_word ∷ reference_word ∷ revision_word ∷ extension_word ∷
    typedef_word ∷ grouping_word ∷ augment_word ∷ container_word ∷ leaf_word ∷ leaf_list_word ∷ list_word ∷
    choice_word ∷ case_word ∷ uses_word ∷ refine_word ∷ type_word ∷ fraction_digits_word ∷ range_word ∷
    length_word ∷ enum_word ∷ bit_word ∷ path_word ∷ require_instance_word ∷ error_message_word ∷
    error_app_tag_word ∷ value_word ∷ position_word ∷ units_word ∷ default_word ∷ config_word ∷ mandatory_word ∷
    presence_word ∷ min_elements_word ∷ max_elements_word ∷ ordered_by_word ∷ status_word ∷ key_word ∷ unique_word ∷ identity_word ∷ base_word ∷ []

-- the keyword that a text is, if it is one; a prefixed one is none of these
abbrev pub keyword_named : Text → Option Keyword
keyword_named t = find (λ k. is_text t (keyword_text k)) keywords
