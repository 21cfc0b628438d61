-- The statements that linking stands on, with features, conditions, patterns, and names that restrict types among them, and members
-- of unions that may be leafrefs (RFC 7950, 7.20.1, 7.20.2, 7.21.5, 9.4.5, 9.6.4, 9.7.4, 9.12).
use Rattle.std.specs.Prelude.{ℕ, ◌+◌, Bool, false, not, ◌&&◌, ◌||◌, List, Option, Some, None, filter, is_some, option_map, option_and_then, unwrap_or, if◌then◌else◌}
use Rattle.std.specs.List.{list_any}
use Rattle.std.specs.Option.{option_map_or}
use Rattle.yspec.specs.Forest.{Forest, end, node, row, join, size}
use Rattle.yspec.specs.text.Text.{is_text}
use Rattle.yspec.specs.text.Statement.{Statement}
use Rattle.yspec.specs.linking.Keyword.{Keyword, same_keyword, extension_word, type_word, enum_word, bit_word, container_word, leaf_word, augment_word}
use Rattle.yspec.specs.linking.Source.{Source, unless_extension, kept_at, numbered, is_source_of}
use Rattle.yspec.specs.linking.BuiltIns.{built_in_named}
use Rattle.yspec_wide.specs.Language.{Language, core, rfc, is_yang_1, version_below}
use Rattle.yspec_wide.specs.Words.{Word, known, feature_word, if_feature_word, must_word, when_word, rpc_word, action_word, notification_word, input_word, output_word, anydata_word, anyxml_word, word_text, word_named}

-- Those that the core doesn't have are kept as `extension` is named, those that hold nodes as containers, and nodes without a type as
-- leafs; they are told apart by their texts. A `must` that isn't judged says nothing.
abbrev pub keyword_kept : Word → Option Keyword
keyword_kept (known k) = unless_extension k
keyword_kept must_word = None
keyword_kept rpc_word = Some container_word
keyword_kept action_word = Some container_word
keyword_kept notification_word = Some container_word
keyword_kept input_word = Some container_word
keyword_kept output_word = Some container_word
keyword_kept anydata_word = Some leaf_word
keyword_kept anyxml_word = Some leaf_word
keyword_kept _ = Some extension_word

-- An `enum` or a `bit` that restricts a type is kept so as well.
abbrev pub keyword_restricting : Keyword → Keyword
keyword_restricting k = if same_keyword enum_word k || same_keyword bit_word k then extension_word else k

-- of a statement in a row, in which names restrict a type or not
abbrev pub kept_keyword_in : Language → Bool → Statement → Option Keyword
kept_keyword_in language restricting s = let k = option_and_then keyword_kept (word_named language s.keyword) in
    if restricting then option_map keyword_restricting k else k

-- a `type` that isn't built in
abbrev pub is_derived_type : Keyword → Statement → Bool
is_derived_type k s = same_keyword type_word k && not (is_some (built_in_named (unwrap_or s.argument s.keyword)))

-- whether names restrict types in a module, and members of unions may be leafrefs, by what stands below its `module` statement: YANG 1
-- has nothing of it (RFC 6020, 9.6, 9.7 and 9.12)
abbrev pub may_restrict : Language → Forest Statement → Bool
may_restrict core below = false
may_restrict (rfc wide) below = not (is_yang_1 (version_below below))

-- whether they do below a statement, where they do at all
abbrev pub restricts_below : Bool → Option Keyword → Statement → Bool
restricts_below may k s = option_map_or (λ k. is_derived_type k s && may) k false

unfoldable pub kept_in : Language → Bool → Bool → Forest Statement → Forest (Keyword × Statement)
kept_in language may restricting end = end
kept_in language may restricting (node s below after) = let k = kept_keyword_in language restricting s in
    kept_at k s (kept_in language may (restricts_below may k s) below) (kept_in language may restricting after)

-- a `module` with all below it that is kept
abbrev pub module_kept : Language → Statement → Forest Statement → Forest (Keyword × Statement)
module_kept language s below = kept_in language (may_restrict language below) false (node s below end)

-- the top statements of a set, from a module and a number on
unfoldable pub sources_in_from : Language → ℕ → ℕ → Forest Statement → Forest Source
sources_in_from language home number end = end
sources_in_from language home number (node s below after) = let module_row = module_kept language s below in
    join (numbered (may_restrict language below) home number module_row) (sources_in_from language (home + 1) (number + size module_row) after)

abbrev pub sources_in : Language → Forest Statement → Forest Source
sources_in language modules = sources_in_from language 0 0 modules

-- ---- questions

-- whether a statement is one of those that a language has besides the core's
abbrev pub is_added : Language → Word → Source → Bool
is_added core w s = false
is_added (rfc wide) w s = is_text s.statement.keyword (word_text w)

-- whether a statement is an `augment` in a language that has it below a `uses`
abbrev pub is_augment_in : Language → Source → Bool
is_augment_in core s = false
is_augment_in (rfc wide) s = is_source_of augment_word s

module _ (language : Language) where
  abbrev pub is_feature : Source → Bool
  is_feature s = is_added language feature_word s

  abbrev pub is_condition : Source → Bool
  is_condition s = is_added language if_feature_word s

  abbrev pub is_when : Source → Bool
  is_when s = is_added language when_word s

  abbrev pub is_notification : Source → Bool
  is_notification s = is_added language notification_word s

  -- what is called: an `rpc` or an `action`
  abbrev pub is_call : Source → Bool
  is_call s = is_added language rpc_word s || is_added language action_word s

  abbrev pub is_operation : Source → Bool
  is_operation s = is_call s || is_notification s

  abbrev pub is_side : Source → Bool
  is_side s = is_added language input_word s || is_added language output_word s

  -- an operation, or the `input` or the `output` of one
  abbrev pub is_operation_part : Source → Bool
  is_operation_part s = is_operation s || is_side s

  -- a node without a type
  abbrev pub is_anything : Source → Bool
  is_anything s = is_added language anydata_word s || is_added language anyxml_word s

  -- the statements on which it hangs whether a node is there
  abbrev pub is_guard : Source → Bool
  is_guard s = is_condition s || is_when s

  -- the `if-feature` statements of a row
  abbrev pub conditions_in : Forest Source → List Source
  conditions_in below = filter is_condition (row below)

  abbrev pub bears_condition : Forest Source → Bool
  bears_condition below = list_any is_condition (row below)

  abbrev pub bears_when : Forest Source → Bool
  bears_when below = list_any is_when (row below)

  abbrev pub bears_guard : Forest Source → Bool
  bears_guard below = list_any is_guard (row below)

  -- a row of guards alone, and the row without them
  abbrev pub guard_row : Forest Source → Forest Source
  guard_row end = end
  guard_row (node s below after) = if is_guard s then node s below (guard_row after) else guard_row after

  abbrev pub without_guards : Forest Source → Forest Source
  without_guards end = end
  without_guards (node s below after) = if is_guard s then without_guards after else node s below (without_guards after)
