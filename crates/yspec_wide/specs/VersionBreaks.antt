-- Rules behind the table that depend on the version of a statement's own module: C5, C10 to C12, and items that differ
-- (RFC 7950, 7.8.2 and 12; RFC 6020, 7.7, 7.8.2, 9.9 and 9.12).
use Rattle.std.specs.Prelude.{◌&&◌, ◌||◌, Bool, true, false, not, List, [], Option, Some, None, is_some, option_and_then, if◌then◌else◌}
use Rattle.std.specs.List.{flat_map}
use Rattle.std.specs.Option.{option_map_or}
use Rattle.yspec.specs.Forest.{Forest}
use Rattle.yspec.specs.types.Types.{Base, empty_base, Shape, single, YangType}
use Rattle.yspec.specs.linking.Keyword as word
use Rattle.yspec.specs.linking.Source.{Source, is_source_of, argument_in, argument_with, first_with}
use Rattle.yspec.specs.linking.Imports.{module_called}
use Rattle.yspec.specs.linking.Scopes.{Placed, statements_of, statement_at}
use Rattle.yspec.specs.linking.TypeStatements.{Meant, own, of_target, of_union}
use Rattle.yspec.specs.linking.DerivedTypes.{is_member, meant_by}
use Rattle.yspec.specs.linking.Planned.{Planned, Plan, node_of, is_a, meant_in}
use Rattle.yspec.specs.linking.SchemaNodes.{is_key}
use Rattle.yspec.specs.linking.NodeBreaks.{broken_at}
use Rattle.yspec.specs.schema.Breaks.{Break, broken, when}
use Rattle.yspec_wide.specs.Language.{Language, is_yang_1, version_of}
use Rattle.yspec_wide.specs.Sources.{bears_guard}

-- ---- the type `empty`

abbrev pub is_empty_type : YangType → Bool
is_empty_type type = is_none type.requires_instance && is_empty_shape type.shape
  where
    is_none : Option Bool → Bool
    is_none None = true
    is_none (Some required) = false

    is_empty_base : Base → Bool
    is_empty_base empty_base = true
    is_empty_base _ = false

    is_empty_shape : Shape → Bool
    is_empty_shape (single type) = is_empty_base type.base
    is_empty_shape _ = false

abbrev pub is_empty_meant : Meant → Bool
is_empty_meant (own type) = is_empty_type type
is_empty_meant (of_target home steps required) = false
is_empty_meant (of_union members) = false

module _ (language : Language) where
  abbrev pub is_of_yang_1 : Forest Source → Source → Bool
  is_of_yang_1 modules s = is_yang_1 (version_of language modules s.home)

  -- ---- C5: no import by revision from YANG 1 to YANG 1.1

  abbrev pub is_import_of_later : Forest Source → Source → Forest Source → Bool
  is_import_of_later modules s below = is_source_of word.import_word s && (is_of_yang_1 modules s
      && (is_some (argument_with word.revision_date_word below)
      && option_map_or (λ m. not (is_yang_1 (version_of language modules m))) (module_called modules (argument_in s)) false))

  abbrev pub version_import_break : Forest Source → Placed → List Break
  version_import_break modules p =
      when (is_import_of_later modules p.source p.below) (broken 5 p.source.home p.source.statement.line)

  abbrev pub version_import_breaks : Forest Source → List Break
  version_import_breaks modules = flat_map (version_import_break modules) (statements_of modules)

  -- ---- C10: in YANG 1 a leafref always requires its instance, and no member of a union is `empty`

  abbrev pub is_wrong_in_1 : Forest Source → Placed → Bool
  is_wrong_in_1 modules p = is_some (first_with word.require_instance_word p.below)
      || (is_member p.ancestors && option_map_or is_empty_meant (meant_by modules p) false)

  abbrev pub version_type_break : Forest Source → Placed → List Break
  version_type_break modules p =
      when (is_source_of word.type_word p.source && (is_of_yang_1 modules p.source && is_wrong_in_1 modules p))
      (broken 10 p.source.home p.source.statement.line)

  abbrev pub version_type_breaks : Forest Source → List Break
  version_type_breaks modules = flat_map (version_type_break modules) (statements_of modules)

  -- ---- C12: a key leaf bears no guard; in YANG 1 it isn't `empty`

  -- whether the statement itself bears one, those of a `uses` or an `augment` aside
  abbrev pub bears_itself : Plan → Planned → Bool
  bears_itself plan p =
      option_map_or (λ s. bears_guard language s.below) (statement_at plan.modules p.part.source.number) false

  abbrev pub is_unfit_key : Plan → Planned → Bool
  is_unfit_key plan p = is_key plan p && (if is_of_yang_1 plan.modules p.part.source
      then option_map_or is_empty_meant (meant_in plan p) false else bears_itself plan p)

  -- told at its list
  abbrev pub key_break : Plan → Planned → List Break
  key_break plan p = when (is_a word.leaf_word p && is_unfit_key plan p)
      (option_map_or (broken_at 12) (option_and_then (node_of plan) p.parent) [])

  -- ---- items of a leaf-list of YANG 1 differ, those of state too

  abbrev pub has_distinct_items : Plan → Planned → Bool
  has_distinct_items plan p = is_of_yang_1 plan.modules p.part.source || p.config
