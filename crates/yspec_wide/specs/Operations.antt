-- Actions and notifications that stand where they may not, brought there by a grouping or an augment: C24 (RFC 7950, 7.15 and
-- 7.16).
use Rattle.std.specs.Prelude.{◌&&◌, ◌||◌, Bool, not, List, is_some, option_and_then}
use Rattle.std.specs.Option.{option_map_or}
use Rattle.yspec.specs.linking.Keyword as word
use Rattle.yspec.specs.linking.Planned.{Planned, Plan, node_of, is_a, is_data, stated_in}
use Rattle.yspec.specs.linking.NodeBreaks.{broken_at}
use Rattle.yspec.specs.schema.Breaks.{Break, when}
use Rattle.yspec_wide.specs.Language.{Language}
use Rattle.yspec_wide.specs.Words.{action_word}
use Rattle.yspec_wide.specs.Sources.{is_added, is_operation, is_operation_part}
use Rattle.yspec_wide.specs.Above.{is_under}

module _ (language : Language) where
  abbrev pub is_operation_node : Planned → Bool
  is_operation_node p = is_operation language p.part.source

  -- whether none may stand below a node, however deep: below a part of an operation, and below a list without a key
  abbrev pub bars_operations : Planned → Bool
  bars_operations p = is_operation_part language p.part.source || (is_a word.list_word p && not (is_some (stated_in word.key_word p)))

  -- nor right below a choice or a case
  abbrev pub is_barred_by : Plan → Planned → Bool
  is_barred_by plan above = not (is_data above) || is_under plan bars_operations above

  -- An action stands not at the top either.
  abbrev pub is_misplaced : Plan → Planned → Bool
  is_misplaced plan p =
      option_map_or (is_barred_by plan) (option_and_then (node_of plan) p.parent) (is_added language action_word p.part.source)

  abbrev pub place_breaks : Plan → Planned → List Break
  place_breaks plan p = when (is_operation_node p && is_misplaced plan p) (broken_at 24 p)

  -- whether a node is an operation, or stands below one
  abbrev pub is_in_operation : Plan → Planned → Bool
  is_in_operation plan p = is_under plan is_operation_node p
