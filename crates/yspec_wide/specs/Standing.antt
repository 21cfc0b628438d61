-- The parts that stand, given which features are on: one of whose conditions one doesn't hold is as if it weren't there, with
-- all below it (RFC 7950, 7.20.2). An operation doesn't stand: its nodes are those of no document (7.14 to 7.16).
use Rattle.std.specs.Prelude.{◌==◌, ◌&&◌, Bool, true, false, not, if◌then◌else◌}
use Rattle.std.specs.List.{list_any}
use Rattle.std.specs.Option.{option_map_or}
use Rattle.yspec.specs.Forest.{Forest, end, node, row}
use Rattle.yspec.specs.text.Text.{Text, is_text}
use Rattle.yspec.specs.linking.Keyword as word
use Rattle.yspec.specs.linking.Keyword.{keyword_text}
use Rattle.yspec.specs.linking.Source.{Source, is_source_of, argument_in, argument_with}
use Rattle.yspec.specs.linking.Parts.{Part}
use Rattle.yspec_wide.specs.Language.{Language}
use Rattle.yspec_wide.specs.Sources.{is_operation}
use Rattle.yspec_wide.specs.Features.{stands}

-- a case that isn't written (RFC 7950, 7.9.2)
abbrev pub is_implied_case : Part → Bool
is_implied_case p = is_source_of word.case_word p.source && not (is_text p.source.statement.keyword (keyword_text word.case_word))

abbrev pub is_none : Forest Part → Bool
is_none end = true
is_none (node p below after) = false

-- ---- a default case that doesn't stand is no default

abbrev pub is_case_named : Part → Text → Part → Bool
is_case_named choice name p = p.owner == choice.owner && is_text (argument_in p.source) name

abbrev pub has_case : Part → Text → Forest Part → Bool
has_case choice name cases = list_any (is_case_named choice name) (row cases)

-- whether the default of a choice is among its cases, and not among those that stand
abbrev pub is_default_off : Part → Forest Part → Forest Part → Bool
is_default_off choice cases standing = is_source_of word.choice_word choice.source
    && option_map_or (λ name. has_case choice name cases && not (has_case choice name standing)) (argument_with word.default_word choice.own) false

abbrev pub without_default : Forest Source → Forest Source
without_default end = end
without_default (node s below after) =
    if is_source_of word.default_word s then without_default after else node s below (without_default after)

abbrev pub with_default_on : Part → Forest Part → Forest Part → Part
with_default_on p cases standing =
    if is_default_off p cases standing then record p { own = without_default p.own } else p

-- ---- the cut

-- whether nothing of a row is left
abbrev pub is_all_cut : Forest Part → Forest Part → Bool
is_all_cut below standing = is_none standing && not (is_none below)

-- An implied case goes with its node.
abbrev pub left_with : Part → Forest Part → Forest Part → Forest Part → Forest Part
left_with p below standing after = if is_implied_case p && is_all_cut below standing then after
    else node (with_default_on p below standing) standing after

module _ (test : Part → Bool) where
  -- the parts of a row that pass a test, each with those below it that stand
  unfoldable pub standing_by : Forest Part → Forest Part
  standing_by end = end
  standing_by (node p below after) =
      if test p then left_with p below (standing_by below) (standing_by after) else standing_by after

-- whether a part is no operation, and all its conditions hold
abbrev pub is_standing : Language → Forest Source → Part → Bool
is_standing language modules p = not (is_operation language p.source) && stands language modules p.own

-- those of a set of modules
abbrev pub standing : Language → Forest Source → Forest Part → Forest Part
standing language modules parts = standing_by (is_standing language modules) parts

-- ---- where all stand

-- whether all parts of a row pass a test
unfoldable pub all_stand : (Part → Bool) → Forest Part → Bool
all_stand test end = true
all_stand test (node p below after) = test p && (all_stand test below && all_stand test after)
