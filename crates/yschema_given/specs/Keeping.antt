-- Conditions as statements are kept: with the keyword of `extension` (RFC 7950, 7.20.2).
use Rattle.std.specs.Prelude.{◌==◌, ◌&&◌, ◌||◌, Bool, true, not, List, map}
use Rattle.std.specs.List.{list_all}
use Rattle.yspec.specs.Forest.{Forest, end, node, row}
use Rattle.yspec.specs.linking.Keyword.{Keyword, extension_word}
use Rattle.yspec.specs.linking.Source.{Source, is_source_of}
use Rattle.yspec_wide.specs.Language.{Language}
use Rattle.yspec_wide.specs.Sources.{is_guard, without_guards}
use Rattle.ybase_preorder.specs.declared.slot.Slot.{Slot}
use Rattle.ybase_words.specs.KeywordView.{keyword_view}
use Rattle.ylink_grammar.specs.declared.source.Source as held

abbrev pub is_kept : Source → Bool
is_kept s = is_source_of extension_word s

-- whether a statement is kept so where it is a condition
abbrev pub is_kept_right : Language → Source → Bool
is_kept_right language s = not (is_guard language s) || is_kept s

-- all statements of a row, with all below them
abbrev pub are_kept_right : Language → Forest Source → Bool
are_kept_right language end = true
are_kept_right language (node s below after) =
    is_kept_right language s && (are_kept_right language below && are_kept_right language after)

-- the keywords of those of a row that are no conditions
abbrev pub other_keywords : Language → Forest Source → List Keyword
other_keywords language f = map (λ s. s.keyword) (row (without_guards language f))

-- and of statements as they lie, with nothing below them
abbrev pub leaf_keywords : List (Slot held.Source) → List Keyword
leaf_keywords slots = map (λ r. keyword_view r.label.keyword) slots

abbrev pub are_leaves : List (Slot held.Source) → Bool
are_leaves slots = list_all (λ (r : Slot held.Source). r.below == 0) slots
