-- What tables say of the groupings that statements use.
use Rattle.std.specs.Prelude.{ℕ, ◌++◌, ◌==◌, Bool, true, false, List, [], ◌∷◌, find, Option, Some, None, option_and_then, slice_get, if◌then◌else◌}
use Rattle.std.specs.Option.{option_map_or}
use Rattle.yspec.specs.Forest.{Forest, end, node}
use Rattle.yspec.specs.linking.Keyword.{uses_word}
use Rattle.yspec.specs.linking.Source.{Source, is_source_of}
use Rattle.yspec.specs.linking.DerivedTypes.{number_named}
use Rattle.yspec.specs.linking.Expansion.{all_refine_breaks}
use Rattle.yspec.specs.schema.Breaks.{Break, broken}
use Rattle.yspec_wide.specs.Language.{Language}
use Rattle.yspec_wide.specs.NodeCounts.{GroupingRow, grouping_rows}
use Rattle.yspec_wide.specs.Sources.{is_augment_in}
use Rattle.ylink_grammar.specs.BreakView.{seen}
use Rattle.ylink_grammar.specs.declared.fault.BrokenRule.{BrokenRule}

abbrev pub many : ℕ
many = 65536

-- what a table of counts holds of the grouping of a number
abbrev pub count_at : List ℕ → ℕ → ℕ
count_at counts number = option_map_or (λ c. c) (slice_get counts number) 0

-- and of that which a statement uses
abbrev pub count_by : List ℕ → Forest Source → Source → ℕ
count_by counts modules s = option_map_or (count_at counts) (number_named modules s.number) 0

-- what a table of refines holds
abbrev pub refine_at : List (Option BrokenRule) → ℕ → Option Break
refine_at refines number = option_and_then seen (slice_get refines number)

abbrev pub refine_by : List (Option BrokenRule) → Forest Source → ℕ → Option Break
refine_by refines modules number = option_and_then (refine_at refines) (number_named modules number)

abbrev pub told_list : Option Break → List Break
told_list None = []
told_list (Some b) = b ∷ []

-- what stands below the grouping of a number
abbrev pub grouping_row : Forest Source → ℕ → Forest Source
grouping_row modules number = option_map_or (λ (g : GroupingRow). g.row) (find (λ (g : GroupingRow). g.number == number) (grouping_rows modules)) end

-- Where no grouping in use has nodes: of the `uses` of a row what is told in what they use, their augments, and their refines; and of the
-- augments of a `uses` what is told in them, and they.
unfoldable pub top_breaks : Language → (ℕ → Option Break) → Bool → Forest Source → List Break
top_breaks language told in_uses end = []
top_breaks language told in_uses (node s below after) = (if in_uses then
    (if is_augment_in language s then top_breaks language told false below ++ broken 14 s.home s.statement.line else [])
    else (if is_source_of uses_word s
    then told_list (told s.number) ++ (top_breaks language told true below ++ all_refine_breaks below) else []))
    ++ top_breaks language told in_uses after
