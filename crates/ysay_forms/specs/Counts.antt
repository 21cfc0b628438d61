-- What is said of a statement that has too many or too few substatements of a kind (C2; RFC 7950, 7 and 14).
use Rattle.std.specs.Prelude.{◌++◌, Bool, List, codes, Option, Some, None, if◌then◌else◌}
use Rattle.std.specs.List.{list_any}
use Rattle.yspec.specs.Forest.{Forest, row}
use Rattle.yspec.specs.text.Text.{Text, is_text}
use Rattle.yspec.specs.text.Statement.{Statement}
use Rattle.yspec_wide.specs.Language.{Language}
use Rattle.yspec_wide.specs.Words.{Word, word_text}
use Rattle.yspec_wide.specs.Table.{Allowed}
use Rattle.ylink_grammar.specs.Miscounted.{first_miscounted}

abbrev pub lacking : Text → Text → Text
lacking word other = word ++ (codes " lacks a " ++ (other ++ codes "."))

abbrev pub repeating : Text → Text → Text
repeating word other = word ++ (codes " has more than one " ++ (other ++ codes "."))

abbrev pub has_any : Text → Forest Statement → Bool
has_any other below = list_any (λ s. is_text s.keyword other) (row below)

-- of which there are too many or too few
abbrev pub of_substatement : Text → Forest Statement → Text → Text
of_substatement word below other = if has_any other below then repeating word other else lacking word other

-- of a keyword of which there are too many or too few, if there is one
abbrev pub of_first : Text → Forest Statement → Option Word → Option Text
of_first word below None = None
of_first word below (Some w) = Some (of_substatement word below (word_text w))

-- of what stands below a keyword, by the row of the table
abbrev pub of_row : Language → List Allowed → Text → Forest Statement → Option Text
of_row language allowed word below = of_first word below (first_miscounted language below allowed)
