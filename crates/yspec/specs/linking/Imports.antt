-- What prefixes are declared to be, and imports: C5, and prefixes that are given twice, C6 (RFC 7950, 5.1, 5.1.1, 7.1.4 and
-- 7.1.5).
use Rattle.std.specs.Prelude.{ℕ, zero, suc, ◌++◌, ◌&&◌, Bool, true, false, not, List, [], ◌∷◌, map, find, Option, Some, None, option_map, unwrap_or, if◌then◌else◌}
use Rattle.std.specs.List.{list_any}
use Rattle.std.specs.Option.{option_map_or}
use Rattle.std.specs.Ordering.{nat_cmp, is_lt}
use Rattle.std.specs.Cmp.Lexicographic.{slice_cmp}
use Rattle.yspec.specs.Forest.{Forest, end, node, row}
use Rattle.yspec.specs.text.Text.{Text, is_text}
use Rattle.yspec.specs.linking.Keyword as word
use Rattle.yspec.specs.linking.Source.{Source, is_source_of, argument_in, argument_with, all_with}
use Rattle.yspec.specs.schema.Breaks.{Break, broken, when}

-- what stands below the `module` statement of a number in the set
abbrev pub body_at : Forest Source → ℕ → Forest Source
body_at end home = end
body_at (node s below after) zero = below
body_at (node s below after) (suc home) = body_at after home

-- the number of the first module of a name
abbrev pub module_called : Forest Source → Text → Option ℕ
module_called modules name = option_map (λ s. s.home) (find (λ s. is_text (argument_in s) name) (row modules))

-- ---- prefixes

-- whether the `prefix` statement of a row, of a module or of an import, gives a prefix
abbrev pub has_prefix : Text → Forest Source → Bool
has_prefix prefix below = option_map_or (is_text prefix) (argument_with word.prefix_word below) false

-- the name of the module that the first import of a row with a prefix brings in
abbrev pub imported_as : Text → Forest Source → Option Text
imported_as prefix end = None
imported_as prefix (node s below after) =
    if is_source_of word.import_word s && has_prefix prefix below then Some (argument_in s) else imported_as prefix after

-- What a module declares a prefix to stand for: the number of the module itself, or of one that it imports, of which the set
-- may have none; nothing where it declares no such prefix.
abbrev pub prefix_declared : Forest Source → ℕ → Text → Option (Option ℕ)
prefix_declared modules home prefix = if has_prefix prefix (body_at modules home) then Some (Some home)
    else option_map (module_called modules) (imported_as prefix (body_at modules home))

-- the number of the module that a prefix names in a module; wherever a prefix stands, it means what is said here
abbrev pub module_meant : Forest Source → ℕ → Text → Option ℕ
module_meant modules home prefix = unwrap_or (prefix_declared modules home prefix) None

-- the `prefix` statements of a module's row: its own, and those of its imports
abbrev pub prefix_statements : Forest Source → List Source
prefix_statements end = []
prefix_statements (node s below after) = (if is_source_of word.prefix_word s then s ∷ []
    else (if is_source_of word.import_word s then all_with word.prefix_word below else [])) ++ prefix_statements after

-- each statement whose argument one before it has, `before` being the arguments so far
abbrev pub repeated : List Text → List Source → List Break
repeated before [] = []
repeated before (s ∷ others) = when (list_any (is_text (argument_in s)) before) (broken 6 s.home s.statement.line)
    ++ repeated (argument_in s ∷ before) others

-- C6: prefixes that a module gives twice
abbrev pub repeated_prefixes : Forest Source → List Break
repeated_prefixes end = []
repeated_prefixes (node s below after) = repeated [] (prefix_statements below) ++ repeated_prefixes after

-- ---- C5: imports of what isn't in the set

-- the later of a date so far and another
abbrev pub later : Option Text → Text → Text
later None date = date
later (Some other) date = if is_lt (slice_cmp nat_cmp other date) then date else other

abbrev pub newest_from : Option Text → List Text → Option Text
newest_from so_far [] = so_far
newest_from so_far (date ∷ dates) = newest_from (Some (later so_far date)) dates

-- the date of the newest revision in a module's row
abbrev pub newest_revision : Forest Source → Option Text
newest_revision body = newest_from None (map argument_in (all_with word.revision_word body))

-- an import that names a date wants the newest revision to be of that date
abbrev pub is_newest : Text → Forest Source → Bool
is_newest date body = option_map_or (is_text date) (newest_revision body) false

abbrev pub is_met_by : Forest Source → Forest Source → ℕ → Bool
is_met_by modules below m =
    option_map_or (λ date. is_newest date (body_at modules m)) (argument_with word.revision_date_word below) true

abbrev pub is_unmet : Forest Source → Source → Forest Source → Bool
is_unmet modules s below = is_source_of word.import_word s
    && not (option_map_or (is_met_by modules below) (module_called modules (argument_in s)) false)

abbrev pub unmet_in : Forest Source → Forest Source → List Break
unmet_in modules end = []
unmet_in modules (node s below after) =
    when (is_unmet modules s below) (broken 5 s.home s.statement.line) ++ unmet_in modules after

abbrev pub unmet_from : Forest Source → Forest Source → List Break
unmet_from modules end = []
unmet_from modules (node s below after) = unmet_in modules below ++ unmet_from modules after

abbrev pub import_breaks : Forest Source → List Break
import_breaks modules = unmet_from modules modules
