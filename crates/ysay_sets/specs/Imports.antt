-- What is said of the first import of a line that no module of the set meets (C5; RFC 7950, 5.1.1 and 7.1.5).
use Rattle.std.specs.Prelude.{ℕ, ◌==◌, ◌++◌, ◌&&◌, List, [], ◌∷◌, codes, Option, Some, None, option_and_then, unwrap_or, if◌then◌else◌}
use Rattle.std.specs.List.{flat_map}
use Rattle.std.specs.Option.{option_map_or}
use Rattle.yspec.specs.Forest.{Forest, row}
use Rattle.yspec.specs.text.Text.{Text, is_text}
use Rattle.yspec.specs.text.Statement.{Statement}
use Rattle.yspec.specs.linking.Imports.{newest_from}
use Rattle.ysay_text.specs.Line.{shown}
use Rattle.ysay_text.specs.Near.{nearest}
use Rattle.ysay_names.specs.Rows.{argument_of, arguments_called, below_first, entries, is_word}
use Rattle.ysay_names.specs.Prefixes.{is_among}
use Rattle.ysay_names.specs.Names.{module_named}

-- ---- modules that aren't given

abbrev pub names_of : Forest Statement → List Text
names_of modules = flat_map argument_of (row modules)

abbrev pub absent : Text → Option Text → Text
absent name None = codes "no module called " ++ (shown name ++ codes " is given.")
absent name (Some near) = codes "no module called " ++ (shown name ++ (codes " is given; near it: " ++ (near ++ codes ".")))

-- ---- revisions

-- the date of the newest revision of a module's row
abbrev pub newest : Forest Statement → Option Text
newest body = newest_from None (arguments_called (codes "revision") body)

abbrev pub newest_text : Text → Text → Text
newest_text name date = codes "the newest revision of " ++ (shown name ++ (codes " is " ++ (shown date ++ codes ".")))

abbrev pub unless_wanted : Text → Text → Text → Option Text
unless_wanted name wanted date = if is_text date wanted then None else Some (newest_text name date)

abbrev pub of_date : Text → Text → Option Text → Option Text
of_date name wanted found = option_map_or (unless_wanted name wanted) found (Some (shown name ++ codes " has no revision."))

-- by the dates that an import states
abbrev pub of_dates : Text → Forest Statement → List Text → Option Text
of_dates name body [] = None
of_dates name body (wanted ∷ others) = of_date name wanted (newest body)

-- ---- of a line

abbrev pub of_import : Forest Statement → Forest Statement → Text → Option Text
of_import modules below name = if is_among (names_of modules) name
    then of_dates name (module_named name modules) (arguments_called (codes "revision-date") below)
    else Some (absent name (nearest name (names_of modules)))

abbrev pub of_entry : ℕ → Forest Statement → Statement × Forest Statement → Option Text
of_entry line modules e = if e.0.line == line && is_word (codes "import") e.0 then option_and_then (of_import modules e.1) e.0.argument else None

abbrev pub of_entries : ℕ → Forest Statement → List (Statement × Forest Statement) → Text
of_entries line modules [] = []
of_entries line modules (e ∷ es) = unwrap_or (of_entry line modules e) (of_entries line modules es)

-- what is said of a line of the statements of a module of a set
unfoldable pub of_line : ℕ → Forest Statement → Forest Statement → Text
of_line line modules top = of_entries line modules (entries (below_first top))
