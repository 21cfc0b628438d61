-- Texts for the worked examples.
use Rattle.std.specs.Prelude.{ℕ, zero, suc, ◌++◌, Bool, false, true, List, [], ◌∷◌, map, codes, Option, Some, None, if◌then◌else◌}
use Rattle.std.specs.Option.{option_map_or}
use Rattle.yspec.specs.text.Text.{Text, is_text}
use Rattle.yspec_wide.specs.Language.{rfc_with}
use Rattle.yspec_wide.specs.Texts.{module_in}
use Rattle.yspec_search.specs.Search.{Answers, Found, Search, Wanted, meets, search_for, wanted_of}

-- a module of a name with what stands below it
abbrev pub module_text : Text → Text → List ℕ
module_text name below = codes "module " ++ (name ++ (codes " { " ++ (below ++ codes " }")))

-- what a module with this below it imports
abbrev pub imports : Text → List Wanted
imports below = wanted_of (module_in (rfc_with []) (module_text (codes "m") below))

abbrev pub plainly : Text → Wanted
plainly name = record { name = name; date = None; is_augmented = false }

abbrev pub of_date : Text → Text → Wanted
of_date name date = record { name = name; date = Some date; is_augmented = false }

abbrev pub augmented : Text → Wanted
augmented name = record (plainly name) { is_augmented = true }

-- whether a text has module n
abbrev pub has_n : Text → Bool
has_n text = meets (plainly (codes "n")) (module_in (rfc_with []) text)

abbrev pub has_augmented_n : Text → Bool
has_augmented_n text = meets (augmented (codes "n")) (module_in (rfc_with []) text)

abbrev pub has_dated_n : Text → Bool
has_dated_n text = meets (of_date (codes "n") (codes "2020-01-01")) (module_in (rfc_with []) text)

-- the search in folders a and b for what a module m with this below it imports, where files answer so
abbrev pub searched : Text → Answers → Search
searched below answers = search_for (rfc_with []) (codes "a" ∷ codes "b" ∷ []) (module_text (codes "m") below ∷ []) answers

abbrev pub finds : List Found → List Text → Search
finds found asked = record { found = found; asked = asked }

abbrev pub in_file : Text → List ℕ → Found
in_file file bytes = record { file = file; bytes = bytes }

abbrev pub types : List ℕ
types = module_text (codes "n") (codes "typedef t { type string; }")

abbrev pub with_data : List ℕ
with_data = module_text (codes "n") (codes "leaf x { type string; }")

-- one that imports another
abbrev pub chained : List ℕ
chained = module_text (codes "n") (codes "import o { prefix o; }")

abbrev pub last : List ℕ
last = module_text (codes "o") (codes "import m { prefix m; } import n { prefix n; }")

-- one with nodes that are added to another's
abbrev pub augmenting : List ℕ
augmenting = module_text (codes "o") (codes "import p { prefix p; } container c { } augment /p:x { }")

abbrev pub data_of_p : List ℕ
data_of_p = module_text (codes "p") (codes "container x { }")
