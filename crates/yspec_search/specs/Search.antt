-- Modules that are imported and not named: in which files they are looked for, and what is found (RFC 7950, 5.1.1, 5.2 and 5.6.5).
-- The code reads a file a question, so the definition goes by the answers, in order.
use Rattle.std.specs.Prelude.{ℕ, zero, suc, ◌++◌, ◌==◌, ◌&&◌, ◌||◌, Bool, true, false, not, List, [], ◌∷◌, map, filter, find, position, take, codes, Option, Some, None, option_map, unwrap_or, Result, Ok, Err, is_err, if◌then◌else◌}
use Rattle.std.specs.List.{flat_map, list_any, slice_split}
use Rattle.std.specs.Option.{option_map_or}
use Rattle.yspec.specs.Forest.{Forest, end, node, row}
use Rattle.yspec.specs.text.Text.{Text, is_text, is_identifier, colon, slash}
use Rattle.yspec.specs.text.Statement.{Statement, Slip}
use Rattle.yspec.specs.linking.Arguments.{looks_like}
use Rattle.yspec.specs.linking.Imports.{newest_from}
use Rattle.yspec_wide.specs.Language.{Language}
use Rattle.yspec_wide.specs.Texts.{module_in}

-- ---- statements

abbrev pub is_word : Text → Statement → Bool
is_word word s = is_text s.keyword word

abbrev pub argument_of : Statement → Text
argument_of s = unwrap_or s.argument []

-- the argument of the first of a row with a keyword
abbrev pub argument_below : Text → Forest Statement → Option Text
argument_below word below = option_map argument_of (find (is_word word) (row below))

abbrev pub has_word : Text → Forest Statement → Bool
has_word word below = list_any (is_word word) (row below)

-- ---- what a module imports

-- what an import asks for: the module of a name, of a revision where it says one
pub record Wanted : Type 0 where
  pub name : Text
  pub date : Option Text
  -- an augment of the importing module names it in its target, so it is implemented (RFC 7950, 5.6.5)
  pub is_augmented : Bool

-- the prefixes of the steps of a target
abbrev pub is_slash : ℕ → Bool
is_slash x = x == slash

abbrev pub is_colon : ℕ → Bool
is_colon x = x == colon

abbrev pub prefix_of_step : Text → List Text
prefix_of_step step = option_map_or (λ n. take n step ∷ []) (position is_colon step) []

abbrev pub prefixes_of : List Text → List Text
prefixes_of steps = flat_map prefix_of_step steps

abbrev pub prefixes_in : Text → List Text
prefixes_in target = prefixes_of (slice_split is_slash target)

abbrev pub augmented_by : Statement → List Text
augmented_by s = if is_word (codes "augment") s then prefixes_in (argument_of s) else []

-- those that the targets of a module's augments name, by the statements right below `module`
abbrev pub augmented_in : Forest Statement → List Text
augmented_in end = []
augmented_in (node s below after) = augmented_by s ++ augmented_in after

abbrev pub is_date : Text → Bool
is_date t = looks_like (codes "dddd-dd-dd") t

abbrev pub is_date_or_none : Option Text → Bool
is_date_or_none date = option_map_or is_date date true

-- where these are no name and no date, the import is refused whatever is found
abbrev pub asked_by : Text → Option Text → Bool → Option Wanted
asked_by name date is_augmented =
    if is_identifier name && is_date_or_none date then Some (record { name = name; date = date; is_augmented = is_augmented }) else None

abbrev pub is_prefix_among : List Text → Option Text → Bool
is_prefix_among prefixes prefix = option_map_or (λ p. list_any (λ other. is_text other p) prefixes) prefix false

abbrev pub wanted_by : List Text → Statement → Forest Statement → Option Wanted
wanted_by prefixes s below = if is_word (codes "import") s
    then asked_by (argument_of s) (argument_below (codes "revision-date") below) (is_prefix_among prefixes (argument_below (codes "prefix") below))
    else None

abbrev pub listed : {A : Type 0} → Option A → List A
listed None = []
listed (Some x) = x ∷ []

-- by the statements right below a `module`, of whose augments the targets name these prefixes
abbrev pub wanted_in : List Text → Forest Statement → List Wanted
wanted_in prefixes end = []
wanted_in prefixes (node s below after) = listed (wanted_by prefixes s below) ++ wanted_in prefixes after

-- ---- whether a file has what is wanted

-- data definition statements (RFC 7950, 3)
abbrev pub data_words : List Text
data_words = codes "container" ∷ codes "leaf" ∷ codes "leaf-list" ∷ codes "list" ∷ codes "choice" ∷ codes "case" ∷ codes "augment"
    ∷ codes "uses" ∷ codes "anydata" ∷ codes "anyxml" ∷ []

abbrev pub defines_data : Statement → Bool
defines_data s = list_any (is_text s.keyword) data_words

-- an identity that is derived from another is a value where its module is implemented (RFC 7950, 9.10.2)
abbrev pub derives : Statement → Forest Statement → Bool
derives s below = is_word (codes "identity") s && has_word (codes "base") below

-- whether a module is the same to those that import it, be it implemented or not: it has definitions alone
abbrev pub has_definitions_alone : Forest Statement → Bool
has_definitions_alone end = true
has_definitions_alone (node s below after) = not (defines_data s || derives s below) && has_definitions_alone after

abbrev pub revisions_in : Forest Statement → List Text
revisions_in below = map argument_of (filter (is_word (codes "revision")) (row below))

abbrev pub newest_revision : Forest Statement → Option Text
newest_revision below = newest_from None (revisions_in below)

abbrev pub is_of : Option Text → Forest Statement → Bool
is_of None below = true
is_of (Some date) below = option_map_or (is_text date) (newest_revision below) false

abbrev pub is_module_of : Text → Statement → Bool
is_module_of name s = is_word (codes "module") s && is_text (argument_of s) name

abbrev pub is_wanted : Wanted → Forest Statement → Bool
is_wanted w end = false
is_wanted w (node s below after) = is_module_of w.name s && (is_of w.date below && (w.is_augmented || has_definitions_alone below))

-- a text that is refused is taken too, so that it is told
abbrev pub meets : Wanted → Result (Forest Statement) Slip → Bool
meets w (Err slip) = true
meets w (Ok top) = is_wanted w top

abbrev pub wanted_below : Forest Statement → List Wanted
wanted_below end = []
wanted_below (node s below after) = wanted_in (augmented_in below) below

-- what a text that was read wants
abbrev pub wanted_of : Result (Forest Statement) Slip → List Wanted
wanted_of (Err slip) = []
wanted_of (Ok top) = wanted_below top

abbrev pub name_below : Forest Statement → Text
name_below end = []
name_below (node s below after) = argument_of s

-- the name of its module
abbrev pub name_of : Result (Forest Statement) Slip → Text
name_of (Err slip) = []
name_of (Ok top) = name_below top

-- ---- in which files it is looked for (RFC 7950, 5.2)

abbrev pub plain_file : Text → Text
plain_file name = name ++ codes ".yang"

abbrev pub dated_file : Text → Text → Text
dated_file name date = name ++ (codes "@" ++ (date ++ codes ".yang"))

-- with a date that one first
abbrev pub file_names : Wanted → List Text
file_names w = option_map_or (λ date. dated_file w.name date ∷ []) w.date [] ++ plain_file w.name ∷ []

abbrev pub file_in : Text → Text → Text
file_in folder file = folder ++ (codes "/" ++ file)

-- folder by folder
abbrev pub files_for : List Text → Wanted → List Text
files_for folders w = flat_map (λ folder. map (file_in folder) (file_names w)) folders

-- ---- the search

-- what files answered, in order: contents, or that they couldn't be read
abbrev pub Answers : Type 0
Answers = List (Option (List ℕ))

-- a file, and what it contains
pub record Found : Type 0 where
  pub file : Text
  pub bytes : List ℕ

-- what was found in some files, if anything was, which of them were asked, and the answers behind theirs
pub record Sight : Type 0 where
  pub found : Option Found
  pub asked : List Text
  pub rest : Answers

abbrev pub unseen : Answers → Sight
unseen answers = record { found = None; asked = []; rest = answers }

abbrev pub seen : Text → List ℕ → Answers → Sight
seen file bytes answers = record { found = Some (record { file = file; bytes = bytes }); asked = []; rest = answers }

abbrev pub asking : Text → Sight → Sight
asking file s = record s { asked = file ∷ s.asked }

abbrev pub seen_if : Bool → Text → List ℕ → Answers → Sight → Sight
seen_if true file bytes answers others = seen file bytes answers
seen_if false file bytes answers others = others

-- the first of some files that can be read and has what is wanted; with fewer answers than files, nothing is said
abbrev pub first_that_meets : Language → Wanted → List Text → Answers → Sight
first_that_meets language w [] answers = unseen answers
first_that_meets language w (file ∷ files) [] = unseen []
first_that_meets language w (file ∷ files) (None ∷ answers) = asking file (first_that_meets language w files answers)
first_that_meets language w (file ∷ files) (Some bytes ∷ answers) =
    asking file (seen_if (meets w (module_in language bytes)) file bytes answers (first_that_meets language w files answers))

-- a module whose name is known isn't looked for
abbrev pub sought : Bool → Language → List Text → Wanted → Answers → Sight
sought true language folders w answers = unseen answers
sought false language folders w answers = first_that_meets language w (files_for folders w) answers

-- all that is found, and all files that were asked, in order
pub record Search : Type 0 where
  pub found : List Found
  pub asked : List Text

abbrev pub behind : Sight → Search → Search
behind s others = record { found = listed s.found ++ others.found; asked = s.asked ++ others.asked }

-- what is wanted once a text was found; one that is refused ends the search
abbrev pub unless_refused : Result (Forest Statement) Slip → List Wanted → List Wanted
unless_refused (Err slip) wanted = []
unless_refused (Ok top) wanted = wanted ++ wanted_below top

abbrev pub wanted_behind : Language → Option Found → List Wanted → List Wanted
wanted_behind language None wanted = wanted
wanted_behind language (Some f) wanted = unless_refused (module_in language f.bytes) wanted

-- the names that are known once a module was found
abbrev pub known_behind : Option Found → Text → List Text → List Text
known_behind None name known = known
known_behind (Some f) name known = known ++ name ∷ []

-- Import by import: each that asks for a module whose name isn't known, and then those of what is found. The number says how many
-- imports are looked at.
unfoldable pub search_on : Language → List Text → ℕ → List Wanted → List Text → Answers → Search
search_on language folders zero wanted known answers = record { found = []; asked = [] }
search_on language folders (suc count) [] known answers = record { found = []; asked = [] }
search_on language folders (suc count) (w ∷ wanted) known answers =
    let s = sought (list_any (is_text w.name) known) language folders w answers in
    behind s (search_on language folders count (wanted_behind language s.found wanted) (known_behind s.found w.name known) s.rest)

abbrev pub import_limit : ℕ
import_limit = 1048576

abbrev pub is_refused : Language → List ℕ → Bool
is_refused language t = is_err (module_in language t)

-- what texts import, where none is refused
abbrev pub wanted_of_all : Language → List (List ℕ) → List Wanted
wanted_of_all language texts =
    if list_any (is_refused language) texts then [] else flat_map (λ t. wanted_of (module_in language t)) texts

-- for what they import, in folders
abbrev pub search_for : Language → List Text → List (List ℕ) → Answers → Search
search_for language folders texts answers = search_on language folders import_limit (wanted_of_all language texts)
    (map (λ t. name_of (module_in language t)) texts) answers
