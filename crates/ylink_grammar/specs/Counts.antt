-- How many statements of each keyword there are in a row, and which may stand there.
use Rattle.std.specs.Prelude.{◌≡◌, ℕ, ◌&&◌, ◌||◌, not, Bool, true, false, List, [], ◌∷◌, map, filter, Option, Some, None, if◌then◌else◌, slice_get, unwrap_or}
use Rattle.std.specs.List.{list_any}
use Rattle.std.specs.Option.{option_map_or}
use Rattle.yspec.specs.Forest.{Forest, end, row}
use Rattle.yspec.specs.text.Text.{Text, is_text}
use Rattle.yspec.specs.text.Statement.{Statement}
use Rattle.yspec.specs.schema.Breaks.{is_wrong_count}
use Rattle.yspec.specs.linking.Keyword.{Keyword, keyword_number}
use Rattle.yspec.specs.linking.Keyword.{module_word, type_word}
use Rattle.yspec.specs.linking.Table.{Allowed, rule_of}
use Rattle.yspec.specs.linking.StatementBreaks.{has_keyword, is_current_version, is_miscounted, is_missing_version, occurrences}
use Rattle.yspec.specs.linking.StatementBreaks as narrow
use Rattle.yspec_wide.specs.Language.{Language, core, rfc}
use Rattle.yspec_wide.specs.Words.{Word, known, same_word}
use Rattle.yspec_wide.specs.Table as wide
use Rattle.yspec_wide.specs.StatementBreaks as wide_breaks
use Rattle.yspec_wide.specs.StatementBreaks.{is_allowed, is_wrong_version}

-- the count of a keyword among counts by number
abbrev pub count_at : List ℕ → Keyword → ℕ
count_at counts k = unwrap_or (slice_get counts (keyword_number k)) 0

abbrev pub AreOf : List ℕ → Forest Statement → Type 0
AreOf counts statements = (k : Keyword) → count_at counts k ≡ occurrences k statements

-- whether there are too many or too few of a substatement by some counts
abbrev pub is_miscounted_by : List ℕ → Allowed → Bool
is_miscounted_by counts a = let n = count_at counts a.keyword in is_wrong_count a.count n && not (is_missing_version a.keyword n)

-- ---- few statements

abbrev pub has_word : Text → List Statement → Bool
has_word word = list_any (λ s. is_text word s.keyword)

-- no two have the same keyword
abbrev pub are_apart : List Statement → Bool
are_apart [] = true
are_apart (s ∷ ss) = not (has_word s.keyword ss) && are_apart ss

-- whether a second one passes a test, or a first where one was found
abbrev pub repeats : (Statement → Bool) → Bool → List Statement → Bool
repeats test found [] = false
repeats test found (s ∷ ss) = if test s then found || repeats test true ss else repeats test found ss

-- whether a keyword comes twice
abbrev pub is_repeated : Language → Forest Statement → Word → Bool
is_repeated language statements w = repeats (wide_breaks.has_word language w) false (row statements)

abbrev pub lacks : Forest Statement → Keyword → Bool
lacks statements k = not (list_any (has_keyword k) (row statements))

-- the keywords that may not be missing: those that an empty row misses
abbrev pub needs : List Allowed → List Keyword
needs allowed = map (λ a. a.keyword) (filter (is_miscounted end) allowed)

-- those of a statement, whatever the language
abbrev pub needs_of_word : Word → List Keyword
needs_of_word (known k) = needs (rule_of k).substatements
needs_of_word _ = []

-- ---- which may stand there

-- the keyword, where it may stand there
abbrev pub allowed_word : List wide.Allowed → Option Word → Option Word
allowed_word allowed None = None
allowed_word allowed (Some w) = if is_allowed w allowed then Some w else None

-- ---- what a statement breaks by itself

-- the type of a built-in name that isn't compiled
abbrev pub is_type_outside : Language → Word → Statement → Bool
is_type_outside core w s = same_word w (known type_word) && option_map_or narrow.is_type_outside s.argument false
is_type_outside (rfc wide) w s =
    same_word w (known type_word) && option_map_or wide_breaks.is_type_outside s.argument false

-- Under the core a module without the version that is read, and else a `yang-version` that names none.
abbrev pub is_wrongly_versioned : Language → Word → Statement → Forest Statement → Bool
is_wrongly_versioned core w s below = same_word w (known module_word) && not (list_any is_current_version (row below))
is_wrongly_versioned (rfc wide) w s below = is_wrong_version w s
