-- The rules of the table that statements break, by language and version: C1 to C4.
use Rattle.std.specs.Prelude.{ℕ, ◌+◌, ◌==◌, ◌&&◌, ◌||◌, Bool, false, not, List, [], ◌++◌, codes, Option, Some, None, if◌then◌else◌, count_by}
use Rattle.std.specs.List.{list_any}
use Rattle.std.specs.Option.{option_map_or}
use Rattle.yspec.specs.Forest.{Forest, end, node, row}
use Rattle.yspec.specs.text.Text.{Text, is_text}
use Rattle.yspec.specs.text.Statement.{Statement}
use Rattle.yspec.specs.schema.Breaks.{Break, broken, when, is_wrong_count}
use Rattle.yspec.specs.linking.Keyword.{module_word, yang_version_word, extension_word, type_word, augment_word, refine_word}
use Rattle.yspec.specs.linking.Arguments.{relative_path_form}
use Rattle.yspec.specs.linking.StatementBreaks as narrow
use Rattle.yspec.specs.linking.StatementBreaks.{is_prefixed}
use Rattle.yspec_wide.specs.Language.{Language, core, rfc, YangVersion, yang_1_1, version_below}
use Rattle.yspec_wide.specs.Words.{Word, known, same_word, word_named}
use Rattle.yspec_wide.specs.Table.{WideForm, as_before, fits_in, takes_none, Allowed, rule_in}

-- that in which a module is read: under the core every text is one of YANG 1.1
abbrev pub version_in : Language → Forest Statement → YangVersion
version_in core below = yang_1_1
version_in (rfc wide) below = version_below below

-- ---- what a statement breaks by itself

abbrev pub has_word : Language → Word → Statement → Bool
has_word language w s = option_map_or (same_word w) (word_named language s.keyword) false

-- an argument that is missing or not of its form, or where there should be none
abbrev pub argument_breaks : ℕ → YangVersion → WideForm → Statement → List Break
argument_breaks m version form s = when (not (option_map_or (fits_in version form) s.argument (takes_none form))) (broken 3 m s.line)

-- under the core only YANG 1.1 is read, and it must be said
abbrev pub is_version : Text → Bool
is_version t = is_text t (codes "1") || is_text t (codes "1.1")

abbrev pub is_wrong_version : Word → Statement → Bool
is_wrong_version w s = same_word w (known yang_version_word) && not (option_map_or is_version s.argument false)

-- C4 is told at the module under the core, and else at a `yang-version` that names no version (RFC 7950, 7.1.2).
abbrev pub version_breaks : Language → ℕ → Word → Statement → Forest Statement → List Break
version_breaks core m (known k) s below = narrow.version_breaks m k s below
version_breaks core m w s below = []
version_breaks (rfc wide) m w s below = when (is_wrong_version w s) (broken 4 m s.line)

-- a built-in type that the wide language lacks too (RFC 7950, 9.13)
abbrev pub is_type_outside : Text → Bool
is_type_outside t = is_text t (codes "instance-identifier")

abbrev pub type_breaks : Language → ℕ → Word → Statement → List Break
type_breaks core m (known k) s = narrow.type_breaks m k s
type_breaks core m w s = []
type_breaks (rfc wide) m w s =
    when (same_word w (known type_word) && option_map_or is_type_outside s.argument false) (broken 1 m s.line)

-- ---- how many there are of each substatement

abbrev pub occurrences : Language → Word → Forest Statement → ℕ
occurrences language w statements = count_by (has_word language w) (row statements)

-- a missing `yang-version` is told by its own code
abbrev pub is_missing_version : Word → ℕ → Bool
is_missing_version w n = same_word w (known yang_version_word) && n == 0

abbrev pub is_miscounted : Language → Forest Statement → Allowed → Bool
is_miscounted language below a = let n = occurrences language a.word below in
    is_wrong_count a.count n && not (is_missing_version a.word n)

abbrev pub count_breaks : Language → ℕ → Statement → Forest Statement → List Allowed → List Break
count_breaks language m s below allowed = when (list_any (is_miscounted language below) allowed) (broken 2 m s.line)

-- ---- statements where they stand

abbrev pub own_breaks : Language → YangVersion → ℕ → WideForm → Word → Statement → Forest Statement → List Break
own_breaks language version m form w s below = argument_breaks m version form s ++ (type_breaks language m w s
    ++ (version_breaks language m w s below ++ count_breaks language m s below (rule_in language version w).substatements))

abbrev pub is_allowed : Word → List Allowed → Bool
is_allowed w allowed = list_any (λ a. same_word a.word w) allowed

-- The path of an `augment` below a `uses`, where a `refine` may stand too, is relative as that of a refine (RFC 7950, 7.17).
abbrev pub form_at : Language → List Allowed → Word → WideForm → WideForm
form_at core allowed w form = form
form_at (rfc wide) allowed w form = if same_word w (known augment_word) && is_allowed (known refine_word) allowed
    then as_before relative_path_form else form

-- An `extension` that may stand there is passed over as well. `inner` are the rules broken below.
abbrev pub known_breaks : Language → YangVersion → ℕ → List Allowed → Word → Statement → Forest Statement → List Break → List Break
known_breaks language version m allowed w s below inner = if not (is_allowed w allowed) then broken 1 m s.line
    else (if same_word w (known extension_word) then []
    else own_breaks language version m (form_at language allowed w (rule_in language version w).form) w s below ++ inner)

abbrev pub named_breaks : Language → YangVersion → ℕ → List Allowed → Option Word → Statement → Forest Statement → List Break
    → List Break
named_breaks language version m allowed None s below inner = broken 1 m s.line
named_breaks language version m allowed (Some w) s below inner = known_breaks language version m allowed w s below inner

-- Nothing below a misplaced or unknown statement is judged.
abbrev pub breaks_at : Language → YangVersion → ℕ → List Allowed → Statement → Forest Statement → List Break → List Break
breaks_at language version m allowed s below inner = if is_prefixed s.keyword then []
    else named_breaks language version m allowed (word_named language s.keyword) s below inner

abbrev pub substatements_of : Language → YangVersion → Text → List Allowed
substatements_of language version keyword =
    option_map_or (λ w. (rule_in language version w).substatements) (word_named language keyword) []

unfoldable pub row_breaks_in : Language → YangVersion → ℕ → List Allowed → Forest Statement → List Break
row_breaks_in language version m allowed end = []
row_breaks_in language version m allowed (node s below after) =
    breaks_at language version m allowed s below (row_breaks_in language version m (substatements_of language version s.keyword) below)
    ++ row_breaks_in language version m allowed after

-- a top statement is `module`, and none is passed over
abbrev pub top_breaks : Language → ℕ → Statement → Forest Statement → List Break
top_breaks language m s below = let version = version_in language below in
    if has_word language (known module_word) s
    then own_breaks language version m (rule_in language version (known module_word)).form (known module_word) s below
    ++ row_breaks_in language version m (rule_in language version (known module_word)).substatements below
    else broken 1 m s.line

-- the rules that a row of top statements breaks, numbered from a module on
unfoldable pub breaks_in_from : Language → ℕ → Forest Statement → List Break
breaks_in_from language m end = []
breaks_in_from language m (node s below after) = top_breaks language m s below ++ breaks_in_from language (m + 1) after

-- the rules of the table that a set of modules breaks
abbrev pub statement_phase_in : Language → Forest Statement → List Break
statement_phase_in language modules = breaks_in_from language 0 modules
