-- The rules of the table that statements break: C1 to C4.
use Rattle.std.specs.Prelude.{ℕ, ◌+◌, ◌==◌, ◌&&◌, Bool, false, not, List, [], ◌∷◌, ◌++◌, codes, position, Option, Some, None, is_some, if◌then◌else◌, count_by}
use Rattle.std.specs.List.{list_any}
use Rattle.std.specs.Option.{option_map_or}
use Rattle.yspec.specs.Forest.{Forest, end, node, row}
use Rattle.yspec.specs.text.Text.{Text, is_text, colon}
use Rattle.yspec.specs.text.Statement.{Statement}
use Rattle.yspec.specs.schema.Breaks.{Break, broken, when, is_wrong_count}
use Rattle.yspec.specs.linking.Keyword.{Keyword, same_keyword, keyword_named, module_word, yang_version_word, extension_word, type_word}
use Rattle.yspec.specs.linking.Arguments.{Form, fits}
use Rattle.yspec.specs.linking.Table.{Allowed, rule_of}

-- ---- statements that are passed over

-- A prefixed keyword is that of an extension (RFC 7950, 7.19); it is passed over with all below it.
abbrev pub is_prefixed : Text → Bool
is_prefixed keyword = is_some (position (λ x. x == colon) keyword)

abbrev pub has_keyword : Keyword → Statement → Bool
has_keyword k s = option_map_or (same_keyword k) (keyword_named s.keyword) false

-- ---- what a statement breaks by itself

-- an argument that is missing or not of its form
abbrev pub argument_breaks : ℕ → Form → Statement → List Break
argument_breaks m form s = when (not (option_map_or (fits form) s.argument false)) (broken 3 m s.line)

-- built-in types that aren't compiled (RFC 7950, 9.8 and 9.13)
abbrev pub types_outside : List Text
types_outside = codes "binary" ∷ codes "instance-identifier" ∷ []

abbrev pub is_type_outside : Text → Bool
is_type_outside t = list_any (is_text t) types_outside

abbrev pub type_breaks : ℕ → Keyword → Statement → List Break
type_breaks m k s =
    when (same_keyword k type_word && option_map_or is_type_outside s.argument false) (broken 1 m s.line)

-- `yang-version` missing, or not `1.1` (RFC 7950, 7.1.2)
abbrev pub is_current_version : Statement → Bool
is_current_version s = has_keyword yang_version_word s && option_map_or (λ t. is_text t (codes "1.1")) s.argument false

abbrev pub version_breaks : ℕ → Keyword → Statement → Forest Statement → List Break
version_breaks m k s below =
    when (same_keyword k module_word && not (list_any is_current_version (row below))) (broken 4 m s.line)

-- ---- how many there are of each substatement

abbrev pub occurrences : Keyword → Forest Statement → ℕ
occurrences k statements = count_by (has_keyword k) (row statements)

-- a missing `yang-version` is told by its own code
abbrev pub is_missing_version : Keyword → ℕ → Bool
is_missing_version k n = same_keyword k yang_version_word && n == 0

abbrev pub is_miscounted : Forest Statement → Allowed → Bool
is_miscounted below a = let n = occurrences a.keyword below in
    is_wrong_count a.count n && not (is_missing_version a.keyword n)

abbrev pub count_breaks : ℕ → Statement → Forest Statement → List Allowed → List Break
count_breaks m s below allowed = when (list_any (is_miscounted below) allowed) (broken 2 m s.line)

-- ---- statements where they stand

abbrev pub own_breaks : ℕ → Keyword → Statement → Forest Statement → List Break
own_breaks m k s below = argument_breaks m (rule_of k).form s ++ (type_breaks m k s
    ++ (version_breaks m k s below ++ count_breaks m s below (rule_of k).substatements))

abbrev pub is_allowed : Keyword → List Allowed → Bool
is_allowed k allowed = list_any (λ a. same_keyword a.keyword k) allowed

-- An `extension` that may stand there is passed over as well. `inner` are the rules broken below.
abbrev pub known_breaks : ℕ → List Allowed → Keyword → Statement → Forest Statement → List Break → List Break
known_breaks m allowed k s below inner = if not (is_allowed k allowed) then broken 1 m s.line
    else (if same_keyword k extension_word then [] else own_breaks m k s below ++ inner)

abbrev pub named_breaks : ℕ → List Allowed → Option Keyword → Statement → Forest Statement → List Break → List Break
named_breaks m allowed None s below inner = broken 1 m s.line
named_breaks m allowed (Some k) s below inner = known_breaks m allowed k s below inner

-- Nothing below a misplaced or unknown statement is judged.
abbrev pub breaks_at : ℕ → List Allowed → Statement → Forest Statement → List Break → List Break
breaks_at m allowed s below inner = if is_prefixed s.keyword then []
    else named_breaks m allowed (keyword_named s.keyword) s below inner

abbrev pub substatements_of : Text → List Allowed
substatements_of keyword = option_map_or (λ k. (rule_of k).substatements) (keyword_named keyword) []

unfoldable pub row_breaks : ℕ → List Allowed → Forest Statement → List Break
row_breaks m allowed end = []
row_breaks m allowed (node s below after) =
    breaks_at m allowed s below (row_breaks m (substatements_of s.keyword) below) ++ row_breaks m allowed after

-- a top statement is `module`, and none is passed over
abbrev pub top_breaks : ℕ → Statement → Forest Statement → List Break
top_breaks m s below = if has_keyword module_word s
    then own_breaks m module_word s below ++ row_breaks m (rule_of module_word).substatements below
    else broken 1 m s.line

-- the rules that a row of top statements breaks, numbered from a module on
unfoldable pub breaks_from : ℕ → Forest Statement → List Break
breaks_from m end = []
breaks_from m (node s below after) = top_breaks m s below ++ breaks_from (m + 1) after

-- the rules of the table that a set of modules breaks
abbrev pub statement_phase : Forest Statement → List Break
statement_phase modules = breaks_from 0 modules
