-- Under the core the rules of the table that are broken, and the statements that are kept, are what they are without a language.
use Rattle.std.proofs.Common.{◌≡◌, ℕ, ◌+◌, ◌++◌, Bool, true, false, not, ◌&&◌, ◌||◌, List, [], ◌∷◌, Option, Some, None, refl, ap, ap₂, ◌∙◌}
use Rattle.std.proofs.Math.Path.{fun_ext}
use Rattle.std.specs.Prelude.{count_by, option_map, option_and_then, if◌then◌else◌}
use Rattle.std.specs.List.{list_any}
use Rattle.std.specs.Option.{option_map_or}
use Rattle.yspec.specs.Forest.{Forest, end, node, row, join, size}
use Rattle.yspec.specs.text.Statement.{Statement}
use Rattle.yspec.specs.schema.Breaks.{Break, broken, when, is_wrong_count}
use Rattle.yspec.specs.linking.Keyword.{Keyword, same_keyword, keyword_named, module_word, extension_word}
use Rattle.yspec.specs.linking.Table as narrow_table
use Rattle.yspec.specs.linking.Table.{rule_of}
use Rattle.yspec.specs.linking.StatementBreaks as narrow
use Rattle.yspec.specs.linking.StatementBreaks.{has_keyword, is_prefixed, row_breaks, breaks_from, statement_phase}
use Rattle.yspec.specs.linking.Source.{unless_extension, kept_keyword, kept_at, kept, numbered, sources_from, sources_of}
use Rattle.yspec_wide.specs.Language.{core, yang_1_1}
use Rattle.yspec_wide.specs.Words.{known, same_word}
use Rattle.yspec_wide.specs.Table.{as_before, allowed_before, row_before, rule_in}
use Rattle.yspec_wide.specs.StatementBreaks.{has_word, occurrences, is_miscounted, own_breaks, is_allowed, known_breaks, named_breaks, breaks_at, row_breaks_in, top_breaks, breaks_in_from, statement_phase_in}
use Rattle.yspec_wide.specs.Sources.{keyword_kept, kept_keyword_in, is_derived_type, restricts_below, kept_in, sources_in_from, sources_in}

-- ---- keywords and counts

found_alike : (k : Keyword) (found : Option Keyword)
    → option_map_or (same_word (known k)) (option_map known found) false ≡ option_map_or (same_keyword k) found false
found_alike k None = refl
found_alike k (Some j) = refl

has_alike : (k : Keyword) → has_word core (known k) ≡ has_keyword k
has_alike k = fun_ext (λ s. found_alike k (keyword_named s.keyword))

occur_alike : (k : Keyword) (f : Forest Statement) → occurrences core (known k) f ≡ narrow.occurrences k f
occur_alike k f = ap (λ test. count_by test (row f)) (has_alike k)

miscounted_alike : (below : Forest Statement) (a : narrow_table.Allowed)
    → is_miscounted core below (allowed_before a) ≡ narrow.is_miscounted below a
miscounted_alike below a =
    ap (λ n. is_wrong_count a.count n && not (narrow.is_missing_version a.keyword n)) (occur_alike a.keyword below)

any_alike : (below : Forest Statement) (rows : List narrow_table.Allowed)
    → list_any (is_miscounted core below) (row_before rows) ≡ list_any (narrow.is_miscounted below) rows
any_alike below [] = refl
any_alike below (a ∷ rows) = ap₂ (λ b c. b || c) (miscounted_alike below a) (any_alike below rows)

allowed_alike : (k : Keyword) (rows : List narrow_table.Allowed) → is_allowed (known k) (row_before rows) ≡ narrow.is_allowed k rows
allowed_alike k [] = refl
allowed_alike k (a ∷ rows) = ap (λ c. same_keyword a.keyword k || c) (allowed_alike k rows)

-- ---- a statement where it stands

own_alike : (m : ℕ) (k : Keyword) (s : Statement) (below : Forest Statement)
    → own_breaks core yang_1_1 m (as_before (rule_of k).form) (known k) s below ≡ narrow.own_breaks m k s below
own_alike m k s below = ap (λ b. narrow.argument_breaks m (rule_of k).form s ++ (narrow.type_breaks m k s
    ++ (narrow.version_breaks m k s below ++ when b (broken 2 m s.line)))) (any_alike below (rule_of k).substatements)

known_alike : (m : ℕ) (rows : List narrow_table.Allowed) (k : Keyword) (s : Statement) (below : Forest Statement) (inner : List Break)
    → known_breaks core yang_1_1 m (row_before rows) (known k) s below inner ≡ narrow.known_breaks m rows k s below inner
known_alike m rows k s below inner = ap₂ (λ b found. if not b then broken 1 m s.line
    else (if same_keyword k extension_word then [] else found ++ inner)) (allowed_alike k rows) (own_alike m k s below)

named_alike : (m : ℕ) (rows : List narrow_table.Allowed) (found : Option Keyword) (s : Statement) (below : Forest Statement) (inner : List Break)
    → named_breaks core yang_1_1 m (row_before rows) (option_map known found) s below inner ≡ narrow.named_breaks m rows found s below inner
named_alike m rows None s below inner = refl
named_alike m rows (Some k) s below inner = known_alike m rows k s below inner

at_alike : (m : ℕ) (rows : List narrow_table.Allowed) (s : Statement) (below : Forest Statement) (inner : List Break)
    → breaks_at core yang_1_1 m (row_before rows) s below inner ≡ narrow.breaks_at m rows s below inner
at_alike m rows s below inner =
    ap (λ told. if is_prefixed s.keyword then [] else told) (named_alike m rows (keyword_named s.keyword) s below inner)

below_alike : (found : Option Keyword) → option_map_or (λ w. (rule_in core yang_1_1 w).substatements) (option_map known found) []
    ≡ row_before (option_map_or (λ k. (rule_of k).substatements) found [])
below_alike None = refl
below_alike (Some k) = refl

-- ---- a row of statements

row_alike : (m : ℕ) (rows : List narrow_table.Allowed) (f : Forest Statement)
    → row_breaks_in core yang_1_1 m (row_before rows) f ≡ row_breaks m rows f
unfolding row_breaks_in row_breaks
row_alike m rows end = refl
row_alike m rows (node s below after) = ap₂ (λ here others. here ++ others)
    (ap (breaks_at core yang_1_1 m (row_before rows) s below)
    (ap (λ allowed. row_breaks_in core yang_1_1 m allowed below) (below_alike (keyword_named s.keyword))
    ∙ row_alike m (narrow.substatements_of s.keyword) below)
    ∙ at_alike m rows s below (row_breaks m (narrow.substatements_of s.keyword) below))
    (row_alike m rows after)

pub top_alike : (m : ℕ) (s : Statement) (below : Forest Statement) → top_breaks core m s below ≡ narrow.top_breaks m s below
top_alike m s below = ap₂ (λ b told. if b then told else broken 1 m s.line) (found_alike module_word (keyword_named s.keyword))
    (ap₂ (λ here others. here ++ others) (own_alike m module_word s below) (row_alike m (rule_of module_word).substatements below))

from_alike : (m : ℕ) (f : Forest Statement) → breaks_in_from core m f ≡ breaks_from m f
unfolding breaks_in_from breaks_from
from_alike m end = refl
from_alike m (node s below after) = ap₂ (λ here others. here ++ others) (top_alike m s below) (from_alike (m + 1) after)

pub phase_alike : (modules : Forest Statement) → statement_phase_in core modules ≡ statement_phase modules
phase_alike modules = from_alike 0 modules

-- ---- statements that are kept

keyword_alike : (found : Option Keyword) → option_and_then keyword_kept (option_map known found) ≡ option_and_then unless_extension found
keyword_alike None = refl
keyword_alike (Some k) = refl

-- no names restrict types
none_below : (k : Option Keyword) (s : Statement) → restricts_below false k s ≡ false
none_below None s = refl
none_below (Some k) s = by (is_derived_type k s)
  where
    by : (b : Bool) → (b && false) ≡ false
    by true = refl
    by false = refl

kept_alike : (f : Forest Statement) → kept_in core false false f ≡ kept f
unfolding kept_in kept
kept_alike end = refl
kept_alike (node s below after) =
    ap (λ b. kept_at (kept_keyword_in core false s) s (kept_in core false b below) (kept_in core false false after)) (none_below (kept_keyword_in core false s) s)
    ∙ (ap (λ k. kept_at k s (kept_in core false false below) (kept_in core false false after)) (keyword_alike (keyword_named s.keyword))
    ∙ ap₂ (λ f g. kept_at (kept_keyword s) s f g) (kept_alike below) (kept_alike after))

sources_alike : (home number : ℕ) (f : Forest Statement) → sources_in_from core home number f ≡ sources_from home number f
unfolding sources_in_from sources_from
sources_alike home number end = refl
sources_alike home number (node s below after) =
    ap (λ rows. join (numbered false home number rows) (sources_in_from core (home + 1) (number + size rows) after)) (kept_alike (node s below end))
    ∙ ap (join (numbered false home number (kept (node s below end))))
    (sources_alike (home + 1) (number + size (kept (node s below end))) after)

pub kept_of_all_alike : (modules : Forest Statement) → sources_in core modules ≡ sources_of modules
kept_of_all_alike modules = sources_alike 0 0 modules
