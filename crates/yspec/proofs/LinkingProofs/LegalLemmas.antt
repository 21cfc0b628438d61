-- The statements of modules that break no rule of the table, as sources: each stands where it may, and has an argument of its form.
use Rattle.std.proofs.Common.{◌≡◌, ℕ, suc, ◌+◌, Bool, true, false, cond, not, List, [], ◌++◌, Option, Some, None, refl, sym, ap, ◌∙◌, subst}
use Rattle.std.specs.Prelude.{option_and_then, unwrap_or, is_some}
use Rattle.std.specs.Option.{option_map_or}
use Rattle.yspec.specs.Forest.{Forest, end, node, join, size}
use Rattle.yspec.specs.text.Text.{Text, is_identifier}
use Rattle.yspec.specs.text.Statement.{Statement}
use Rattle.yspec.specs.schema.Breaks.{Break, broken}
use Rattle.yspec.specs.linking.Keyword.{Keyword, same_keyword, keyword_named, module_word, extension_word}
use Rattle.yspec.specs.linking.Arguments.{Form, identifier_form, fits}
use Rattle.yspec.specs.linking.Table.{Allowed, rule_of}
use Rattle.yspec.specs.linking.Source.{Source, unless_extension, kept_keyword, kept_at, kept, numbered, sources_from, argument_in}
use Rattle.yspec.specs.linking.StatementBreaks.{is_prefixed, argument_breaks, own_breaks, is_allowed, known_breaks, named_breaks, breaks_at, substatements_of, row_breaks, top_breaks, breaks_from}
use Rattle.yspec.proofs.LinkingProofs.BreakLemmas.{none_first, none_second, unbroken}
use Rattle.yspec.proofs.LinkingProofs.KeywordLemmas.{same_is, prefixed_is_none}

pub record IsLegalAt (home : ℕ) (allowed : List Allowed) (s : Source) : Type 0 where
  pub known : is_allowed s.keyword allowed ≡ true
  pub fitting : fits (rule_of s.keyword).form (argument_in s) ≡ true
  pub stands : s.home ≡ home

-- a row of statements of a module, that may stand there
abbrev pub IsLegal : ℕ → List Allowed → Forest Source → Type 0
IsLegal home allowed end = Unit {0}
IsLegal home allowed (node s below after) =
    IsLegalAt home allowed s × IsLegal home (rule_of s.keyword).substatements below × IsLegal home allowed after

turned : (b : Bool) → not b ≡ false → b ≡ true
turned true e = refl
turned false e = absurd cc

argument_fits : (form : Form) (given : Option Text) (other : Text) → option_map_or (fits form) given false ≡ true → fits form (unwrap_or given other) ≡ true
argument_fits form None other e = absurd cc
argument_fits form (Some t) other e = e

fitting_of : (m : ℕ) (k : Keyword) (s : Statement) (below : Forest Statement) → own_breaks m k s below ≡ [] → fits (rule_of k).form (unwrap_or s.argument s.keyword) ≡ true
fitting_of m k s below e =
    let given = option_map_or (fits (rule_of k).form) s.argument false in
    argument_fits (rule_of k).form s.argument s.keyword
    (turned given (unbroken (not given) 3 m s.line (none_first (argument_breaks m (rule_of k).form s) _ e)))

-- a statement of a row with a keyword of the table
legal_known : (m number : ℕ) (allowed : List Allowed) (k : Keyword) (s : Statement) (below : Forest Statement) (inner : List Break) (f g : Forest (Keyword × Statement))
    → known_breaks m allowed k s below inner ≡ []
    → (inner ≡ [] → (n : ℕ) → IsLegal m (rule_of k).substatements (numbered false m n f)) → ((n : ℕ) → IsLegal m allowed (numbered false m n g))
    → IsLegal m allowed (numbered false m number (kept_at (unless_extension k) s f g))
unfolding numbered
legal_known m number allowed k s below inner f g e inside rest = by (is_allowed k allowed) refl (same_keyword k extension_word) e
  where
    by : (a : Bool) → is_allowed k allowed ≡ a → (x : Bool) → cond (not a) (broken 1 m s.line) (cond x [] (own_breaks m k s below ++ inner)) ≡ []
        → IsLegal m allowed (numbered false m number (kept_at (cond x None (Some k)) s f g))
    by false known x e = absurd cc
    by true known true e = rest number
    by true known false e = (
      record { known = known; fitting = fitting_of m k s below (none_first (own_breaks m k s below) inner e); stands = refl },
      inside (none_second (own_breaks m k s below) inner e) (number + 1),
      rest (number + suc (size f)),
    )

legal_named : (m number : ℕ) (allowed : List Allowed) (s : Statement) (below : Forest Statement) (inner : List Break) (f g : Forest (Keyword × Statement))
    (prefixed : Bool) (o : Option Keyword) → (prefixed ≡ true → o ≡ None) → cond prefixed [] (named_breaks m allowed o s below inner) ≡ []
    → (inner ≡ [] → (n : ℕ) → IsLegal m (option_map_or (λ k. (rule_of k).substatements) o []) (numbered false m n f)) → ((n : ℕ) → IsLegal m allowed (numbered false m n g))
    → IsLegal m allowed (numbered false m number (kept_at (option_and_then unless_extension o) s f g))
legal_named m number allowed s below inner f g true None is e inside rest = rest number
legal_named m number allowed s below inner f g true (Some k) is e inside rest = let none = is refl in absurd cc
legal_named m number allowed s below inner f g false None is e inside rest = absurd cc
legal_named m number allowed s below inner f g false (Some k) is e inside rest = legal_known m number allowed k s below inner f g e inside rest

pub legal_from : (m : ℕ) (allowed : List Allowed) (f : Forest Statement) → row_breaks m allowed f ≡ [] → (number : ℕ) → IsLegal m allowed (numbered false m number (kept f))
unfolding row_breaks kept numbered
legal_from m allowed end e number = tt
legal_from m allowed (node s below after) e number =
    let inner = row_breaks m (substatements_of s.keyword) below in
    let this = breaks_at m allowed s below inner in
    legal_named m number allowed s below inner (kept below) (kept after) (is_prefixed s.keyword) (keyword_named s.keyword) (prefixed_is_none s.keyword)
    (none_first this (row_breaks m allowed after) e)
    (λ h. legal_from m (substatements_of s.keyword) below h)
    (legal_from m allowed after (none_second this (row_breaks m allowed after) e))

-- ---- modules

-- `module` statements, numbered from one on; each has an identifier for its argument, and legal substatements
abbrev pub AreModules : ℕ → Forest Source → Type 0
AreModules home end = Unit {0}
AreModules home (node s below after) =
    (is_identifier (argument_in s) ≡ true) × IsLegal home (rule_of module_word).substatements below × AreModules (home + 1) after

pub identifier_fits : (t : Text) → fits identifier_form t ≡ true → is_identifier t ≡ true
identifier_fits t e = by (is_identifier t) e
  where
    by : (b : Bool) → is_some (cond b (Some t) None) ≡ true → b ≡ true
    by true e = refl
    by false e = absurd cc

pub record IsModule (m : ℕ) (s : Statement) (below : Forest Statement) : Type 0 where
  pub keyword : kept_keyword s ≡ Some module_word
  pub own : own_breaks m module_word s below ≡ []
  pub inner : row_breaks m (rule_of module_word).substatements below ≡ []

pub is_module : (m : ℕ) (s : Statement) (below : Forest Statement) → top_breaks m s below ≡ [] → IsModule m s below
is_module m s below e = by (keyword_named s.keyword) refl e
  where
    inner : List Break
    inner = row_breaks m (rule_of module_word).substatements below

    known : (k : Keyword) → keyword_named s.keyword ≡ Some k → (b : Bool) → same_keyword module_word k ≡ b
        → cond b (own_breaks m module_word s below ++ inner) (broken 1 m s.line) ≡ [] → IsModule m s below
    known k is false same e = absurd cc
    known k is true same e = record {
      keyword = ap (λ o. option_and_then unless_extension o) (is ∙ ap Some (sym (same_is module_word k same)));
      own = none_first (own_breaks m module_word s below) inner e;
      inner = none_second (own_breaks m module_word s below) inner e;
    }

    by : (o : Option Keyword) → keyword_named s.keyword ≡ o
        → cond (option_map_or (same_keyword module_word) o false) (own_breaks m module_word s below ++ inner) (broken 1 m s.line) ≡ [] → IsModule m s below
    by None is e = absurd cc
    by (Some k) is e = known k is (same_keyword module_word k) refl e

-- a module is one source, and the others follow
pub sources_first : (home number : ℕ) (s : Statement) (below after : Forest Statement) → kept_keyword s ≡ Some module_word
    → sources_from home number (node s below after)
    ≡ node (record { keyword = module_word; statement = s; number = number; home = home; may_refer = false }) (numbered false home (number + 1) (kept below))
    (sources_from (home + 1) (number + suc (size (kept below) + 0)) after)
unfolding sources_from kept numbered
sources_first home number s below after is =
    ap (λ o. join (numbered false home number (kept_at o s (kept below) end)) (sources_from (home + 1) (number + size (kept_at o s (kept below) end)) after)) is

pub are_modules : (home : ℕ) (modules : Forest Statement) → breaks_from home modules ≡ [] → (number : ℕ) → AreModules home (sources_from home number modules)
unfolding sources_from breaks_from
are_modules home end e number = tt
are_modules home (node s below after) e number =
    let here = is_module home s below (none_first (top_breaks home s below) (breaks_from (home + 1) after) e) in
    subst (AreModules home) (sym (sources_first home number s below after here.keyword)) (
      identifier_fits (unwrap_or s.argument s.keyword) (fitting_of home module_word s below here.own),
      legal_from home (rule_of module_word).substatements below here.inner (number + 1),
      are_modules (home + 1) after (none_second (top_breaks home s below) (breaks_from (home + 1) after) e) _,
    )

-- `module` statements of the modules from one on
abbrev pub AreAt : ℕ → Forest Source → Type 0
AreAt home end = Unit {0}
AreAt home (node s below after) = (s.keyword ≡ module_word) × (s.home ≡ home) × AreAt (home + 1) after

pub are_at : (home : ℕ) (modules : Forest Statement) → breaks_from home modules ≡ [] → (number : ℕ) → AreAt home (sources_from home number modules)
unfolding sources_from breaks_from
are_at home end e number = tt
are_at home (node s below after) e number =
    let here = is_module home s below (none_first (top_breaks home s below) (breaks_from (home + 1) after) e) in
    subst (AreAt home) (sym (sources_first home number s below after here.keyword)) (
      refl,
      refl,
      are_at (home + 1) after (none_second (top_breaks home s below) (breaks_from (home + 1) after) e) _,
    )
