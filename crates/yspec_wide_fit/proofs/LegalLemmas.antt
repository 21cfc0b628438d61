-- The statements of modules that break no rule of the table in a language, as sources: each stands where it may, and what defines a
-- node has an identifier for its argument.
use Rattle.std.proofs.Common.{◌≡◌, ℕ, suc, ◌+◌, Bool, true, false, cond, not, ◌||◌, ◌&&◌, List, [], ◌∷◌, ◌++◌, map, filter, Option, Some, None, refl, sym, ap, ap₂, ◌∙◌, subst}
use Rattle.std.proofs.lemmas.Bool.{and_parts, or_right}
use Rattle.std.proofs.lemmas.List.Folds.{list_any-append}
use Rattle.std.proofs.lemmas.Slice.Eq.{bytes_eq-Decides}
use Rattle.std.specs.Prelude.{option_map, option_and_then, unwrap_or}
use Rattle.std.specs.List.{list_all}
use Rattle.std.specs.Option.{option_map_or}
use Rattle.yspec.specs.Forest.{Forest, end, node, join, size}
use Rattle.yspec.specs.text.Text.{Text, is_text, is_identifier}
use Rattle.yspec.specs.text.Statement.{Statement}
use Rattle.yspec.specs.schema.Breaks.{Break, broken}
use Rattle.yspec.specs.linking.Keyword.{Keyword, same_keyword, keyword_named, keywords, module_word, extension_word, augment_word, uses_word, refine_word, container_word, leaf_word, enum_word, bit_word, value_word, position_word, error_message_word, error_app_tag_word}
use Rattle.yspec.specs.linking.Arguments.{identifier_form, relative_path_form, fits}
use Rattle.yspec.specs.linking.Table as narrow
use Rattle.yspec.specs.linking.Table.{rule_of, doc, in_range, texts}
use Rattle.yspec.specs.linking.Source.{Source, unless_extension, kept_at, numbered, argument_in}
use Rattle.yspec.specs.linking.StatementBreaks as narrow_breaks
use Rattle.yspec.specs.linking.StatementBreaks.{is_prefixed}
use Rattle.yspec.specs.linking.Parts.{defines_node}
use Rattle.yspec.proofs.LinkingProofs.BreakLemmas.{none_first, none_second, unbroken}
use Rattle.yspec.proofs.LinkingProofs.KeywordLemmas.{of_each, same_is, by_definition, prefixed_is_none}
use Rattle.yspec.proofs.LinkingProofs.LegalLemmas.{identifier_fits}
use Rattle.yspec.specs.schema.Schema.{argument_text}
use Rattle.yspec_wide.specs.Language.{Language, Unjudged, core, rfc, YangVersion, yang_1, yang_1_1}
use Rattle.yspec_wide.specs.Words.{Word, known, feature_word, if_feature_word, pattern_word, modifier_word, must_word, when_word, rpc_word, action_word, notification_word, input_word, output_word, anydata_word, anyxml_word, same_word, word_text, or_added, or_unjudged, word_named}
use Rattle.yspec_wide.specs.Table.{WideForm, as_before, no_argument, fits_in, in_call, in_side, in_notification, in_anything, Allowed, row_before, added, bearing_when, lacks, has_fewer, with_fewer, of_version, is_version_row, with_version_free, rule_in}
use Rattle.yspec_wide.specs.StatementBreaks.{version_in, argument_breaks, form_at, own_breaks, is_allowed, known_breaks, named_breaks, breaks_at, substatements_of, row_breaks_in, top_breaks, breaks_in_from}
use Rattle.yspec_wide.specs.Sources.{keyword_kept, keyword_restricting, kept_keyword_in, may_restrict, restricts_below, kept_in, sources_in_from}

-- ---- rows of sources

-- the number of an enum or of a bit
abbrev pub in_name : List narrow.Allowed
in_name = narrow.perhaps value_word ∷ narrow.perhaps position_word ∷ []

-- augments below a `uses`
abbrev pub in_uses : Keyword → List narrow.Allowed
in_uses uses_word = narrow.many augment_word ∷ []
in_uses _ = []

-- what may stand below a keyword, with what documents a feature, what a pattern says of other values, and the number of a name that
-- restricts a type: these are kept as `extension` is named
abbrev pub may_stand : Keyword → List narrow.Allowed
may_stand k = in_uses k ++ (in_name ++ (in_range ++ (doc ++ (rule_of k).substatements)))

pub record IsLegalAt (home : ℕ) (allowed : List narrow.Allowed) (s : Source) : Type 0 where
  pub known : same_keyword extension_word s.keyword ≡ false → narrow_breaks.is_allowed s.keyword allowed ≡ true
  pub named : defines_node s.keyword ≡ true → is_identifier (argument_in s) ≡ true
  pub stands : s.home ≡ home

-- a row of statements of a module, that may stand there
abbrev pub IsLegal : ℕ → List narrow.Allowed → Forest Source → Type 0
IsLegal home allowed end = Unit {0}
IsLegal home allowed (node s below after) = IsLegalAt home allowed s × IsLegal home (may_stand s.keyword) below × IsLegal home allowed after

-- no keyword with a property may stand in a row
abbrev pub has_none : (Keyword → Bool) → List narrow.Allowed → Bool
has_none test allowed = list_all (λ k. not (test k) || not (narrow_breaks.is_allowed k allowed)) keywords

pub none_is : (home : ℕ) (allowed : List narrow.Allowed) (s : Source) (test : Keyword → Bool) → test extension_word ≡ false → has_none test allowed ≡ true
    → IsLegalAt home allowed s → test s.keyword ≡ false
none_is home allowed s test extended none legal = by (same_keyword extension_word s.keyword) refl
  where
    no : (t a : Bool) → a ≡ true → (not t || not a) ≡ true → t ≡ false
    no false a is e = refl
    no true true is e = absurd cc
    no true false is e = absurd cc

    by : (b : Bool) → same_keyword extension_word s.keyword ≡ b → test s.keyword ≡ false
    by true same = ap test (sym (same_is extension_word s.keyword same)) ∙ extended
    by false other = no (test s.keyword) (narrow_breaks.is_allowed s.keyword allowed) (legal.known other)
        (of_each (λ k. not (test k) || not (narrow_breaks.is_allowed k allowed)) none s.keyword)

-- ---- what the table lets stand there

-- the keywords that are kept as others
abbrev is_node : Word → Bool
is_node rpc_word = true
is_node action_word = true
is_node notification_word = true
is_node input_word = true
is_node output_word = true
is_node anydata_word = true
is_node anyxml_word = true
is_node _ = false

-- as which they are
abbrev keyword_for : Word → Keyword
keyword_for anydata_word = leaf_word
keyword_for anyxml_word = leaf_word
keyword_for _ = container_word

-- these stand where those may
abbrev Hosts : List Allowed → List narrow.Allowed → Type 0
Hosts rows allowed = (w : Word) → is_node w ≡ true → is_allowed w rows ≡ true → narrow_breaks.is_allowed (keyword_for w) allowed ≡ true

abbrev CoversCore : List Allowed → List narrow.Allowed → Type 0
CoversCore rows allowed = (k : Keyword) → is_allowed (known k) rows ≡ true → narrow_breaks.is_allowed k allowed ≡ true

abbrev Covers : List Allowed → List narrow.Allowed → Type 0
Covers rows allowed = CoversCore rows allowed × Hosts rows allowed

before_is : (k : Keyword) (rows : List narrow.Allowed) → is_allowed (known k) (row_before rows) ≡ narrow_breaks.is_allowed k rows
before_is k [] = refl
before_is k (a ∷ rows) = ap (λ c. same_keyword a.keyword k || c) (before_is k rows)

-- counts say nothing of where a statement may stand
recounted : (change : Allowed → Allowed) → ((a : Allowed) → (change a).word ≡ a.word) → (w : Word) (rows : List Allowed)
    → is_allowed w (map change rows) ≡ is_allowed w rows
recounted change keeps w [] = refl
recounted change keeps w (a ∷ rows) = ap₂ (λ v c. same_word v w || c) (keeps a) (recounted change keeps w rows)

fewer_word : (k : Keyword) (a : Allowed) → (with_fewer k a).word ≡ a.word
fewer_word k a = by (has_fewer k a.word)
  where
    by : (b : Bool) → (cond b (record { word = a.word; count = narrow.at_most_one }) a).word ≡ a.word
    by true = refl
    by false = refl

free_word : (a : Allowed) → (with_version_free a).word ≡ a.word
free_word a = by (is_version_row a)
  where
    by : (b : Bool) → (cond b (record { word = a.word; count = narrow.at_most_one }) a).word ≡ a.word
    by true = refl
    by false = refl

lacking : (test : Allowed → Bool) (w : Word) (rows : List Allowed) → is_allowed w (filter test rows) ≡ true → is_allowed w rows ≡ true
lacking test w [] e = e
lacking test w (a ∷ rows) e = by (test a) e (lacking test w rows)
  where
    either : (b : Bool) → (is_allowed w (filter test rows) ≡ true → is_allowed w rows ≡ true) → (b || is_allowed w (filter test rows)) ≡ true → (b || is_allowed w rows) ≡ true
    either true rest e = refl
    either false rest e = rest e

    by : (t : Bool) → is_allowed w (cond t (a ∷ filter test rows) (filter test rows)) ≡ true
        → (is_allowed w (filter test rows) ≡ true → is_allowed w rows ≡ true) → (same_word a.word w || is_allowed w rows) ≡ true
    by true e rest = either (same_word a.word w) rest e
    by false e rest = or_right (same_word a.word w) (is_allowed w rows) (rest e)

of_version_is : (version : YangVersion) (k : Keyword) (w : Word) (rows : List Allowed) → is_allowed w (of_version version k rows) ≡ true → is_allowed w rows ≡ true
of_version_is yang_1 k w rows e =
    lacking (λ (a : Allowed). not (lacks k a.word)) w rows (sym (recounted (with_fewer k) (fewer_word k) w (filter (λ (a : Allowed). not (lacks k a.word)) rows)) ∙ e)
of_version_is yang_1_1 k w rows e = e

none_bearing : (k j : Keyword) → is_allowed (known j) (bearing_when k) ≡ false
none_bearing k j = turned (is_allowed (known j) (bearing_when k))
    (of_each (λ j. not (is_allowed (known j) (bearing_when k))) (of_each (λ k. list_all (λ j. not (is_allowed (known j) (bearing_when k))) keywords) refl k) j)
  where
    turned : (b : Bool) → not b ≡ true → b ≡ false
    turned true e = absurd cc
    turned false e = refl

no_first : (a b : Bool) → a ≡ false → (a || b) ≡ true → b ≡ true
no_first true b none e = absurd cc
no_first false b none e = e

or_none : (a b : Bool) → b ≡ false → (a || b) ≡ true → a ≡ true
or_none true b none e = refl
or_none false true none e = absurd cc
or_none false false none e = e

behind : (j : Keyword) (front rows : List narrow.Allowed) → narrow_breaks.is_allowed j rows ≡ true → narrow_breaks.is_allowed j (front ++ rows) ≡ true
behind j front rows e =
    list_any-append (λ (a : narrow.Allowed). same_keyword a.keyword j) front rows
    ∙ or_right (narrow_breaks.is_allowed j front) (narrow_breaks.is_allowed j rows) e

ahead : (j : Keyword) (rows after : List narrow.Allowed) → narrow_breaks.is_allowed j rows ≡ true → narrow_breaks.is_allowed j (rows ++ after) ≡ true
ahead j rows after e =
    list_any-append (λ (a : narrow.Allowed). same_keyword a.keyword j) rows after ∙ ap (λ b. b || narrow_breaks.is_allowed j after) e

documented : (j k : Keyword) → narrow_breaks.is_allowed j (rule_of k).substatements ≡ true → narrow_breaks.is_allowed j (may_stand k) ≡ true
documented j k e = behind j (in_uses k) (in_name ++ (in_range ++ (doc ++ (rule_of k).substatements)))
    (behind j in_name (in_range ++ (doc ++ (rule_of k).substatements))
    (behind j in_range (doc ++ (rule_of k).substatements) (behind j doc (rule_of k).substatements e)))

implied : (a b : Bool) → (not a || b) ≡ true → a ≡ true → b ≡ true
implied true b e is = e
implied false b e is = absurd cc

-- what is added that the core has elsewhere: augments below a `uses`
added_stands : (k j : Keyword) → is_allowed (known j) (added k) ≡ true → narrow_breaks.is_allowed j (may_stand k) ≡ true
added_stands k j = implied _ _ (of_each (λ j. not (is_allowed (known j) (added k)) || narrow_breaks.is_allowed j (may_stand k))
    (of_each (λ k. list_all (λ j. not (is_allowed (known j) (added k)) || narrow_breaks.is_allowed j (may_stand k)) keywords) refl k) j)

covers_core : (language : Language) (version : YangVersion) (k : Keyword) → CoversCore (rule_in language version (known k)).substatements (may_stand k)
covers_core core version k j e = documented j k (sym (before_is j (rule_of k).substatements) ∙ e)
covers_core (rfc wide) version k j e =
    let rows = row_before (rule_of k).substatements in
    let behind_when = of_version version k (map with_version_free rows ++ added k) in
    let later = no_first (is_allowed (known j) (bearing_when k)) (is_allowed (known j) behind_when) (none_bearing k j)
    (sym (list_any-append (λ (a : Allowed). same_word a.word (known j)) (bearing_when k) behind_when) ∙ e) in
    let whole = of_version_is version k (known j) (map with_version_free rows ++ added k) later in
    by (is_allowed (known j) (map with_version_free rows)) refl
    (sym (list_any-append (λ (a : Allowed). same_word a.word (known j)) (map with_version_free rows) (added k)) ∙ whole)
  where
    rows : List Allowed
    rows = row_before (rule_of k).substatements

    by : (a : Bool) → is_allowed (known j) (map with_version_free rows) ≡ a → (a || is_allowed (known j) (added k)) ≡ true
        → narrow_breaks.is_allowed j (may_stand k) ≡ true
    by true is e = documented j k (sym (before_is j (rule_of k).substatements) ∙ (sym (recounted with_version_free free_word (known j) rows) ∙ is))
    by false is e = added_stands k j e

abbrev hosts_at : Language → YangVersion → Word → Keyword → Bool
hosts_at language version w k = not (is_allowed w (rule_in language version (known k)).substatements) || narrow_breaks.is_allowed (keyword_for w) (may_stand k)

hosts_known : (language : Language) (version : YangVersion) (k : Keyword) → Hosts (rule_in language version (known k)).substatements (may_stand k)
hosts_known core version k rpc_word holds = implied _ _ (of_each (hosts_at core version rpc_word) refl k)
hosts_known core version k action_word holds = implied _ _ (of_each (hosts_at core version action_word) refl k)
hosts_known core version k notification_word holds = implied _ _ (of_each (hosts_at core version notification_word) refl k)
hosts_known core version k input_word holds = implied _ _ (of_each (hosts_at core version input_word) refl k)
hosts_known core version k output_word holds = implied _ _ (of_each (hosts_at core version output_word) refl k)
hosts_known core version k anydata_word holds = implied _ _ (of_each (hosts_at core version anydata_word) refl k)
hosts_known core version k anyxml_word holds = implied _ _ (of_each (hosts_at core version anyxml_word) refl k)
hosts_known (rfc wide) yang_1 k rpc_word holds = implied _ _ (of_each (hosts_at (rfc wide) yang_1 rpc_word) refl k)
hosts_known (rfc wide) yang_1 k action_word holds = implied _ _ (of_each (hosts_at (rfc wide) yang_1 action_word) refl k)
hosts_known (rfc wide) yang_1 k notification_word holds = implied _ _ (of_each (hosts_at (rfc wide) yang_1 notification_word) refl k)
hosts_known (rfc wide) yang_1 k input_word holds = implied _ _ (of_each (hosts_at (rfc wide) yang_1 input_word) refl k)
hosts_known (rfc wide) yang_1 k output_word holds = implied _ _ (of_each (hosts_at (rfc wide) yang_1 output_word) refl k)
hosts_known (rfc wide) yang_1 k anydata_word holds = implied _ _ (of_each (hosts_at (rfc wide) yang_1 anydata_word) refl k)
hosts_known (rfc wide) yang_1 k anyxml_word holds = implied _ _ (of_each (hosts_at (rfc wide) yang_1 anyxml_word) refl k)
hosts_known (rfc wide) yang_1_1 k rpc_word holds = implied _ _ (of_each (hosts_at (rfc wide) yang_1_1 rpc_word) refl k)
hosts_known (rfc wide) yang_1_1 k action_word holds = implied _ _ (of_each (hosts_at (rfc wide) yang_1_1 action_word) refl k)
hosts_known (rfc wide) yang_1_1 k notification_word holds = implied _ _ (of_each (hosts_at (rfc wide) yang_1_1 notification_word) refl k)
hosts_known (rfc wide) yang_1_1 k input_word holds = implied _ _ (of_each (hosts_at (rfc wide) yang_1_1 input_word) refl k)
hosts_known (rfc wide) yang_1_1 k output_word holds = implied _ _ (of_each (hosts_at (rfc wide) yang_1_1 output_word) refl k)
hosts_known (rfc wide) yang_1_1 k anydata_word holds = implied _ _ (of_each (hosts_at (rfc wide) yang_1_1 anydata_word) refl k)
hosts_known (rfc wide) yang_1_1 k anyxml_word holds = implied _ _ (of_each (hosts_at (rfc wide) yang_1_1 anyxml_word) refl k)
hosts_known language version k (known j) holds = absurd cc
hosts_known language version k feature_word holds = absurd cc
hosts_known language version k if_feature_word holds = absurd cc
hosts_known language version k pattern_word holds = absurd cc
hosts_known language version k modifier_word holds = absurd cc
hosts_known language version k must_word holds = absurd cc
hosts_known language version k when_word holds = absurd cc

covers_known : (language : Language) (version : YangVersion) (k : Keyword) → Covers (rule_in language version (known k)).substatements (may_stand k)
covers_known language version k = (covers_core language version k, hosts_known language version k)

-- a row in which none of these may stand
hosts_none : (rows : List Allowed) (allowed : List narrow.Allowed) → is_allowed rpc_word rows ≡ false → is_allowed action_word rows ≡ false
    → is_allowed notification_word rows ≡ false → is_allowed input_word rows ≡ false → is_allowed output_word rows ≡ false
    → is_allowed anydata_word rows ≡ false → is_allowed anyxml_word rows ≡ false → Hosts rows allowed
hosts_none rows allowed rpc action notification input output anydata anyxml = by
  where
    no : {A : Type 0} (b : Bool) → b ≡ false → b ≡ true → A
    no true none e = absurd cc
    no false none e = absurd cc

    by : Hosts rows allowed
    by rpc_word holds = no _ rpc
    by action_word holds = no _ action
    by notification_word holds = no _ notification
    by input_word holds = no _ input
    by output_word holds = no _ output
    by anydata_word holds = no _ anydata
    by anyxml_word holds = no _ anyxml
    by (known j) holds = absurd cc
    by feature_word holds = absurd cc
    by if_feature_word holds = absurd cc
    by pattern_word holds = absurd cc
    by modifier_word holds = absurd cc
    by must_word holds = absurd cc
    by when_word holds = absurd cc

-- behind a row of what the core doesn't have
later : (w : Word) (j : Keyword) (rows : List Allowed) → not (same_word w (known j)) ≡ true → (same_word w (known j) || is_allowed (known j) rows) ≡ true
    → is_allowed (known j) rows ≡ true
later w j rows other e = by (same_word w (known j)) (is_allowed (known j) rows) other e
  where
    by : (a b : Bool) → not a ≡ true → (a || b) ≡ true → b ≡ true
    by true b is e = absurd cc
    by false b is e = e

-- the core knows nothing of what it doesn't have
covers_nothing : (allowed : List narrow.Allowed) → Covers [] allowed
covers_nothing allowed = (λ j e. absurd cc, hosts_none [] allowed refl refl refl refl refl refl refl)

covers_feature : (language : Language) (version : YangVersion) → Covers (rule_in language version feature_word).substatements (may_stand extension_word)
covers_feature core version = covers_nothing (may_stand extension_word)
covers_feature (rfc wide) version = (
  λ j e. behind j in_name (in_range ++ doc) (behind j in_range doc
      (sym (before_is j doc) ∙ later if_feature_word j (row_before doc) (of_each (λ j. not (same_word if_feature_word (known j))) refl j) e)),
  hosts_none ((rule_in (rfc wide) version feature_word).substatements) (may_stand extension_word) refl refl refl refl refl refl refl,
)

covers_condition : (language : Language) (version : YangVersion) → Covers (rule_in language version if_feature_word).substatements (may_stand extension_word)
covers_condition core version = covers_nothing (may_stand extension_word)
covers_condition (rfc wide) version = covers_nothing (may_stand extension_word)

covers_pattern : (language : Language) (version : YangVersion) → Covers (rule_in language version pattern_word).substatements (may_stand extension_word)
covers_pattern core version = covers_nothing (may_stand extension_word)
covers_pattern (rfc wide) yang_1 = (
  λ j e. behind j in_name (in_range ++ doc) (ahead j in_range doc (sym (before_is j in_range) ∙ e)),
  hosts_none ((rule_in (rfc wide) yang_1 pattern_word).substatements) (may_stand extension_word) refl refl refl refl refl refl refl,
)
covers_pattern (rfc wide) yang_1_1 = (
  λ j e. behind j in_name (in_range ++ doc) (ahead j in_range doc
      (sym (before_is j in_range) ∙ later modifier_word j (row_before in_range) (of_each (λ j. not (same_word modifier_word (known j))) refl j) e)),
  hosts_none ((rule_in (rfc wide) yang_1_1 pattern_word).substatements) (may_stand extension_word) refl refl refl refl refl refl refl,
)

covers_modifier : (language : Language) (version : YangVersion) → Covers (rule_in language version modifier_word).substatements (may_stand extension_word)
covers_modifier core version = covers_nothing (may_stand extension_word)
covers_modifier (rfc wide) version = covers_nothing (may_stand extension_word)

covers_when : (language : Language) (version : YangVersion) → Covers (rule_in language version when_word).substatements (may_stand extension_word)
covers_when core version = covers_nothing (may_stand extension_word)
covers_when (rfc wide) version = (
  λ j e. behind j in_name (in_range ++ doc) (ahead j in_range doc
      (behind j (narrow.perhaps error_message_word ∷ narrow.perhaps error_app_tag_word ∷ []) texts (sym (before_is j texts) ∙ e))),
  hosts_none ((rule_in (rfc wide) version when_word).substatements) (may_stand extension_word) refl refl refl refl refl refl refl,
)

-- what may stand in an operation, in its `input` or in its `output` may stand in a container
abbrev held_at : List Allowed → Keyword → Bool
held_at rows j = not (is_allowed (known j) rows) || narrow_breaks.is_allowed j (may_stand container_word)

hosts_container : (w : Word) → is_node w ≡ true → narrow_breaks.is_allowed (keyword_for w) (may_stand container_word) ≡ true
hosts_container rpc_word holds = refl
hosts_container action_word holds = refl
hosts_container notification_word holds = refl
hosts_container input_word holds = refl
hosts_container output_word holds = refl
hosts_container anydata_word holds = refl
hosts_container anyxml_word holds = refl
hosts_container (known j) holds = absurd cc
hosts_container feature_word holds = absurd cc
hosts_container if_feature_word holds = absurd cc
hosts_container pattern_word holds = absurd cc
hosts_container modifier_word holds = absurd cc
hosts_container must_word holds = absurd cc
hosts_container when_word holds = absurd cc

covers_held : (rows : List Allowed) → ((j : Keyword) → held_at rows j ≡ true) → Covers rows (may_stand container_word)
covers_held rows all = (λ j. implied _ _ (all j), λ w holds e. hosts_container w holds)

-- what may stand in a node without a type may stand in a leaf
covers_anything : Covers in_anything (may_stand leaf_word)
covers_anything = (
  λ j. implied _ _ (of_each (λ j. not (is_allowed (known j) in_anything) || narrow_breaks.is_allowed j (may_stand leaf_word)) refl j),
  hosts_none in_anything (may_stand leaf_word) refl refl refl refl refl refl refl,
)

covers_node : (language : Language) (version : YangVersion) (w : Word) → is_node w ≡ true → Covers (rule_in language version w).substatements (may_stand (keyword_for w))
covers_node core version (known j) holds = absurd cc
covers_node core version feature_word holds = absurd cc
covers_node core version if_feature_word holds = absurd cc
covers_node core version pattern_word holds = absurd cc
covers_node core version modifier_word holds = absurd cc
covers_node core version must_word holds = absurd cc
covers_node core version when_word holds = absurd cc
covers_node core version rpc_word holds = covers_nothing (may_stand container_word)
covers_node core version action_word holds = covers_nothing (may_stand container_word)
covers_node core version notification_word holds = covers_nothing (may_stand container_word)
covers_node core version input_word holds = covers_nothing (may_stand container_word)
covers_node core version output_word holds = covers_nothing (may_stand container_word)
covers_node core version anydata_word holds = covers_nothing (may_stand leaf_word)
covers_node core version anyxml_word holds = covers_nothing (may_stand leaf_word)
covers_node (rfc wide) version (known j) holds = absurd cc
covers_node (rfc wide) version feature_word holds = absurd cc
covers_node (rfc wide) version if_feature_word holds = absurd cc
covers_node (rfc wide) version pattern_word holds = absurd cc
covers_node (rfc wide) version modifier_word holds = absurd cc
covers_node (rfc wide) version must_word holds = absurd cc
covers_node (rfc wide) version when_word holds = absurd cc
covers_node (rfc wide) version rpc_word holds = covers_held in_call (of_each (held_at in_call) refl)
covers_node (rfc wide) version action_word holds = covers_held in_call (of_each (held_at in_call) refl)
covers_node (rfc wide) yang_1 notification_word holds = covers_held (in_notification yang_1) (of_each (held_at (in_notification yang_1)) refl)
covers_node (rfc wide) yang_1_1 notification_word holds = covers_held (in_notification yang_1_1) (of_each (held_at (in_notification yang_1_1)) refl)
covers_node (rfc wide) yang_1 input_word holds = covers_held (in_side yang_1) (of_each (held_at (in_side yang_1)) refl)
covers_node (rfc wide) yang_1_1 input_word holds = covers_held (in_side yang_1_1) (of_each (held_at (in_side yang_1_1)) refl)
covers_node (rfc wide) yang_1 output_word holds = covers_held (in_side yang_1) (of_each (held_at (in_side yang_1)) refl)
covers_node (rfc wide) yang_1_1 output_word holds = covers_held (in_side yang_1_1) (of_each (held_at (in_side yang_1_1)) refl)
covers_node (rfc wide) version anydata_word holds = covers_anything
covers_node (rfc wide) version anyxml_word holds = covers_anything

-- ---- identifiers

of_form : (version : YangVersion) (t : Text) → fits_in version (as_before identifier_form) t ≡ true → is_identifier t ≡ true
of_form yang_1 t e = identifier_fits t (and_parts (fits identifier_form t) _ e).0
of_form yang_1_1 t e = identifier_fits t e

form_is : (language : Language) (version : YangVersion) (k : Keyword) → defines_node k ≡ true → (rule_in language version (known k)).form ≡ as_before identifier_form
form_is core version k defines = by_definition k (λ k. (rule_in core version (known k)).form ≡ as_before identifier_form) refl refl refl refl refl refl defines
form_is (rfc wide) version k defines =
    by_definition k (λ k. (rule_in (rfc wide) version (known k)).form ≡ as_before identifier_form) refl refl refl refl refl refl defines

argument_fits : (version : YangVersion) (given : Option Text) (other : Text) → option_map_or (fits_in version (as_before identifier_form)) given false ≡ true
    → fits_in version (as_before identifier_form) (unwrap_or given other) ≡ true
argument_fits version None other e = absurd cc
argument_fits version (Some t) other e = e

not_false : (b : Bool) → not b ≡ false → b ≡ true
not_false true e = refl
not_false false e = absurd cc

identifier_is : (version : YangVersion) (m : ℕ) (form : WideForm) (s : Statement) → argument_breaks m version form s ≡ [] → form ≡ as_before identifier_form
    → is_identifier (argument_text s) ≡ true
identifier_is version m form s e is =
    let plain : argument_breaks m version (as_before identifier_form) s ≡ [] = subst (λ f. argument_breaks m version f s ≡ []) is e in
    let given = option_map_or (fits_in version (as_before identifier_form)) s.argument false in
    of_form version (argument_text s) (argument_fits version s.argument s.keyword (not_false given (unbroken (not given) 3 m s.line plain)))

-- an `input` or an `output` has no argument, so its keyword is its name
named_itself : (version : YangVersion) (m : ℕ) (s : Statement) → argument_breaks m version no_argument s ≡ [] → argument_text s ≡ s.keyword
named_itself version m s e =
    by s.argument (not_false (option_map_or (fits_in version no_argument) s.argument true) (unbroken (not (option_map_or (fits_in version no_argument) s.argument true)) 3 m s.line e))
  where
    by : (given : Option Text) → option_map_or (fits_in version no_argument) given true ≡ true → unwrap_or given s.keyword ≡ s.keyword
    by None e = refl
    by (Some t) e = absurd cc

-- ---- statements that are passed over

-- no keyword of a language has a prefix
unprefixed : (t : Text) → is_prefixed t ≡ true → (w : Text) → is_prefixed w ≡ false → is_text t w ≡ false
unprefixed t prefixed w plain = by (is_text t w) refl
  where
    by : (b : Bool) → is_text t w ≡ b → b ≡ false
    by true is = absurd (let no : true ≡ false = sym prefixed ∙ (ap is_prefixed ((bytes_eq-Decides t w).0 is) ∙ plain) in cc)
    by false is = refl

not_named : (t : Text) → is_prefixed t ≡ true → (w : Word) → is_prefixed (word_text w) ≡ false → (other : Option Word)
    → cond (is_text t (word_text w)) (Some w) other ≡ other
not_named t prefixed w plain other = ap (λ b. cond b (Some w) other) (unprefixed t prefixed (word_text w) plain)

prefixed_none : (language : Language) (t : Text) → is_prefixed t ≡ true → word_named language t ≡ None
prefixed_none core t prefixed = ap (option_map known) (prefixed_is_none t prefixed)
prefixed_none (rfc wide) t prefixed = ap (λ o. or_unjudged wide.unjudged o t) (ap (λ o. or_added o t) (prefixed_is_none t prefixed)
    ∙ (not_named t prefixed feature_word refl _ ∙ (not_named t prefixed if_feature_word refl _
    ∙ (not_named t prefixed pattern_word refl _ ∙ (not_named t prefixed modifier_word refl _
    ∙ (not_named t prefixed rpc_word refl _ ∙ (not_named t prefixed action_word refl _ ∙ (not_named t prefixed notification_word refl _
    ∙ (not_named t prefixed input_word refl _ ∙ (not_named t prefixed output_word refl _
    ∙ (not_named t prefixed anydata_word refl _ ∙ not_named t prefixed anyxml_word refl None)))))))))))
    ∙ ap₂ (λ a b. cond (a && wide.unjudged.musts) (Some must_word) (cond (b && wide.unjudged.whens) (Some when_word) None))
    (unprefixed t prefixed (word_text must_word) refl) (unprefixed t prefixed (word_text when_word) refl)

-- which keyword a text is that is `input` or `output`
input_text : (a b c d e f g h i j k : Bool) → cond a (Some feature_word) (cond b (Some if_feature_word) (cond c (Some pattern_word) (cond d (Some modifier_word)
    (cond e (Some rpc_word) (cond f (Some action_word) (cond g (Some notification_word) (cond h (Some input_word) (cond i (Some output_word)
    (cond j (Some anydata_word) (cond k (Some anyxml_word) None)))))))))) ≡ Some input_word
    → h ≡ true
input_text true b c d e f g h i j k is = absurd cc
input_text false true c d e f g h i j k is = absurd cc
input_text false false true d e f g h i j k is = absurd cc
input_text false false false true e f g h i j k is = absurd cc
input_text false false false false true f g h i j k is = absurd cc
input_text false false false false false true g h i j k is = absurd cc
input_text false false false false false false true h i j k is = absurd cc
input_text false false false false false false false true i j k is = refl
input_text false false false false false false false false true j k is = absurd cc
input_text false false false false false false false false false true k is = absurd cc
input_text false false false false false false false false false false true is = absurd cc
input_text false false false false false false false false false false false is = absurd cc

output_text : (a b c d e f g h i j k : Bool) → cond a (Some feature_word) (cond b (Some if_feature_word) (cond c (Some pattern_word) (cond d (Some modifier_word)
    (cond e (Some rpc_word) (cond f (Some action_word) (cond g (Some notification_word) (cond h (Some input_word) (cond i (Some output_word)
    (cond j (Some anydata_word) (cond k (Some anyxml_word) None)))))))))) ≡ Some output_word
    → i ≡ true
output_text true b c d e f g h i j k is = absurd cc
output_text false true c d e f g h i j k is = absurd cc
output_text false false true d e f g h i j k is = absurd cc
output_text false false false true e f g h i j k is = absurd cc
output_text false false false false true f g h i j k is = absurd cc
output_text false false false false false true g h i j k is = absurd cc
output_text false false false false false false true h i j k is = absurd cc
output_text false false false false false false false true i j k is = absurd cc
output_text false false false false false false false false true j k is = refl
output_text false false false false false false false false false true k is = absurd cc
output_text false false false false false false false false false false true is = absurd cc
output_text false false false false false false false false false false false is = absurd cc

-- it is one that is added
from_added : (u : Unjudged) (t : Text) (w : Word) → same_word w must_word ≡ false → same_word w when_word ≡ false → (o : Option Word) → or_unjudged u o t ≡ Some w → o ≡ Some w
from_added u t w no_must no_when (Some v) e = e
from_added u t w no_must no_when None e = by (is_text t (word_text must_word) && u.musts) (is_text t (word_text when_word) && u.whens) e
  where
    by : (a b : Bool) → cond a (Some must_word) (cond b (Some when_word) None) ≡ Some w → None ≡ Some w
    by true b is = let same : must_word ≡ w = cc in absurd (let no : true ≡ false = ap (λ x. same_word x must_word) same ∙ no_must in cc)
    by false true is = let same : when_word ≡ w = cc in absurd (let no : true ≡ false = ap (λ x. same_word x when_word) same ∙ no_when in cc)
    by false false is = is

input_is : (language : Language) (t : Text) → word_named language t ≡ Some input_word → t ≡ word_text input_word
input_is core t e = by (keyword_named t) e
  where
    by : (o : Option Keyword) → option_map known o ≡ Some input_word → t ≡ word_text input_word
    by None e = absurd cc
    by (Some k) e = absurd cc
input_is (rfc wide) t e = by (keyword_named t) (from_added wide.unjudged t input_word refl refl (or_added (keyword_named t) t) e)
  where
    by : (o : Option Keyword) → or_added o t ≡ Some input_word → t ≡ word_text input_word
    by (Some k) e = absurd cc
    by None e = (bytes_eq-Decides t (word_text input_word)).0 (input_text (is_text t (word_text feature_word)) (is_text t (word_text if_feature_word)) (is_text t (word_text pattern_word))
        (is_text t (word_text modifier_word)) (is_text t (word_text rpc_word)) (is_text t (word_text action_word)) (is_text t (word_text notification_word))
        (is_text t (word_text input_word)) (is_text t (word_text output_word)) (is_text t (word_text anydata_word)) (is_text t (word_text anyxml_word)) e)

output_is : (language : Language) (t : Text) → word_named language t ≡ Some output_word → t ≡ word_text output_word
output_is core t e = by (keyword_named t) e
  where
    by : (o : Option Keyword) → option_map known o ≡ Some output_word → t ≡ word_text output_word
    by None e = absurd cc
    by (Some k) e = absurd cc
output_is (rfc wide) t e = by (keyword_named t) (from_added wide.unjudged t output_word refl refl (or_added (keyword_named t) t) e)
  where
    by : (o : Option Keyword) → or_added o t ≡ Some output_word → t ≡ word_text output_word
    by (Some k) e = absurd cc
    by None e = (bytes_eq-Decides t (word_text output_word)).0 (output_text (is_text t (word_text feature_word)) (is_text t (word_text if_feature_word)) (is_text t (word_text pattern_word))
        (is_text t (word_text modifier_word)) (is_text t (word_text rpc_word)) (is_text t (word_text action_word)) (is_text t (word_text notification_word))
        (is_text t (word_text input_word)) (is_text t (word_text output_word)) (is_text t (word_text anydata_word)) (is_text t (word_text anyxml_word)) e)

-- the name of a node is an identifier
node_named : (language : Language) (version : YangVersion) (m : ℕ) (w : Word) (s : Statement) → is_node w ≡ true → word_named language s.keyword ≡ Some w
    → argument_breaks m version (rule_in language version w).form s ≡ [] → is_identifier (argument_text s) ≡ true
node_named core version m w s holds is e = by (keyword_named s.keyword) is
  where
    by : (o : Option Keyword) → option_map known o ≡ Some w → is_identifier (argument_text s) ≡ true
    by None e = absurd cc
    by (Some k) e = let same : known k ≡ w = cc in absurd (let no : false ≡ true = ap is_node same ∙ holds in cc)
node_named (rfc wide) version m rpc_word s holds is e = identifier_is version m _ s e refl
node_named (rfc wide) version m action_word s holds is e = identifier_is version m _ s e refl
node_named (rfc wide) version m notification_word s holds is e = identifier_is version m _ s e refl
node_named (rfc wide) version m anydata_word s holds is e = identifier_is version m _ s e refl
node_named (rfc wide) version m anyxml_word s holds is e = identifier_is version m _ s e refl
node_named (rfc wide) version m input_word s holds is e = ap is_identifier (named_itself version m s e ∙ input_is (rfc wide) s.keyword is)
node_named (rfc wide) version m output_word s holds is e = ap is_identifier (named_itself version m s e ∙ output_is (rfc wide) s.keyword is)
node_named (rfc wide) version m (known k) s holds is e = absurd cc
node_named (rfc wide) version m feature_word s holds is e = absurd cc
node_named (rfc wide) version m if_feature_word s holds is e = absurd cc
node_named (rfc wide) version m pattern_word s holds is e = absurd cc
node_named (rfc wide) version m modifier_word s holds is e = absurd cc
node_named (rfc wide) version m must_word s holds is e = absurd cc
node_named (rfc wide) version m when_word s holds is e = absurd cc

-- ---- names that restrict types

-- what may stand below an `enum` or a `bit` may stand below what is kept as `extension` is named
below_enum : (j : Keyword) → narrow_breaks.is_allowed j (may_stand enum_word) ≡ true → narrow_breaks.is_allowed j (may_stand extension_word) ≡ true
below_enum j = implied _ _ (of_each (λ j. not (narrow_breaks.is_allowed j (may_stand enum_word)) || narrow_breaks.is_allowed j (may_stand extension_word)) refl j)

below_bit : (j : Keyword) → narrow_breaks.is_allowed j (may_stand bit_word) ≡ true → narrow_breaks.is_allowed j (may_stand extension_word) ≡ true
below_bit j = implied _ _ (of_each (λ j. not (narrow_breaks.is_allowed j (may_stand bit_word)) || narrow_breaks.is_allowed j (may_stand extension_word)) refl j)

legal_more : (home : ℕ) (few more : List narrow.Allowed) → ((k : Keyword) → narrow_breaks.is_allowed k few ≡ true → narrow_breaks.is_allowed k more ≡ true)
    → (f : Forest Source) → IsLegal home few f → IsLegal home more f
legal_more home few more covers end legal = tt
legal_more home few more covers (node s below after) legal = (
  record { known = λ other. covers s.keyword (legal.0.known other); named = legal.0.named; stands = legal.0.stands },
  legal.1,
  legal_more home few more covers after legal.2,
)

legal_as_extension : (refers : Bool) (home number : ℕ) (allowed : List narrow.Allowed) (k : Keyword) (s : Statement) (f g : Forest (Keyword × Statement))
    → ((j : Keyword) → narrow_breaks.is_allowed j (may_stand k) ≡ true → narrow_breaks.is_allowed j (may_stand extension_word) ≡ true)
    → IsLegal home allowed (numbered refers home number (node (k, s) f g)) → IsLegal home allowed (numbered refers home number (node (extension_word, s) f g))
unfolding numbered
legal_as_extension refers home number allowed k s f g covers legal = (
  record { known = λ other. absurd cc; named = λ defines. absurd cc; stands = refl },
  legal_more home (may_stand k) (may_stand extension_word) covers (numbered refers home (number + 1) f) legal.1,
  legal.2,
)

legal_as_restricting : (refers : Bool) (home number : ℕ) (allowed : List narrow.Allowed) (o : Option Keyword) (s : Statement) (f g : Forest (Keyword × Statement))
    → IsLegal home allowed (numbered refers home number (kept_at o s f g)) → IsLegal home allowed (numbered refers home number (kept_at (option_map keyword_restricting o) s f g))
legal_as_restricting refers home number allowed None s f g legal = legal
legal_as_restricting refers home number allowed (Some k) s f g legal = by (same_keyword enum_word k) refl (same_keyword bit_word k) refl
  where
    by : (a : Bool) → same_keyword enum_word k ≡ a → (b : Bool) → same_keyword bit_word k ≡ b
        → IsLegal home allowed (numbered refers home number (node (cond (a || b) extension_word k, s) f g))
    by true is b of_bit = legal_as_extension refers home number allowed k s f g
        (subst (λ w. (j : Keyword) → narrow_breaks.is_allowed j (may_stand w) ≡ true → narrow_breaks.is_allowed j (may_stand extension_word) ≡ true)
        (same_is enum_word k is) below_enum) legal
    by false other true is = legal_as_extension refers home number allowed k s f g
        (subst (λ w. (j : Keyword) → narrow_breaks.is_allowed j (may_stand w) ≡ true → narrow_breaks.is_allowed j (may_stand extension_word) ≡ true)
        (same_is bit_word k is) below_bit) legal
    by false other false not_bit = legal

legal_restricting : (refers restricting : Bool) (language : Language) (home number : ℕ) (allowed : List narrow.Allowed) (s : Statement) (f g : Forest (Keyword × Statement))
    → IsLegal home allowed (numbered refers home number (kept_at (kept_keyword_in language false s) s f g))
    → IsLegal home allowed (numbered refers home number (kept_at (kept_keyword_in language restricting s) s f g))
legal_restricting refers false language home number allowed s f g legal = legal
legal_restricting refers true language home number allowed s f g legal =
    legal_as_restricting refers home number allowed (kept_keyword_in language false s) s f g legal

-- ---- the form of an argument

-- an augment alone has another form somewhere
form_stays : (language : Language) (rows : List Allowed) (w : Word) (form : WideForm) → same_word w (known augment_word) ≡ false → form_at language rows w form ≡ form
form_stays core rows w form other = refl
form_stays (rfc wide) rows w form other =
    ap (λ b. cond (b && is_allowed (known refine_word) rows) (as_before relative_path_form) form) other

no_augment : (w : Word) → is_node w ≡ true → same_word w (known augment_word) ≡ false
no_augment rpc_word holds = refl
no_augment action_word holds = refl
no_augment notification_word holds = refl
no_augment input_word holds = refl
no_augment output_word holds = refl
no_augment anydata_word holds = refl
no_augment anyxml_word holds = refl
no_augment (known j) holds = absurd cc
no_augment feature_word holds = absurd cc
no_augment if_feature_word holds = absurd cc
no_augment pattern_word holds = absurd cc
no_augment modifier_word holds = absurd cc
no_augment must_word holds = absurd cc
no_augment when_word holds = absurd cc

no_augment_word : (k : Keyword) → defines_node k ≡ true → same_word (known k) (known augment_word) ≡ false
no_augment_word k defines = by_definition k (λ k. same_word (known k) (known augment_word) ≡ false) refl refl refl refl refl refl defines

-- ---- a row of statements

module _ (language : Language) (version : YangVersion) (refers : Bool) (m : ℕ) where
  abbrev form_in : List Allowed → Word → WideForm
  form_in rows w = form_at language rows w (rule_in language version w).form

  Inside : Word → List Break → Forest (Keyword × Statement) → Type 0
  Inside w inner f = (allowed : List narrow.Allowed) → Covers (rule_in language version w).substatements allowed → inner ≡ [] → (n : ℕ) → IsLegal m allowed (numbered refers m n f)

  -- one that the core doesn't have
  legal_added : (number : ℕ) (rows : List Allowed) (allowed : List narrow.Allowed) (w : Word) → Covers (rule_in language version w).substatements (may_stand extension_word)
      → same_word w (known extension_word) ≡ false → keyword_kept w ≡ Some extension_word
      → (s : Statement) (below : Forest Statement) (inner : List Break) (f g : Forest (Keyword × Statement))
      → known_breaks language version m rows w s below inner ≡ [] → Inside w inner f → ((n : ℕ) → IsLegal m allowed (numbered refers m n g))
      → IsLegal m allowed (numbered refers m number (kept_at (keyword_kept w) s f g))
  unfolding numbered Inside
  legal_added number rows allowed w covers other is s below inner f g e inside rest =
      subst (λ k. IsLegal m allowed (numbered refers m number (kept_at k s f g))) (sym is) (by (is_allowed w rows) (same_word w (known extension_word)) other e)
    where
      by : (a x : Bool) → x ≡ false → cond (not a) (broken 1 m s.line) (cond x [] (own_breaks language version m (form_in rows w) w s below ++ inner)) ≡ []
          → IsLegal m allowed (numbered refers m number (kept_at (Some extension_word) s f g))
      by false x unlike e = absurd cc
      by true true unlike e = absurd cc
      by true false unlike e = (
        record { known = λ unlike. absurd cc; named = λ defines. absurd cc; stands = refl },
        inside (may_stand extension_word) covers (none_second (own_breaks language version m (form_in rows w) w s below) inner e) (number + 1),
        rest (number + suc (size f)),
      )

  -- one that is kept as another
  legal_node : (number : ℕ) (rows : List Allowed) (allowed : List narrow.Allowed) → Covers rows allowed → (w : Word) → is_node w ≡ true
      → same_word w (known extension_word) ≡ false → keyword_kept w ≡ Some (keyword_for w)
      → (s : Statement) (below : Forest Statement) (inner : List Break) (f g : Forest (Keyword × Statement)) → word_named language s.keyword ≡ Some w
      → known_breaks language version m rows w s below inner ≡ [] → Inside w inner f → ((n : ℕ) → IsLegal m allowed (numbered refers m n g))
      → IsLegal m allowed (numbered refers m number (kept_at (keyword_kept w) s f g))
  unfolding numbered Inside
  legal_node number rows allowed covers w holds other is s below inner f g named e inside rest =
      subst (λ k. IsLegal m allowed (numbered refers m number (kept_at k s f g))) (sym is) (by (is_allowed w rows) refl (same_word w (known extension_word)) other e)
    where
      by : (a : Bool) → is_allowed w rows ≡ a → (x : Bool) → x ≡ false → cond (not a) (broken 1 m s.line) (cond x [] (own_breaks language version m (form_in rows w) w s below ++ inner)) ≡ []
          → IsLegal m allowed (numbered refers m number (kept_at (Some (keyword_for w)) s f g))
      by false may x unlike e = absurd cc
      by true may true unlike e = absurd cc
      by true may false unlike e =
          let own = none_first (own_breaks language version m (form_in rows w) w s below) inner e in (
            record {
              known = λ unlike. covers.1 w holds may;
              named = λ defines. node_named language version m w s holds named
                  (subst (λ form. argument_breaks m version form s ≡ []) (form_stays language rows w (rule_in language version w).form (no_augment w holds))
                  (none_first (argument_breaks m version (form_in rows w) s) _ own));
              stands = refl;
            },
            inside (may_stand (keyword_for w)) (covers_node language version w holds) (none_second (own_breaks language version m (form_in rows w) w s below) inner e) (number + 1),
            rest (number + suc (size f)),
          )

  -- one of the core's
  legal_known : (number : ℕ) (rows : List Allowed) (allowed : List narrow.Allowed) → Covers rows allowed → (k : Keyword)
      → (s : Statement) (below : Forest Statement) (inner : List Break) (f g : Forest (Keyword × Statement))
      → known_breaks language version m rows (known k) s below inner ≡ [] → Inside (known k) inner f → ((n : ℕ) → IsLegal m allowed (numbered refers m n g))
      → IsLegal m allowed (numbered refers m number (kept_at (unless_extension k) s f g))
  unfolding numbered Inside
  legal_known number rows allowed covers k s below inner f g e inside rest = by (is_allowed (known k) rows) refl (same_keyword k extension_word) e
    where
      by : (a : Bool) → is_allowed (known k) rows ≡ a → (x : Bool)
          → cond (not a) (broken 1 m s.line) (cond x [] (own_breaks language version m (form_in rows (known k)) (known k) s below ++ inner)) ≡ []
          → IsLegal m allowed (numbered refers m number (kept_at (cond x None (Some k)) s f g))
      by false may x e = absurd cc
      by true may true e = rest number
      by true may false e =
          let own = none_first (own_breaks language version m (form_in rows (known k)) (known k) s below) inner e in (
            record {
              known = λ other. covers.0 k may;
              named = λ defines. identifier_is version m (form_in rows (known k)) s (none_first (argument_breaks m version (form_in rows (known k)) s) _ own)
                  (form_stays language rows (known k) (rule_in language version (known k)).form (no_augment_word k defines) ∙ form_is language version k defines);
              stands = refl;
            },
            inside (may_stand k) (covers_known language version k) (none_second (own_breaks language version m (form_in rows (known k)) (known k) s below) inner e) (number + 1),
            rest (number + suc (size f)),
          )

  legal_named : (number : ℕ) (rows : List Allowed) (allowed : List narrow.Allowed) → Covers rows allowed
      → (s : Statement) (below : Forest Statement) (inner : List Break) (f g : Forest (Keyword × Statement)) (prefixed : Bool) (o : Option Word) → word_named language s.keyword ≡ o → (prefixed ≡ true → o ≡ None)
      → cond prefixed [] (named_breaks language version m rows o s below inner) ≡ []
      → ((w : Word) → o ≡ Some w → Inside w inner f) → ((n : ℕ) → IsLegal m allowed (numbered refers m n g))
      → IsLegal m allowed (numbered refers m number (kept_at (option_and_then keyword_kept o) s f g))
  legal_named number rows allowed covers s below inner f g true None named is e inside rest = rest number
  legal_named number rows allowed covers s below inner f g true (Some w) named is e inside rest = let none = is refl in absurd cc
  legal_named number rows allowed covers s below inner f g false None named is e inside rest = absurd cc
  legal_named number rows allowed covers s below inner f g false (Some (known k)) named is e inside rest =
      legal_known number rows allowed covers k s below inner f g e (inside (known k) refl) rest
  legal_named number rows allowed covers s below inner f g false (Some feature_word) named is e inside rest =
      legal_added number rows allowed feature_word (covers_feature language version) refl refl s below inner f g e (inside feature_word refl) rest
  legal_named number rows allowed covers s below inner f g false (Some if_feature_word) named is e inside rest =
      legal_added number rows allowed if_feature_word (covers_condition language version) refl refl s below inner f g e (inside if_feature_word refl) rest
  legal_named number rows allowed covers s below inner f g false (Some pattern_word) named is e inside rest =
      legal_added number rows allowed pattern_word (covers_pattern language version) refl refl s below inner f g e (inside pattern_word refl) rest
  legal_named number rows allowed covers s below inner f g false (Some modifier_word) named is e inside rest =
      legal_added number rows allowed modifier_word (covers_modifier language version) refl refl s below inner f g e (inside modifier_word refl) rest
  legal_named number rows allowed covers s below inner f g false (Some must_word) named is e inside rest = rest number
  legal_named number rows allowed covers s below inner f g false (Some when_word) named is e inside rest =
      legal_added number rows allowed when_word (covers_when language version) refl refl s below inner f g e (inside when_word refl) rest
  legal_named number rows allowed covers s below inner f g false (Some rpc_word) named is e inside rest =
      legal_node number rows allowed covers rpc_word refl refl refl s below inner f g named e (inside rpc_word refl) rest
  legal_named number rows allowed covers s below inner f g false (Some action_word) named is e inside rest =
      legal_node number rows allowed covers action_word refl refl refl s below inner f g named e (inside action_word refl) rest
  legal_named number rows allowed covers s below inner f g false (Some notification_word) named is e inside rest =
      legal_node number rows allowed covers notification_word refl refl refl s below inner f g named e (inside notification_word refl) rest
  legal_named number rows allowed covers s below inner f g false (Some input_word) named is e inside rest =
      legal_node number rows allowed covers input_word refl refl refl s below inner f g named e (inside input_word refl) rest
  legal_named number rows allowed covers s below inner f g false (Some output_word) named is e inside rest =
      legal_node number rows allowed covers output_word refl refl refl s below inner f g named e (inside output_word refl) rest
  legal_named number rows allowed covers s below inner f g false (Some anydata_word) named is e inside rest =
      legal_node number rows allowed covers anydata_word refl refl refl s below inner f g named e (inside anydata_word refl) rest
  legal_named number rows allowed covers s below inner f g false (Some anyxml_word) named is e inside rest =
      legal_node number rows allowed covers anyxml_word refl refl refl s below inner f g named e (inside anyxml_word refl) rest

  pub legal_row : (may restricting : Bool) (rows : List Allowed) (allowed : List narrow.Allowed) → Covers rows allowed → (f : Forest Statement)
      → row_breaks_in language version m rows f ≡ [] → (number : ℕ) → IsLegal m allowed (numbered refers m number (kept_in language may restricting f))
  unfolding row_breaks_in kept_in numbered Inside
  legal_row may restricting rows allowed covers end e number = tt
  legal_row may restricting rows allowed covers (node s below after) e number =
      let inner = row_breaks_in language version m (substatements_of language version s.keyword) below in
      let this = breaks_at language version m rows s below inner in
      let within = restricts_below may (kept_keyword_in language restricting s) s in
      legal_restricting refers restricting language m number allowed s (kept_in language may within below) (kept_in language may restricting after)
      (legal_named number rows allowed covers s below inner (kept_in language may within below) (kept_in language may restricting after)
      (is_prefixed s.keyword) (word_named language s.keyword) refl
      (prefixed_none language s.keyword)
      (none_first this (row_breaks_in language version m rows after) e)
      (λ w is allowed covers none. legal_row may within (substatements_of language version s.keyword) allowed
      (subst (λ o. Covers (option_map_or (λ w. (rule_in language version w).substatements) o []) allowed) (sym is) covers) below none)
      (legal_row may restricting rows allowed covers after (none_second this (row_breaks_in language version m rows after) e)))

-- ---- modules

-- `module` statements, numbered from one on; each has an identifier for its argument, and legal substatements
abbrev pub AreModules : ℕ → Forest Source → Type 0
AreModules home end = Unit {0}
AreModules home (node s below after) = (s.keyword ≡ module_word) × (s.home ≡ home) × (is_identifier (argument_in s) ≡ true)
    × IsLegal home (may_stand module_word) below × AreModules (home + 1) after

pub record IsModule (language : Language) (m : ℕ) (s : Statement) (below : Forest Statement) : Type 0 where
  pub keyword : kept_keyword_in language false s ≡ Some module_word
  pub own : own_breaks language (version_in language below) m (rule_in language (version_in language below) (known module_word)).form (known module_word) s below ≡ []
  pub inner : row_breaks_in language (version_in language below) m (rule_in language (version_in language below) (known module_word)).substatements below ≡ []

pub is_module : (language : Language) (m : ℕ) (s : Statement) (below : Forest Statement) → top_breaks language m s below ≡ [] → IsModule language m s below
is_module language m s below e = by (word_named language s.keyword) refl e
  where
    version : YangVersion
    version = version_in language below

    own : List Break
    own = own_breaks language version m (rule_in language version (known module_word)).form (known module_word) s below

    inner : List Break
    inner = row_breaks_in language version m (rule_in language version (known module_word)).substatements below

    named : (k : Keyword) → word_named language s.keyword ≡ Some (known k) → (b : Bool) → same_keyword module_word k ≡ b
        → cond b (own ++ inner) (broken 1 m s.line) ≡ [] → IsModule language m s below
    named k is false same e = absurd cc
    named k is true same e = record {
      keyword = ap (λ o. option_and_then keyword_kept o) (is ∙ ap (λ j. Some (known j)) (sym (same_is module_word k same)));
      own = none_first own inner e;
      inner = none_second own inner e;
    }

    by : (o : Option Word) → word_named language s.keyword ≡ o
        → cond (option_map_or (same_word (known module_word)) o false) (own ++ inner) (broken 1 m s.line) ≡ [] → IsModule language m s below
    by None is e = absurd cc
    by (Some (known k)) is e = named k is (same_keyword module_word k) refl e
    by (Some feature_word) is e = absurd cc
    by (Some if_feature_word) is e = absurd cc
    by (Some pattern_word) is e = absurd cc
    by (Some modifier_word) is e = absurd cc
    by (Some must_word) is e = absurd cc
    by (Some when_word) is e = absurd cc
    by (Some rpc_word) is e = absurd cc
    by (Some action_word) is e = absurd cc
    by (Some notification_word) is e = absurd cc
    by (Some input_word) is e = absurd cc
    by (Some output_word) is e = absurd cc
    by (Some anydata_word) is e = absurd cc
    by (Some anyxml_word) is e = absurd cc

-- a module is one source, and the others follow
pub sources_first : (language : Language) (home number : ℕ) (s : Statement) (below after : Forest Statement) → kept_keyword_in language false s ≡ Some module_word
    → sources_in_from language home number (node s below after)
    ≡ node (record { keyword = module_word; statement = s; number = number; home = home; may_refer = may_restrict language below }) (numbered (may_restrict language below) home (number + 1) (kept_in language (may_restrict language below) false below))
    (sources_in_from language (home + 1) (number + suc (size (kept_in language (may_restrict language below) false below) + 0)) after)
unfolding sources_in_from kept_in numbered
sources_first language home number s below after is =
    let may = may_restrict language below in
    ap (λ o. join (numbered may home number (kept_at o s (kept_in language may (restricts_below may o s) below) end))
    (sources_in_from language (home + 1) (number + size (kept_at o s (kept_in language may (restricts_below may o s) below) end)) after)) is

module_form : (language : Language) (version : YangVersion) → (rule_in language version (known module_word)).form ≡ as_before identifier_form
module_form core version = refl
module_form (rfc wide) version = refl

pub are_modules : (language : Language) (home : ℕ) (modules : Forest Statement) → breaks_in_from language home modules ≡ []
    → (number : ℕ) → AreModules home (sources_in_from language home number modules)
unfolding sources_in_from breaks_in_from
are_modules language home end e number = tt
are_modules language home (node s below after) e number =
    let version = version_in language below in
    let form = (rule_in language version (known module_word)).form in
    let here = is_module language home s below (none_first (top_breaks language home s below) (breaks_in_from language (home + 1) after) e) in
    subst (AreModules home) (sym (sources_first language home number s below after here.keyword)) (
      refl,
      refl,
      identifier_is version home form s (none_first (argument_breaks home version form s) _ here.own) (module_form language version),
      legal_row language version (may_restrict language below) home (may_restrict language below) false (rule_in language version (known module_word)).substatements (may_stand module_word) (covers_known language version module_word)
          below here.inner (number + 1),
      are_modules language (home + 1) after (none_second (top_breaks language home s below) (breaks_in_from language (home + 1) after) e) _,
    )
