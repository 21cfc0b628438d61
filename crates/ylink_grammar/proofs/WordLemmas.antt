-- Keywords of a language beside those of the core, and the rows of its table beside the core's.
use Rattle.std.proofs.Common.{◌≡◌, ℕ, zero, suc, ◌+◌, Bool, true, false, cond, not, List, [], ◌∷◌, ◌++◌, map, Option, Some, None, arith, refl, sym, ap, ap₂, ◌∙◌}
use Rattle.std.proofs.Math.Path.{fun_ext}
use Rattle.std.specs.Prelude.{◌||◌, ◌&&◌, ◌==◌, codes, count_by, nat_lt, option_map}
use Rattle.std.proofs.Math.Bool.{and-false, and-true, or-false}
use Rattle.std.proofs.lemmas.Bool.{eqb-true, lt-ltb}
use Rattle.std.proofs.lemmas.List.Folds.{list_any-append}
use Rattle.std.proofs.lemmas.List.Sums.{sum_by-cons}
use Rattle.std.specs.List.{list_any}
use Rattle.std.specs.Option.{option_map_or}
use Rattle.std.proofs.lemmas.Slice.Eq.{bytes_eq-Decides}
use Rattle.yspec.specs.Forest.{Forest, row}
use Rattle.yspec.specs.text.Text.{Text, is_text}
use Rattle.yspec.specs.text.Statement.{Statement}
use Rattle.yspec.specs.schema.Breaks.{broken, when, is_wrong_count}
use Rattle.yspec.specs.linking.Keyword.{Keyword, same_keyword, keyword_named}
use Rattle.yspec.specs.linking.Table as narrow_table
use Rattle.yspec.specs.linking.StatementBreaks as narrow
use Rattle.yspec.specs.linking.StatementBreaks.{has_keyword, is_prefixed}
use Rattle.yspec.proofs.LinkingProofs.KeywordLemmas.{of_each, prefixed_is_none}
use Rattle.yspec_wide.specs.Language.{Language, Unjudged, core, rfc}
use Rattle.yspec_wide.specs.Words.{Word, known, feature_word, if_feature_word, pattern_word, modifier_word, must_word, when_word, rpc_word, action_word, notification_word, input_word, output_word, anydata_word, anyxml_word, same_word, anything_named, operation_named, or_added, or_unjudged, word_named}
use Rattle.yspec_wide.specs.Table.{Allowed, allowed_before, row_before, many}
use Rattle.yspec_wide.specs.StatementBreaks.{has_word, occurrences, is_miscounted, is_allowed, type_breaks, version_breaks}
use Rattle.ylink_grammar.specs.Counts.{is_type_outside, is_wrongly_versioned, is_repeated, repeats}
use Rattle.ylink_grammar.specs.TableView.{once}

is_false : (b : Bool) → not b ≡ true → b ≡ false
is_false true e = absurd cc
is_false false e = refl

-- ---- keywords beside those of the core

pub no_feature : (k : Keyword) → same_word (known k) feature_word ≡ false
no_feature k = is_false _ (of_each (λ k. not (same_word (known k) feature_word)) refl k)

pub no_if_feature : (k : Keyword) → same_word (known k) if_feature_word ≡ false
no_if_feature k = is_false _ (of_each (λ k. not (same_word (known k) if_feature_word)) refl k)

no_pattern : (k : Keyword) → same_word (known k) pattern_word ≡ false
no_pattern k = is_false _ (of_each (λ k. not (same_word (known k) pattern_word)) refl k)

no_modifier : (k : Keyword) → same_word (known k) modifier_word ≡ false
no_modifier k = is_false _ (of_each (λ k. not (same_word (known k) modifier_word)) refl k)

no_must : (k : Keyword) → same_word (known k) must_word ≡ false
no_must k = is_false _ (of_each (λ k. not (same_word (known k) must_word)) refl k)

no_when : (k : Keyword) → same_word (known k) when_word ≡ false
no_when k = is_false _ (of_each (λ k. not (same_word (known k) when_word)) refl k)

no_rpc : (k : Keyword) → same_word (known k) rpc_word ≡ false
no_rpc k = is_false _ (of_each (λ k. not (same_word (known k) rpc_word)) refl k)

no_action : (k : Keyword) → same_word (known k) action_word ≡ false
no_action k = is_false _ (of_each (λ k. not (same_word (known k) action_word)) refl k)

no_notification : (k : Keyword) → same_word (known k) notification_word ≡ false
no_notification k = is_false _ (of_each (λ k. not (same_word (known k) notification_word)) refl k)

no_input : (k : Keyword) → same_word (known k) input_word ≡ false
no_input k = is_false _ (of_each (λ k. not (same_word (known k) input_word)) refl k)

no_output : (k : Keyword) → same_word (known k) output_word ≡ false
no_output k = is_false _ (of_each (λ k. not (same_word (known k) output_word)) refl k)

no_anydata : (k : Keyword) → same_word (known k) anydata_word ≡ false
no_anydata k = is_false _ (of_each (λ k. not (same_word (known k) anydata_word)) refl k)

no_anyxml : (k : Keyword) → same_word (known k) anyxml_word ≡ false
no_anyxml k = is_false _ (of_each (λ k. not (same_word (known k) anyxml_word)) refl k)

-- which of the two of nodes without a type a text is
abbrev one_anything : Bool → Bool → Option Word
one_anything a b = cond a (Some anydata_word) (cond b (Some anyxml_word) None)

no_anything : (k : Keyword) (a b : Bool) → option_map_or (same_word (known k)) (one_anything a b) false ≡ false
no_anything k true b = no_anydata k
no_anything k false true = no_anyxml k
no_anything k false false = refl

none_anything : (a b : Bool) → a ≡ false → b ≡ false → one_anything a b ≡ None
none_anything a b first last = rw (first, last) refl

-- which of the five of operations it is, or one of these
abbrev one_operation : Bool → Bool → Bool → Bool → Bool → Option Word → Option Word
one_operation a b c d e others = cond a (Some rpc_word) (cond b (Some action_word) (cond c (Some notification_word)
    (cond d (Some input_word) (cond e (Some output_word) others))))

no_operation : (k : Keyword) (a b c d e : Bool) (others : Option Word) → option_map_or (same_word (known k)) others false ≡ false
    → option_map_or (same_word (known k)) (one_operation a b c d e others) false ≡ false
no_operation k true b c d e others none = no_rpc k
no_operation k false true c d e others none = no_action k
no_operation k false false true d e others none = no_notification k
no_operation k false false false true e others none = no_input k
no_operation k false false false false true others none = no_output k
no_operation k false false false false false others none = none

-- which of the four others it is, or one of these
abbrev one_added : Bool → Bool → Bool → Bool → Option Word → Option Word
one_added a b c d others = cond a (Some feature_word) (cond b (Some if_feature_word) (cond c (Some pattern_word) (cond d (Some modifier_word) others)))

no_added : (k : Keyword) (a b c d : Bool) (others : Option Word) → option_map_or (same_word (known k)) others false ≡ false
    → option_map_or (same_word (known k)) (one_added a b c d others) false ≡ false
no_added k true b c d others none = no_feature k
no_added k false true c d others none = no_if_feature k
no_added k false false true d others none = no_pattern k
no_added k false false false true others none = no_modifier k
no_added k false false false false others none = none

-- and which of the two conditions
abbrev one_unjudged : Bool → Bool → Option Word
one_unjudged a b = cond a (Some must_word) (cond b (Some when_word) None)

no_unjudged : (k : Keyword) (a b : Bool) → option_map_or (same_word (known k)) (one_unjudged a b) false ≡ false
no_unjudged k true b = no_must k
no_unjudged k false true = no_when k
no_unjudged k false false = refl

-- a condition is no keyword of the core
still_none : (k : Keyword) (u : Unjudged) (t : Text) (o : Option Word) → option_map_or (same_word (known k)) o false ≡ false
    → option_map_or (same_word (known k)) (or_unjudged u o t) false ≡ false
still_none k u t None none = no_unjudged k (is_text t (codes "must") && u.musts) (is_text t (codes "when") && u.whens)
still_none k u t (Some w) none = none

core_has : (k : Keyword) (o : Option Keyword) → option_map_or (same_word (known k)) (option_map known o) false ≡ option_map_or (same_keyword k) o false
core_has k None = refl
core_has k (Some j) = refl

wide_has : (k : Keyword) (u : Unjudged) (t : Text) (o : Option Keyword)
    → option_map_or (same_word (known k)) (or_unjudged u (or_added o t) t) false ≡ option_map_or (same_keyword k) o false
wide_has k u t None =
    still_none k u t (or_added None t)
    (no_added k (is_text t (codes "feature")) (is_text t (codes "if-feature")) (is_text t (codes "pattern")) (is_text t (codes "modifier")) (operation_named t)
    (no_operation k (is_text t (codes "rpc")) (is_text t (codes "action")) (is_text t (codes "notification")) (is_text t (codes "input")) (is_text t (codes "output"))
    (anything_named t) (no_anything k (is_text t (codes "anydata")) (is_text t (codes "anyxml")))))
wide_has k u t (Some j) = refl

pub has_alike : (l : Language) (k : Keyword) (s : Statement) → has_word l (known k) s ≡ has_keyword k s
has_alike core k s = core_has k (keyword_named s.keyword)
has_alike (rfc wide) k s = wide_has k wide.unjudged s.keyword (keyword_named s.keyword)

-- no keyword has a prefix
plain : (t word : Text) → is_prefixed t ≡ true → is_prefixed word ≡ false → is_text t word ≡ false
plain t word prefixed e = by (is_text t word) refl
  where
    by : (b : Bool) → is_text t word ≡ b → b ≡ false
    by true is =
        let same : t ≡ word = (bytes_eq-Decides t word).0 is in
        let clash : true ≡ false = sym prefixed ∙ (ap is_prefixed same ∙ e) in absurd cc
    by false is = refl

none_by : (a b c d : Bool) (others : Option Word) → a ≡ false → b ≡ false → c ≡ false → d ≡ false → others ≡ None → one_added a b c d others ≡ None
none_by a b c d others first second third last none = rw (first, second, third, last) none

none_operation : (a b c d e : Bool) (others : Option Word) → a ≡ false → b ≡ false → c ≡ false → d ≡ false → e ≡ false → others ≡ None
    → one_operation a b c d e others ≡ None
none_operation a b c d e others first second third fourth last none = rw (first, second, third, fourth, last) none

none_unjudged : (a b musts whens : Bool) → a ≡ false → b ≡ false → one_unjudged (a && musts) (b && whens) ≡ None
none_unjudged a b musts whens first second = rw (first, second) refl

pub prefixed_is_no_word : (l : Language) (t : Text) → is_prefixed t ≡ true → word_named l t ≡ None
prefixed_is_no_word core t prefixed = ap (option_map known) (prefixed_is_none t prefixed)
prefixed_is_no_word (rfc wide) t prefixed =
    let added : or_added (keyword_named t) t ≡ None = ap (λ o. or_added o t) (prefixed_is_none t prefixed)
    ∙ none_by (is_text t (codes "feature")) (is_text t (codes "if-feature")) (is_text t (codes "pattern")) (is_text t (codes "modifier")) (operation_named t)
    (plain t (codes "feature") prefixed refl) (plain t (codes "if-feature") prefixed refl)
    (plain t (codes "pattern") prefixed refl) (plain t (codes "modifier") prefixed refl)
    (none_operation (is_text t (codes "rpc")) (is_text t (codes "action")) (is_text t (codes "notification")) (is_text t (codes "input")) (is_text t (codes "output")) (anything_named t)
    (plain t (codes "rpc") prefixed refl) (plain t (codes "action") prefixed refl) (plain t (codes "notification") prefixed refl)
    (plain t (codes "input") prefixed refl) (plain t (codes "output") prefixed refl)
    (none_anything (is_text t (codes "anydata")) (is_text t (codes "anyxml")) (plain t (codes "anydata") prefixed refl) (plain t (codes "anyxml") prefixed refl))) in
    ap (λ o. or_unjudged wide.unjudged o t) added
    ∙ none_unjudged (is_text t (codes "must")) (is_text t (codes "when")) wide.unjudged.musts wide.unjudged.whens
    (plain t (codes "must") prefixed refl) (plain t (codes "when") prefixed refl)

-- ---- how many there are

occur_alike : (l : Language) (k : Keyword) (f : Forest Statement) → occurrences l (known k) f ≡ narrow.occurrences k f
occur_alike l k f = ap (λ test. count_by test (row f)) (fun_ext (has_alike l k))

miscounted_alike : (l : Language) (f : Forest Statement) (a : narrow_table.Allowed) → is_miscounted l f (allowed_before a) ≡ narrow.is_miscounted f a
miscounted_alike l f a = ap (λ n. is_wrong_count a.count n && not (narrow.is_missing_version a.keyword n)) (occur_alike l a.keyword f)

none_miscounted : (l : Language) (f : Forest Statement) (words : List Word) → list_any (is_miscounted l f) (map many words) ≡ false
none_miscounted l f [] = refl
none_miscounted l f (w ∷ words) = none_miscounted l f words

behind_alike : (l : Language) (f : Forest Statement) (rows : List narrow_table.Allowed) (behind : List Word)
    → list_any (is_miscounted l f) (row_before rows ++ map many behind) ≡ list_any (narrow.is_miscounted f) rows
behind_alike l f [] behind = none_miscounted l f behind
behind_alike l f (a ∷ rows) behind = ap₂ (λ b c. b || c) (miscounted_alike l f a) (behind_alike l f rows behind)

-- one more that passes the test or doesn't
one_repeats : (b now : Bool) (m n : ℕ) (first second : Bool) → m ≡ cond now 1 0 + n → first ≡ nat_lt 1 (1 + n) → second ≡ nat_lt 1 (cond b 1 0 + n)
    → cond now (b || first) second ≡ nat_lt 1 (cond b 1 0 + m)
one_repeats true true m n first second more first_is second_is = sym (lt-ltb 1 (1 + m) (omega (arith, more)))
one_repeats false true m n first second more first_is second_is = first_is ∙ ap (λ k. nat_lt 1 k) (omega (arith, more))
one_repeats b false m n first second more first_is second_is = second_is ∙ ap (λ k. nat_lt 1 (cond b 1 0 + k)) (omega (arith, more))

pub repeats_counted : (test : Statement → Bool) (b : Bool) (ss : List Statement) → repeats test b ss ≡ nat_lt 1 (cond b 1 0 + count_by test ss)
repeats_counted test true [] = refl
repeats_counted test false [] = refl
repeats_counted test b (s ∷ ss) =
    one_repeats b (test s) _ (count_by test ss) _ _ (sum_by-cons (λ x. cond (test x) 1 0) s ss) (repeats_counted test true ss) (repeats_counted test b ss)

pub not_zero : (n : ℕ) → (suc n == 0) ≡ false
not_zero n = by (suc n == 0) refl
  where
    by : (b : Bool) → (suc n == 0) ≡ b → b ≡ false
    by true e = let same : suc n ≡ 0 = eqb-true (suc n) 0 e in absurd (omega (arith, same))
    by false e = refl

not_missing : (n : ℕ) (x : Bool) → (nat_lt 1 n && not (x && n == 0)) ≡ nat_lt 1 n
not_missing zero x = refl
not_missing (suc n) x = ap (λ b. nat_lt 1 (suc n) && not (x && b)) (not_zero n) ∙ (ap (λ b. nat_lt 1 (suc n) && not b) (and-false x) ∙ and-true (nat_lt 1 (suc n)))

pub once_alike : (l : Language) (f : Forest Statement) (w : Word) → is_miscounted l f (once w) ≡ is_repeated l f w
once_alike l f w =
    let n = occurrences l w f in
    let none_yet : 0 + n ≡ n = omega arith in
    not_missing n _ ∙ sym (repeats_counted (has_word l w) false (row f) ∙ ap (λ k. nat_lt 1 k) none_yet)

all_once : (l : Language) (f : Forest Statement) (words : List Word) → list_any (is_miscounted l f) (map once words) ≡ list_any (is_repeated l f) words
all_once l f [] = refl
all_once l f (w ∷ words) = ap₂ (λ b c. b || c) (once_alike l f w) (all_once l f words)

pub rows_alike : (l : Language) (f : Forest Statement) (single ahead : List Word) (rows : List narrow_table.Allowed) (behind : List Word)
    → list_any (is_miscounted l f) ((map once single ++ map many ahead) ++ (row_before rows ++ map many behind))
    ≡ (list_any (is_repeated l f) single || list_any (narrow.is_miscounted f) rows)
rows_alike l f single ahead rows behind =
    list_any-append (is_miscounted l f) (map once single ++ map many ahead) (row_before rows ++ map many behind)
    ∙ ap₂ (λ b c. b || c)
    (list_any-append (is_miscounted l f) (map once single) (map many ahead) ∙ (ap₂ (λ b c. b || c) (all_once l f single) (none_miscounted l f ahead) ∙ or-false _))
    (behind_alike l f rows behind)

-- ---- which may stand there

single_alike : (w : Word) (words : List Word) → list_any (λ x. same_word x w) words ≡ is_allowed w (map once words)
single_alike w [] = refl
single_alike w (x ∷ words) = ap (λ b. same_word x w || b) (single_alike w words)

words_alike : (w : Word) (words : List Word) → list_any (λ x. same_word x w) words ≡ is_allowed w (map many words)
words_alike w [] = refl
words_alike w (x ∷ words) = ap (λ b. same_word x w || b) (words_alike w words)

in_both : (w : Word) (first second : List Allowed) → (is_allowed w first || is_allowed w second) ≡ is_allowed w (first ++ second)
in_both w first second = sym (list_any-append (λ a. same_word a.word w) first second)

pub allowed_ahead : (w : Word) (single ahead : List Word) (first second : Bool)
    → first ≡ list_any (λ x. same_word x w) single → second ≡ list_any (λ x. same_word x w) ahead
    → (first || second) ≡ is_allowed w (map once single ++ map many ahead)
allowed_ahead w single ahead first second first_is second_is =
    ap₂ (λ a b. a || b) (first_is ∙ single_alike w single) (second_is ∙ words_alike w ahead) ∙ in_both w (map once single) (map many ahead)

pub allowed_by : (w : Word) (ahead rows : List Allowed) (behind : List Word) (first second third : Bool)
    → first ≡ is_allowed w ahead → second ≡ is_allowed w rows → third ≡ list_any (λ x. same_word x w) behind
    → (first || (second || third)) ≡ is_allowed w (ahead ++ (rows ++ map many behind))
allowed_by w ahead rows behind first second third first_is second_is third_is =
    ap₂ (λ a b. a || b) first_is (ap₂ (λ a b. a || b) second_is (third_is ∙ words_alike w behind) ∙ in_both w rows (map many behind))
    ∙ in_both w ahead (rows ++ map many behind)

pub or_first : (a b : Bool) → a ≡ true → a ≡ (a || b)
or_first true b e = refl
or_first false b e = absurd cc

pub or_last : (a b c : Bool) → a ≡ false → b ≡ false → c ≡ (a || (b || c))
or_last a b c first second = rw (first, second) refl

-- ---- what a statement breaks by itself

pub type_alike : (l : Language) (m : ℕ) (w : Word) (s : Statement)
    → when (is_type_outside l w s) (broken 1 m s.line) ≡ type_breaks l m w s
type_alike core m (known k) s = refl
type_alike core m feature_word s = refl
type_alike core m if_feature_word s = refl
type_alike core m pattern_word s = refl
type_alike core m modifier_word s = refl
type_alike core m must_word s = refl
type_alike core m when_word s = refl
type_alike core m rpc_word s = refl
type_alike core m action_word s = refl
type_alike core m notification_word s = refl
type_alike core m input_word s = refl
type_alike core m output_word s = refl
type_alike core m anydata_word s = refl
type_alike core m anyxml_word s = refl
type_alike (rfc wide) m w s = refl

pub version_alike : (l : Language) (m : ℕ) (w : Word) (s : Statement) (below : Forest Statement)
    → when (is_wrongly_versioned l w s below) (broken 4 m s.line) ≡ version_breaks l m w s below
version_alike core m (known k) s below = refl
version_alike core m feature_word s below = refl
version_alike core m if_feature_word s below = refl
version_alike core m pattern_word s below = refl
version_alike core m modifier_word s below = refl
version_alike core m must_word s below = refl
version_alike core m when_word s below = refl
version_alike core m rpc_word s below = refl
version_alike core m action_word s below = refl
version_alike core m notification_word s below = refl
version_alike core m input_word s below = refl
version_alike core m output_word s below = refl
version_alike core m anydata_word s below = refl
version_alike core m anyxml_word s below = refl
version_alike (rfc wide) m w s below = refl
