-- How many statements of each keyword there are.
use Rattle.std.proofs.Common.{◌≡◌, ℕ, ◌+◌, ◌<◌, ◌≤◌, Bool, true, false, cond, List, [], ◌∷◌, length, get_or, drop, Option, arith, refl, sym, ap, ap₂, ◌∙◌}
use Rattle.std.specs.Prelude.{◌||◌, ◌&&◌, not, count_by, slice_set}
use Rattle.std.specs.Option.{option_map_or}
use Rattle.std.proofs.Math.Bool.{and-false, and-true}
use Rattle.std.proofs.lemmas.Bool.{eq-eqb, and_parts}
use Rattle.std.proofs.lemmas.Slice.Eq.{bytes_eq-Decides}
use Rattle.std.proofs.lemmas.Bool.Decides.{Decides-eqb}
use Rattle.std.proofs.lemmas.Option.{slice_get_within, unwrap_or-slice_get}
use Rattle.std.specs.List.{list_any}
use Rattle.std.proofs.lemmas.List.Sums.{sum_by-cons}
use Rattle.std.proofs.lemmas.List.{get_or-set_same, get_or-set_other}
use Rattle.yspec.specs.Forest.{Forest, end, row}
use Rattle.yspec.specs.text.Text.{is_text}
use Rattle.yspec.specs.text.Statement.{Statement}
use Rattle.yspec.specs.linking.StatementBreaks.{has_keyword, is_miscounted, is_missing_version, occurrences}
use Rattle.yspec.specs.linking.Keyword.{Keyword, same_keyword, keyword_named, keyword_number, keywords}
use Rattle.yspec.proofs.LinkingProofs.KeywordLemmas.{by_number}
use Rattle.yspec.specs.linking.Table.{Allowed}
use Rattle.yspec.specs.schema.Breaks.{Count, exactly_one, at_most_one, any_number, is_wrong_count}
use Rattle.ytext.specs.View.{view, row_view}
use Rattle.ytext.specs.declared.statement.Stmt.{Stmt}
use Rattle.ytext.proofs.ViewLemmas.{row_view_at}
use Rattle.ylink_grammar.specs.Counts.{AreOf, are_apart, count_at, has_word, is_miscounted_by, lacks, needs}
use Rattle.ybase_words.proofs.KeywordLemmas.{text_of_named}

-- ---- how many there are of each

pub number_below : (k : Keyword) → keyword_number k < 48
number_below k = slice_get_within keywords (keyword_number k) k (by_number k)

-- one more of a keyword
pub one_more : (counts : List ℕ) (j k : Keyword) → length counts ≡ 48
    → count_at (slice_set counts (keyword_number j) (get_or counts (keyword_number j) 0 + 1)) k ≡ cond (same_keyword k j) (count_at counts k + 1) (count_at counts k)
one_more counts j k long =
    unwrap_or-slice_get (slice_set counts m (get_or counts m 0 + 1)) (keyword_number k) 0
    ∙ (by (same_keyword k j) refl ∙ ap (λ x. cond (same_keyword k j) (x + 1) x) (sym (unwrap_or-slice_get counts (keyword_number k) 0)))
  where
    m : ℕ
    m = keyword_number j

    by : (b : Bool) → same_keyword k j ≡ b → get_or (slice_set counts m (get_or counts m 0 + 1)) (keyword_number k) 0
        ≡ cond (same_keyword k j) (get_or counts (keyword_number k) 0 + 1) (get_or counts (keyword_number k) 0)
    by true e =
        let same : keyword_number k ≡ m = (Decides-eqb (keyword_number k) m).0 e in
        let below = number_below j in
        let own = get_or counts (keyword_number k) 0 in
        ap (λ n. get_or (slice_set counts m (get_or counts m 0 + 1)) n 0) same
        ∙ (get_or-set_same counts m (get_or counts m 0 + 1) 0 (omega (arith, below, long))
        ∙ (ap (λ n. get_or counts n 0 + 1) (sym same) ∙ sym (ap (λ b. cond b (own + 1) own) e)))
    by false e =
        let own = get_or counts (keyword_number k) 0 in
        get_or-set_other counts m (keyword_number k) (get_or counts m 0 + 1) 0 (λ same. let yes = eq-eqb (keyword_number k) m same in let no : true ≡ false = sym yes ∙ e in cc)
        ∙ sym (ap (λ b. cond b (own + 1) own) e)

-- what is counted, with what is left
pub counts_more : (counts more : List ℕ) (o : Option Keyword) (ss : List Stmt) (i : ℕ) (s : Stmt) (whole : Keyword → ℕ)
    → i < length ss → s ≡ get_or ss i s → o ≡ keyword_named (view s).0.keyword
    → ((k : Keyword) → count_at more k ≡ cond (option_map_or (same_keyword k) o false) (count_at counts k + 1) (count_at counts k))
    → ((k : Keyword) → count_at counts k + occurrences k (row_view (drop i ss)) ≡ whole k)
    → (k : Keyword) → count_at more k + occurrences k (row_view (drop (i + 1) ss)) ≡ whole k
counts_more counts more o ss i s whole within is named counted so k =
    let f = row_view (drop (i + 1) ss) in
    let first : occurrences k (row_view (drop i ss)) ≡ cond (option_map_or (same_keyword k) o false) 1 0 + occurrences k f =
    ap (occurrences k) (row_view_at ss i s within is)
    ∙ (sum_by-cons (λ x. cond (has_keyword k x) 1 0) (view s).0 (row f)
    ∙ ap (λ x. cond (option_map_or (same_keyword k) x false) 1 0 + occurrences k f) (sym named)) in
    by (option_map_or (same_keyword k) o false) refl (counted k) (occurrences k f) (occurrences k (row_view (drop i ss))) first ∙ so k
  where
    by : (b : Bool) → option_map_or (same_keyword k) o false ≡ b → count_at more k ≡ cond (option_map_or (same_keyword k) o false) (count_at counts k + 1) (count_at counts k)
        → (rest all : ℕ) → all ≡ cond (option_map_or (same_keyword k) o false) 1 0 + rest → count_at more k + rest ≡ count_at counts k + all
    by true e counted rest all first =
        let now : count_at more k ≡ count_at counts k + 1 = counted ∙ ap (λ b. cond b (count_at counts k + 1) (count_at counts k)) e in
        let then : all ≡ 1 + rest = first ∙ ap (λ b. cond b 1 0 + rest) e in
        omega (arith, now, then)
    by false e counted rest all first =
        let now : count_at more k ≡ count_at counts k = counted ∙ ap (λ b. cond b (count_at counts k + 1) (count_at counts k)) e in
        let then : all ≡ 0 + rest = first ∙ ap (λ b. cond b 1 0 + rest) e in
        omega (arith, now, then)

pub few_more : (b : Bool) (now before i : ℕ) → now ≡ cond b (before + 1) before → before ≤ i → now ≤ i + 1
few_more true now before i is few = omega (arith, is, few)
few_more false now before i is few = omega (arith, is, few)

miscounted_by : (counts : List ℕ) (f : Forest Statement) → AreOf counts f → (a : Allowed) → is_miscounted_by counts a ≡ is_miscounted f a
miscounted_by counts f are a = rw (are a.keyword) refl

pub all_miscounted : (counts : List ℕ) (f : Forest Statement) → AreOf counts f → (allowed : List Allowed)
    → list_any (is_miscounted_by counts) allowed ≡ list_any (is_miscounted f) allowed
all_miscounted counts f are [] = refl
all_miscounted counts f are (a ∷ others) = ap₂ (λ x y. x || y) (miscounted_by counts f are a) (all_miscounted counts f are others)

-- ---- a row in which no keyword comes twice

-- what the one test passes, the other does
any_less : {A : Type 0} (p q : A → Bool) → ((x : A) → p x ≡ true → q x ≡ true) → (xs : List A) → list_any q xs ≡ false → list_any p xs ≡ false
any_less p q less [] none = refl
any_less p q less (x ∷ xs) none = by (p x) (q x) refl refl none (any_less p q less xs)
  where
    by : (a b : Bool) → p x ≡ a → q x ≡ b → (b || list_any q xs) ≡ false → (list_any q xs ≡ false → list_any p xs ≡ false) → (p x || list_any p xs) ≡ false
    by a true ea eb none rest = absurd cc
    by true false ea eb none rest = let clash : true ≡ false = sym (less x ea) ∙ eb in absurd cc
    by false false ea eb none rest = rw ea (rest none)

not_again : (k : Keyword) (s : Statement) (ss : List Statement) → has_keyword k s ≡ true → has_word s.keyword ss ≡ false → list_any (has_keyword k) ss ≡ false
not_again k s ss has none =
    any_less (has_keyword k) (λ x. is_text s.keyword x.keyword)
    (λ x e. (bytes_eq-Decides s.keyword x.keyword).1 (text_of_named k s.keyword has ∙ sym (text_of_named k x.keyword e))) ss none

not_false : (b : Bool) → not b ≡ true → b ≡ false
not_false true e = absurd cc
not_false false e = refl

once : (k : Keyword) (ss : List Statement) → are_apart ss ≡ true → count_by (has_keyword k) ss ≡ cond (list_any (has_keyword k) ss) 1 0
once k [] apart = refl
once k (s ∷ ss) apart =
    let parts = and_parts (not (has_word s.keyword ss)) (are_apart ss) apart in
    sum_by-cons (λ x. cond (has_keyword k x) 1 0) s ss ∙ by (has_keyword k s) refl (not_false (has_word s.keyword ss) parts.0) (once k ss parts.1)
  where
    by : (b : Bool) → has_keyword k s ≡ b → has_word s.keyword ss ≡ false → count_by (has_keyword k) ss ≡ cond (list_any (has_keyword k) ss) 1 0
        → cond b 1 0 + count_by (has_keyword k) ss ≡ cond (b || list_any (has_keyword k) ss) 1 0
    by true is none e = ap (λ n. 1 + n) (e ∙ ap (λ b. cond b 1 0) (not_again k s ss is none))
    by false is none e = omega (arith, e)

-- of what comes once at most, there may only be too few
miscounted_once : (f : Forest Statement) (a : Allowed) → occurrences a.keyword f ≡ cond (list_any (has_keyword a.keyword) (row f)) 1 0
    → is_miscounted f a ≡ (is_miscounted end a && lacks f a.keyword)
miscounted_once f a e = by (list_any (has_keyword a.keyword) (row f)) (occurrences a.keyword f) e a.count
  where
    miscounted : Count → ℕ → Bool
    miscounted c n = is_wrong_count c n && not (is_missing_version a.keyword n)

    by : (b : Bool) (n : ℕ) → n ≡ cond b 1 0 → (c : Count) → miscounted c n ≡ (miscounted c 0 && not b)
    by true n e c = ap (miscounted c) e ∙ never c
      where
        never : (c : Count) → miscounted c 1 ≡ (miscounted c 0 && false)
        never exactly_one = sym (and-false (miscounted exactly_one 0))
        never at_most_one = refl
        never any_number = refl
    by false n e c = ap (miscounted c) e ∙ sym (and-true (miscounted c 0))

pub only_missing : (f : Forest Statement) → are_apart (row f) ≡ true → (allowed : List Allowed) → list_any (lacks f) (needs allowed) ≡ list_any (is_miscounted f) allowed
only_missing f apart [] = refl
only_missing f apart (a ∷ others) = by (is_miscounted end a) refl ∙ ap₂ (λ x y. x || y) (sym (miscounted_once f a (once a.keyword (row f) apart))) (only_missing f apart others)
  where
    by : (b : Bool) → is_miscounted end a ≡ b → list_any (lacks f) (needs (a ∷ others)) ≡ ((is_miscounted end a && lacks f a.keyword) || list_any (lacks f) (needs others))
    by true is = rw is refl
    by false is = rw is refl
