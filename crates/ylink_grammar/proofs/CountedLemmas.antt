-- The first substatement of which there are too many or too few.
use Rattle.std.proofs.Common.{◌≡◌, ℕ, zero, suc, ◌+◌, Bool, true, false, cond, not, List, [], ◌∷◌, ◌++◌, map, Option, Some, None, arith, refl, sym, ap, ap₂, ◌∙◌}
use Rattle.std.specs.Prelude.{◌||◌, ◌&&◌, ◌==◌, count_by, nat_lt}
use Rattle.std.proofs.lemmas.Bool.{eqb-true, lt-ltb}
use Rattle.std.proofs.lemmas.List.Sums.{sum_by-cons}
use Rattle.std.specs.List.{list_any}
use Rattle.yspec.specs.Forest.{Forest, row, first_of}
use Rattle.yspec.specs.text.Statement.{Statement}
use Rattle.yspec.specs.schema.Breaks.{exactly_one}
use Rattle.yspec.specs.linking.Keyword.{yang_version_word}
use Rattle.yspec.specs.linking.Table as narrow
use Rattle.yspec_wide.specs.Language.{Language}
use Rattle.yspec_wide.specs.Words.{Word, known, same_word}
use Rattle.yspec_wide.specs.Table.{Allowed, row_before, many}
use Rattle.yspec_wide.specs.StatementBreaks.{has_word, occurrences, is_miscounted}
use Rattle.ylink_grammar.specs.Counts.{is_repeated}
use Rattle.ylink_grammar.specs.Miscounted.{first_miscounted}
use Rattle.ylink_grammar.specs.TableView.{once}
use Rattle.ylink_grammar.proofs.WordLemmas.{not_zero, repeats_counted}

-- ---- how many there are

none_more : (n : ℕ) → n ≡ 0 + n
none_more n = omega arith

not_one : (n : ℕ) → (suc (suc n) == 1) ≡ false
not_one n = by (suc (suc n) == 1) refl
  where
    by : (b : Bool) → (suc (suc n) == 1) ≡ b → b ≡ false
    by true e = let same : suc (suc n) ≡ 1 = eqb-true (suc (suc n)) 1 e in absurd (omega (arith, same))
    by false e = refl

several : (a b c d x : Bool) → a ≡ false → b ≡ false → c ≡ true → (not a && not (x && b)) ≡ (c || not (x || d))
several a b c d true first second third = rw (first, second, third) refl
several a b c d false first second third = rw (first, third) refl

any_counted : (test : Statement → Bool) (ss : List Statement) → list_any test ss ≡ nat_lt 0 (count_by test ss)
any_counted test [] = refl
any_counted test (s ∷ ss) = ap₂ (λ b c. b || c) refl (any_counted test ss) ∙ (by (test s) (count_by test ss) ∙ ap (λ n. nat_lt 0 n) (sym (sum_by-cons (λ x. cond (test x) 1 0) s ss)))
  where
    by : (b : Bool) (n : ℕ) → (b || nat_lt 0 n) ≡ nat_lt 0 (cond b 1 0 + n)
    by true n = sym (lt-ltb 0 (1 + n) (omega arith))
    by false n = ap (λ k. nat_lt 0 k) (none_more n)

one_or_missing : (n : ℕ) (x : Bool) → (not (n == 1) && not (x && n == 0)) ≡ (nat_lt 1 n || not (x || nat_lt 0 n))
one_or_missing zero true = refl
one_or_missing zero false = refl
one_or_missing (suc zero) true = refl
one_or_missing (suc zero) false = refl
one_or_missing (suc (suc n)) x =
    several (suc (suc n) == 1) (suc (suc n) == 0) (nat_lt 1 (suc (suc n))) (nat_lt 0 (suc (suc n))) x
    (not_one n) (not_zero (suc n)) (lt-ltb 1 (suc (suc n)) (omega arith))

one_alike : (l : Language) (f : Forest Statement) (w : Word) → is_miscounted l f (record { word = w; count = exactly_one })
    ≡ (is_repeated l f w || not (same_word w (known yang_version_word) || list_any (has_word l w) (row f)))
one_alike l f w =
    let n = occurrences l w f in
    let x = same_word w (known yang_version_word) in
    one_or_missing n x ∙ sym (ap₂ (λ a b. a || not (x || b)) (repeats_counted (has_word l w) false (row f) ∙ ap (λ k. nat_lt 1 k) (sym (none_more n))) (any_counted (has_word l w) (row f)))

pub one_by : (l : Language) (f : Forest Statement) (w : Word) (repeated missing : Bool) → repeated ≡ is_repeated l f w
    → missing ≡ not (same_word w (known yang_version_word) || list_any (has_word l w) (row f))
    → (repeated || missing) ≡ is_miscounted l f (record { word = w; count = exactly_one })
one_by l f w repeated missing first second = ap₂ (λ a b. a || b) first second ∙ sym (one_alike l f w)

-- ---- rows one behind another

first_append : (l : Language) (f : Forest Statement) (xs ys : List Allowed)
    → first_miscounted l f (xs ++ ys) ≡ first_of (first_miscounted l f xs) (first_miscounted l f ys)
first_append l f [] ys = refl
first_append l f (x ∷ xs) ys = by (is_miscounted l f x) (first_append l f xs ys)
  where
    by : (b : Bool) → first_miscounted l f (xs ++ ys) ≡ first_of (first_miscounted l f xs) (first_miscounted l f ys)
        → cond b (Some x.word) (first_miscounted l f (xs ++ ys)) ≡ first_of (cond b (Some x.word) (first_miscounted l f xs)) (first_miscounted l f ys)
    by true e = refl
    by false e = e

none_of_many : (l : Language) (f : Forest Statement) (words : List Word) → first_miscounted l f (map many words) ≡ None
none_of_many l f [] = refl
none_of_many l f (w ∷ words) = none_of_many l f words

or_none : (o : Option Word) → first_of o None ≡ o
or_none None = refl
or_none (Some w) = refl

with_none : (l : Language) (f : Forest Statement) (xs : List Allowed) (words : List Word)
    → first_miscounted l f (xs ++ map many words) ≡ first_miscounted l f xs
with_none l f xs words = first_append l f xs (map many words) ∙ (ap (λ o. first_of (first_miscounted l f xs) o) (none_of_many l f words) ∙ or_none (first_miscounted l f xs))

pub first_of_rows : (l : Language) (f : Forest Statement) (single ahead : List Word) (rows : List narrow.Allowed) (behind : List Word)
    → first_miscounted l f ((map once single ++ map many ahead) ++ (row_before rows ++ map many behind))
    ≡ first_of (first_miscounted l f (map once single)) (first_miscounted l f (row_before rows))
first_of_rows l f single ahead rows behind =
    first_append l f (map once single ++ map many ahead) (row_before rows ++ map many behind)
    ∙ ap₂ (λ a b. first_of a b) (with_none l f (map once single) ahead) (with_none l f (row_before rows) behind)
