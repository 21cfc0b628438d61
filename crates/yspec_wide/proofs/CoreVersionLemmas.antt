-- A module that breaks no rule of the table under the core says that it is one of YANG 1.1.
use Rattle.std.proofs.Common.{◌≡◌, ℕ, ◌+◌, ◌==◌, Bool, true, false, not, ◌&&◌, ◌||◌, cond, List, [], ◌∷◌, codes, count_by, find, ◌++◌, Option, Some, None, inl, inr, refl, sym, ap, ◌∙◌, arith}
use Rattle.std.proofs.lemmas.Bool.{false≢true, not-false, eqb-true, and_cases, or_parts}
use Rattle.std.proofs.lemmas.List.Sums.{sum_by-cons}
use Rattle.std.specs.List.{list_any}
use Rattle.std.specs.Option.{option_map_or}
use Rattle.yspec.specs.Forest.{Forest, row}
use Rattle.yspec.specs.text.Text.{Text, is_text}
use Rattle.yspec.specs.text.Statement.{Statement}
use Rattle.yspec.specs.schema.Breaks.{broken}
use Rattle.yspec.specs.linking.Keyword.{module_word, yang_version_word}
use Rattle.yspec.specs.linking.Table.{rule_of}
use Rattle.yspec.specs.linking.StatementBreaks as narrow
use Rattle.yspec.specs.linking.StatementBreaks.{has_keyword, is_current_version, row_breaks}
use Rattle.yspec.proofs.LinkingProofs.BreakLemmas.{none_first, none_second, unbroken}
use Rattle.yspec_wide.specs.Language.{core, yang_1, yang_1_1, version_stated, argument_of_version, version_below}
use Rattle.yspec_wide.specs.StatementBreaks.{top_breaks}
use Rattle.yspec_wide.proofs.CoreLemmas.{top_alike}

-- ---- how many there are

-- there is one more than so many of them, which is right
abbrev is_wrong : ℕ → Bool
is_wrong n = not (n == 1) && not (n == 0)

no_other : (others : ℕ) → is_wrong (1 + others) ≡ false → others ≡ 0
no_other others e = elim (and_cases (not (1 + others == 1)) (not (1 + others == 0)) e) [
  | inl first ↦ let one = eqb-true (1 + others) 1 (not-false _ first) in omega (arith, one)
  | inr second ↦ let none = eqb-true (1 + others) 0 (not-false _ second) in absurd (omega (arith, none))
]

module _ {A : Type 0} (p q : A → Bool) where
  no_such : (xs : List A) → count_by p xs ≡ 0 → list_any (λ x. p x && q x) xs ≡ false
  no_such [] e = refl
  no_such (x ∷ xs) e = by (p x) (sym (sum_by-cons (λ x. cond (p x) 1 0) x xs) ∙ e) (no_such xs)
    where
      by : (b : Bool) → cond b 1 0 + count_by p xs ≡ 0 → (count_by p xs ≡ 0 → list_any (λ x. p x && q x) xs ≡ false)
          → ((b && q x) || list_any (λ x. p x && q x) xs) ≡ false
      by true e rest = absurd (omega (arith, e))
      by false e rest = rest (omega (arith, e))

-- ---- the version that is said

abbrev says : Statement → Bool
says s = option_map_or (λ t. is_text t (codes "1.1")) s.argument false

said_so : (given : Option Text) → option_map_or (λ t. is_text t (codes "1.1")) given false ≡ true → version_stated given ≡ yang_1_1
said_so None e = absurd (false≢true e)
said_so (Some t) e = ap (λ b. cond b yang_1_1 yang_1) e

found : (xs : List Statement) → list_any is_current_version xs ≡ true → is_wrong (count_by (has_keyword yang_version_word) xs) ≡ false
    → version_stated (argument_of_version (find (has_keyword yang_version_word) xs)) ≡ yang_1_1
found [] any count = absurd (false≢true any)
found (x ∷ xs) any count = by (has_keyword yang_version_word x) (says x) refl any
    (ap is_wrong (sym (sum_by-cons (λ x. cond (has_keyword yang_version_word x) 1 0) x xs)) ∙ count) (found xs)
  where
    by : (b c : Bool) → says x ≡ c → ((b && c) || list_any is_current_version xs) ≡ true
        → is_wrong (cond b 1 0 + count_by (has_keyword yang_version_word) xs) ≡ false
        → (list_any is_current_version xs ≡ true → is_wrong (count_by (has_keyword yang_version_word) xs) ≡ false
        → version_stated (argument_of_version (find (has_keyword yang_version_word) xs)) ≡ yang_1_1)
        → version_stated (argument_of_version (cond b (Some x) (find (has_keyword yang_version_word) xs))) ≡ yang_1_1
    by true true is any count rest = said_so x.argument is
    by true false is any count rest =
        absurd (false≢true (sym (no_such (has_keyword yang_version_word) says xs (no_other (count_by (has_keyword yang_version_word) xs) count)) ∙ any))
    by false c is any count rest =
        let same : count_by (has_keyword yang_version_word) xs ≡ 0 + count_by (has_keyword yang_version_word) xs = omega arith in
        rest any (ap is_wrong same ∙ count)

-- ---- of a module

own_version : (m : ℕ) (s : Statement) (below : Forest Statement) → narrow.own_breaks m module_word s below ≡ [] → version_below below ≡ yang_1_1
own_version m s below e =
    let behind = none_second (narrow.type_breaks m module_word s) _ (none_second (narrow.argument_breaks m (rule_of module_word).form s) _ e) in
    let versions = unbroken (not (list_any is_current_version (row below))) 4 m s.line (none_first (narrow.version_breaks m module_word s below) _ behind) in
    let counts = unbroken (list_any (narrow.is_miscounted below) (rule_of module_word).substatements) 2 m s.line
    (none_second (narrow.version_breaks m module_word s below) _ behind) in
    found (row below) (not-false _ versions) (or_parts _ _ counts).0

top_version : (m : ℕ) (s : Statement) (below : Forest Statement) → narrow.top_breaks m s below ≡ [] → version_below below ≡ yang_1_1
top_version m s below e = by (has_keyword module_word s) e
  where
    by : (b : Bool) → cond b (narrow.own_breaks m module_word s below ++ row_breaks m (rule_of module_word).substatements below) (broken 1 m s.line) ≡ []
        → version_below below ≡ yang_1_1
    by true e = own_version m s below (none_first (narrow.own_breaks m module_word s below) _ e)
    by false e = absurd cc

pub version_said : (m : ℕ) (s : Statement) (below : Forest Statement) → top_breaks core m s below ≡ [] → version_below below ≡ yang_1_1
version_said m s below e = top_version m s below (sym (top_alike m s below) ∙ e)
