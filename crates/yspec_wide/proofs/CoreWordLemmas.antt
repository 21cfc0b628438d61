-- No statement that the core keeps has a keyword that the core doesn't have.
use Rattle.std.proofs.Common.{◌≡◌, ℕ, suc, ◌+◌, Bool, true, false, ◌||◌, ◌++◌, ◌∷◌, Option, Some, None, refl, sym, ap, ap₂, ◌∙◌, append_assoc}
use Rattle.std.proofs.lemmas.Bool.{or_from}
use Rattle.std.proofs.lemmas.List.Folds.{list_any-append}
use Rattle.std.proofs.lemmas.Slice.Eq.{bytes_eq-Decides}
use Rattle.std.specs.Prelude.{option_and_then}
use Rattle.std.specs.List.{list_any}
use Rattle.yspec.specs.Forest.{Forest, end, node, join, preorder, size}
use Rattle.yspec.specs.text.Text.{Text, is_text}
use Rattle.yspec.specs.text.Statement.{Statement}
use Rattle.yspec.specs.linking.Keyword.{Keyword, keyword_named}
use Rattle.yspec.specs.linking.Source.{Source, unless_extension, kept_keyword, kept_at, kept, numbered, sources_from}
use Rattle.yspec_wide.specs.Language.{Wide, core, rfc}
use Rattle.yspec.specs.linking.TypeStatements.{is_pattern_statement}
use Rattle.yspec_wide.specs.Words.{word_text, feature_word, if_feature_word, pattern_word}
use Rattle.yspec_wide.specs.Sources.{is_feature, is_condition, sources_in}
use Rattle.yspec_wide.proofs.CoreLemmas.{kept_of_all_alike}

-- ---- rows

preorder_joined : {L : Type 0} (f g : Forest L) → preorder (join f g) ≡ preorder f ++ preorder g
preorder_joined end g = refl
preorder_joined (node l below after) g = ap (λ labels. l ∷ labels)
    (ap (λ later. preorder below ++ later) (preorder_joined after g) ∙ sym (append_assoc (preorder below) (preorder after) (preorder g)))

-- ---- a text that is no keyword

module _ (word : Text) (unknown : keyword_named word ≡ None) where
  abbrev has_it : Statement → Bool
  has_it s = is_text s.keyword word

  abbrev HasNone : Forest (Keyword × Statement) → Type 0
  HasNone f = list_any (λ (q : Keyword × Statement). has_it q.1) (preorder f) ≡ false

  none_kept : (f : Forest Statement) → HasNone (kept f)
  unfolding kept
  none_kept end = refl
  none_kept (node s below after) = by (has_it s) refl (kept_keyword s) refl (none_kept below) (none_kept after)
    where
      by : (b : Bool) → has_it s ≡ b → (k : Option Keyword) → kept_keyword s ≡ k → HasNone (kept below) → HasNone (kept after)
          → HasNone (kept_at k s (kept below) (kept after))
      by b e None is inside later = later
      by true e (Some k) is inside later =
          let clash : None ≡ Some k = sym (ap (option_and_then unless_extension)
          (ap keyword_named ((bytes_eq-Decides s.keyword word).0 e) ∙ unknown)) ∙ is in absurd cc
      by false e (Some k) is inside later = or_from _ _ e
          (list_any-append (λ (q : Keyword × Statement). has_it q.1) (preorder (kept below)) (preorder (kept after)) ∙ or_from _ _ inside later)

  numbered_alike : (may : Bool) (home number : ℕ) (f : Forest (Keyword × Statement))
      → list_any (λ (s : Source). has_it s.statement) (preorder (numbered may home number f)) ≡ list_any (λ (q : Keyword × Statement). has_it q.1) (preorder f)
  unfolding numbered
  numbered_alike may home number end = refl
  numbered_alike may home number (node (k, s) below after) = ap (λ others. has_it s || others)
      (list_any-append (λ (s : Source). has_it s.statement) (preorder (numbered may home (number + 1) below))
      (preorder (numbered may home (number + suc (size below)) after))
      ∙ (ap₂ (λ inside later. inside || later) (numbered_alike may home (number + 1) below) (numbered_alike may home (number + suc (size below)) after)
      ∙ sym (list_any-append (λ (q : Keyword × Statement). has_it q.1) (preorder below) (preorder after))))

  none_from : (home number : ℕ) (f : Forest Statement) → list_any (λ (s : Source). has_it s.statement) (preorder (sources_from home number f)) ≡ false
  unfolding sources_from
  none_from home number end = refl
  none_from home number (node s below after) =
      ap (list_any (λ (s : Source). has_it s.statement))
      (preorder_joined (numbered false home number (kept (node s below end))) (sources_from (home + 1) (number + size (kept (node s below end))) after))
      ∙ (list_any-append (λ (s : Source). has_it s.statement) (preorder (numbered false home number (kept (node s below end)))) _
      ∙ or_from _ _ (numbered_alike false home number (kept (node s below end)) ∙ none_kept (node s below end))
      (none_from (home + 1) (number + size (kept (node s below end))) after))

  pub none_in_core : (modules : Forest Statement) → list_any (λ (s : Source). has_it s.statement) (preorder (sources_in core modules)) ≡ false
  none_in_core modules = ap (λ sources. list_any (λ (s : Source). has_it s.statement) (preorder sources)) (kept_of_all_alike modules) ∙ none_from 0 0 modules

pub no_feature : (wide : Wide) (modules : Forest Statement) → list_any (is_feature (rfc wide)) (preorder (sources_in core modules)) ≡ false
no_feature wide modules = none_in_core (word_text feature_word) refl modules

pub no_condition : (wide : Wide) (modules : Forest Statement) → list_any (is_condition (rfc wide)) (preorder (sources_in core modules)) ≡ false
no_condition wide modules = none_in_core (word_text if_feature_word) refl modules

pub no_pattern : (modules : Forest Statement) → list_any is_pattern_statement (preorder (sources_in core modules)) ≡ false
no_pattern modules = none_in_core (word_text pattern_word) refl modules
