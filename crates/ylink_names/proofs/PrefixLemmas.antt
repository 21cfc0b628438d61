-- Prefixes of modules one after another, and unknown ones among names.
use Rattle.std.proofs.Common.{◌≡◌, ℕ, ◌+◌, ◌<◌, ◌≤◌, Bool, true, false, List, [], ◌∷◌, length, get_or, drop, map, Option, Some, None, is_some, refl, sym, ap, ◌∙◌}
use Rattle.std.specs.Prelude.{◌||◌, unwrap_or}
use Rattle.std.specs.List.{list_any, flat_map}
use Rattle.std.proofs.lemmas.List.{at_drop_more, at_drop_all}
use Rattle.std.proofs.lemmas.List.Folds.{list_any-append}
use Rattle.yspec.specs.Forest.{Forest}
use Rattle.yspec.specs.text.Text.{Text}
use Rattle.yspec.specs.types.Types.{int8, int16, int32, int64, uint8, uint16, uint32, uint64}
use Rattle.yspec.specs.linking.Keyword.{type_word}
use Rattle.yspec.specs.linking.Arguments.{Name, unique_of}
use Rattle.yspec.specs.linking.Prefixes.{is_unknown_prefix, names_given}
use Rattle.yspec.specs.linking.Source.{Source}
use Rattle.yspec.specs.linking.TypeStatements.{BuiltIn, integer, decimal64, string, boolean, empty, enumeration, bits, union, leafref, identityref, binary, built_in_name, built_in_named}
use Rattle.yspec.proofs.LinkingProofs.BuiltInLemmas.{name_of_named}
use Rattle.ybase_words.specs.declared.keyword.Keyword.{Keyword}
use Rattle.ybase_words.specs.declared.keyword.Keyword.TheVariants as words
use Rattle.ybase_words.specs.KeywordView.{keyword_view}

-- ---- one of a list, of which what is left is looked at

module _ {A B : Type 0} (see : A → B) (p : B → Bool) where
  any_at : (xs : List A) (i : ℕ) (d : A) → i < length xs
      → list_any p (map see (drop i xs)) ≡ (p (see (get_or xs i d)) || list_any p (map see (drop (i + 1) xs)))
  any_at xs i d within = at_drop_more (λ ys. list_any p (map see ys)) xs i d within

  pub any_here : (xs : List A) (i : ℕ) (d : A) (whole : Bool) → i < length xs → p (see (get_or xs i d)) ≡ true
      → list_any p (map see (drop i xs)) ≡ whole → true ≡ whole
  any_here xs i d whole within e so_far =
      sym (any_at xs i d within ∙ ap (λ b. b || list_any p (map see (drop (i + 1) xs))) e) ∙ so_far

  pub any_later : (xs : List A) (i : ℕ) (d : A) (whole : Bool) → i < length xs → p (see (get_or xs i d)) ≡ false
      → list_any p (map see (drop i xs)) ≡ whole → list_any p (map see (drop (i + 1) xs)) ≡ whole
  any_later xs i d whole within e so_far =
      sym (any_at xs i d within ∙ ap (λ b. b || list_any p (map see (drop (i + 1) xs))) e) ∙ so_far

  pub any_ended : (xs : List A) (i : ℕ) (whole : Bool) → length xs ≤ i → list_any p (map see (drop i xs)) ≡ whole → false ≡ whole
  any_ended xs i whole ended so_far = sym (at_drop_all (λ ys. list_any p (map see ys)) xs i ended) ∙ so_far

pub any_of_all : {A : Type 0} (p : A → Bool) (xss : List (List A)) → list_any (list_any p) xss ≡ list_any p (flat_map (λ xs. xs) xss)
any_of_all p [] = refl
any_of_all p (xs ∷ xss) = ap (λ b. list_any p xs || b) (any_of_all p xss) ∙ sym (list_any-append p xs (flat_map (λ xs. xs) xss))

-- ---- the names in an argument

module _ (p : Name → Bool) (k : Keyword) (t : Text) where
  pub of_unique : (paths : List (List Name)) → k ≡ words.Unique → Some paths ≡ unique_of t → list_any (list_any p) paths ≡ list_any p (names_given (keyword_view k) t)
  of_unique paths e is =
      any_of_all p paths ∙ (ap (λ x. list_any p (flat_map (λ path. path) (unwrap_or x []))) is
      ∙ sym (ap (λ w. list_any p (names_given (keyword_view w) t)) e))

-- ---- the names of built-in types

bare : (modules : Forest Source) (home : ℕ) (b : BuiltIn) → false ≡ list_any (is_unknown_prefix modules home) (names_given type_word (built_in_name b))
bare modules home (integer int8) = refl
bare modules home (integer int16) = refl
bare modules home (integer int32) = refl
bare modules home (integer int64) = refl
bare modules home (integer uint8) = refl
bare modules home (integer uint16) = refl
bare modules home (integer uint32) = refl
bare modules home (integer uint64) = refl
bare modules home decimal64 = refl
bare modules home string = refl
bare modules home boolean = refl
bare modules home empty = refl
bare modules home enumeration = refl
bare modules home bits = refl
bare modules home union = refl
bare modules home leafref = refl
bare modules home identityref = refl
bare modules home binary = refl

pub no_prefix : (modules : Forest Source) (home : ℕ) (t : Text) → is_some (built_in_named t) ≡ true
    → false ≡ list_any (is_unknown_prefix modules home) (names_given type_word t)
no_prefix modules home t some = by (built_in_named t) refl some
  where
    by : (found : Option BuiltIn) → built_in_named t ≡ found → is_some found ≡ true → false ≡ list_any (is_unknown_prefix modules home) (names_given type_word t)
    by None is some = absurd cc
    by (Some b) is some =
        bare modules home b ∙ ap (λ x. list_any (is_unknown_prefix modules home) (names_given type_word x)) (name_of_named t b is)
