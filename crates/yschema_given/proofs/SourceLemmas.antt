-- In whatever language a set is read, its conditions are kept right, and each `when`.
use Rattle.std.proofs.Common.{◌≡◌, ℕ, suc, ◌+◌, Bool, true, false, cond, not, ◌&&◌, ◌||◌, Option, Some, None, refl, sym, ap, ap₂, ◌∙◌}
use Rattle.std.specs.Prelude.{option_map, option_and_then}
use Rattle.std.proofs.lemmas.Bool.{and_parts}
use Rattle.std.proofs.lemmas.Slice.Eq.{bytes_eq-Decides}
use Rattle.yspec.specs.Forest.{Forest, end, node, join, size}
use Rattle.yspec.specs.text.Text.{Text, is_text}
use Rattle.yspec.specs.text.Statement.{Statement}
use Rattle.yspec.specs.linking.Keyword.{Keyword, same_keyword, extension_word}
use Rattle.yspec.specs.linking.Source.{Source, kept_at, numbered}
use Rattle.yspec_wide.specs.Language.{Language, Wide, core, rfc}
use Rattle.yspec_wide.specs.Sources.{keyword_kept, keyword_restricting, kept_keyword_in, may_restrict, restricts_below, kept_in, module_kept, sources_in, sources_in_from}
use Rattle.yspec_wide.specs.Words.{if_feature_word, when_word, word_named, word_text}
use Rattle.yschema_given.specs.Keeping.{are_kept_right, is_kept_right}

module _ (language : Language) where
  -- a statement with the keyword that it is kept with
  abbrev IsKept : Keyword → Statement → Type 0
  IsKept k s = (may : Bool) (home number : ℕ) → is_kept_right language (record { keyword = k; statement = s; number = number; home = home; may_refer = may }) ≡ true

  abbrev AllKept : Forest (Keyword × Statement) → Type 0
  AllKept end = Unit {0}
  AllKept (node (k, s) below after) = IsKept k s × AllKept below × AllKept after

  kept_numbered : (may : Bool) (home number : ℕ) (f : Forest (Keyword × Statement)) → AllKept f → are_kept_right language (numbered may home number f) ≡ true
  unfolding numbered
  kept_numbered may home number end all = refl
  kept_numbered may home number (node (k, s) below after) all =
      ap₂ (λ x y. x && y) (all.0 may home number)
      (ap₂ (λ x y. x && y) (kept_numbered may home (number + 1) below all.1) (kept_numbered may home (number + suc (size below)) after all.2))

  kept_joined : (f g : Forest Source) → are_kept_right language f ≡ true → are_kept_right language g ≡ true → are_kept_right language (join f g) ≡ true
  kept_joined end g first second = second
  kept_joined (node s below after) g first second =
      let one = and_parts (is_kept_right language s) (are_kept_right language below && are_kept_right language after) first in
      let rest = and_parts (are_kept_right language below) (are_kept_right language after) one.1 in
      ap₂ (λ x y. x && y) one.0 (ap₂ (λ x y. x && y) rest.0 (kept_joined after g rest.1 second))

-- ---- `if-feature` and `when` are kept with the keyword of `extension`

-- so are statements whose text is a word that is kept so, or isn't kept
named_extension : (language : Language) (restricting : Bool) (s : Statement) (k : Keyword) (t : Text) (is_read : Bool) → s.keyword ≡ t
    → option_and_then keyword_kept (word_named language t) ≡ cond is_read (Some extension_word) None
    → kept_keyword_in language restricting s ≡ Some k → k ≡ extension_word
named_extension language false s k t true is named kept =
    let e : Some k ≡ Some extension_word = sym kept ∙ (ap (λ t. option_and_then keyword_kept (word_named language t)) is ∙ named) in cc
named_extension language true s k t true is named kept =
    let e : Some k ≡ Some extension_word = sym kept
    ∙ (ap (λ t. option_map keyword_restricting (option_and_then keyword_kept (word_named language t))) is ∙ ap (option_map keyword_restricting) named) in cc
named_extension language false s k t false is named kept =
    let e : Some k ≡ None = sym kept ∙ (ap (λ t. option_and_then keyword_kept (word_named language t)) is ∙ named) in absurd cc
named_extension language true s k t false is named kept =
    let e : Some k ≡ None = sym kept
    ∙ (ap (λ t. option_map keyword_restricting (option_and_then keyword_kept (word_named language t))) is ∙ ap (option_map keyword_restricting) named) in absurd cc

when_named : (wide : Wide) → option_and_then keyword_kept (word_named (rfc wide) (word_text when_word)) ≡ cond wide.unjudged.whens (Some extension_word) None
when_named wide = by wide.unjudged.whens
  where
    by : (whens : Bool) → option_and_then keyword_kept (cond whens (Some when_word) None) ≡ cond whens (Some extension_word) None
    by true = refl
    by false = refl

module _ (language : Language) (each : (restricting : Bool) (s : Statement) (k : Keyword) → kept_keyword_in language restricting s ≡ Some k → IsKept language k s)
    (may : Bool) where
  all_kept : (restricting : Bool) (f : Forest Statement) → AllKept language (kept_in language may restricting f)
  unfolding kept_in
  all_kept restricting end = tt
  all_kept restricting (node s below after) =
      by (kept_keyword_in language restricting s) refl (λ inner. all_kept inner below) (all_kept restricting after)
    where
      by : (o : Option Keyword) → kept_keyword_in language restricting s ≡ o → ((inner : Bool) → AllKept language (kept_in language may inner below))
          → AllKept language (kept_in language may restricting after)
          → AllKept language (kept_at o s (kept_in language may (restricts_below may o s) below) (kept_in language may restricting after))
      by None is inner rest = rest
      by (Some k) is inner rest = (each restricting s k is, inner (restricts_below may (Some k) s), rest)

module _ (language : Language) (each : (restricting : Bool) (s : Statement) (k : Keyword) → kept_keyword_in language restricting s ≡ Some k → IsKept language k s) where
  from_keeps : (home number : ℕ) (modules : Forest Statement) → are_kept_right language (sources_in_from language home number modules) ≡ true
  unfolding sources_in_from
  from_keeps home number end = refl
  from_keeps home number (node s below after) =
      kept_joined language (numbered (may_restrict language below) home number (module_kept language s below))
      (sources_in_from language (home + 1) (number + size (module_kept language s below)) after)
      (kept_numbered language (may_restrict language below) home number (module_kept language s below) (all_kept language each (may_restrict language below) false (node s below end)))
      (from_keeps (home + 1) (number + size (module_kept language s below)) after)

each_kept : (language : Language) (restricting : Bool) (s : Statement) (k : Keyword) → kept_keyword_in language restricting s ≡ Some k → IsKept language k s
each_kept core restricting s k kept may home number = refl
each_kept (rfc wide) restricting s k kept may home number =
    by (is_text s.keyword (word_text if_feature_word)) refl (is_text s.keyword (word_text when_word)) refl
  where
    by : (b : Bool) → is_text s.keyword (word_text if_feature_word) ≡ b → (c : Bool) → is_text s.keyword (word_text when_word) ≡ c
        → (not (b || c) || same_keyword extension_word k) ≡ true
    by false e false w = refl
    by true e c w =
        let is = named_extension (rfc wide) restricting s k (word_text if_feature_word) true ((bytes_eq-Decides s.keyword (word_text if_feature_word)).0 e) refl kept in
        ap (same_keyword extension_word) is
    by false e true w =
        let is = named_extension (rfc wide) restricting s k (word_text when_word) wide.unjudged.whens
        ((bytes_eq-Decides s.keyword (word_text when_word)).0 w) (when_named wide) kept in
        ap (same_keyword extension_word) is

pub sources_keep : (language : Language) (modules : Forest Statement) → are_kept_right language (sources_in language modules) ≡ true
sources_keep language modules = from_keeps language (each_kept language) 0 0 modules
