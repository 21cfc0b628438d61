-- Patterns among the statements of a row, one after another.
use Rattle.std.proofs.Common.{◌≡◌, true, false, cond, Option, Some, sym, ap, ◌∙◌}
use Rattle.std.specs.Prelude.{option_map, option_and_then}
use Rattle.yspec.specs.Forest.{Forest, end, node}
use Rattle.yspec.specs.types.Restriction.{narrowed}
use Rattle.yspec.specs.types.Types.{YangType}
use Rattle.yspec.specs.linking.Source.{Source}
use Rattle.yspec.specs.linking.TypeStatements.{own, is_pattern_statement, pattern_stated, matched_in, comes_behind, narrowed_by, restricted_by}

module _ (s : Source) (below after before : Forest Source) (first : before ≡ node s below after) (type : YangType) where
  there : matched_in before type ≡ cond (is_pattern_statement s)
      (option_and_then (matched_in after) (narrowed type (pattern_stated s below))) (matched_in after type)
  unfolding matched_in
  there = ap (λ f. matched_in f type) first

  pub matched_past : is_pattern_statement s ≡ false → matched_in after type ≡ matched_in before type
  matched_past other =
      sym (there ∙ ap (λ b. cond b (option_and_then (matched_in after) (narrowed type (pattern_stated s below))) (matched_in after type)) other)

  pub matched_more : (made : Option YangType) → is_pattern_statement s ≡ true → made ≡ narrowed type (pattern_stated s below)
      → option_and_then (matched_in after) made ≡ matched_in before type
  matched_more made stands is =
      ap (option_and_then (matched_in after)) is
      ∙ sym (there ∙ ap (λ b. cond b (option_and_then (matched_in after) (narrowed type (pattern_stated s below))) (matched_in after type)) stands)

pub matched_all : (left : Forest Source) (type : YangType) → left ≡ end → Some type ≡ matched_in left type
unfolding matched_in
matched_all left type ended = sym (ap (λ f. matched_in f type) ended)

-- ---- one of them, where it isn't its turn, and another restriction

module _ (s : Source) (below : Forest Source) (type : YangType) where
  pub left_alone : comes_behind s ≡ true → Some (own type) ≡ restricted_by s below (own type)
  left_alone stands = sym (ap (λ b. option_map own (cond b (Some type) (narrowed_by s below type))) stands)

  pub other_narrowed : (made : Option YangType) → comes_behind s ≡ false → made ≡ narrowed_by s below type
      → option_map own made ≡ restricted_by s below (own type)
  other_narrowed made other is =
      ap (option_map own) is ∙ sym (ap (λ b. option_map own (cond b (Some type) (narrowed_by s below type))) other)
