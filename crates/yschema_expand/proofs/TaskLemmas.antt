-- How many tasks come of parts.
use Rattle.std.proofs.Common.{◌≡◌, ℕ, zero, suc, ◌+◌, ◌-◌, true, false, cond, refl, sym, ap, ◌∙◌, ap₂, arith}
use Rattle.yspec.specs.Forest.{Forest, end, node, size, join}
use Rattle.yspec.specs.linking.Source.{Source}
use Rattle.yspec.specs.linking.Parts.{Part, own_of, part_of}
use Rattle.yspec.specs.linking.Expansion.{groupings_of, is_uses, row_used}
use Rattle.yspec_wide.specs.Expansion.{inner_augments}
use Rattle.yspec_wide.specs.Language.{Language}
use Rattle.yspec_wide.specs.Sources.{is_augment_in}
use Rattle.yschema_expand.specs.Tasks.{inner_tolls, toll_for, toll_of_augment, tolls}
use Rattle.yschema_expand.proofs.WalkLemmas.{first_inner, own_augments}

-- ---- tolls

module _ (meant : Part → ℕ) where
  pub tolls_join : (f g : Forest Part) → tolls meant (join f g) ≡ tolls meant f + tolls meant g
  unfolding tolls
  tolls_join end g = omega arith
  tolls_join (node p below after) g =
      let first = cond (is_uses p) (meant p) (2 + tolls meant below) in
      let rest = tolls_join after g in
      ap (λ n. first + n) rest ∙ omega arith

  pub tolls_node : (p : Part) (below : Forest Part) → is_uses p ≡ false → tolls meant (node p below end) ≡ 2 + tolls meant below
  unfolding tolls
  tolls_node p below other = ap (λ b. cond b (meant p) (2 + tolls meant below) + 0) other ∙ omega arith

  pub tolls_uses : (p : Part) → is_uses p ≡ true → tolls meant (node p end end) ≡ meant p
  unfolding tolls
  tolls_uses p is = ap (λ b. cond b (meant p) (2 + tolls meant end) + 0) is ∙ omega arith

module _ (language : Language) (modules : Forest Source) where
  pub toll_less : (s : Source) (below : Forest Source) (depth : ℕ) → (depth ≡ 0 → ⊥)
      → toll_for language modules depth (part_of s below) ≡ 4 + (size modules
      + (tolls (toll_for language modules (depth - 1)) (row_used modules (groupings_of modules) (part_of s below))
      + (size (own_of below) + inner_tolls (toll_for language modules (depth - 1)) (inner_augments language below))))
  unfolding toll_for
  toll_less s below zero some = absurd (some refl)
  toll_less s below (suc depth) some =
      let less : suc depth - 1 ≡ depth = omega arith in
      ap₂ (λ n those. 4 + (size modules + (tolls (toll_for language modules n) (row_used modules (groupings_of modules) (part_of s below))
      + (size (own_of below) + inner_tolls (toll_for language modules n) those)))) (sym less) (own_augments language below)

  -- of a row of statements, one after another
  pub toll_first : (meant : Part → ℕ) (s : Source) (below after : Forest Source) → is_augment_in language s ≡ true
      → inner_tolls meant (inner_augments language (node s below after))
      ≡ toll_of_augment meant (record { source = s; given = below }) + inner_tolls meant (inner_augments language after)
  unfolding inner_tolls
  toll_first meant s below after is = ap (inner_tolls meant) (first_inner language s below after is)
