-- What is told where no grouping in use has nodes, one statement after another.
use Rattle.std.proofs.Common.{◌≡◌, ℕ, Bool, true, false, cond, List, [], ◌++◌, Option, refl, sym, ap, ◌∙◌}
use Rattle.yspec.specs.Forest.{Forest, end, node}
use Rattle.yspec.specs.linking.Expansion.{all_refine_breaks}
use Rattle.yspec.specs.linking.Keyword.{uses_word}
use Rattle.yspec.specs.linking.Source.{Source, is_source_of}
use Rattle.yspec.specs.schema.Breaks.{Break, broken, least_from}
use Rattle.yspec.proofs.SchemaProofs.LeastLemmas.{least_of_both}
use Rattle.yspec_wide.specs.Language.{Language}
use Rattle.yspec_wide.specs.Sources.{is_augment_in}
use Rattle.yschema_expand.specs.Counting.{told_list, top_breaks}

module _ (language : Language) (told : ℕ → Option Break) where
  pub top_none : (in_uses : Bool) → top_breaks language told in_uses end ≡ []
  unfolding top_breaks
  top_none in_uses = refl

  -- in a row
  abbrev pub of_uses : Source → Forest Source → List Break
  of_uses s below = told_list (told s.number) ++ (top_breaks language told true below ++ all_refine_breaks below)

  pub top_uses : (s : Source) (below after : Forest Source) (u : Bool) → is_source_of uses_word s ≡ u
      → top_breaks language told false (node s below after) ≡ cond u (of_uses s below) [] ++ top_breaks language told false after
  unfolding top_breaks
  top_uses s below after u is = ap (λ b. cond b (of_uses s below) [] ++ top_breaks language told false after) is

  -- below a `uses`
  abbrev pub of_augment : Source → Forest Source → List Break
  of_augment s below = top_breaks language told false below ++ broken 14 s.home s.statement.line

  pub top_augment : (s : Source) (below after : Forest Source) (a : Bool) → is_augment_in language s ≡ a
      → top_breaks language told true (node s below after) ≡ cond a (of_augment s below) [] ++ top_breaks language told true after
  unfolding top_breaks
  top_augment s below after a is = ap (λ b. cond b (of_augment s below) [] ++ top_breaks language told true after) is

-- ---- the least of them, one after another

pub least_three : (x y z w : Option Break) (first second third rest : List Break) → y ≡ least_from x first → z ≡ least_from y second → w ≡ least_from z third
    → least_from w rest ≡ least_from x ((first ++ (second ++ third)) ++ rest)
least_three x y z w first second third rest y_is z_is w_is =
    ap (λ o. least_from o rest) (w_is ∙ ap (λ o. least_from o third) (z_is ∙ ap (λ o. least_from o second) y_is))
    ∙ sym (least_of_both x (first ++ (second ++ third)) rest
    ∙ ap (λ o. least_from o rest) (least_of_both x first (second ++ third) ∙ least_of_both (least_from x first) second third))

pub least_two : (x y z : Option Break) (first second rest : List Break) → y ≡ least_from x first → z ≡ least_from y second
    → least_from z rest ≡ least_from x ((first ++ second) ++ rest)
least_two x y z first second rest y_is z_is =
    ap (λ o. least_from o rest) (z_is ∙ ap (λ o. least_from o second) y_is)
    ∙ sym (least_of_both x (first ++ second) rest ∙ ap (λ o. least_from o rest) (least_of_both x first second))
