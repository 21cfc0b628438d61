-- The least of what statements break, one after another with those below each.
use Rattle.std.proofs.Common.{◌≡◌, List, ◌∷◌, ◌++◌, Option, sym, ap, ◌∙◌}
use Rattle.std.specs.List.{flat_map}
use Rattle.std.proofs.lemmas.Grind.{flat_map-append}
use Rattle.yspec.specs.Forest.{Forest, end, node}
use Rattle.yspec.specs.linking.Scopes.{Placed, placed}
use Rattle.yspec.specs.linking.Source.{Source}
use Rattle.yspec.specs.schema.Breaks.{Break, least_from}
use Rattle.yspec.proofs.SchemaProofs.LeastLemmas.{least_of_both}

module _ (g : Placed → List Break) (ancestors : List (Source × Forest Source)) where
  pub next_walked : (s : Source) (below after before : Forest Source) (told own more whole : Option Break) → before ≡ node s below after
      → own ≡ least_from told (g (record { source = s; below = below; ancestors = ancestors }))
      → more ≡ least_from own (flat_map g (placed ((s, below) ∷ ancestors) below))
      → least_from told (flat_map g (placed ancestors before)) ≡ whole → least_from more (flat_map g (placed ancestors after)) ≡ whole
  unfolding placed
  next_walked s below after before told own more whole first own_is more_is so_far =
      let here = g (record { source = s; below = below; ancestors = ancestors }) in
      let under = placed ((s, below) ∷ ancestors) below in
      let behind = placed ancestors after in
      ap (λ t. least_from t (flat_map g behind)) (more_is ∙ ap (λ t. least_from t (flat_map g under)) own_is)
      ∙ (sym (least_of_both (least_from told here) (flat_map g under) (flat_map g behind))
      ∙ (ap (least_from (least_from told here)) (sym (flat_map-append g under behind))
      ∙ (sym (least_of_both told here (flat_map g (under ++ behind)))
      ∙ (sym (ap (λ f. least_from told (flat_map g (placed ancestors f))) first) ∙ so_far))))

  pub all_walked : (left : Forest Source) (told whole : Option Break) → left ≡ end → least_from told (flat_map g (placed ancestors left)) ≡ whole → told ≡ whole
  unfolding placed
  all_walked left told whole ended so_far = sym (ap (λ f. least_from told (flat_map g (placed ancestors f))) ended) ∙ so_far
