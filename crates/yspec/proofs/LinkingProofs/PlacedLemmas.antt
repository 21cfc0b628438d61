-- What is told of each statement of a set, wherever it stands.
use Rattle.std.proofs.Common.{◌≡◌, List, ◌∷◌, ◌++◌, refl, sym, ap, ap₂, ◌∙◌}
use Rattle.std.specs.List.{flat_map}
use Rattle.std.proofs.lemmas.Grind.{flat_map-append}
use Rattle.yspec.specs.Forest.{Forest, end, node, preorder}
use Rattle.yspec.specs.linking.Scopes.{Placed, placed}
use Rattle.yspec.specs.linking.Source.{Source}

pub flat_placed : {B : Type 0} (g : Source → List B) (ancestors : List (Source × Forest Source)) (f : Forest Source)
    → flat_map (λ (p : Placed). g p.source) (placed ancestors f) ≡ flat_map g (preorder f)
unfolding placed
flat_placed g ancestors end = refl
flat_placed g ancestors (node s below after) =
    let under = placed ((s, below) ∷ ancestors) below in
    ap (λ l. g s ++ l) (flat_map-append (λ (p : Placed). g p.source) under (placed ancestors after)
    ∙ (ap₂ (λ a b. a ++ b) (flat_placed g ((s, below) ∷ ancestors) below) (flat_placed g ancestors after)
    ∙ sym (flat_map-append g (preorder below) (preorder after))))
