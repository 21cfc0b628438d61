-- Rows one behind another, and as many labels in preorder as nodes.
use Rattle.std.proofs.Common.{◌≡◌, suc, ◌+◌, length, refl, ap, ap₂, ◌∙◌, length-append}
use Rattle.yspec.specs.Forest.{Forest, end, node, join, size, preorder}

-- a row behind which nothing stands
pub join_end : {L : Type 0} (f : Forest L) → join f end ≡ f
join_end end = refl
join_end (node l below after) = ap (node l below) (join_end after)

pub join_assoc : {L : Type 0} (f g h : Forest L) → join (join f g) h ≡ join f (join g h)
join_assoc end g h = refl
join_assoc (node l below after) g h = ap (node l below) (join_assoc after g h)

pub length-preorder : {L : Type 0} (f : Forest L) → length (preorder f) ≡ size f
length-preorder end = refl
length-preorder (node l below after) =
    ap suc (length-append (preorder below) (preorder after) ∙ ap₂ (λ m n. m + n) (length-preorder below) (length-preorder after))
