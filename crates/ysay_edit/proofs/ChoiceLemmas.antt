-- The first choice or case of a name in a row, as a walk finds it.
use Rattle.std.proofs.Common.{◌≡◌, Option, Some, None, sym, ap, ◌∙◌}
use Rattle.yspec.specs.Forest.{Forest, end, node, first_of}
use Rattle.yspec.specs.text.Text.{Text}
use Rattle.yspec.specs.schema.Schema.{SchemaNode}
use Rattle.ysay_edit.specs.Choice.{passed_in, passed_node}

module _ (name : Text) (n : SchemaNode) (before below after : Forest SchemaNode) (told whole : Option Text) (is : before ≡ node n below after)
    (said : told ≡ passed_node name n (passed_in name below)) (so : passed_in name before ≡ whole) where
  -- where a node has none, what stands behind it is left
  pub none_here : told ≡ None → passed_in name after ≡ whole
  none_here none = sym (ap (λ o. first_of o (passed_in name after)) (sym said ∙ none)) ∙ (sym (ap (passed_in name) is) ∙ so)

  pub found_here : (called : Text) → told ≡ Some called → Some called ≡ whole
  found_here called some = sym (ap (λ o. first_of o (passed_in name after)) (sym said ∙ some)) ∙ (sym (ap (passed_in name) is) ∙ so)

pub none_left : (name : Text) (before : Forest SchemaNode) (whole : Option Text) → before ≡ end → passed_in name before ≡ whole → None ≡ whole
none_left name before whole is so = sym (ap (passed_in name) is) ∙ so
