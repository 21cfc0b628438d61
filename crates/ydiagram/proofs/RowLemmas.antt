-- What is written of a row, node by node.
use Rattle.std.proofs.Common.{◌≡◌, ℕ, suc, ◌+◌, ◌≤◌, Bool, true, false, cond, ◌++◌, Option, Some, None, refl, sym, ap, ap₂, ◌∙◌, arith, append_assoc}
use Rattle.std.specs.Prelude.{◌==◌}
use Rattle.std.specs.List.{flat_map}
use Rattle.std.proofs.lemmas.List.{append-nil}
use Rattle.std.proofs.lemmas.List.Concat.{flat_map-append}
use Rattle.yspec.specs.Forest.{Forest, end, node, size}
use Rattle.yspec.specs.text.Text.{Text}
use Rattle.yspec.specs.schema.Schema.{Schema, SchemaNode}
use Rattle.yspec.specs.schema.Diagram.{indented, line_text, row_lines, row_width, owned_by}
use Rattle.yschema_model.specs.View.{label_of, below_of}
use Rattle.yschema_model.specs.declared.children.Child.{Child}
use Rattle.ydiagram.specs.View.{column, shows, shown_in, line_written, rest_written, row_written, node_written, held_written}

-- ---- the nodes that are shown

pub all_shown : (f : Forest SchemaNode) → shown_in None f ≡ f
all_shown end = refl
all_shown (node n below after) = ap (node n below) (all_shown after)

pub own_shown : (owner : ℕ) (f : Forest SchemaNode) → shown_in (Some owner) f ≡ owned_by owner f
own_shown owner end = refl
own_shown owner (node n below after) =
    ap (λ rest. cond (n.module_number == owner) (node n below rest) rest) (own_shown owner after)

pub shows_same : (owner : Option ℕ) (n m : SchemaNode) → n.module_number ≡ m.module_number → shows owner n ≡ shows owner m
shows_same None n m same = refl
shows_same (Some owner) n m same = ap (λ k. k == owner) same

pub shown_first : (owner : Option ℕ) (f : Forest SchemaNode) (n : SchemaNode) (below after : Forest SchemaNode)
    → f ≡ node n below after → shows owner n ≡ true → shown_in owner f ≡ node n below (shown_in owner after)
shown_first owner f n below after is shown =
    ap (shown_in owner) is ∙ ap (λ b. cond b (node n below (shown_in owner after)) (shown_in owner after)) shown

-- ---- a node and those behind it

-- whether others follow
abbrev pub is_more : Forest SchemaNode → Bool
is_more end = false
is_more (node n below after) = true

indented-is : (indentation : Text) (after : Forest SchemaNode) → indented indentation after ≡ indentation ++ column (is_more after)
indented-is indentation end = refl
indented-is indentation (node n below after) = refl

pub node_and_rest : (s : Schema) (shown : ℕ) (indentation : Text) (width : ℕ) (n : SchemaNode) (below after : Forest SchemaNode)
    → rest_written s shown indentation width (node n below after)
    ≡ node_written s shown indentation width n below (is_more after) ++ rest_written s shown indentation width after
node_and_rest s shown indentation width n below after =
    let line = line_written s shown indentation width n in
    let inner = row_lines s shown (indented indentation after) (row_width s shown below) below in
    let others = row_lines s shown indentation width after in
    ap (λ t. line ++ t) (flat_map-append (line_text s shown) inner others)
    ∙ (sym (append_assoc line (flat_map (line_text s shown) inner) (flat_map (line_text s shown) others))
    ∙ ap (λ i. (line ++ row_written s shown i below) ++ rest_written s shown indentation width after) (indented-is indentation after))

-- a node and what stands below it, from what is known of them
pub node_parts : (s : Schema) (shown : ℕ) (indentation : Text) (width : ℕ) (n seen : SchemaNode) (below f : Forest SchemaNode) (is_followed : Bool)
    → seen ≡ n → f ≡ below
    → node_written s shown indentation width n below is_followed
    ≡ line_written s shown indentation width seen ++ row_written s shown (indentation ++ column is_followed) (shown_in None f)
node_parts s shown indentation width n seen below f is_followed seen_is f_is =
    sym (ap₂ (λ m g. line_written s shown indentation width m ++ row_written s shown (indentation ++ column is_followed) g) seen_is (all_shown f ∙ f_is))

pub fewer_shown : (owner : Option ℕ) (f : Forest SchemaNode) → size (shown_in owner f) ≤ size f
fewer_shown owner end = omega arith
fewer_shown owner (node n below after) = by (shows owner n) (fewer_shown owner after)
  where
    by : (b : Bool) → size (shown_in owner after) ≤ size after → size (cond b (node n below (shown_in owner after)) (shown_in owner after)) ≤ suc (size below + size after)
    by true h = omega (arith, h)
    by false h = omega (arith, h)

-- ---- the node that is held back until it is known whether others follow

abbrev pub with_held : Option Child → Forest SchemaNode → Forest SchemaNode
with_held None f = f
with_held (Some c) f = node (label_of c) (below_of c) f

pub held_size : (o : Option Child) (f : Forest SchemaNode) → size (with_held o end) ≤ size (with_held o f)
held_size None f = omega arith
held_size (Some c) f = omega arith

-- one that is held, and a row that begins with another
pub held_and_first : (s : Schema) (shown : ℕ) (indentation : Text) (width : ℕ) (o : Option Child) (n : SchemaNode) (below after : Forest SchemaNode)
    → rest_written s shown indentation width (with_held o (node n below after))
    ≡ held_written s shown indentation width o true ++ rest_written s shown indentation width (node n below after)
held_and_first s shown indentation width None n below after = refl
held_and_first s shown indentation width (Some c) n below after =
    node_and_rest s shown indentation width (label_of c) (below_of c) (node n below after)

-- one that is held, and none behind it
pub held_and_none : (s : Schema) (shown : ℕ) (indentation : Text) (width : ℕ) (o : Option Child)
    → rest_written s shown indentation width (with_held o end) ≡ held_written s shown indentation width o false
held_and_none s shown indentation width None = refl
held_and_none s shown indentation width (Some c) =
    node_and_rest s shown indentation width (label_of c) (below_of c) end ∙ append-nil (node_written s shown indentation width (label_of c) (below_of c) false)

pub held_more : (o : Option Child) (f : Forest SchemaNode) → size f ≤ size (with_held o f)
held_more None f = omega arith
held_more (Some c) f = omega arith
