-- What a schema asks of configuration alone has what the whole schema has.
use Rattle.std.proofs.Common.{◌≡◌, ℕ, ◌≤◌, Bool, true, false, cond, Option, Some, None, refl, sym, ap, ap₂, ◌∙◌, subst}
use Rattle.std.specs.Prelude.{◌==◌, option_map, ◌||◌}
use Rattle.yspec.specs.Forest.{Forest, end, node, join, size, levels, relabelled, find_label, first_of}
use Rattle.yspec.specs.text.Text.{Text}
use Rattle.yspec.specs.schema.Schema.{Schema, SchemaNode, Kind, container, leaf, leaf_list, list, choice, case, is_data, has_value, node_at, data_row, written_name, form_in, is_anything, has_anything}
use Rattle.yspec.specs.schema.Configuration.{unasked, asked_node, configuration_schema}
use Rattle.yspec.specs.document.Fitting.{LeafsAreBare}
use Rattle.yspec.specs.document.Writing.{IsNew, RowDiffers, AllDiffer, NamesDiffer, NodesAreNamed}
use Rattle.yspec.proofs.LinkingProofs.LinkedLemmas.{relabelled-size, relabelled-levels}

-- ---- a node

-- what is said of a kind whatever is asked of it
pub kept_by : {A : Type 0} (says : Kind → A) → ((k : Kind) → says (unasked k) ≡ says k) → (n : SchemaNode) → says (asked_node n).kind ≡ says n.kind
kept_by says same n = by n.config
  where
    by : (b : Bool) → says (cond b n.kind (unasked n.kind)) ≡ says n.kind
    by true = refl
    by false = same n.kind

pub data_kept : (n : SchemaNode) → is_data (asked_node n).kind ≡ is_data n.kind
data_kept n = kept_by is_data by n
  where
    by : (k : Kind) → is_data (unasked k) ≡ is_data k
    by (container presence) = refl
    by (leaf type absence) = refl
    by (leaf_list type defaults amount) = refl
    by (list tuples amount) = refl
    by (choice default_case is_mandatory) = refl
    by case = refl

pub value_kept : (n : SchemaNode) → has_value (asked_node n).kind ≡ has_value n.kind
value_kept n = kept_by has_value by n
  where
    by : (k : Kind) → has_value (unasked k) ≡ has_value k
    by (container presence) = refl
    by (leaf type absence) = refl
    by (leaf_list type defaults amount) = refl
    by (list tuples amount) = refl
    by (choice default_case is_mandatory) = refl
    by case = refl

pub form_kept : (n : SchemaNode) → form_in (asked_node n).kind ≡ form_in n.kind
form_kept n = kept_by form_in by n
  where
    by : (k : Kind) → form_in (unasked k) ≡ form_in k
    by (container presence) = refl
    by (leaf type absence) = refl
    by (leaf_list type defaults amount) = refl
    by (list tuples amount) = refl
    by (choice default_case is_mandatory) = refl
    by case = refl

-- ---- rows

abbrev pub asked_row : Forest SchemaNode → Forest SchemaNode
asked_row f = relabelled asked_node f

relabelled-join : (f g : Forest SchemaNode) → asked_row (join f g) ≡ join (asked_row f) (asked_row g)
relabelled-join end g = refl
relabelled-join (node n below after) g = ap (node (asked_node n) (asked_row below)) (relabelled-join after g)

pub data_row_kept : (f : Forest SchemaNode) → data_row (asked_row f) ≡ asked_row (data_row f)
data_row_kept end = refl
data_row_kept (node n below after) =
    ap (λ b. cond b (node (asked_node n) (asked_row below) (data_row (asked_row after))) (join (data_row (asked_row below)) (data_row (asked_row after)))) (data_kept n)
    ∙ by (is_data n.kind) (data_row_kept below) (data_row_kept after)
  where
    by : (b : Bool) → data_row (asked_row below) ≡ asked_row (data_row below) → data_row (asked_row after) ≡ asked_row (data_row after)
        → cond b (node (asked_node n) (asked_row below) (data_row (asked_row after))) (join (data_row (asked_row below)) (data_row (asked_row after)))
        ≡ asked_row (cond b (node n below (data_row after)) (join (data_row below) (data_row after)))
    by true inner rest = ap (node (asked_node n) (asked_row below)) rest
    by false inner rest = ap₂ join inner rest ∙ sym (relabelled-join (data_row below) (data_row after))

find_kept : (number : ℕ) (f : Forest SchemaNode)
    → find_label (λ (n : SchemaNode). n.number == number) (asked_row f) ≡ option_map asked_node (find_label (λ (n : SchemaNode). n.number == number) f)
find_kept number end = refl
find_kept number (node n below after) =
    let test : SchemaNode → Bool = λ (m : SchemaNode). m.number == number in
    by (n.number == number) _ _ (find_label test below) (find_label test after) (find_kept number below) (find_kept number after)
  where
    by : (b : Bool) (o p q r : Option SchemaNode) → o ≡ option_map asked_node q → p ≡ option_map asked_node r
        → cond b (Some (asked_node n)) (first_of o p) ≡ option_map asked_node (cond b (Some n) (first_of q r))
    by true o p q r inner rest = refl
    by false o p None r inner rest = ap (λ x. first_of x p) inner ∙ rest
    by false o p (Some m) r inner rest = ap (λ x. first_of x p) inner

pub node_kept : (s : Schema) (number : ℕ) → node_at (configuration_schema s) number ≡ option_map asked_node (node_at s number)
node_kept s number = find_kept number s.nodes

-- ---- what is kept

bare_row : (f : Forest SchemaNode) → LeafsAreBare f → LeafsAreBare (asked_row f)
bare_row end bare = tt
bare_row (node n below after) bare = (λ is. ap asked_row (bare.0 (sym (value_kept n) ∙ is)), bare_row below bare.1, bare_row after bare.2)

pub bare_kept : (s : Schema) → LeafsAreBare s.nodes → LeafsAreBare (configuration_schema s).nodes
bare_kept s bare = bare_row s.nodes bare

module _ (s : Schema) where
  new_kept : (parent : Option ℕ) (name : Text) (f : Forest SchemaNode) → IsNew s parent name f → IsNew (configuration_schema s) parent name (asked_row f)
  new_kept parent name end new = tt
  new_kept parent name (node n below after) new = (new.0, new_kept parent name after new.1)

  differ_kept : (parent : Option ℕ) (f : Forest SchemaNode) → RowDiffers s parent f → RowDiffers (configuration_schema s) parent (asked_row f)
  differ_kept parent end differ = tt
  differ_kept parent (node n below after) differ = (new_kept parent (written_name s parent n) after differ.0, differ_kept parent after differ.1)

  data_differ : (parent : Option ℕ) (f : Forest SchemaNode) → RowDiffers s parent (data_row f) → RowDiffers (configuration_schema s) parent (data_row (asked_row f))
  data_differ parent f differ = subst (RowDiffers (configuration_schema s) parent) (sym (data_row_kept f)) (differ_kept parent (data_row f) differ)

  all_differ : (f : Forest SchemaNode) → AllDiffer s f → AllDiffer (configuration_schema s) (asked_row f)
  all_differ end differ = tt
  all_differ (node n below after) differ =
      (λ is. data_differ (Some n.module_number) below (differ.0 (sym (data_kept n) ∙ is)), all_differ below differ.1, all_differ after differ.2)

  pub names_kept : NamesDiffer s → NamesDiffer (configuration_schema s)
  names_kept differ = (data_differ None s.nodes differ.0, all_differ s.nodes differ.1)

  named_row : (f : Forest SchemaNode) → NodesAreNamed s f → NodesAreNamed (configuration_schema s) (asked_row f)
  named_row end named = tt
  named_row (node n below after) named = (named.0, named_row below named.1, named_row after named.2)

  pub named_kept : NodesAreNamed s s.nodes → NodesAreNamed (configuration_schema s) (configuration_schema s).nodes
  named_kept named = named_row s.nodes named

pub size_kept : (most : ℕ) (s : Schema) → size s.nodes ≤ most → size (configuration_schema s).nodes ≤ most
size_kept most s few = subst (λ k. k ≤ most) (sym (relabelled-size asked_node s.nodes)) few

pub levels_kept : (most : ℕ) (s : Schema) → levels s.nodes ≤ most → levels (configuration_schema s).nodes ≤ most
levels_kept most s few = subst (λ k. k ≤ most) (sym (relabelled-levels asked_node s.nodes)) few

pub anything_kept : (f : Forest SchemaNode) → has_anything (asked_row f) ≡ has_anything f
anything_kept end = refl
anything_kept (node n below after) =
    ap₂ ◌||◌ (ap is_anything (form_kept n)) (ap₂ ◌||◌ (anything_kept below) (anything_kept after))
