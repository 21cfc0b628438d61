-- Labels, paths and spaces, part by part.
use Rattle.std.proofs.Common.{◌≡◌, ℕ, suc, ◌-◌, ◌<◌, ◌≤◌, Bool, true, false, cond, List, [], ◌∷◌, ◌++◌, codes, Option, Some, None, refl, sym, ap, ap₂, ◌∙◌, arith, append_assoc}
use Rattle.std.specs.Prelude.{filter}
use Rattle.std.specs.List.{flat_map}
use Rattle.std.specs.Option.{option_map_or}
use Rattle.std.proofs.lemmas.List.{append-nil}
use Rattle.std.proofs.lemmas.List.Concat.{flat_map-append}
use Rattle.std.proofs.lemmas.List.Elements.{filter-append}
use Rattle.yspec.specs.text.Text.{Text}
use Rattle.yspec.specs.schema.Schema.{Schema, SchemaNode, LeafType, is_data, type_in, keys_in, node_at, way_to}
use Rattle.yspec.specs.schema.Diagram.{prefixed_name, name_text, label, label_width, option_mark, key_name, key_names, path_to, referred, type_text, type_column, spaces}
use Rattle.yschema_model.specs.declared.node.SchemaId.{SchemaId}
use Rattle.yschema_model.specs.Layout.{numbers_of}
use Rattle.yschema_model.specs.Lookup.{alone, way_above}
use Rattle.ydiagram.specs.View.{step_by, step_text}

-- ---- parts of labels

pub bracketed : (s : Schema) (shown : ℕ) (n : SchemaNode) → is_data n.kind ≡ false
    → codes "(" ++ (prefixed_name s shown n ++ codes ")") ≡ name_text s shown n
bracketed s shown n other =
    sym (ap (λ b. cond b (prefixed_name s shown n) (codes "(" ++ (prefixed_name s shown n ++ codes ")"))) other)

pub label_parts : (s : Schema) (shown : ℕ) (n : SchemaNode) (mark : Text) (keys : List ℕ) → mark ≡ option_mark n.kind → keys ≡ keys_in n.kind
    → label s shown n ≡ name_text s shown n ++ ((mark ++ []) ++ key_names s keys)
label_parts s shown n mark keys mark_is keys_are =
    sym (ap (λ t. name_text s shown n ++ (t ++ key_names s keys)) (append-nil mark)
    ∙ ap₂ (λ m ks. name_text s shown n ++ (m ++ key_names s ks)) mark_is keys_are)

pub keys_parts : (s : Schema) (first : ℕ) (others : List ℕ) (name : Text) → name ≡ key_name s first
    → key_names s (first ∷ others) ≡ (codes " [" ++ (name ++ [])) ++ (flat_map (λ other. codes " " ++ key_name s other) others ++ codes "]")
keys_parts s first others name is =
    let rest = flat_map (λ other. codes " " ++ key_name s other) others ++ codes "]" in
    sym (ap (λ t. codes " [" ++ (t ++ rest)) (append-nil name ∙ is))

-- what is written of the keys behind the first
abbrev pub others_left : Schema → List SchemaId → Text
others_left s others = flat_map (λ other. codes " " ++ key_name s other) (numbers_of others) ++ codes "]"

pub other_first : (s : Schema) (other : SchemaId) (others : List SchemaId) (name : Text) → name ≡ key_name s other.0
    → others_left s (other ∷ others) ≡ (codes " " ++ (name ++ [])) ++ others_left s others
other_first s other others name is =
    sym (ap (λ t. codes " " ++ (t ++ others_left s others)) (append-nil name ∙ is)
    ∙ ap (λ t. codes " " ++ t) (sym (append_assoc (key_name s other.0) (flat_map (λ other. codes " " ++ key_name s other) (numbers_of others)) (codes "]"))))

-- the type of a node behind its label
pub column_parts : (s : Schema) (shown width : ℕ) (n : SchemaNode) (type : LeafType) (count : ℕ) → Some type ≡ type_in n.kind
    → count ≡ width - label_width s shown n
    → type_column s shown width n ≡ spaces count ++ (codes "   " ++ type_text s shown type)
column_parts s shown width n type count is count_is =
    sym (ap (λ k. spaces k ++ (codes "   " ++ type_text s shown type)) count_is
    ∙ ap (λ o. option_map_or (λ t. spaces (width - label_width s shown n) ++ (codes "   " ++ type_text s shown t)) o []) is)

pub type_shown : (s : Schema) (shown target : ℕ) (type : LeafType) → Some target ≡ referred type
    → codes "-> " ++ path_to s shown target ≡ type_text s shown type
type_shown s shown target type is = ap (λ o. option_map_or (λ t. codes "-> " ++ path_to s shown t) o type.name) is

pub step_shown : (s : Schema) (shown number : ℕ) (n : SchemaNode) → Some n ≡ node_at s number → is_data n.kind ≡ true
    → codes "/" ++ prefixed_name s shown n ≡ step_text s shown number
step_shown s shown number n is data_so =
    sym (ap (λ b. cond b (codes "/" ++ prefixed_name s shown n) []) data_so) ∙ ap (λ o. option_map_or (step_by s shown) o []) is

-- ---- paths

abbrev pub path_above : Schema → ℕ → Option ℕ → Text
path_above s shown None = []
path_above s shown (Some parent) = path_to s shown parent

steps_in : Schema → ℕ → List SchemaNode → Text
steps_in s shown ns = flat_map (λ n. codes "/" ++ prefixed_name s shown n) (filter (λ n. is_data n.kind) ns)

steps_above : (s : Schema) (shown : ℕ) (o : Option ℕ) → steps_in s shown (way_above s o) ≡ path_above s shown o
unfolding steps_in
steps_above s shown None = refl
steps_above s shown (Some parent) = refl

one_step : (s : Schema) (shown : ℕ) (n : SchemaNode) → steps_in s shown (n ∷ []) ≡ step_by s shown n
unfolding steps_in
one_step s shown n = by (is_data n.kind)
  where
    text : Text
    text = codes "/" ++ prefixed_name s shown n

    by : (b : Bool) → flat_map (λ n. codes "/" ++ prefixed_name s shown n) (cond b (n ∷ []) []) ≡ cond b text []
    by true = append-nil text
    by false = refl

last_step : (s : Schema) (shown : ℕ) (o : Option SchemaNode) → steps_in s shown (alone o) ≡ option_map_or (step_by s shown) o []
unfolding steps_in
last_step s shown None = refl
last_step s shown (Some n) = one_step s shown n

-- the path to a node is that to the node above it, and its own step
pub path_parted : (s : Schema) (shown number : ℕ) (o : Option ℕ) → way_to s number ≡ way_above s o ++ alone (node_at s number)
    → path_above s shown o ++ step_text s shown number ≡ path_to s shown number
unfolding steps_in
path_parted s shown number o is =
    let data_of : List SchemaNode → List SchemaNode = filter (λ n. is_data n.kind) in
    let step : SchemaNode → Text = λ n. codes "/" ++ prefixed_name s shown n in
    sym (ap (steps_in s shown) is
    ∙ (ap (flat_map step) (filter-append (λ (n : SchemaNode). is_data n.kind) (way_above s o) (alone (node_at s number)))
    ∙ (flat_map-append step (data_of (way_above s o)) (data_of (alone (node_at s number)))
    ∙ ap₂ (λ a b. a ++ b) (steps_above s shown o) (last_step s shown (node_at s number)))))

-- ---- spaces

pub spaces_next : (n : ℕ) → 0 < n → spaces n ≡ codes " " ++ spaces (n - 1)
spaces_next n some = let more : n ≡ suc (n - 1) = omega (arith, some) in ap spaces more

pub no_spaces : (n : ℕ) → n ≤ 0 → spaces n ≡ []
no_spaces n none = let is : n ≡ 0 = omega (arith, none) in ap spaces is
