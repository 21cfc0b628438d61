-- What is written of a row of schema nodes is what is written of its data nodes, whose numbers rise.
use Rattle.std.proofs.Common.{◌≡◌, ℕ, suc, ◌+◌, ◌≤◌, Bool, true, false, cond, eqb, Option, Some, refl, sym, ap, ◌∙◌, arith}
use Rattle.std.proofs.lemmas.Bool.{eqb-true}
use Rattle.serde_json.specs.Data.{Members, no_members}
use Rattle.yspec.specs.Forest.{Forest, end, node, size, join}
use Rattle.yspec.specs.schema.Schema.{Schema, SchemaNode, is_data, data_row, child_in, written_name}
use Rattle.yspec.specs.document.Document.{Tree, instances}
use Rattle.yspec.specs.document.Writing.{with_instances, row_members}
use Rattle.yspec.specs.document.Fitting.{IsNumbered}

-- ---- numbers

-- a row's numbers rise, from a least one up to one that no number reaches
abbrev pub Rises : ℕ → ℕ → Forest SchemaNode → Type 0
Rises low high end = low ≤ high
Rises low high (node n below after) = (low ≤ n.number) × Rises (suc n.number) high after

pub rises_lower : (low lower high : ℕ) (f : Forest SchemaNode) → lower ≤ low → Rises low high f → Rises lower high f
rises_lower low lower high end less rises = omega (arith, less, rises)
rises_lower low lower high (node n below after) less rises = (omega (arith, less, rises.0), rises.1)

rises_joined : (low middle high : ℕ) (f g : Forest SchemaNode) → Rises low middle f → Rises middle high g → Rises low high (join f g)
rises_joined low middle high end g first second = rises_lower middle low high g first second
rises_joined low middle high (node n below after) g first second = (first.0, rises_joined (suc n.number) middle high after g first.1 second)

rises_if : (b : Bool) (n : SchemaNode) (below : Forest SchemaNode) (k middle high : ℕ) (inner after : Forest SchemaNode) → n.number ≡ k → k + 1 ≤ middle
    → Rises (k + 1) middle inner → Rises middle high after → Rises k high (cond b (node n below after) (join inner after))
rises_if true n below k middle high inner after same less first second =
    (omega (arith, same), rises_lower middle (suc n.number) high after (omega (arith, same, less)) second)
rises_if false n below k middle high inner after same less first second =
    rises_joined k middle high inner after (rises_lower (k + 1) k middle inner (omega arith) first) second

pub numbers_rise : (f : Forest SchemaNode) (k : ℕ) → IsNumbered k f → Rises k (k + size f) (data_row f)
numbers_rise end k numbered = omega arith
numbers_rise (node n below after) k numbered =
    let later = numbers_rise after (k + 1 + size below) numbered.2 in
    let same : k + 1 + size below + size after ≡ k + suc (size below + size after) = omega arith in
    rises_if (is_data n.kind) n below k (k + 1 + size below) (k + suc (size below + size after)) (data_row below) (data_row after)
    numbered.0 (omega arith) (numbers_rise below (k + 1) numbered.1) (rw (sym same) later)

-- a node of the row has a number from its least one on
pub least_of_row : (f : Forest SchemaNode) (low high m : ℕ) (found : SchemaNode × Forest SchemaNode) → Rises low high f → child_in f m ≡ Some found → low ≤ m
least_of_row end low high m found rises is = absurd cc
least_of_row (node n below after) low high m found rises is =
    by (eqb n.number m) refl is (λ later. least_of_row after (suc n.number) high m found rises.1 later)
  where
    by : (b : Bool) → eqb n.number m ≡ b → cond b (Some (n, below)) (child_in after m) ≡ Some found
        → (child_in after m ≡ Some found → suc n.number ≤ m) → low ≤ m
    by true same is later = let here = eqb-true n.number m same in omega (arith, here, rises.0)
    by false other is later = let past = later is in omega (arith, past, rises.0)

-- ---- writing

members_joined : (s : Schema) (parent : Option ℕ) (f g : Forest SchemaNode) (t : Tree) (found : Members)
    → row_members s parent (join f g) t found ≡ row_members s parent g t (row_members s parent f t found)
unfolding row_members
members_joined s parent end g t found = refl
members_joined s parent (node n below after) g t found = members_joined s parent after g t _

-- of a row whose first node is a data node, or isn't
members_if : (s : Schema) (parent : Option ℕ) (n : SchemaNode) (below inner after : Forest SchemaNode) (t : Tree) (b : Bool) (found : Members) → is_data n.kind ≡ b
    → row_members s parent (cond b (node n below after) (join inner after)) t found
    ≡ row_members s parent after t (cond b (with_instances (written_name s parent n) n.kind (λ below_it. row_members s (Some n.module_number) below below_it no_members)
    (instances n.number t) found) (row_members s parent inner t found))
unfolding row_members
members_if s parent n below inner after t true found is =
    let here = with_instances (written_name s parent n) n.kind (λ below_it. row_members s (Some n.module_number) below below_it no_members) (instances n.number t) found in
    ap (λ c. row_members s parent after t (cond c here (row_members s parent below t found))) is
members_if s parent n below inner after t false found is = members_joined s parent inner after t found

pub members_of_data_row : (s : Schema) (parent : Option ℕ) (f : Forest SchemaNode) (t : Tree) (found : Members)
    → row_members s parent f t found ≡ row_members s parent (data_row f) t found
unfolding row_members
members_of_data_row s parent end t found = refl
members_of_data_row s parent (node n below after) t found =
    let here = with_instances (written_name s parent n) n.kind (λ below_it. row_members s (Some n.module_number) below below_it no_members) (instances n.number t) found in
    members_of_data_row s parent after t (cond (is_data n.kind) here (row_members s parent below t found))
    ∙ (ap (λ ms. row_members s parent (data_row after) t (cond (is_data n.kind) here ms)) (members_of_data_row s parent below t found)
    ∙ sym (members_if s parent n below (data_row below) (data_row after) t (is_data n.kind) found refl))

-- ---- what holds of each data node

abbrev pub Each : (SchemaNode → Forest SchemaNode → Type 0) → Forest SchemaNode → Type 0
Each P end = Unit {0}
Each P (node n below after) = P n below × Each P after

-- of each node of a row and below it
abbrev pub AllHave : (SchemaNode → Forest SchemaNode → Type 0) → Forest SchemaNode → Type 0
AllHave P end = Unit {0}
AllHave P (node n below after) = P n below × AllHave P below × AllHave P after

each_joined : (P : SchemaNode → Forest SchemaNode → Type 0) (f g : Forest SchemaNode) → Each P f → Each P g → Each P (join f g)
each_joined P end g first second = second
each_joined P (node n below after) g first second = (first.0, each_joined P after g first.1 second)

-- a data node for which something holds
abbrev pub OfData : (SchemaNode → Forest SchemaNode → Type 0) → SchemaNode → Forest SchemaNode → Type 0
OfData P n below = (is_data n.kind ≡ true) × P n below

-- something that holds wherever it is a data node
abbrev pub WhereData : (SchemaNode → Forest SchemaNode → Type 0) → SchemaNode → Forest SchemaNode → Type 0
WhereData P n below = is_data n.kind ≡ true → P n below

each_if : (P : SchemaNode → Forest SchemaNode → Type 0) (b : Bool) (n : SchemaNode) (below inner after : Forest SchemaNode) → is_data n.kind ≡ b → WhereData P n below
    → Each (OfData P) inner → Each (OfData P) after → Each (OfData P) (cond b (node n below after) (join inner after))
each_if P true n below inner after is this first second = ((is, this is), second)
each_if P false n below inner after is this first second = each_joined (OfData P) inner after first second

pub each_of_data_row : (P : SchemaNode → Forest SchemaNode → Type 0) (f : Forest SchemaNode) → AllHave (WhereData P) f → Each (OfData P) (data_row f)
each_of_data_row P end all = tt
each_of_data_row P (node n below after) all =
    each_if P (is_data n.kind) n below (data_row below) (data_row after) refl all.0 (each_of_data_row P below all.1) (each_of_data_row P after all.2)

-- what follows from it holds too
pub each_weaker : (P Q : SchemaNode → Forest SchemaNode → Type 0) (f : Forest SchemaNode) → ((n : SchemaNode) (below : Forest SchemaNode) → P n below → Q n below)
    → Each (OfData P) f → Each (OfData Q) f
each_weaker P Q end weaker each = tt
each_weaker P Q (node n below after) weaker each = ((each.0.0, weaker n below each.0.1), each_weaker P Q after weaker each.1)
