-- The data nodes of a row of schema nodes, those reached through choices and cases among them, and their numbers.
use Rattle.std.proofs.Common.{◌≡◌, ℕ, ◌+◌, ◌≤◌, ◌<◌, Bool, true, false, cond, Option, Some, refl, sym, ap, ap₂, ◌∙◌, subst, arith}
use Rattle.std.proofs.lemmas.Bool.{eq-eqb}
use Rattle.yspec.specs.Forest.{Forest, end, node, size, join}
use Rattle.serde_json.specs.Data.{Members}
use Rattle.serde_json.specs.Find.{get_member}
use Rattle.yspec.specs.schema.Schema.{Schema, SchemaNode, is_data, data_row, child_in, written_name}
use Rattle.yspec.specs.document.Document.{Tree}
use Rattle.yspec.specs.document.Reading.{members_of, instance_row, stored_rows}
use Rattle.yspec.specs.document.Fitting.{IsNumbered}
use Rattle.yspec.proofs.ForestLemmas.{join_end, join_assoc}
use Rattle.yspec.proofs.DocumentProofs.FittingLemmas.{eqb_other}

-- the numbers of a row rise from a least one on, and those below each of its nodes count up from its own
abbrev pub Rises : ℕ → Forest SchemaNode → Type 0
Rises least end = Unit {0}
Rises least (node n below after) = (least ≤ n.number) × IsNumbered (n.number + 1) below × Rises (n.number + 1) after

pub rises_sooner : (f : Forest SchemaNode) (j k : ℕ) → j ≤ k → Rises k f → Rises j f
rises_sooner end j k lower rises = tt
rises_sooner (node n below after) j k lower rises = (omega (arith, lower, rises.0), rises.1, rises.2)

rises_joined : (f rest : Forest SchemaNode) (k : ℕ) → IsNumbered k f → Rises (k + size f) rest → Rises k (join (data_row f) rest)
rises_joined end rest k numbered rises = subst (λ j. Rises j rest) (omega arith) rises
rises_joined (node n below after) rest k numbered rises =
    let later = rises_joined after rest (k + 1 + size below) numbered.2 (subst (λ j. Rises j rest) (omega arith) rises) in
    by (is_data n.kind) later (rises_joined below (join (data_row after) rest) (k + 1) numbered.1 later)
  where
    by : (b : Bool) → Rises (k + 1 + size below) (join (data_row after) rest) → Rises (k + 1) (join (data_row below) (join (data_row after) rest))
        → Rises k (join (cond b (node n below (data_row after)) (join (data_row below) (data_row after))) rest)
    by true later through = (
      omega (arith, numbered.0),
      subst (λ j. IsNumbered (j + 1) below) (sym numbered.0) numbered.1,
      rises_sooner (join (data_row after) rest) (n.number + 1) (k + 1 + size below) (omega (arith, numbered.0)) later,
    )
    by false later through = rises_sooner _ k (k + 1) (omega arith)
        (subst (Rises (k + 1)) (sym (join_assoc (data_row below) (data_row after) rest)) through)

-- the data nodes of a numbered row
pub data_rises : (f : Forest SchemaNode) (k : ℕ) → IsNumbered k f → Rises k (data_row f)
data_rises f k numbered = subst (Rises k) (join_end (data_row f)) (rises_joined f end k numbered tt)

-- ---- nodes by their numbers

-- each node of a row is the one of its number among others
abbrev pub AreFound : Forest SchemaNode → Forest SchemaNode → Type 0
AreFound others end = Unit {0}
AreFound others (node n below after) = (child_in others n.number ≡ Some (n, below)) × AreFound others after

-- with one more in front, whose number is smaller
found_later : (n : SchemaNode) (below others f : Forest SchemaNode) (k : ℕ) → n.number < k → Rises k f → AreFound others f
    → AreFound (node n below others) f
found_later n below others end k less rises found = tt
found_later n below others (node m inner f) k less rises found = (
  ap (λ b. cond b (Some (n, below)) (child_in others m.number)) (eqb_other n.number m.number (λ e. absurd (omega (arith, rises.0, e, less)))) ∙ found.0,
  found_later n below others f (m.number + 1) (omega (arith, rises.0, less)) rises.2 found.1,
)

found_themselves : (f : Forest SchemaNode) (k : ℕ) → Rises k f → AreFound f f
found_themselves end k rises = tt
found_themselves (node n below after) k rises = (
  ap (λ b. cond b (Some (n, below)) (child_in after n.number)) (eq-eqb n.number n.number refl),
  found_later n below after after (n.number + 1) (omega arith) rises.2 (found_themselves after (n.number + 1) rises.2),
)

-- each data node of a numbered row is the one of its number
pub data_found : (f : Forest SchemaNode) (k : ℕ) → IsNumbered k f → AreFound (data_row f) (data_row f)
data_found f k numbered = found_themselves (data_row f) k (data_rises f k numbered)

pub found_parts : (others f g : Forest SchemaNode) → AreFound others (join f g) → AreFound others f × AreFound others g
found_parts others end g found = (tt, found)
found_parts others (node n below after) g found = let rest = found_parts others after g found.1 in ((found.0, rest.0), rest.1)

-- ---- the nodes themselves

abbrev pub AreData : Forest SchemaNode → Type 0
AreData end = Unit {0}
AreData (node n below after) = (is_data n.kind ≡ true) × AreData after

data_joined : (f g : Forest SchemaNode) → AreData f → AreData g → AreData (join f g)
data_joined end g first second = second
data_joined (node n below after) g first second = (first.0, data_joined after g first.1 second)

pub data_are_data : (f : Forest SchemaNode) → AreData (data_row f)
data_are_data end = tt
data_are_data (node n below after) = by (is_data n.kind) refl (data_are_data below) (data_are_data after)
  where
    by : (b : Bool) → is_data n.kind ≡ b → AreData (data_row below) → AreData (data_row after)
        → AreData (cond b (node n below (data_row after)) (join (data_row below) (data_row after)))
    by true is inner rest = (is, rest)
    by false is inner rest = data_joined (data_row below) (data_row after) inner rest

-- ---- what members denote in a row

-- the first of a row
stored_first : Schema → Option ℕ → SchemaNode → Forest SchemaNode → Members → Tree
stored_first s parent n below ms = cond (is_data n.kind)
    (instance_row n (λ d. stored_rows s (Some n.module_number) below (members_of d)) (get_member (written_name s parent n) ms))
    (stored_rows s parent below ms)

rows_joined : (s : Schema) (parent : Option ℕ) (f g : Forest SchemaNode) (ms : Members)
    → stored_rows s parent (join f g) ms ≡ join (stored_rows s parent f ms) (stored_rows s parent g ms)
unfolding stored_rows stored_first
rows_joined s parent end g ms = refl
rows_joined s parent (node n below after) g ms =
    ap (join (stored_first s parent n below ms)) (rows_joined s parent after g ms)
    ∙ sym (join_assoc (stored_first s parent n below ms) (stored_rows s parent after ms) (stored_rows s parent g ms))

-- it is what they denote in its data nodes
pub rows_of_data : (s : Schema) (parent : Option ℕ) (f : Forest SchemaNode) (ms : Members)
    → stored_rows s parent f ms ≡ stored_rows s parent (data_row f) ms
unfolding stored_rows stored_first
rows_of_data s parent end ms = refl
rows_of_data s parent (node n below after) ms =
    by (is_data n.kind) refl (rows_of_data s parent below ms) (rows_of_data s parent after ms)
  where
    by : (b : Bool) → is_data n.kind ≡ b → stored_rows s parent below ms ≡ stored_rows s parent (data_row below) ms
        → stored_rows s parent after ms ≡ stored_rows s parent (data_row after) ms
        → stored_rows s parent (node n below after) ms
        ≡ stored_rows s parent (cond b (node n below (data_row after)) (join (data_row below) (data_row after))) ms
    by true is inner rest = ap (join (stored_first s parent n below ms)) rest
    by false is inner rest =
        ap (λ b. join (cond b (instance_row n (λ d. stored_rows s (Some n.module_number) below (members_of d)) (get_member (written_name s parent n) ms))
        (stored_rows s parent below ms)) (stored_rows s parent after ms)) is
        ∙ (ap₂ join inner rest ∙ sym (rows_joined s parent (data_row below) (data_row after) ms))
