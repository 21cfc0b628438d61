-- The keys that a node holds, slot by slot.
use Rattle.std.proofs.Common.{◌≡◌, ℕ, zero, suc, ◌+◌, ◌*◌, ◌-◌, ◌<◌, ◌≤◌, List, [], ◌∷◌, ◌++◌, Option, Some, None, refl, sym, ap, ◌∙◌, arith, append_assoc}
use Rattle.std.specs.Prelude.{option_map, option_and_then, option_to_list}
use Rattle.std.specs.Option.{option_map_or}
use Rattle.std.proofs.lemmas.List.{append-nil, map-append}
use Rattle.std.proofs.lemmas.Option.{same_Some, none-some}
use Rattle.yspec.specs.schema.Schema.{Schema, SchemaNode, node_at}
use Rattle.yspec.specs.document.Document.{Stored, Tree}
use Rattle.yschema_model.specs.declared.node.SchemaId.{SchemaId}
use Rattle.yspec_fit.specs.Fit.{IsFit}
use Rattle.yspec_reach.specs.Sizes.{levels}
use Rattle.ystore.specs.Held.{Label}
use Rattle.ystore.specs.Store.{label_at, reads}
use Rattle.ystore.specs.declared.nodes.Nodes.{Nodes}
use Rattle.ystore_rows.specs.declared.row.NodeId.{NodeId}
use Rattle.ystore_rows.specs.declared.row.Row.{Row}
use Rattle.ystore.specs.declared.key.Key as rust
use Rattle.ylive_facts.specs.Keys.{Key, Holding, key_view, holdings, held_with, keys_from, first_key, key_at, flagged_key, slots_of}
use Rattle.ylive_facts.specs.Reads.{keys_reads, names_at, names_of}
use Rattle.ylive_facts.proofs.ReadLemmas.{few_keys}

module _ (at : ℕ → Option Key) where
  -- the first of those that are left
  keys_next : (slot left more : ℕ) → left ≡ suc more → keys_from at slot left ≡ option_to_list (at slot) ++ keys_from at (slot + 1) more
  keys_next slot left more is = ap (keys_from at slot) is

  pub no_key : (slot : ℕ) (o : Option rust.Key) → ((k : rust.Key) → o ≡ Some k → ⊥) → option_map key_view o ≡ at slot → None ≡ at slot
  no_key slot None none is = is
  no_key slot (Some k) none is = absurd (none k refl)

  keys_none : (slot left : ℕ) → left ≡ 0 → keys_from at slot left ≡ []
  keys_none slot left is = ap (keys_from at slot) is

  module _ (id : NodeId) (before : List (rust.Key × NodeId)) (slots : ℕ) where
    -- the keys so far with those at the slots that are left
    abbrev pub SoFar : ℕ → List (rust.Key × NodeId) → Type 0
    SoFar slot now = holdings now ++ held_with id (keys_from at slot (slots - slot)) ≡ holdings before ++ held_with id (keys_from at 0 slots)

    pub next_key : (slot : ℕ) (now next : List (rust.Key × NodeId)) (key : rust.Key) → slot < slots → option_map key_view (Some key) ≡ at slot → next ≡ now ++ (key, id) ∷ []
        → SoFar slot now → SoFar (slot + 1) next
    next_key slot now next key less is pushed so =
        let rest = held_with id (keys_from at (slot + 1) (slots - (slot + 1))) in
        let here : Holding = (key_view key, id) in
        ap (λ x. holdings x ++ rest) pushed
        ∙ (ap (λ x. x ++ rest) (map-append (λ (p : rust.Key × NodeId). let h : Holding = (key_view p.0, p.1) in h) now ((key, id) ∷ []))
        ∙ (append_assoc (holdings now) (here ∷ []) rest
        ∙ (ap (λ (o : Option Key). holdings now ++ held_with id (option_to_list o ++ keys_from at (slot + 1) (slots - (slot + 1)))) is
        ∙ (sym (ap (λ x. holdings now ++ held_with id x) (keys_next slot (slots - slot) (slots - (slot + 1)) (omega (arith, less)))) ∙ so))))

    pub next_none : (slot : ℕ) (now : List (rust.Key × NodeId)) → slot < slots → None ≡ at slot → SoFar slot now → SoFar (slot + 1) now
    next_none slot now less is so =
        ap (λ (o : Option Key). holdings now ++ held_with id (option_to_list o ++ keys_from at (slot + 1) (slots - (slot + 1)))) is
        ∙ (sym (ap (λ x. holdings now ++ held_with id x) (keys_next slot (slots - slot) (slots - (slot + 1)) (omega (arith, less)))) ∙ so)

    pub ended : (slot : ℕ) (now : List (rust.Key × NodeId)) → slots ≤ slot → SoFar slot now → holdings now ≡ holdings before ++ held_with id (keys_from at 0 slots)
    ended slot now all so =
        sym (append-nil (holdings now)) ∙ (sym (ap (λ x. holdings now ++ held_with id x) (keys_none slot (slots - slot) (omega (arith, all)))) ∙ so)

-- ---- a slot

pub flagged_at : (s : Schema) (above : Row) (st : Stored) (t : Tree) (slot : ℕ) → 0 < slot → flagged_key s above st t (slot - 1) ≡ key_at s above st t slot
flagged_at s above st t zero less = absurd (omega (arith, less))
flagged_at s above st t (suc u) less = let same : suc u - 1 ≡ u = omega arith in ap (flagged_key s above st t) same

-- `stored` is the node by what is held of it
pub first_at : (s : Schema) (above : Row) (st stored : Stored) (t : Tree) (slot : ℕ) (of : SchemaId) (found : Option SchemaNode) (n : SchemaNode) → slot ≤ 0 → st.schema_number ≡ of.0
    → stored ≡ st → found ≡ Some n → found ≡ node_at s of.0 → first_key s n.kind above stored t ≡ key_at s above st t slot
first_at s above st stored t slot of found n first number same some is =
    let zeroth : 0 ≡ slot = omega (arith, first) in
    ap (λ x. first_key s n.kind above x t) same
    ∙ (ap (option_and_then (λ (m : SchemaNode). first_key s m.kind above st t)) (sym some ∙ (is ∙ ap (node_at s) (sym number)))
    ∙ ap (key_at s above st t) zeroth)

-- ---- what is read

-- how many names stand in the key and uniques of a node
names_are : (s : Schema) (nodes : Nodes) (id : NodeId) (of : SchemaId) → Some of ≡ option_map (λ (l : Label). l.schema) (label_at nodes id) → names_at s nodes id ≡ names_of s of.0
names_are s nodes id of is = by (label_at nodes id) is
  where
    by : (o : Option Label) → Some of ≡ option_map (λ (l : Label). l.schema) o → option_map_or (λ (l : Label). names_of s l.schema.0) o 0 ≡ names_of s of.0
    by None is = absurd (none-some of (sym is))
    by (Some l) is = ap (λ (x : SchemaId). names_of s x.0) (sym (same_Some of l.schema is))

-- the keys at all slots, of which some may be left
pub all_read : (s : Schema) (start : Nodes) (id : NodeId) (of : SchemaId) (now left : ℕ) → ∥ IsFit s ∥₁ → Some of ≡ option_map (λ (l : Label). l.schema) (label_at start id)
    → now + left ≤ reads start + (1 + keys_reads s of.0 (slots_of s of.0)) → now ≤ reads start + (3 + (levels s + 4) * names_at s start id)
all_read s start id of now left fit is so =
    let few = few_keys s of.0 fit in
    let names = ap (λ n. (levels s + 4) * n) (names_are s start id of is) in
    omega (arith, so, few, names)
