-- A node that holds the key of a value refers to that value.
use Rattle.std.proofs.Common.{◌≡◌, ℕ, Bool, true, false, cond, List, [], ◌∷◌, Option, Some, None, option_map, refl, sym, ap, ◌∙◌}
use Rattle.std.specs.Prelude.{option_and_then}
use Rattle.std.proofs.lemmas.Option.{none-some}
use Rattle.yspec.specs.text.Text.{Text}
use Rattle.yspec.specs.types.Types.{Val}
use Rattle.yspec.specs.schema.Schema.{Schema, SchemaNode, Kind, container, leaf, leaf_list, list, choice, case, LeafType, type_in, node_at}
use Rattle.yspec.specs.schema.References as references
use Rattle.yspec.specs.schema.References.{reference_in}
use Rattle.yspec.specs.document.Document.{Stored, Tree}
use Rattle.yspec.specs.document.Instances.{value_of}
use Rattle.yspec_reach.specs.Referring.{Reference, reference_by, reference_of}
use Rattle.ystore_rows.specs.declared.row.Row.{Row}
use Rattle.ylive_facts.specs.Keys.{Key, value_key, item_key, tuple_key, texts_key, required_key, leaf_key, texts_in, entry_key, first_key, key_at}

-- what a key of a value refers to
abbrev of_key : Key → Option Reference
of_key (value_key number v) = Some (number, v)
of_key _ = None

abbrev seen : Option Key → Option Reference
seen o = option_and_then of_key o

abbrev pair : references.Reference → Reference
pair r = (r.target, r.value)

module _ (schema : Schema) (above : Row) (s : Stored) (below : Tree) (number : ℕ) (v : Val) where
  abbrev wanted : Option Reference
  wanted = Some (number, v)

  -- where an instance is required or not, of a leaf or item
  by_reference : (o : Option references.Reference) → option_and_then required_key o ≡ Some (value_key number v) → option_map pair o ≡ wanted
  by_reference None e = absurd (none-some (value_key number v) e)
  by_reference (Some r) e = by r.is_required e
    where
      by : (b : Bool) → cond b (Some (value_key r.target r.value)) None ≡ Some (value_key number v) → Some (pair r) ≡ wanted
      by true e = ap seen e
      by false e = absurd (none-some (value_key number v) e)

  by_type : (type : LeafType) (value : Option Val) → option_and_then (leaf_key type) value ≡ Some (value_key number v)
      → option_and_then (λ w. option_map pair (reference_in type w)) value ≡ wanted
  by_type type None e = absurd (none-some (value_key number v) e)
  by_type type (Some w) e = by_reference (reference_in type w) e

  -- an entry is found by its texts, and refers to nothing
  no_texts : (o : Option (List Text)) → option_map (texts_key above s.schema_number) o ≡ Some (value_key number v) → ⊥
  no_texts None e = none-some (value_key number v) e
  no_texts (Some texts) e = none-some (number, v) (ap seen e)

  no_entry : (keys : List ℕ) → entry_key schema keys above s below ≡ Some (value_key number v) → ⊥
  no_entry [] e = none-some (value_key number v) e
  no_entry (k ∷ ks) e = no_texts (texts_in schema (k ∷ ks) below) e

  by_kind : (kind : Kind) → first_key schema kind above s below ≡ Some (value_key number v) → option_and_then (reference_by kind) (value_of schema s) ≡ wanted
  by_kind (leaf type absence) e = by_type type (value_of schema s) e
  by_kind (leaf_list type defaults amount) e = by_type type (value_of schema s) e
  by_kind (list tuples amount) e = absurd (no_entry tuples.keys e)
  by_kind (container presence) e = absurd (none-some (value_key number v) e)
  by_kind (choice default_case is_mandatory) e = absurd (none-some (value_key number v) e)
  by_kind case e = absurd (none-some (value_key number v) e)

  pub key_refers : key_at schema above s below 0 ≡ Some (value_key number v) → reference_of schema s ≡ Some (number, v)
  key_refers = by (node_at schema s.schema_number)
    where
      by : (o : Option SchemaNode) → option_and_then (λ (n : SchemaNode). first_key schema n.kind above s below) o ≡ Some (value_key number v)
          → option_and_then (λ (n : SchemaNode). option_and_then (reference_by n.kind) (value_of schema s)) o ≡ wanted
      by None e = absurd (none-some (value_key number v) e)
      by (Some n) e = by_kind n.kind e
