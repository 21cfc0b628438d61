-- What is written of a stored row that fits, node by node along its schema row.
use Rattle.std.proofs.Common.{◌≡◌, ℕ, suc, ◌≤◌, true, cond, Option, Some, refl, sym, ap, ◌∙◌, arith}
use Rattle.serde_json.specs.Data.{Members, no_members}
use Rattle.yspec.specs.Forest.{Forest, end, node}
use Rattle.yspec.specs.types.Types.{Raw}
use Rattle.yspec.specs.schema.Schema.{Schema, SchemaNode, is_data, written_name}
use Rattle.yspec.specs.document.Document.{Tree, instances}
use Rattle.yspec.specs.document.Writing.{with_instances, row_members}
use Rattle.yspec.proofs.DocumentProofs.DataRowWritingLemmas.{Rises, Each, OfData}
use Rattle.yspec.proofs.DocumentProofs.AlongLemmas.{Along, first_instances, later_instances}

module _ (s : Schema) where
  -- the members of what stands below an instance
  abbrev pub inner_members : SchemaNode → Forest SchemaNode → Tree → Members
  inner_members n below b = row_members s (Some n.module_number) below b no_members

  members_of_data : (parent : Option ℕ) (n : SchemaNode) (below after : Forest SchemaNode) (t : Tree) (found : Members) → is_data n.kind ≡ true
      → row_members s parent (node n below after) t found
      ≡ row_members s parent after t (with_instances (written_name s parent n) n.kind (inner_members n below) (instances n.number t) found)
  unfolding row_members
  members_of_data parent n below after t found is =
      ap (λ c. row_members s parent after t (cond c (with_instances (written_name s parent n) n.kind (inner_members n below) (instances n.number t) found) (row_members s parent below t found))) is

  -- only the instances of its nodes count
  by_instances : (P : SchemaNode → Forest SchemaNode → Type 0) (parent : Option ℕ) (f : Forest SchemaNode) (low high : ℕ) (t u : Tree) (found : Members)
      → Rises low high f → Each (OfData P) f → ((m : ℕ) → low ≤ m → instances m t ≡ instances m u)
      → row_members s parent f t found ≡ row_members s parent f u found
  unfolding row_members
  by_instances P parent end low high t u found rises each same = refl
  by_instances P parent (node n below after) low high t u found rises each same =
      members_of_data parent n below after t found each.0.0
      ∙ (ap (λ x. row_members s parent after t (with_instances (written_name s parent n) n.kind (inner_members n below) x found)) (same n.number rises.0)
      ∙ (by_instances P parent after (suc n.number) high t u _ rises.1 each.1 (λ m from. same m (omega (arith, from, rises.0)))
      ∙ sym (members_of_data parent n below after u found each.0.0)))

  pub first_written : (Held : SchemaNode → Option Raw → Type 0) (P : SchemaNode → Forest SchemaNode → Type 0) (parent : Option ℕ) (n : SchemaNode) (below after : Forest SchemaNode) (low high : ℕ) (t : Tree) (found : Members)
      → Rises low high (node n below after) → Each (OfData P) (node n below after) → (along : Along Held (node n below after) t)
      → row_members s parent (node n below after) t found
      ≡ row_members s parent after along.1 (with_instances (written_name s parent n) n.kind (inner_members n below) along.0 found)
  first_written Held P parent n below after low high t found rises each along =
      members_of_data parent n below after t found each.0.0
      ∙ (ap (λ x. row_members s parent after t (with_instances (written_name s parent n) n.kind (inner_members n below) x found)) (first_instances Held n below after low high t rises along)
      ∙ by_instances P parent after (suc n.number) high t along.1 _ rises.1 each.1 (later_instances Held n below after t along))
