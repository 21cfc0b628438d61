-- How much is read of nodes that are entered one after another.
use Rattle.std.proofs.Common.{◌≡◌, ℕ, ◌+◌, ◌*◌, ◌≤◌, List, [], ◌∷◌, ◌++◌, Option, Some, refl, sym, ap, ◌∙◌, arith}
use Rattle.std.specs.Prelude.{sum_by}
use Rattle.std.specs.Option.{option_map_or}
use Rattle.std.proofs.lemmas.List.Sums.{sum_by-cons, sum_by-append}
use Rattle.yspec.specs.Forest.{end, node}
use Rattle.yspec.specs.schema.Schema.{Schema, row_at}
use Rattle.yschema_model.specs.declared.node.SchemaId.{SchemaId}
use Rattle.yschema_model.specs.Layout.{number_of}
use Rattle.yspec_reach.specs.Sizes.{levels, near_count, part_size, weight}
use Rattle.ystore.specs.Held.{Label}
use Rattle.ystore_rows.specs.declared.row.NodeId.{NodeId}
use Rattle.ystore_rows.specs.declared.row.Row.{Row}
use Rattle.ystore_rows.specs.declared.row.Row.TheVariants.{Below}
use Rattle.ystore.specs.declared.nodes.Nodes.{Nodes}
use Rattle.ystore_tree.specs.Hanging.{Branches, stored_of, tree_of}
use Rattle.ystore_tree.proofs.PartLemmas.{label_is}
use Rattle.ylive_facts.specs.Reads.{names_at, names_of}
use Rattle.ylive_retell.specs.Accounts.{StandsThere}
use Rattle.ylive_retell.specs.Reads.{nodes_reads}
use Rattle.ylive_retell.specs.Standing.{Standing, standing}
use Rattle.ylive_retell.proofs.AccountLemmas.{Next, Parted, all_done}

-- ---- a node

-- its keys, and the row in which it stands
pub above_read : (schema : Schema) (nodes : Nodes) (id : NodeId) (s : Standing) (first mid last : ℕ) → StandsThere nodes id s → mid ≡ first + 1
    → last ≤ mid + (3 + (levels schema + 4) * names_at schema nodes id) → last ≤ first + (4 + (levels schema + 4) * names_of schema s.label.schema.0)
above_read schema nodes id s first mid last there one more =
    let same = ap (λ (o : Option Label). (levels schema + 4) * option_map_or (λ (l : Label). names_of schema l.schema.0) o 0) (label_is nodes s.row s.label s.below id there.is_id there.stands) in
    omega (arith, one, more, same)

-- what it holds and gives, with what is in play below it
pub node_read : (schema : Schema) (s : Standing) (of : Option SchemaId) (first second third fourth last : ℕ) → of ≡ Some s.label.schema
    → second ≤ first + (4 + (levels schema + 4) * names_of schema s.label.schema.0) → third ≤ second + 2 → fourth ≡ third + 1
    → last ≤ fourth + levels schema * near_count (row_at schema (number_of of)) → last ≤ first + (levels schema + 7) * weight schema (stored_of s.label)
node_read schema s of first second third fourth last is keys own one row =
    let same = ap (λ (o : Option SchemaId). levels schema * near_count (row_at schema (number_of o))) is in
    let whole = parted schema s in
    omega (arith, keys, own, one, row, same, whole)
  where
    parted : (schema : Schema) (s : Standing)
        → (levels schema + 7) * weight schema (stored_of s.label)
        ≡ (levels schema + 7) * (1 + (near_count (row_at schema (Some s.label.schema.0)) + names_of schema s.label.schema.0))
    parted schema s = refl

-- and its value by its type
pub judged_read : (schema : Schema) (s : Standing) (first mid last : ℕ) → mid ≤ first + (levels schema + 7) * weight schema (stored_of s.label) → last ≤ mid + 2
    → last ≤ first + (levels schema + 9) * weight schema (stored_of s.label)
judged_read schema s first mid last all two =
    let some : 1 ≤ weight schema (stored_of s.label) = omega arith in
    omega (arith, all, two, some)

-- ---- some nodes

abbrev pub weights : Schema → List Standing → ℕ
weights schema all = sum_by (λ (s : Standing). weight schema (stored_of s.label)) all

pub weights_standing : (schema : Schema) (above : Row) (f : Branches) → weights schema (standing above f) ≡ part_size schema (tree_of f)
weights_standing schema above end = refl
weights_standing schema above (node n below after) =
    let w : Standing → ℕ = λ s. weight schema (stored_of s.label) in
    let first = sum_by-cons w (record { row = above; label = n; below = below }) (standing (Below n.id) below ++ standing above after) in
    let both = sum_by-append w (standing (Below n.id) below) (standing above after) in
    let inner = weights_standing schema (Below n.id) below in
    let rest = weights_standing schema above after in
    omega (arith, first, both, inner, rest)

module _ (schema : Schema) (more : ℕ) (numbers : List NodeId) (i : ℕ) (above : Row) (f : Branches) (p : Parted numbers i (standing above f)) (first count : ℕ)
    (so_far : count ≤ first + (levels schema + more) * weights schema p.done) where
  module _ (next : ℕ) (id : NodeId) (n : Next numbers i (standing above f) id p) (one : next ≤ count + (levels schema + more) * weight schema (stored_of n.here.label)) where
    done_more : (levels schema + more) * weights schema (p.done ++ n.here ∷ []) ≡ (levels schema + more) * (weights schema p.done + weight schema (stored_of n.here.label))
    done_more =
        let w : Standing → ℕ = λ s. weight schema (stored_of s.label) in
        let both = sum_by-append w p.done (n.here ∷ []) in
        let last = sum_by-cons w n.here [] in
        let e : weights schema (p.done ++ n.here ∷ []) ≡ weights schema p.done + weight schema (stored_of n.here.label) = omega (arith, both, last) in
        ap (λ k. (levels schema + more) * k) e

    -- with the next of them
    pub read_more : next ≤ first + (levels schema + more) * weights schema n.then.done
    read_more =
        let same = ap (λ ss. (levels schema + more) * weights schema ss) n.is_done in
        let parts = done_more in omega (arith, so_far, one, same, parts)

    -- which may be the last that is entered
    pub read_some : next ≤ first + nodes_reads schema more f
    read_some =
        let w : Standing → ℕ = λ s. weight schema (stored_of s.label) in
        let whole = ap (weights schema) (n.then.whole ∙ ap (λ ss. ss ++ n.then.rest) n.is_done) in
        let both = sum_by-append w (p.done ++ n.here ∷ []) n.then.rest in
        let all = weights_standing schema above f in
        let e : (levels schema + more) * part_size schema (tree_of f) ≡ (levels schema + more) * (weights schema (p.done ++ n.here ∷ []) + weights schema n.then.rest) =
        ap (λ k. (levels schema + more) * k) (sym all ∙ (whole ∙ both)) in
        let parts = done_more in omega (arith, so_far, one, e, parts)

  -- all of them
  pub read_all : p.done ≡ standing above f → count ≤ first + nodes_reads schema more f
  read_all all =
      let e : (levels schema + more) * weights schema p.done ≡ (levels schema + more) * part_size schema (tree_of f) =
      ap (λ k. (levels schema + more) * k) (ap (weights schema) all ∙ weights_standing schema above f) in
      omega (arith, so_far, e)
