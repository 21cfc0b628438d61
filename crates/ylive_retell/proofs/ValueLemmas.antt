-- How many instances of a schema node have a value in a document whose row at the end of a way is changed.
use Rattle.std.proofs.Common.{◌≡◌, ℕ, zero, suc, ◌+◌, ◌≤◌, true, List, [], ◌∷◌, ◌++◌, length, min, Option, Some, None, refl, sym, ap, ◌∙◌, arith, cond, eqb}
use Rattle.std.specs.Prelude.{count_by}
use Rattle.std.specs.List.{flat_map}
use Rattle.std.proofs.lemmas.List.Sums.{sum_by-append}
use Rattle.yspec.specs.Forest.{end, node, join, weigh_nodes}
use Rattle.yspec.specs.types.Types.{Val}
use Rattle.yspec.specs.schema.Schema.{Schema, row_at}
use Rattle.yspec.specs.document.Document.{Stored, Tree, instances_in}
use Rattle.yspec.specs.document.Instances.{is_value, value_of, times_at, times_below, times_in}
use Rattle.yschema_model.specs.declared.node.SchemaId.{SchemaId}
use Rattle.ystore_rows.specs.Rows as rows
use Rattle.ystore_rows.specs.declared.row.Row.{Row}
use Rattle.ystore_rows.specs.declared.row.Row.TheVariants.{Top, Below}
use Rattle.ystore_tree.specs.Hanging.{Numbered, Branches, stored_of, tree_of, children_of}
use Rattle.ystore_tree.specs.Changes.{put_at}
use Rattle.ystore_tree.specs.Swaps.{Swaps}
use Rattle.ystore_tree.specs.Ways.{Way, around, end_of}
use Rattle.ystore_tree.specs.declared.swapping.Change.{Change}
use Rattle.ystore_tree.specs.declared.swapping.Change.TheVariants.{Add, Put, Take, Move}
use Rattle.ystore_tree.proofs.GrowLemmas.{tree_join}
use Rattle.yspec_play.specs.Absences.{Default, is_default}
use Rattle.yspec_play.specs.Over.{AlikeBut}
use Rattle.ylive_facts.specs.Given.{is_referred, own_values, referred}
use Rattle.yspec_play.proofs.AbsenceLemmas.{defaults_used}
use Rattle.yspec_play.specs.Absences.{defaults_in}
use Rattle.ylive_facts.proofs.GivenLemmas.{counted_own, counted_referred}
use Rattle.ylive_retell.specs.Plans.{row_schema}
use Rattle.ylive_retell.specs.Standing.{Standing, standing, values_given, all_given, defaults_in_row}
use Rattle.ylive_retell.specs.Sums.{top_at}
use Rattle.ylive_retell.proofs.SumLemmas.{nodes_join, times_changed}

-- ---- sums of a swapped row

module _ (w : Stored → Tree → ℕ) where
  sum_joined : (f g : Branches) → weigh_nodes w (tree_of (join f g)) ≡ weigh_nodes w (tree_of f) + weigh_nodes w (tree_of g)
  sum_joined f g = ap (weigh_nodes w) (tree_join f g) ∙ nodes_join w (tree_of f) (tree_of g)

  sum_put : (place : ℕ) (n : Numbered) (below f : Branches)
      → weigh_nodes w (tree_of (put_at place n below f)) ≡ weigh_nodes w (tree_of f) + weigh_nodes w (tree_of (node n below end))
  sum_put zero n below f = omega arith
  sum_put (suc place) n below end = omega arith
  sum_put (suc place) n below (node m under after) = let rest = sum_put place n below after in omega (arith, rest)

  pub sum_swapped : (schema : SchemaId) (change : Change) (f loose g left : Branches) → Swaps schema change f loose g left
      → weigh_nodes w (tree_of g) + weigh_nodes w (tree_of left) ≡ weigh_nodes w (tree_of f) + weigh_nodes w (tree_of loose)
  sum_swapped schema (Add id) f loose g left a =
      let row = ap (λ h. weigh_nodes w (tree_of h)) a.row in
      let none = ap (λ h. weigh_nodes w (tree_of h)) a.none in
      let beside = ap (λ h. weigh_nodes w (tree_of h)) a.beside in
      let put = sum_put (rows.end_place a.label.schema (children_of f)) a.label a.below f in
      omega (arith, row, none, beside, put)
  sum_swapped schema (Put old id) f loose g left p =
      let row = ap (λ h. weigh_nodes w (tree_of h)) p.row in
      let was = ap (λ h. weigh_nodes w (tree_of h)) p.was in
      let goes = ap (λ h. weigh_nodes w (tree_of h)) p.goes in
      let beside = ap (λ h. weigh_nodes w (tree_of h)) p.beside in
      let first = sum_joined p.before (node p.to p.below p.after) in
      let second = sum_joined p.before (node p.from p.under p.after) in
      omega (arith, row, was, goes, beside, first, second)
  sum_swapped schema (Take old place) f loose g left t =
      let row = ap (λ h. weigh_nodes w (tree_of h)) t.row in
      let was = ap (λ h. weigh_nodes w (tree_of h)) t.was in
      let goes = ap (λ h. weigh_nodes w (tree_of h)) t.goes in
      let none = ap (λ h. weigh_nodes w (tree_of h)) t.none in
      let first = sum_joined t.before t.after in
      let second = sum_joined t.before (node t.from t.under t.after) in
      omega (arith, row, was, goes, none, first, second)
  sum_swapped schema (Move id from to) f loose g left m =
      let whole = join m.before m.after in
      let row = ap (λ h. weigh_nodes w (tree_of h)) m.row in
      let was = ap (λ h. weigh_nodes w (tree_of h)) m.was in
      let none = ap (λ h. weigh_nodes w (tree_of h)) m.none in
      let none_left = ap (λ h. weigh_nodes w (tree_of h)) m.none_left in
      let put = sum_put (rows.first_place m.label.schema (children_of whole) + min to (length (rows.of_schema m.label.schema (children_of whole)))) m.label m.under whole in
      let first = sum_joined m.before m.after in
      let second = sum_joined m.before (node m.label m.under m.after) in
      omega (arith, row, was, none, none_left, put, first, second)

-- ---- what is given

module _ (schema : Schema) (number : ℕ) (v : Val) (is : is_referred schema number ≡ true) where
  abbrev times : List Default → ℕ
  times ds = count_by (is_default number v) ds

  times_append : (xs ys : List Default) → times (xs ++ ys) ≡ times xs + times ys
  times_append xs ys = sum_by-append (λ d. cond (is_default number v d) 1 0) xs ys

  pub in_use : (above : Option ℕ) (t : Tree) → times (defaults_in_row schema above t) ≡ times_below schema number v (row_at schema above) t
  in_use above t =
      counted_referred schema number v (defaults_in (instances_in t) [] (row_at schema above)) is
      ∙ sym (defaults_used number v (row_at schema above) (instances_in t) [] [])

  given_at : (s : Standing) → times (values_given schema s) ≡ times_at schema number v (stored_of s.label) (tree_of s.below)
  given_at s =
      let both = times_append (referred schema (own_values schema (stored_of s.label))) (defaults_in_row schema (Some s.label.schema.0) (tree_of s.below)) in
      let own = counted_own schema number v (stored_of s.label) is in
      let below = in_use (Some s.label.schema.0) (tree_of s.below) in
      omega (arith, both, own, below)

  given_append : (xs ys : List Standing) → times (flat_map (values_given schema) (xs ++ ys)) ≡ times (flat_map (values_given schema) xs) + times (flat_map (values_given schema) ys)
  given_append [] ys = omega arith
  given_append (x ∷ xs) ys =
      let whole = times_append (values_given schema x) (flat_map (values_given schema) (xs ++ ys)) in
      let part = times_append (values_given schema x) (flat_map (values_given schema) xs) in
      let rest = given_append xs ys in
      omega (arith, whole, part, rest)

  pub given_all : (above : Row) (f : Branches) → times (all_given schema above f) ≡ weigh_nodes (times_at schema number v) (tree_of f)
  given_all above end = refl
  given_all above (node n below after) =
      let s : Standing = record { row = above; label = n; below = below } in
      let whole = times_append (values_given schema s) (flat_map (values_given schema) (standing (Below n.id) below ++ standing above after)) in
      let both = given_append (standing (Below n.id) below) (standing above after) in
      let here = given_at s in
      let first = given_all (Below n.id) below in
      let second = given_all above after in
      omega (arith, whole, both, here, first, second)

  -- the node above a row weighs its own value, and what is in use in the row
  record There (way : Way) (above : Option ℕ) (top : Tree → ℕ) : Type 0 where
    own : ℕ
    so : (t : Tree) → top_at (times_at schema number v) top way t ≡ own + times_below schema number v (row_at schema (row_schema above way)) t

  there_from : (way : Way) (above : Option ℕ) (own : ℕ) (top : Tree → ℕ) → ((t : Tree) → top t ≡ own + times_below schema number v (row_at schema above) t)
      → There way above top
  there_from [] above own top so = record { own = own; so = so }
  there_from (frame ∷ way) above own top so =
      let rest = there_from way (Some frame.label.schema.0) (cond (eqb frame.label.schema.0 number) (cond (is_value v (value_of schema (stored_of frame.label))) 1 0) 0)
      (times_at schema number v (stored_of frame.label)) (λ t. refl) in
      record { own = rest.own; so = rest.so }

  -- what stays in use counts in neither
  used_moved : (old_part new_part old new : List Default) → AlikeBut old_part new_part old new → times old + times new_part ≡ times new + times old_part
  used_moved old_part new_part old new so =
      let was = ap times so.old_is in
      let now = ap times so.new_is in
      let first = times_append so.front (old_part ++ so.back) in
      let second = times_append so.front (new_part ++ so.back) in
      let third = times_append old_part so.back in
      let fourth = times_append new_part so.back in
      omega (arith, was, now, first, second, third, fourth)

  pub part_few : (old_part new_part old new : List Default) → AlikeBut old_part new_part old new → times new_part ≤ times new
  part_few old_part new_part old new so =
      let now = ap times so.new_is in
      let second = times_append so.front (new_part ++ so.back) in
      let fourth = times_append new_part so.back in
      omega (arith, now, second, fourth)

  module _ (of : SchemaId) (change : Change) (way : Way) (f loose g left : Branches) (swaps : Swaps of change f loose g left)
      (used used_then : List Default)
      (uses : AlikeBut used used_then (defaults_in_row schema (row_schema None way) (tree_of f)) (defaults_in_row schema (row_schema None way) (tree_of g))) where
    pub values_changed : times_in schema (tree_of (around way g)) number v + times (all_given schema (end_of Top way) left ++ used)
        ≡ times_in schema (tree_of (around way f)) number v + times (all_given schema (end_of Top way) loose ++ used_then)
    values_changed =
        let whole = times_changed schema number v way f g in
        let there = there_from way None 0 (times_below schema number v schema.nodes) (λ t. omega arith) in
        let before = there.so (tree_of f) in
        let after = there.so (tree_of g) in
        let rows = sum_swapped (times_at schema number v) of change f loose g left swaps in
        let goes = times_append (all_given schema (end_of Top way) left) used in
        let comes = times_append (all_given schema (end_of Top way) loose) used_then in
        let moved =
        used_moved used used_then (defaults_in_row schema (row_schema None way) (tree_of f)) (defaults_in_row schema (row_schema None way) (tree_of g)) uses in
        let out = given_all (end_of Top way) left in
        let new = given_all (end_of Top way) loose in
        let was = in_use (row_schema None way) (tree_of f) in
        let now = in_use (row_schema None way) (tree_of g) in
        omega (arith, whole, before, after, rows, goes, comes, moved, out, new, was, now)

    -- so many go at most as there were, once those that come are there
    pub few_go : times (all_given schema (end_of Top way) left ++ used)
        ≤ times_in schema (tree_of (around way f)) number v + times (all_given schema (end_of Top way) loose ++ used_then)
    few_go = let same = values_changed in omega (arith, same)
