-- How much a plan of a change of a row holds: keys and values by what the nodes that go and come weigh, by the names in keys and
-- uniques of the nodes on the way, and by how wide the schema row is.
use Rattle.std.proofs.Common.{◌≡◌, ℕ, suc, ◌+◌, ◌*◌, ◌≤◌, Bool, true, false, cond, eqb, max, List, [], ◌∷◌, ◌++◌, map, length, Option, Some, None, refl, sym, ap, ◌∙◌, arith, length-append}
use Rattle.std.specs.Prelude.{option_to_list, sum_by, unwrap_or}
use Rattle.std.specs.List.{flat_map}
use Rattle.std.specs.Option.{option_map_or}
use Rattle.std.proofs.lemmas.List.{length-map}
use Rattle.std.proofs.lemmas.List.Concat.{length-flat_map}
use Rattle.std.proofs.lemmas.List.Sums.{sum_by-cons, sum_by-append}
use Rattle.yspec.specs.Forest.{Forest, end, node, size, weigh, find_below, joined_below}
use Rattle.yspec.specs.types.Types.{Val}
use Rattle.yspec.specs.schema.Schema.{Schema, SchemaNode, has_value, node_at, row_at}
use Rattle.yspec.specs.document.Document.{Stored, Tree, instances_in}
use Rattle.yspec.specs.document.Instances.{value_of}
use Rattle.yschema_model.specs.declared.node.SchemaId.{SchemaId}
use Rattle.yspec_play.specs.Absences.{Default, defaults_in}
use Rattle.yspec_play.specs.Over.{AlikeBut}
use Rattle.yspec_reach.specs.Sizes.{breadth, default_count, most_defaults, name_count, near_count, part_size, starts_anew, weight}
use Rattle.ystore_rows.specs.declared.row.NodeId.{NodeId}
use Rattle.ystore_rows.specs.declared.row.Row.{Row}
use Rattle.ystore_rows.specs.declared.row.Row.TheVariants.{Below, Top}
use Rattle.ystore.specs.declared.key.Key as rust
use Rattle.ystore_tree.specs.Hanging.{Branches, stored_of, tree_of}
use Rattle.ystore_tree.specs.Ways.{Frame, Way, around, end_of}
use Rattle.ylive_facts.specs.Given.{given_view, is_referred, own_values, referred}
use Rattle.ylive_facts.specs.Keys.{Holding, Key, held_by, holdings, key_view}
use Rattle.ylive_facts.specs.Reads.{names_of}
use Rattle.ylive_retell.specs.Accounts.{news_of, news_view, News}
use Rattle.ylive_retell.specs.Plans.{Plans, row_schema}
use Rattle.ylive_retell.specs.Reads.{names_on}
use Rattle.ylive_retell.specs.Standing.{Standing, standing, keys_held, on_the_way, values_given, all_given, all_held, defaults_in_row, way_held}
use Rattle.ylive_retell.specs.declared.account.News as rust_news
use Rattle.ylive_retell.specs.declared.planning.Plan.{Plan}
use Rattle.ylive_retell.proofs.AmountLemmas.{part_keys}
use Rattle.ylive_retell.proofs.DefaultLemmas.{few_defaults}
use Rattle.ylive_retell.proofs.FewLemmas.{few_below, few_chosen}
use Rattle.ylive_retell.proofs.HeldCountLemmas.{few_held, held_count}
use Rattle.ylive_retell.proofs.ReadLemmas.{weights, weights_standing}

-- ---- rows of a schema

near_size : (f : Forest SchemaNode) → near_count f ≤ size f
near_size end = omega arith
near_size (node n below after) = by (starts_anew n.kind) (near_size below) (near_size after)
  where
    by : (b : Bool) → near_count below ≤ size below → near_count after ≤ size after → 1 + (cond b 0 (near_count below) + near_count after) ≤ suc (size below + size after)
    by true inner rest = omega (arith, rest)
    by false inner rest = omega (arith, inner, rest)

wide_size : (f : Forest SchemaNode) → size f ≤ weigh (λ (n : SchemaNode). 1 + name_count n.kind) f
wide_size end = omega arith
wide_size (node n below after) = let inner = wide_size below in let rest = wide_size after in omega (arith, inner, rest)

pub wide_row : (schema : Schema) (above : Option ℕ) → size (row_at schema above) ≤ breadth schema
wide_row schema None = wide_size schema.nodes
wide_row schema (Some parent) =
    let below = few_below (λ (n : SchemaNode). eqb n.number parent) schema.nodes in let whole = wide_size schema.nodes in omega (arith, below, whole)

pub near_row : (schema : Schema) (above : Option ℕ) → near_count (row_at schema above) ≤ breadth schema
near_row schema above = let near = near_size (row_at schema above) in let row = wide_row schema above in omega (arith, near, row)

most_below : (p : SchemaNode → Bool) (f : Forest SchemaNode) → most_defaults (unwrap_or (find_below p f) end) ≤ most_defaults f
most_below p end = omega arith
most_below p (node n below after) = by (p n) (find_below p below) (find_below p after) (most_below p below) (most_below p after)
  where
    by : (b : Bool) (first second : Option (Forest SchemaNode)) → most_defaults (unwrap_or first end) ≤ most_defaults below
        → most_defaults (unwrap_or second end) ≤ most_defaults after
        → most_defaults (unwrap_or (cond b (Some below) (joined_below first second)) end) ≤ max (default_count n.kind) (max (most_defaults below) (most_defaults after))
    by true first second a b = omega arith
    by false (Some f) second a b = omega (arith, a)
    by false None (Some g) a b = omega (arith, b)
    by false None None a b = omega arith

most_row : (schema : Schema) (above : Option ℕ) → most_defaults (row_at schema above) ≤ most_defaults schema.nodes
most_row schema None = omega arith
most_row schema (Some parent) = most_below (λ (n : SchemaNode). eqb n.number parent) schema.nodes

module _ (schema : Schema) where
  abbrev most : ℕ
  most = most_defaults schema.nodes

  -- ---- keys

  few_names : (o : Option SchemaNode) → option_map_or (λ (n : SchemaNode). held_count n.kind) o 0 ≤ 2 * (1 + option_map_or (λ (n : SchemaNode). name_count n.kind) o 0)
  few_names None = omega arith
  few_names (Some n) = by (has_value n.kind)
    where
      by : (b : Bool) → cond b 2 (2 * name_count n.kind) ≤ 2 * (1 + name_count n.kind)
      by true = omega arith
      by false = omega arith

  few_keys : (n : Standing) → length (keys_held schema n) ≤ 2 * (1 + names_of schema n.label.schema.0)
  few_keys n =
      let held = held_by schema n.row (stored_of n.label) (tree_of n.below) in
      let pair : Key → Holding = λ key. (key, n.label.id) in
      let same = length-map held pair in
      let few = few_held schema n.row (stored_of n.label) (tree_of n.below) in
      let names = few_names (node_at schema n.label.schema.0) in
      omega (arith, same, few, names)

  way_sum : (above : Row) (way : Way) (f : Branches) → sum_by (λ (n : Standing). length (keys_held schema n)) (on_the_way above way f) ≤ 2 * (length way + names_on schema way)
  way_sum above [] f = omega arith
  way_sum above (frame ∷ way) f =
      let w : Standing → ℕ = λ n. length (keys_held schema n) in
      let here : Standing = record { row = above; label = frame.label; below = around way f } in
      let both = sum_by-append w (on_the_way (Below frame.label.id) way f) (here ∷ []) in
      let last = sum_by-cons w here [] in
      let none : sum_by w [] ≡ 0 = refl in
      let one = few_keys here in
      let rest = way_sum (Below frame.label.id) way f in
      let long : length (frame ∷ way) ≡ 1 + length way = omega arith in
      omega (arith, both, last, none, one, rest, long)

  way_keys : (way : Way) (f : Branches) → length (way_held schema Top way f) ≤ 2 * (length way + names_on schema way)
  way_keys way f =
      let sum = length-flat_map (keys_held schema) (on_the_way Top way f) in let few = way_sum Top way f in omega (arith, sum, few)

  few_moved : (keys : List (rust.Key × NodeId)) (way : Way) (f part : Branches) (changed : List Holding)
      → holdings keys ≡ all_held schema (end_of Top way) part ++ changed → length changed ≤ length (way_held schema Top way f)
      → length keys ≤ 2 * part_size schema (tree_of part) + 2 * (length way + names_on schema way)
  few_moved keys way f part changed is few =
      let see : rust.Key × NodeId → Holding = λ p. (key_view p.0, p.1) in
      let same = length-map keys see in
      let whole = ap length is in
      let both = length-append (all_held schema (end_of Top way) part) changed in
      let own = part_keys schema (end_of Top way) part in
      let on = way_keys way f in
      omega (arith, same, whole, both, own, on, few)

  -- ---- values

  pub row_defaults : (above : Option ℕ) (t : Tree) → length (defaults_in_row schema above t) ≤ most * near_count (row_at schema above)
  row_defaults above t =
      let all = defaults_in (instances_in t) [] (row_at schema above) in
      let chosen = few_chosen (λ (d : Default). is_referred schema d.0) all in
      let few = few_defaults (instances_in t) [] (row_at schema above) most (most_row schema above) in
      omega (arith, chosen, few)

  one_value : (s : Stored) → length (referred schema (own_values schema s)) ≤ 1
  one_value s =
      let pair : Val → Default = λ v. (s.schema_number, v) in
      let chosen = few_chosen (λ (d : Default). is_referred schema d.0) (own_values schema s) in
      let same = length-map (option_to_list (value_of schema s)) pair in
      let one = at_most (value_of schema s) in
      omega (arith, chosen, same, one)
    where
      at_most : (o : Option Val) → length (option_to_list o) ≤ 1
      at_most None = omega arith
      at_most (Some v) = omega arith

  few_given : (n : Standing) → length (values_given schema n) ≤ (1 + most) * weight schema (stored_of n.label)
  few_given n =
      let s = stored_of n.label in
      let both = length-append (referred schema (own_values schema s)) (defaults_in_row schema (Some n.label.schema.0) (tree_of n.below)) in
      let one = one_value s in
      let row = row_defaults (Some n.label.schema.0) (tree_of n.below) in
      let parts : (1 + most) * weight schema s ≡ (1 + most) * (1 + (near_count (row_at schema (Some n.label.schema.0)) + names_of schema n.label.schema.0)) = refl in
      omega (arith, both, one, row, parts)

  given_sum : (all : List Standing) → sum_by (λ (n : Standing). length (values_given schema n)) all ≤ (1 + most) * weights schema all
  given_sum [] = omega arith
  given_sum (n ∷ ns) =
      let values = sum_by-cons (λ (m : Standing). length (values_given schema m)) n ns in
      let whole = ap (λ k. (1 + most) * k) (sum_by-cons (λ (m : Standing). weight schema (stored_of m.label)) n ns) in
      let here = few_given n in
      let rest = given_sum ns in
      omega (arith, values, whole, here, rest)

  given_few : (above : Row) (part : Branches) → length (all_given schema above part) ≤ (1 + most) * part_size schema (tree_of part)
  given_few above part =
      let sum = length-flat_map (values_given schema) (standing above part) in
      let few = given_sum (standing above part) in
      let whole = ap (λ k. (1 + most) * k) (weights_standing schema above part) in
      omega (arith, sum, few, whole)

  few_values : (values : List (SchemaId × Val)) (above : Row) (part : Branches) (of : Option ℕ) (used : List Default)
      → given_view values ≡ all_given schema above part ++ used → length used ≤ most * near_count (row_at schema of)
      → length values ≤ (1 + most) * part_size schema (tree_of part) + most * near_count (row_at schema of)
  few_values values above part of used is few =
      let see : SchemaId × Val → Default = λ g. (g.0.0, g.1) in
      let same = length-map values see in
      let whole = ap length is in
      let both = length-append (all_given schema above part) used in
      let own = given_few above part in
      omega (arith, same, whole, both, own, few)

  -- ---- a plan

  part_of : {X : Type 0} (front part back all : List X) → all ≡ front ++ (part ++ back) → length part ≤ length all
  part_of front part back all is =
      let whole = ap length is in
      let first = length-append front (part ++ back) in
      let second = length-append part back in
      omega (arith, whole, first, second)

  every_light : (all : List Standing) → length all ≤ weights schema all
  every_light [] = omega arith
  every_light (n ∷ ns) =
      let whole = sum_by-cons (λ (m : Standing). weight schema (stored_of m.label)) n ns in
      let rest = every_light ns in
      let some : 1 ≤ weight schema (stored_of n.label) = omega arith in
      let long : length (n ∷ ns) ≡ 1 + length ns = omega arith in
      omega (arith, whole, rest, some, long)

  module _ (way : Way) (f loose g left : Branches) (plan : Plan) (plans : Plans schema way f loose g left plan) where
    pub few_leaves : length plan.leaves.items ≤ 2 * part_size schema (tree_of left) + 2 * (length way + names_on schema way)
    few_leaves = few_moved plan.leaves.items way f left plans.changed plans.leaves
        (part_of plans.keys.front plans.changed plans.keys.back (way_held schema Top way f) plans.keys.old_is)

    pub few_joins : length plan.joins.items ≤ 2 * part_size schema (tree_of loose) + 2 * (length way + names_on schema way)
    few_joins = few_moved plan.joins.items way g loose plans.changed_then plans.joins
        (part_of plans.keys.front plans.changed_then plans.keys.back (way_held schema Top way g) plans.keys.new_is)

    pub few_goes : length plan.goes.items ≤ (1 + most) * part_size schema (tree_of left) + most * near_count (row_at schema (row_schema None way))
    few_goes =
        few_values plan.goes.items (end_of Top way) left (row_schema None way) plans.used plans.goes
        (let some = part_of plans.uses.front plans.used plans.uses.back (defaults_in_row schema (row_schema None way) (tree_of f)) plans.uses.old_is in
        let row = row_defaults (row_schema None way) (tree_of f) in omega (arith, some, row))

    pub few_comes : length plan.comes.items ≤ (1 + most) * part_size schema (tree_of loose) + most * near_count (row_at schema (row_schema None way))
    few_comes =
        few_values plan.comes.items (end_of Top way) loose (row_schema None way) plans.used_then plans.comes
        (let some = part_of plans.uses.front plans.used_then plans.uses.back (defaults_in_row schema (row_schema None way) (tree_of g)) plans.uses.new_is in
        let row = row_defaults (row_schema None way) (tree_of g) in omega (arith, some, row))

    pub few_news : length plan.news.items ≤ part_size schema (tree_of loose)
    few_news =
        let first = length-map plan.news.items news_view in
        let second = length-map (standing (end_of Top way) loose) (news_of schema) in
        let same = ap length plans.news in
        let light = every_light (standing (end_of Top way) loose) in
        let whole = weights_standing schema (end_of Top way) loose in
        omega (arith, first, second, same, light, whole)
