-- A change of a row, as planned, is read within a bound by what goes and comes, by the nodes that refer to values which do, and by the
-- schema.
use Rattle.std.proofs.Common.{◌≡◌, ℕ, ◌+◌, ◌-◌, ◌*◌, ◌≤◌, Bool, [], length, Option, None, ap, arith}
use Rattle.yspec.specs.Forest.{levels}
use Rattle.yspec.specs.schema.Schema.{Schema, row_at}
use Rattle.yspec.specs.document.Document.{Tree, instances_in}
use Rattle.yschema_model.specs.declared.node.SchemaId.{SchemaId}
use Rattle.yspec_play.proofs.AbsenceLemmas.{few_absences}
use Rattle.yspec_reach.specs.Referring.{Reference}
use Rattle.yspec_reach.specs.Sizes.{breadth, most_defaults, near_count, part_size}
use Rattle.ystore.specs.Store.{instances_at, play_at}
use Rattle.ystore.specs.declared.key.Key.{Key}
use Rattle.ystore.specs.declared.nodes.Nodes.{Nodes}
use Rattle.ystore_rows.specs.declared.row.Row.{Row}
use Rattle.ystore_tree.specs.Hanging.{Branches, times, tree_of}
use Rattle.ystore_tree.specs.Swaps.{Swaps}
use Rattle.ystore_tree.specs.Ways.{Way, around}
use Rattle.ystore_tree.specs.declared.swapping.Change.{Change}
use Rattle.ylive_facts.specs.InPlay.{absence_views}
use Rattle.ylive_marks.specs.Keys.{Keys, slot_of}
use Rattle.ylive_retell.specs.Assigned.{left}
use Rattle.ylive_retell.specs.Growing.{times_valued}
use Rattle.ylive_retell.specs.IsTold.{IsTold}
use Rattle.ylive_retell.specs.Plans.{Plans, row_schema}
use Rattle.ylive_retell.specs.Reads.{IsNarrow, change_reads, holding, is_moved, lastly_judged, moved_pairs, names_on, newly_judged, plan_reads, referrers, row_reads}
use Rattle.ylive_retell.specs.Standing.{absences_in_row}
use Rattle.ylive_retell.specs.declared.planning.Plan.{Plan}
use Rattle.ylive_retell.proofs.PaidLemmas.{comes_paid, goes_paid}
use Rattle.ylive_retell.proofs.PlannedLemmas.{few_comes, few_goes, few_joins, few_leaves, few_news, near_row, wide_row}
use Rattle.ylive_retell.proofs.SpentLemmas.{all_spent, keys_spent, news_spent, plan_spent, values_spent}
use Rattle.ylive_retell.proofs.WholeLemmas.{length_views}

module _ (schema : Schema) (way : Way) (f loose g gone : Branches) (plan : Plan) (plans : Plans schema way f loose g gone plan) (narrow : IsNarrow schema way f g)
    (instances : Key → ℕ) (held : Keys) (pairs play : ℕ) (play_wide : play ≤ breadth schema) where
  abbrev deep : ℕ
  deep = levels schema.nodes

  abbrev most : ℕ
  most = most_defaults schema.nodes

  abbrev near : ℕ
  near = near_count (row_at schema (row_schema None way))

  abbrev newly : ℕ
  newly = newly_judged instances (holding held (around way f)) plan.comes.items plan.comes.items

  abbrev lastly : ℕ
  lastly = lastly_judged (λ key. instances key + times_valued key plan.comes.items) (holding held (around way f)) plan.goes.items plan.goes.items

  pub row_spent : newly ≤ pairs → lastly ≤ pairs → (first planned last : ℕ)
      → planned ≤ first + (plan_reads schema (row_schema None way) way gone loose + 2 * play) → last ≤ planned + change_reads instances held plan way f g
      → last ≤ first + row_reads schema loose gone pairs
  row_spent new_few last_few first planned last planning changing =
      let wide = breadth schema in
      let old = part_size schema (tree_of gone) in
      let new = part_size schema (tree_of loose) in
      let steps = length way in
      let names = names_on schema way in
      let near_few = near_row schema (row_schema None way) in
      let low = narrow.deep in
      let low_then = narrow.deep_then in
      all_spent deep most wide old new pairs near play steps names near_few play_wide narrow.narrow first planned last _ _ _ _ _ (levels (around way g))
      (plan_spent deep most wide old new pairs near play steps names near_few play_wide narrow.narrow first planned planning)
      (keys_spent deep most wide old new pairs near play steps names near_few play_wide narrow.narrow (length plan.leaves.items) old (levels (around way f)) (few_leaves schema way f loose g gone plan plans) low)
      (keys_spent deep most wide old new pairs near play steps names near_few play_wide narrow.narrow (length plan.joins.items) new (levels (around way g)) (few_joins schema way f loose g gone plan plans) low_then)
      (values_spent deep most wide old new pairs near play steps names near_few play_wide narrow.narrow (length plan.comes.items) newly new (levels (around way f)) (few_comes schema way f loose g gone plan plans) new_few low)
      (values_spent deep most wide old new pairs near play steps names near_few play_wide narrow.narrow (length plan.goes.items) lastly old (levels (around way f)) (few_goes schema way f loose g gone plan plans) last_few low)
      (news_spent deep most wide old new pairs near play steps names near_few play_wide narrow.narrow (length plan.news.items) (levels (around way g)) (few_news schema way f loose g gone plan plans) low_then)
      low_then changing

-- what is told of a row is no more than the schema is wide
pub play_few : (schema : Schema) (nodes : Nodes) (row : Row) (above : Option ℕ) (t : Tree) → absence_views (play_at nodes row) ≡ absences_in_row schema above t
    → length (play_at nodes row) ≤ breadth schema
play_few schema nodes row above t is =
    let views = ap length is in
    let same = length_views (play_at nodes row) in
    let few = few_absences (row_at schema above) (instances_in t) [] in
    let wide = wide_row schema above in
    omega (arith, views, same, few, wide)

module _ (schema : Schema) (way : Way) (f loose g left_over : Branches) (of : SchemaId) (change : Change) (swaps : Swaps of change f loose g left_over)
    (plan : Plan) (plans : Plans schema way f loose g left_over plan) (nodes : Nodes) (once : (k : ℕ) → times k (around way f) + times k loose ≤ 1)
    (is : IsTold schema nodes (around way f)) (narrow : IsNarrow schema way f g) where
  abbrev moved : Reference → Bool
  moved = is_moved schema way f loose g left_over

  -- planned, and done once there is room for it
  pub retold_within : (play first planned grown last : ℕ) → play ≤ breadth schema → planned ≤ first + (plan_reads schema (row_schema None way) way left_over loose + 2 * play)
      → grown ≡ planned → last ≤ grown + change_reads (instances_at nodes) (left slot_of plan.leaves.items is.held) plan way f g
      → last ≤ first + row_reads schema loose left_over (moved_pairs schema way f loose g left_over)
  retold_within play first planned grown last few planning growing changing =
      let comes : newly_judged (instances_at nodes) (holding (left slot_of plan.leaves.items is.held) (around way f)) plan.comes.items plan.comes.items
      + referrers schema moved (tree_of left_over) ≤ referrers schema moved (tree_of (around way f)) =
      comes_paid schema way f loose g left_over of change swaps plan plans nodes once is moved (λ r e. e) in
      let goes : lastly_judged (λ key. instances_at nodes key + times_valued key plan.comes.items) (holding (left slot_of plan.leaves.items is.held) (around way f)) plan.goes.items plan.goes.items
      + referrers schema moved (tree_of left_over) ≤ referrers schema moved (tree_of (around way f)) =
      goes_paid schema way f loose g left_over of change swaps plan plans nodes once is moved (λ r e. e) in
      row_spent schema way f loose g left_over plan plans narrow (instances_at nodes) (left slot_of plan.leaves.items is.held) (moved_pairs schema way f loose g left_over) play few
      (omega (arith, comes)) (omega (arith, goes)) first planned last planning (omega (arith, growing, changing))
