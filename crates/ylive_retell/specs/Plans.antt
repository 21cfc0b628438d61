-- A change of a row that is prepared, and the plan of what is told then.
use Rattle.std.specs.Prelude.{◌≡◌, ℕ, ◌++◌, List, [], ◌∷◌, map, Option, Some, None}
use Rattle.yspec.specs.schema.Schema.{Schema}
use Rattle.yspec.specs.document.Sorting.{IsSorted}
use Rattle.ystore.specs.Store.{has_room}
use Rattle.ystore_rows.specs.declared.row.NodeId.{NodeId}
use Rattle.ystore_rows.specs.declared.row.Row.TheVariants.{Top}
use Rattle.ystore.specs.declared.nodes.Nodes.{Nodes}
use Rattle.ystore_tree.specs.Hanging.{Branches, Keeps, tree_of}
use Rattle.ystore_tree.specs.Copies.{ids_of}
use Rattle.ystore_tree.specs.Swaps.{Swaps}
use Rattle.ystore_tree.specs.Ways.{Way, around, end_of}
use Rattle.ystore_tree.specs.declared.swapping.Swap.{Swap}
use Rattle.yspec_play.specs.Absences.{Default}
use Rattle.yspec_play.specs.Over.{AlikeBut}
use Rattle.ylive_facts.specs.Given.{given_view}
use Rattle.ylive_facts.specs.InPlay.{absence_views}
use Rattle.ylive_facts.specs.Keys.{Holding, holdings}
use Rattle.ylive_retell.specs.Accounts.{news_of, news_view}
use Rattle.ylive_retell.specs.Standing.{Standing, standing, on_the_way, all_given, all_held, absences_in_row, defaults_in_row, way_held}
use Rattle.ylive_retell.specs.declared.planning.Plan.{Plan}

-- the number of the schema node above the row at the end of a way, given that above the row where it begins
abbrev pub row_schema : Option ℕ → Way → Option ℕ
row_schema above [] = above
row_schema above (frame ∷ way) = row_schema (Some frame.label.schema.0) way

-- A store keeps a document, and beside it what a change of a row brings, for which there is room.
pub record IsReady (swap : Swap) (nodes : Nodes) : Type 0 where
  pub way : Way
  pub f : Branches
  pub loose : Branches
  pub g : Branches
  pub left : Branches
  pub at : end_of Top way ≡ swap.above
  pub swaps : Swaps swap.schema swap.change f loose g left
  pub sorted : IsSorted (tree_of f)
  pub keeps : Keeps nodes (around way f) swap.above loose
  pub room : has_room nodes swap.above

-- These are the numbers of the nodes that go, and of those that come.
pub record Prepared (swap : Swap) (nodes : Nodes) (old new : List NodeId) : Type 0 where
  pub ready : IsReady swap nodes
  pub are_old : ids_of ready.left ≡ old
  pub are_new : ids_of ready.loose ≡ new

-- the nodes that leave their keys, and those that join theirs
abbrev pub leaving : Way → Branches → Branches → List Standing
leaving way f left = standing (end_of Top way) left ++ on_the_way Top way f

abbrev pub joining : Way → Branches → Branches → List Standing
joining way g loose = standing (end_of Top way) loose ++ on_the_way Top way g

pub record Plans (schema : Schema) (way : Way) (f loose g left : Branches) (plan : Plan) : Type 0 where
  -- the keys of the nodes on the way that they hold no more, or only then, and perhaps others that stay
  pub changed : List Holding
  pub changed_then : List Holding
  pub leaves : holdings plan.leaves.items ≡ all_held schema (end_of Top way) left ++ changed
  pub joins : holdings plan.joins.items ≡ all_held schema (end_of Top way) loose ++ changed_then
  pub keys : AlikeBut changed changed_then (way_held schema Top way f) (way_held schema Top way g)
  -- the defaults in use in the row that are in use in it no more, or only then, and perhaps others that stay
  pub used : List Default
  pub used_then : List Default
  pub goes : given_view plan.goes.items ≡ all_given schema (end_of Top way) left ++ used
  pub comes : given_view plan.comes.items ≡ all_given schema (end_of Top way) loose ++ used_then
  pub uses : AlikeBut used used_then (defaults_in_row schema (row_schema None way) (tree_of f)) (defaults_in_row schema (row_schema None way) (tree_of g))
  pub absences : absence_views plan.absences.items ≡ absences_in_row schema (row_schema None way) (tree_of g)
  pub news : map news_view plan.news.items ≡ map (news_of schema) (standing (end_of Top way) loose)
