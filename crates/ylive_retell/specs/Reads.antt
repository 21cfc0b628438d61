-- How many reading calls find what the nodes of a forest, and those on a way, hold and give, at most.
use Rattle.std.specs.Prelude.{ℕ, ◌+◌, ◌-◌, ◌*◌, ◌==◌, ◌≤◌, ◌||◌, not, Bool, false, List, [], ◌∷◌, Option, None, length, nat_lt, if◌then◌else◌}
use Rattle.std.specs.Option.{option_map_or}
use Rattle.yspec.specs.Forest as forest
use Rattle.yspec.specs.Forest.{weigh_nodes}
use Rattle.yspec.specs.types.Types.{Val}
use Rattle.yspec.specs.schema.Schema.{Schema, row_at}
use Rattle.yspec.specs.document.Document.{Tree}
use Rattle.yspec.specs.document.Instances.{times_at, times_below}
use Rattle.yschema_model.specs.declared.node.SchemaId.{SchemaId}
use Rattle.yspec_reach.specs.Referring.{Reference, reference_of}
use Rattle.yspec_reach.specs.Sizes.{breadth, levels, near_count, part_size}
use Rattle.ystore.specs.Store.{holders_at}
use Rattle.ystore_rows.specs.declared.row.NodeId.{NodeId}
use Rattle.ystore.specs.declared.key.Key.{Key}
use Rattle.ystore.specs.declared.key.Key.TheVariants.{Value}
use Rattle.ystore.specs.declared.nodes.Nodes.{Nodes}
use Rattle.ystore_tree.specs.Hanging.{Branches, tree_of}
use Rattle.ystore_tree.specs.Ways.{Way, around}
use Rattle.ylive_marks.specs.Keys.{Keys, has_key, two_climbs}
use Rattle.ylive_facts.specs.Reads.{names_of}
use Rattle.ylive_retell.specs.Growing.{times_valued}
use Rattle.ylive_retell.specs.Plans.{row_schema}
use Rattle.ylive_retell.specs.declared.planning.Plan.{Plan}

-- so many for each that a node weighs
abbrev pub nodes_reads : Schema → ℕ → Branches → ℕ
nodes_reads schema more f = (levels schema + more) * part_size schema (tree_of f)

-- how many names stand in the keys and uniques of the nodes on a way
abbrev pub names_on : Schema → Way → ℕ
names_on schema [] = 0
names_on schema (frame ∷ way) = names_of schema frame.label.schema.0 + names_on schema way

abbrev pub way_reads : Schema → Way → ℕ
way_reads schema way = 4 * length way + (levels schema + 4) * names_on schema way

-- the plan of a change of a row below a schema node, at the end of a way, of which some nodes go and others come, but for what is told
-- of the row: what is in play of it, and the keys on the way, are looked at before the change and after it
abbrev pub plan_reads : Schema → Option ℕ → Way → Branches → Branches → ℕ
plan_reads schema above way old new = 3 + (nodes_reads schema 7 old + nodes_reads schema 9 new)
    + 2 * (levels schema * near_count (row_at schema above) + way_reads schema way)

-- ---- values that come and go

-- how many nodes hold a key, in a store and in a forest of which it is said which keys its nodes hold
abbrev pub holder_count : Nodes → Key → ℕ
holder_count nodes key = length (holders_at nodes key)

abbrev pub holding : Keys → Branches → Key → ℕ
holding held f key = forest.weigh (λ n. if has_key held n.id.0 key then 1 else 0) f

-- How many nodes refer to a value where it comes and has no instance, or where its last one goes, by how many instances and holders
-- keys have; of all values that come or go these are left, so the others of them have come or gone before.
abbrev pub newly_judged : (Key → ℕ) → (Key → ℕ) → List (SchemaId × Val) → List (SchemaId × Val) → ℕ
newly_judged instances holders all [] = 0
newly_judged instances holders all (p ∷ ps) = let key = Value p.0 p.1 in
    (if instances key + times_valued key all == times_valued key (p ∷ ps) then holders key else 0)
    + newly_judged instances holders all ps

abbrev pub lastly_judged : (Key → ℕ) → (Key → ℕ) → List (SchemaId × Val) → List (SchemaId × Val) → ℕ
lastly_judged instances holders all [] = 0
lastly_judged instances holders all (p ∷ ps) = let key = Value p.0 p.1 in
    (if instances key + times_valued key (p ∷ ps) == times_valued key all + 1 then holders key else 0)
    + lastly_judged instances holders all ps

-- two calls a value, and a climb for each such node
abbrev pub values_reads : ℕ → List (SchemaId × Val) → Branches → ℕ
values_reads judged values f = 2 * length values + judged * (1 + forest.levels f)

-- nodes leave their keys, and values come and go then, of which so many instances are there before; what the others hold is said
abbrev pub withdraw_reads : (Key → ℕ) → Keys → List (Key × NodeId) → List (SchemaId × Val) → List (SchemaId × Val) → Branches → ℕ
withdraw_reads instances held leaves comes goes f = length leaves * two_climbs f
    + (values_reads (newly_judged instances (holding held f) comes comes) comes f
    + values_reads (lastly_judged (λ key. instances key + times_valued key comes) (holding held f) goes goes) goes f)

-- a row is changed as planned, and all that is told of the document, of whose nodes it is said what they hold once those keys are left
abbrev pub change_reads : (Key → ℕ) → Keys → Plan → Way → Branches → Branches → ℕ
change_reads instances held plan way f g = withdraw_reads instances held plan.leaves.items plan.comes.items plan.goes.items (around way f)
    + ((2 + (length way + forest.levels (around way g)))
    + (length plan.news.items * (1 + 2 * forest.levels (around way g)) + length plan.joins.items * two_climbs (around way g)))

-- ---- a change of a row, planned and done

-- whether an instance of a schema node that goes or comes has a value, or it is a default in use in the row before or after alone
abbrev pub is_moved : Schema → Way → Branches → Branches → Branches → Branches → Reference → Bool
is_moved schema way f loose g left r = let row = row_at schema (row_schema None way) in
    nat_lt 0 (weigh_nodes (times_at schema r.0 r.1) (tree_of left) + weigh_nodes (times_at schema r.0 r.1) (tree_of loose))
    || not (times_below schema r.0 r.1 row (tree_of f) == times_below schema r.0 r.1 row (tree_of g))

-- how many leafs and items of a tree refer to one of some values
abbrev pub referrers : Schema → (Reference → Bool) → Tree → ℕ
referrers schema values t = forest.weigh (λ s. if option_map_or values (reference_of schema s) false then 1 else 0) t

-- and of those that stay
abbrev pub moved_pairs : Schema → Way → Branches → Branches → Branches → Branches → ℕ
moved_pairs schema way f loose g left = let moved = is_moved schema way f loose g left in
    referrers schema moved (tree_of (around way f)) - referrers schema moved (tree_of left)

-- a document is no deeper than its schema before and after, and a way in it passes no more nodes and names than that has
pub record IsNarrow (schema : Schema) (way : Way) (f g : Branches) : Type 0 where
  pub deep : forest.levels (around way f) ≤ forest.levels schema.nodes
  pub deep_then : forest.levels (around way g) ≤ forest.levels schema.nodes
  pub narrow : length way + names_on schema way ≤ breadth schema

-- where so many nodes that stay refer to values that come or go
abbrev pub row_reads : Schema → Branches → Branches → ℕ → ℕ
row_reads schema loose left pairs = (levels schema + 2)
    * (8 * (part_size schema (tree_of left) + (part_size schema (tree_of loose) + pairs)) + (16 * breadth schema + 3))
