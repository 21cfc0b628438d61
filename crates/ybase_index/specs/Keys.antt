-- Nodes found by numbers.
use Rattle.std.specs.Prelude.{ℕ, ◌==◌, ◌&&◌, Bool, true, Option, option_and_then}
use Rattle.indexmap.specs.IndexMap.{get}
use Rattle.yspec.specs.linking.Planned.{same_number}
use Rattle.ybase_index.specs.declared.keys.Among.{Among}
use Rattle.ybase_index.specs.declared.keys.Among.TheVariants.{Children, Scope, DataNodes}
use Rattle.ybase_index.specs.declared.keys.Asked.{Asked}
use Rattle.ybase_index.specs.declared.keys.FirstNodes.{FirstNodes}
use Rattle.ybase_index.specs.declared.keys.Firsts.{Firsts}
use Rattle.ybase_index.specs.declared.keys.IndexedNode.{IndexedNode}
use Rattle.ybase_index.specs.declared.keys.Key.{Key}

abbrev pub same_key : Key → Key → Bool
same_key a b = same_number a.above b.above && (a.«module» == b.«module» && a.name == b.name)

abbrev pub first_in : Among → Firsts → Option ℕ
first_in Children firsts = firsts.child
first_in Scope firsts = firsts.in_scope
first_in DataNodes firsts = firsts.data_node

abbrev pub asks_for : Among → Asked → Bool
asks_for Children asked = asked.child
asks_for Scope asked = asked.in_scope
asks_for DataNodes asked = asked.data_node

-- the first node of a key
abbrev pub first_at : FirstNodes → Among → Key → Option ℕ
first_at nodes among key = option_and_then (first_in among) (get same_key nodes.by_key key)

-- the node below which a node is looked for
abbrev pub above_in : Among → IndexedNode → Option ℕ
above_in Children node = node.parent
above_in Scope node = node.scope
above_in DataNodes node = node.scope

abbrev pub is_looked_for : Among → IndexedNode → Bool
is_looked_for DataNodes node = node.is_data
is_looked_for _ node = true

-- what a node whose name has a number is found by
abbrev pub key_of : Among → IndexedNode → ℕ → Key
key_of among node name = record { above = above_in among node; «module» = node.«module»; name = name }

abbrev pub is_key : Among → IndexedNode → ℕ → Key → Bool
is_key among node name key = is_looked_for among node && same_key (key_of among node name) key
