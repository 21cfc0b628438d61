-- What is entered in an account, and what is to be told of new nodes.
use Rattle.std.specs.Prelude.{◌≡◌, ◌++◌, List}
use Rattle.yspec.specs.Forest.{end, node}
use Rattle.yspec.specs.schema.Schema.{Schema}
use Rattle.yspec_play.specs.Absences.{Absent, Default}
use Rattle.ylive_facts.specs.Given.{given_view}
use Rattle.ylive_facts.specs.InPlay.{absence_views}
use Rattle.ylive_facts.specs.Judging.{Judged, judged_view, value_judged}
use Rattle.ylive_facts.specs.Keys.{Holding, holdings}
use Rattle.ystore_rows.specs.declared.row.NodeId.{NodeId}
use Rattle.ystore.specs.declared.nodes.Nodes.{Nodes}
use Rattle.ystore_tree.specs.Hanging.{Stands, stored_of}
use Rattle.ylive_retell.specs.Standing.{Standing, absences_there}
use Rattle.ylive_retell.specs.declared.account.Account.{Account}
use Rattle.ylive_retell.specs.declared.account.News as rust

-- these keys and values come behind those so far
pub record Enters (before after : Account) (keys : List Holding) (values : List Default) : Type 0 where
  pub keys_behind : holdings after.keys.items ≡ holdings before.keys.items ++ keys
  pub values_behind : given_view after.values.items ≡ given_view before.values.items ++ values

-- a node of this number stands in the store
pub record StandsThere (nodes : Nodes) (id : NodeId) (s : Standing) : Type 0 where
  pub is_id : s.label.id ≡ id
  pub stands : Stands nodes s.row (node s.label s.below end)

-- ---- new nodes

pub record News : Type 0 where
  pub id : NodeId
  pub judged : Judged
  pub absences : List Absent

abbrev pub news_view : rust.News → News
news_view n = record { id = n.id; judged = judged_view n.judged; absences = absence_views n.absences.items }

-- what is to be told of one
abbrev pub news_of : Schema → Standing → News
news_of schema s =
    record { id = s.label.id; judged = value_judged schema (stored_of s.label); absences = absences_there schema s }
