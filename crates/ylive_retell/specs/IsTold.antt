-- A store tells of the document that hangs in it what is told of that, and has indexes that say so.
use Rattle.std.specs.Prelude.{◌≡◌, ℕ, Bool, true, false, Option, Some, None, option_map}
use Rattle.yspec.specs.text.Text.{Text}
use Rattle.yspec.specs.types.Types.{Val}
use Rattle.yspec.specs.schema.Schema.{Schema}
use Rattle.yspec.specs.document.Instances.{times_in}
use Rattle.ystore.specs.Store.{instances_at, play_at, total_at}
use Rattle.ystore_rows.specs.declared.row.Row.{Row}
use Rattle.ystore_rows.specs.declared.row.Row.TheVariants.{Top, Below}
use Rattle.ystore.specs.declared.key.Key as rust
use Rattle.ystore.specs.declared.nodes.Nodes.{Nodes}
use Rattle.ystore_tree.specs.Growing.{flag_count, nothing_told}
use Rattle.ystore_tree.specs.Hanging.{Numbered, Branches, stored_of, tree_of}
use Rattle.ylive_facts.specs.Given.{is_referred}
use Rattle.ylive_retell.specs.Bare.{IsBare}
use Rattle.ylive_facts.specs.InPlay.{absence_views}
use Rattle.ylive_facts.specs.Judging.{Judged, right, wrong, missing, value_judged}
use Rattle.ylive_facts.specs.Keys.{Key, value_key, key_view}
use Rattle.ylive_marks.specs.Keys.{Agrees, Keys, Own, own_at}
use Rattle.ylive_marks.specs.Totals.{Totals, told_at}
use Rattle.ylive_retell.specs.Each.{Each}
use Rattle.ylive_retell.specs.Keyed.{HasKeys}
use Rattle.ylive_retell.specs.Few.{HasFewDefaults}
use Rattle.ylive_retell.specs.Standing.{Standing, absences_in_row}

-- the error-app-tag that is told of a value that its type doesn't take
abbrev pub wrong_in : Judged → Option (Option Text)
wrong_in right = None
wrong_in (wrong tag) = Some tag
wrong_in missing = None

-- What no key tells of a node: whether its type takes its value, and what isn't stored right below it; and it has its flags.
pub record TellsOwn (schema : Schema) (nodes : Nodes) (above : Row) (n : Numbered) (below : Branches) : Type 0 where
  pub own : Own
  pub held : own_at nodes (Below n.id) ≡ Some own
  pub is_wrong : own.wrong ≡ wrong_in (value_judged schema (stored_of n))
  pub is_play : absence_views own.play ≡ absences_in_row schema (Some n.schema.0) (tree_of below)
  pub are_flags : own.flags ≡ flag_count schema n.schema.0

-- whether instances of a key's value are counted
abbrev pub is_counted : Schema → Key → Bool
is_counted schema (value_key number v) = is_referred schema number
is_counted schema _ = false

pub record IsTold (schema : Schema) (nodes : Nodes) (f : Branches) : Type 0 where
  pub held : Keys
  pub keyed : Each (HasKeys schema (λ number slot. option_map key_view (held number slot))) Top f
  pub agrees : Agrees nodes held f
  pub values : (key : rust.Key) (number : ℕ) (v : Val) → key_view key ≡ value_key number v → is_referred schema number ≡ true
      → instances_at nodes key ≡ times_in schema (tree_of f) number v
  pub bare : IsBare nodes
  pub top : absence_views (play_at nodes Top) ≡ absences_in_row schema None (tree_of f)
  pub others : (key : rust.Key) → is_counted schema (key_view key) ≡ false → instances_at nodes key ≡ 0
  pub few : HasFewDefaults schema
  pub each : Each (TellsOwn schema nodes) Top f
  pub totals : Totals nodes f

-- nothing is told of a node that is new, and its total is 0
pub record IsFresh (schema : Schema) (nodes : Nodes) (s : Standing) : Type 0 where
  pub told : told_at nodes (Below s.label.id) ≡ Some (nothing_told (flag_count schema s.label.schema.0))
  pub total : total_at nodes (Below s.label.id) ≡ 0
