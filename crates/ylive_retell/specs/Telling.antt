-- What is told of nodes that are new.
use Rattle.std.specs.Prelude.{◌≡◌, ◌≤◌, ◌^◌, ◌==◌, false, List, [], ◌∷◌, length, Option, Some, option_map, if◌then◌else◌}
use Rattle.std.specs.List.{list_any}
use Rattle.ystore.specs.Held.{Told}
use Rattle.ystore.specs.Store.{same_row}
use Rattle.ystore_rows.specs.declared.row.Row.{Row}
use Rattle.ystore_rows.specs.declared.row.Row.TheVariants.{Below}
use Rattle.ystore.specs.declared.record.Judged.TheVariants.{Right}
use Rattle.ystore.specs.declared.nodes.Nodes.{Nodes}
use Rattle.ystore_tree.specs.Hanging.{Branches}
use Rattle.ylive_marks.specs.Totals.{StandsIn, judged_at}
use Rattle.ylive_retell.specs.declared.account.News.{News}

-- with what is to be told of a node
abbrev pub with_news : News → Told → Told
with_news n told = record { judged = n.judged; same = told.same; play = n.absences.items }

-- what is told of a row once all of it is told
abbrev pub told_by : List News → Row → Option Told → Option Told
told_by [] row told = told
told_by (n ∷ ns) row told = told_by ns row (if same_row (Below n.id) row then option_map (with_news n) told else told)

-- nothing was told of the values of nodes of a forest, each of which is there once; and what is to be told isn't too much
abbrev pub AreNew : Nodes → Branches → List News → Type 0
AreNew nodes f [] = Unit {0}
AreNew nodes f (n ∷ ns) = StandsIn (Below n.id) f × (judged_at nodes n.id ≡ Some Right) × (length n.absences.items ≤ 2 ^ 32)
    × (list_any (λ (m : News). n.id.0 == m.id.0) ns ≡ false) × AreNew nodes f ns
