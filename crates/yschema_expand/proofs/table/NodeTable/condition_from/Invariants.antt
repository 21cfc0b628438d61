use Rattle.std.proofs.Common.{◌≡◌, ◌++◌, ◌-◌, ℕ, List, Option, length}
use Rattle.yspec.specs.Forest.{Forest}
use Rattle.yspec.specs.linking.Parts.{Part, own_of}
use Rattle.ybase_preorder.specs.Layout.{Place, places}
use Rattle.ybase_preorder.specs.View.{row_by}
use Rattle.ylink_grammar.specs.LanguageView.{language_view}
use Rattle.ylink_grammar.specs.SourceView.{source_view}
use Rattle.yschema_expand.specs.TableView.{parts_in, slots_of}
use Rattle.yschema_expand.proofs.ConditionLemmas.{Conditioned}
use Rattle.yschema_expand.proofs.table.NodeTable.condition_from.Given as goal

abbrev pub invariant-loop-below : goal.invariant-loop-below
invariant-loop-below l = (earlier : List (Place Part)) (parent : Option ℕ) (f : Forest Part) → length earlier ≡ l.first
    → parts_in l.fn.self ≡ earlier ++ places parent l.first f
    → Conditioned (language_view l.language) (own_of (row_by source_view l.given)) earlier parent l.first f l.number (parts_in l.self)

abbrev pub decreases-loop-below : goal.decreases-loop-below
decreases-loop-below l = length (slots_of l.self) - l.number
