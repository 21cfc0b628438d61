use Rattle.std.proofs.Common.{◌≡◌, true, ◌++◌, ℕ, List, length, Option}
use Rattle.std.specs.Option.{IfSome}
use Rattle.yspec.specs.Forest.{Forest}
use Rattle.yspec_wide.specs.Expansion.{refined_in, refine_breaks_in}
use Rattle.yspec.specs.linking.Parts.{Part}
use Rattle.yspec.specs.linking.Source.{Source}
use Rattle.yspec.specs.schema.Breaks.{least_from}
use Rattle.ybase_preorder.specs.Layout.{Place, places}
use Rattle.ybase_preorder.specs.View.{row_by}
use Rattle.ylink_grammar.specs.BreakView.{seen}
use Rattle.ylink_grammar.specs.LanguageView.{language_view}
use Rattle.ylink_grammar.specs.SourceView.{source_view}
use Rattle.ylink_names.specs.PrefixView.{IsOf}
use Rattle.yschema_expand.specs.Indexing.{Indexes}
use Rattle.yschema_expand.specs.TableView.{parts_in}
use Rattle.yschema_given.specs.Keeping.{are_kept_right}
use Rattle.yschema_expand.proofs.refining.refine.Given as goal

-- the nodes once the refines so far are applied, to which those that are left do what all do to the nodes before
abbrev pub invariant-loop-statement : goal.invariant-loop-statement
invariant-loop-statement l = record {
  more : (goal.iterator-loop-statement).can_next l.statement-iterator;
  ends : (goal.iterator-loop-statement).is_finite l.statement-iterator;
  kept : are_kept_right (language_view l.language) (row_by source_view l.statement-iterator) ≡ true;
  indexed : IfSome l.index (λ x. Indexes l.first x (parts_in l.made.table));
  so_far : (modules : Forest Source) (nodes : Forest Part) (earlier : List (Place Part)) (parent : Option ℕ) → IsOf l.prefixes modules → length earlier ≡ l.first
      → parts_in l.fn.made.table ≡ earlier ++ places parent l.first nodes
      → (now : Forest Part) × (parts_in l.made.table ≡ earlier ++ places parent l.first now)
      × (refined_in (language_view l.language) modules l.owner (row_by source_view l.statement-iterator) now ≡ refined_in (language_view l.language) modules l.owner (row_by source_view l.fn.statements) nodes)
      × (least_from (seen l.made.told) (refine_breaks_in (language_view l.language) modules l.owner (row_by source_view l.statement-iterator) now)
      ≡ least_from (seen l.fn.made.told) (refine_breaks_in (language_view l.language) modules l.owner (row_by source_view l.fn.statements) nodes));
}
