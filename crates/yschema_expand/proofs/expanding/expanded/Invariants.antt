use Rattle.std.proofs.Common.{◌≡◌, true, None}
use Rattle.yspec.specs.linking.Expansion.{groupings_of}
use Rattle.yspec_wide.specs.Expansion.{expanded_in_from, unfit_in_from}
use Rattle.ybase_preorder.specs.View.{row_by}
use Rattle.ylink_grammar.specs.SourceView.{source_view}
use Rattle.yschema_expand.specs.NamedView.{language_of, modules_of}
use Rattle.yschema_expand.specs.Walk.{Adds}
use Rattle.yschema_expand.specs.declared.expanding.Made.{Made}
use Rattle.yschema_given.specs.Keeping.{are_kept_right}
use Rattle.yschema_expand.proofs.EndLemmas.{RowsEnd}
use Rattle.yschema_expand.proofs.expanding.expanded.Given as goal

-- whatever adds the nodes of the modules that are left adds those of all
abbrev pub invariant-loop-top : goal.invariant-loop-top
invariant-loop-top l =
    let language = language_of l.named in
    let m = modules_of l.named in
    let groupings = groupings_of m in
    record {
      more : (goal.iterator-loop-top).can_next l.top-iterator;
      ends : (goal.iterator-loop-top).is_finite l.top-iterator;
      kept : are_kept_right language (row_by source_view l.top-iterator) ≡ true;
      ends_there : RowsEnd language m (row_by source_view l.top-iterator);
      so_far : (final : Made) → Adds None (expanded_in_from language m groupings (row_by source_view l.top-iterator)) (unfit_in_from language m groupings (row_by source_view l.top-iterator)) l.made final
          → Adds None (expanded_in_from language m groupings m) (unfit_in_from language m groupings m) l.initial.made final;
    }
