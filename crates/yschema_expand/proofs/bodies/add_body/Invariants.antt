use Rattle.std.proofs.Common.{◌≡◌, true, None, suc}
use Rattle.yspec.specs.Forest.{size}
use Rattle.yspec.specs.linking.Expansion.{laid}
use Rattle.yspec_wide.specs.Expansion.{body_breaks_in}
use Rattle.ybase_preorder.specs.View.{row_by}
use Rattle.ylink_grammar.specs.SourceView.{source_view}
use Rattle.yschema_given.specs.Keeping.{are_kept_right}
use Rattle.yschema_expand.specs.AugmentView.{augment_view}
use Rattle.yschema_expand.specs.Bodies.{body_nodes, body_of}
use Rattle.yschema_expand.specs.NamedView.{language_of, modules_of}
use Rattle.yschema_expand.specs.Walk.{breaks_for, Adds, AllEnd}
use Rattle.yschema_expand.specs.declared.expanding.Made.{Made}
use Rattle.yschema_expand.proofs.bodies.add_body.Given as goal

-- whatever adds what the statements that are left add comes to what all add
abbrev pub invariant-loop-statement : goal.invariant-loop-statement
invariant-loop-statement l =
    let language = language_of l.context.named.now in
    let m = modules_of l.context.named.now in
    let a = augment_view l.fn.augment in
    let home = a.source.home in
    let left = laid (row_by source_view l.statement-iterator) in
    record {
      more : (goal.iterator-loop-statement).can_next l.statement-iterator;
      ends : (goal.iterator-loop-statement).is_finite l.statement-iterator;
      kept : are_kept_right language (row_by source_view l.statement-iterator) ≡ true;
      ends_there : AllEnd language m (suc (size m)) left;
      so_far : (final : Made) → Adds None (body_nodes language m home (suc (size m)) a.given left) (breaks_for language m home (suc (size m)) left) l.made final
          → Adds None (body_of language m a) (body_breaks_in language m a) l.fn.made final;
    }
