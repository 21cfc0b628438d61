use Rattle.std.proofs.Common.{◌≡◌}
use Rattle.std.specs.List.{list_any}
use Rattle.yspec.specs.Forest.{row}
use Rattle.ybase_preorder.specs.View.{row_by}
use Rattle.yschema_cut.specs.Defaults.{is_named}
use Rattle.yschema_expand.specs.NumberedView.{with_number}
use Rattle.yschema_cut.proofs.defaults.has_case.Given as goal

-- among those that are left
abbrev pub invariant-loop-case : goal.invariant-loop-case
invariant-loop-case l = record {
  more : (goal.iterator-loop-case).can_next l.case-iterator;
  ends : (goal.iterator-loop-case).is_finite l.case-iterator;
  so_far : list_any (λ c. is_named l.owner l.name c.label) (row (row_by with_number l.case-iterator))
      ≡ list_any (λ c. is_named l.owner l.name c.label) (row (row_by with_number l.fn.cases));
}
