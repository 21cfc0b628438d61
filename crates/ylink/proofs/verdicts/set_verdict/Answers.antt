use Rattle.std.proofs.Common.{Some, ap, ◌∙◌}
use Rattle.std.specs.Prelude.{slice_set}
use Rattle.std.proofs.lemmas.List.{map-set}
use Rattle.ylink_types.specs.TypeView.{verdict_view}
use Rattle.ylink.specs.VerdictView.{held_view, table_view}
use Rattle.ylink.proofs.verdicts.set_verdict.Goals as goal

pub returns-in-Some : goal.returns-in-Some
returns-in-Some c =
    map-set held_view c.args.table.now.items c.args.number (Some c.in_ok-held.held)
    ∙ ap (λ v. slice_set (table_view c.args.table.now.items) c.args.number (Some (verdict_view v))) c.in_ok-held.ensures.ok
