use Rattle.std.proofs.Common.{sym, ap, ◌∙◌}
use Rattle.yspec.specs.linking.Parts.{own_of}
use Rattle.ybase_preorder.specs.View.{row_by}
use Rattle.ylink_grammar.specs.SourceView.{source_view}
use Rattle.yschema_given.specs.GivenView.{row_or_none}
use Rattle.yschema_given.specs.Holding.{holds_in, kept_hold}
use Rattle.yschema_given.proofs.HoldingLemmas.{hold_own}
use Rattle.yschema_cut.proofs.nodes.plain_holds.Goals as goal

pub returns-in-Some : goal.returns-in-Some
returns-in-Some c =
    let holds = holds_in c.args.holding.now in
    c.kept_hold.ensures ∙ (sym (hold_own holds (row_by source_view c.in-Some.row))
    ∙ ap (kept_hold holds) (ap (λ o. own_of (row_or_none o)) (sym c.in-Some.is) ∙ c.own.ensures))

pub returns-in-None : goal.returns-in-None
returns-in-None c =
    let holds = holds_in c.args.holding.now in
    ap (kept_hold holds) (ap (λ o. own_of (row_or_none o)) (sym c.in-None.is) ∙ c.own.ensures)
