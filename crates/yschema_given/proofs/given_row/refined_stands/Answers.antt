use Rattle.std.proofs.Common.{sym, ap, ap₂, ◌∙◌}
use Rattle.std.specs.Prelude.{◌&&◌}
use Rattle.ybase_preorder.specs.View.{row_by}
use Rattle.ylink_grammar.specs.LanguageView.{language_view}
use Rattle.ylink_grammar.specs.SourceView.{source_view}
use Rattle.yschema_given.specs.Holding.{holds_in}
use Rattle.yschema_given.proofs.HoldingLemmas.{refined_kept, refined_lost}
use Rattle.yschema_given.proofs.given_row.refined_stands.Goals as goal

pub returns-then-has_other : goal.returns-then-has_other
returns-then-has_other c = λ own is.
    c.kept_hold-holds.ensures ∙ sym (refined_lost (holds_in c.args.holding.now) (language_view c.args.language.now) (row_by source_view c.args.row) own
    (sym c.has_other.ensures ∙ c.if-has_other.true))

pub returns-else-has_other : goal.returns-else-has_other
returns-else-has_other c = λ own is.
    c.both.ensures ∙ (ap₂ (λ a b. a && b) is c.kept_hold-holds.ensures
    ∙ sym (refined_kept (holds_in c.args.holding.now) (language_view c.args.language.now) (row_by source_view c.args.row) own
    (sym c.has_other.ensures ∙ c.if-has_other.false)))
