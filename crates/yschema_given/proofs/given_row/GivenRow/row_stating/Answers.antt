use Rattle.std.proofs.Common.{◌≡◌, true, sym, ◌∙◌}
use Rattle.ybase_words.specs.KeywordView.{keyword_view}
use Rattle.yschema_given.specs.GivenView.{row_or_none}
use Rattle.yschema_given.proofs.StatingLemmas.{picks_before, picks_refine}
use Rattle.yschema_given.proofs.given_row.GivenRow.row_stating.Goals as goal
use Rattle.yschema_given.proofs.given_row.GivenRow.row_stating.Goals.{else-self-via-then-self+else-has_any, else-self-via-else-self}

pub returns-then-has_any : goal.returns-then-has_any
returns-then-has_any c = picks_refine (keyword_view c.args.keyword) c.requires c.args.self (row_or_none c.args.before)
    c.if-self.true (sym c.has_any.ensures ∙ c.if-has_any.true)

pub returns-else-self : goal.returns-else-self
returns-else-self c = elim c.else-self.branch [
  | else-self-via-then-self+else-has_any w ↦ picks_before (keyword_view c.args.keyword) c.requires c.args.self (row_or_none c.args.before)
      (λ refines. sym w.has_any.ensures ∙ w.if-has_any.false)
  | else-self-via-else-self w ↦ picks_before (keyword_view c.args.keyword) c.requires c.args.self (row_or_none c.args.before)
      (λ refines. absurd (let clash : _ ≡ true = sym w.if-self.false ∙ refines in cc))
]
