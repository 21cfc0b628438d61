use Rattle.std.proofs.Common.{sym, ◌∙◌}
use Rattle.ybase_words.specs.KeywordView.{keyword_view}
use Rattle.yschema_given.specs.GivenView.{row_or_none}
use Rattle.yspec_wide.specs.Standing.{without_default}
use Rattle.yschema_given.proofs.StatingLemmas.{default_none, default_other, turned}
use Rattle.yschema_given.proofs.given.unless_default.Goals as goal

pub returns-then-is : goal.returns-then-is
returns-then-is c = default_none (keyword_view c.args.keyword) (sym c.is.ensures ∙ c.if-is.true) (row_or_none c.args.before)

pub returns-else-is : goal.returns-else-is
returns-else-is c =
    let k = keyword_view c.args.keyword in
    let before = row_or_none c.args.before in
    turned k (without_default before) before (default_other k (sym c.is.ensures ∙ c.if-is.false) before)
