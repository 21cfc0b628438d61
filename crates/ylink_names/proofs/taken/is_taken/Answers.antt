use Rattle.std.proofs.Common.{sym, ap}
use Rattle.ybase_words.specs.KeywordView.{keyword_view}
use Rattle.ylink_grammar.specs.SourceView.{source_view}
use Rattle.ylink_names.specs.ScopeView.{placed_at}
use Rattle.ylink_names.proofs.ScopeLemmas.{taken_held, taken_built_in, taken_grouping, taken_identity}
use Rattle.ylink_names.proofs.taken.is_taken.Goals as goal

pub returns-then-is_held : goal.returns-then-is_held
returns-then-is_held c ancestors below around =
    let is = ap keyword_view c.in-Typedef.is in
    taken_held (placed_at (source_view c.args.number c.args.statement.now) below ancestors) c.is_held.result is
    (c.is_held.ensures ancestors below around (sym is)) c.if-is_held.true

pub returns-else-is_held : goal.returns-else-is_held
returns-else-is_held c ancestors below around =
    let is = ap keyword_view c.in-Typedef.is in
    taken_built_in (placed_at (source_view c.args.number c.args.statement.now) below ancestors) c.is_held.result c.is_built_in.result is
    (c.is_held.ensures ancestors below around (sym is)) c.if-is_held.false c.is_built_in.ensures

pub returns-in-Grouping : goal.returns-in-Grouping
returns-in-Grouping c ancestors below around =
    let is = ap keyword_view c.in-Grouping.is in
    taken_grouping (placed_at (source_view c.args.number c.args.statement.now) below ancestors) c.is_held-in-Grouping.result is
    (c.is_held-in-Grouping.ensures ancestors below around (sym is))

pub returns-in-Identity : goal.returns-in-Identity
returns-in-Identity c ancestors below around =
    let is = ap keyword_view c.in-Identity.is in
    taken_identity (placed_at (source_view c.args.number c.args.statement.now) below ancestors) c.is_held-in-Identity.result is
    (c.is_held-in-Identity.ensures ancestors below around (sym is))
