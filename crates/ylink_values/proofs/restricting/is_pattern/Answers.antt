use Rattle.std.proofs.Common.{ap, ◌∙◌}
use Rattle.yspec.specs.linking.TypeStatements.{is_pattern_statement}
use Rattle.ylink_grammar.specs.SourceView.{source_view}
use Rattle.ylink_values.proofs.restricting.is_pattern.Goals as goal

pub returns : goal.returns
returns c =
    let s = c.args.statement in
    c.is_pattern_statement.ensures s.number ∙ ap (λ l. is_pattern_statement (source_view s.number l)) c.label.ensures
