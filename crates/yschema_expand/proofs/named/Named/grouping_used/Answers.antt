use Rattle.std.proofs.Common.{◌∙◌, ap, sym}
use Rattle.std.specs.Option.{option_map_or}
use Rattle.yspec.specs.Forest.{end}
use Rattle.yspec.specs.linking.Expansion.{laid, groupings_of, row_in}
use Rattle.yschema_expand.specs.NamedView.{modules_of, row_or_none}
use Rattle.yschema_expand.proofs.GroupingLemmas.{laid_end}
use Rattle.yschema_expand.proofs.named.Named.grouping_used.Goals as goal

pub returns-in_err-meaning-clause-row : goal.returns-in_err-meaning-clause-row
returns-in_err-meaning-clause-row c =
    ap (λ r. laid (row_or_none r)) c.from_residual.ensures
    ∙ (laid_end ∙ ap (λ o. option_map_or (row_in (groupings_of (modules_of c.args.self.now))) o end) (sym c.in_err-meaning.was ∙ c.meaning.ensures))
