use Rattle.std.proofs.Common.{Some, sym, ap, ◌∙◌}
use Rattle.ylink_names.specs.DefinitionView.{first_within}
use Rattle.ylink_names.proofs.ScopeLemmas.{around_row, around_none}
use Rattle.ylink_names.proofs.definitions.Scope.inside.Goals as goal

pub returns-in-Some : goal.returns-in-Some
returns-in-Some c s f ancestors own around =
    around_row s f c.args.self.now ancestors (Some c.in-Some.row) (λ kind name. ap (λ d. first_within kind d name) (sym c.in-Some.is) ∙ own kind name) around

pub returns-in-None : goal.returns-in-None
returns-in-None c s f ancestors own around =
    around_none s f c.args.self.now ancestors (λ kind name. ap (λ d. first_within kind d name) (sym c.in-None.is) ∙ own kind name) around
