use Rattle.std.proofs.Common.{[], ◌∷◌}
use Rattle.ytext.specs.Told.{told_by}
use Rattle.ytext.specs.View.{modules_view}
use Rattle.ytext.proofs.VersionLemmas.{given_in, fails_in}
use Rattle.ytext.proofs.text.parse_in.Goals as goal

pub returns-in-Ok-clause-answer : goal.returns-in-Ok-clause-answer
returns-in-Ok-clause-answer c = λ language e.
    given_in (λ read. modules_view (read ∷ [])) told_by c.read_module.result language c.args.has_versions c.args.bytes.now c.in-Ok.text.now e
    c.in-Ok.ensures.text c.in-Ok.ensures.ok c.read_module.ensures

pub returns-in-Err-clause-answer : goal.returns-in-Err-clause-answer
returns-in-Err-clause-answer c = λ language e.
    fails_in (told_by c.in-Err.fault) language c.args.has_versions c.args.bytes.now e c.in-Err.ensures.err
