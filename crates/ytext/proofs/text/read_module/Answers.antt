use Rattle.std.proofs.Common.{[], ◌∷◌, ◌&&◌, false, ap}
use Rattle.yspec_wide.specs.Language.{is_yang_1}
use Rattle.yspec_wide.specs.Texts.{version_of_text}
use Rattle.ytext.specs.Told.{told_by}
use Rattle.ytext.specs.View.{modules_view}
use Rattle.ytext.proofs.VersionLemmas.{read_so, found_so, no_refusal}
use Rattle.ytext.proofs.text.read_module.Goals as goal

pub returns-then-not-has_versions : goal.returns-then-not-has_versions
returns-then-not-has_versions c =
    read_so (λ read. modules_view (read ∷ [])) told_by c.read_as.result c.args.has_versions false c.args.text.now
    (ap (λ b. b && is_yang_1 (version_of_text c.args.text.now)) c.if-not-has_versions.true) c.read_as.ensures

pub returns-in-Ok : goal.returns-in-Ok
returns-in-Ok c =
    read_so (λ read. modules_view (read ∷ [])) told_by c.read_as-in-Ok.result c.args.has_versions c.in-Ok.is_old c.args.text.now
    (found_so c.args.has_versions c.in-Ok.is_old (is_yang_1 (version_of_text c.args.text.now)) c.if-not-has_versions.false c.in-Ok.ensures) c.read_as-in-Ok.ensures

pub returns-in-Err : goal.returns-in-Err
returns-in-Err c = no_refusal (told_by c.in-Err.fault) _ _ c.in-Err.ensures
