use Rattle.std.proofs.Common.{Ok, sym, ap, refl, ◌∙◌}
use Rattle.yspec_wide.specs.Language.{is_yang_1}
use Rattle.yspec_wide.specs.Texts.{version_by}
use Rattle.yspec.specs.text.Statement.{argument}
use Rattle.ytext.specs.Stated.{unread}
use Rattle.ytext.specs.Reading.{tokens_ahead}
use Rattle.ytext.proofs.VersionLemmas.{unread_gives}
use Rattle.ytext.proofs.StatedLemmas.{same_version}
use Rattle.ytext.proofs.reader.Reader.states_yang_1.Goals as goal

pub returns-in-Ok : goal.returns-in-Ok
returns-in-Ok c =
    ap Ok (ap (λ read. is_yang_1 (version_by read)) (ap argument c.step.ensures.behind ∙ c.in-Ok.ensures.argument) ∙ sym c.names_yang_1.ensures)

pub returns-in-Err : goal.returns-in-Err
returns-in-Err c =
    same_version c.unread.result (unread c.in-Err.fault) _ _ c.unread.ensures (sym (ap (λ ts. version_by (argument ts)) c.step.ensures.behind))
    (unread_gives c.in-Err.fault (argument (tokens_ahead c.step.new.self)) version_by (λ s. refl) c.in-Err.ensures.argument)
