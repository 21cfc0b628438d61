use Rattle.std.specs.Prelude.{option_map, string_bytes}
use Rattle.std.proofs.Common.{Ok, sym, ap, refl, ◌∙◌}
use Rattle.yspec_wide.specs.Language.{is_yang_1}
use Rattle.yspec_wide.specs.Texts.{version_below}
use Rattle.yspec.specs.text.Statement.{argument}
use Rattle.ytext.specs.Stated.{unread}
use Rattle.ytext.specs.Reading.{tokens_ahead}
use Rattle.ytext.proofs.VersionLemmas.{unread_gives}
use Rattle.ytext.proofs.StatedLemmas.{same_version, top_formed, top_unformed}
use Rattle.ytext.proofs.reader.Reader.is_yang_1.Goals as goal
use Rattle.ytext.proofs.reader.Reader.is_yang_1.Goals.{in-Ok, in-Err}

pub returns-then-not-is_name : goal.returns-then-not-is_name
returns-then-not-is_name c = ap (λ v. Ok (is_yang_1 v)) (top_unformed c.args.self.now c.in-Word.word c.in-Word.is (sym c.if-not-is_name.ensures))

pub returns-after-argument : goal.returns-after-argument
returns-after-argument c =
    let start = c.args.self.now in
    let formed = top_formed start c.in-Word.word c.in-Word.is (sym c.if-not-is_name.ensures) in
    elim c.match-argument.branch [
      | in-Ok w ↦
          same_version c.match-argument.result w.is_body_of_yang_1.result _ _ w.result-is
          (sym (formed ∙ ap version_below (ap argument c.step.ensures.behind ∙ w.in-Ok.ensures.argument))) (w.is_body_of_yang_1.ensures (option_map string_bytes w.in-Ok.field-0))
      | in-Err w ↦
          same_version c.match-argument.result (unread w.in-Err.fault) _ _ (w.result-is ∙ w.unread.ensures)
          (sym (formed ∙ ap (λ ts. version_below (argument ts)) c.step.ensures.behind))
          (unread_gives w.in-Err.fault (argument (tokens_ahead c.step.new.self)) version_below (λ s. refl) w.in-Err.ensures.argument)
    ]
