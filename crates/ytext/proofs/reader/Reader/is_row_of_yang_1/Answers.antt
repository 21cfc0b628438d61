use Rattle.std.proofs.Common.{Ok, sym, ap, refl, ◌∙◌}
use Rattle.yspec_wide.specs.Language.{is_yang_1}
use Rattle.yspec_wide.specs.Texts.{version_behind}
use Rattle.yspec.specs.text.Statement.{statement}
use Rattle.ytext.specs.Stated.{unread, version_row}
use Rattle.ytext.specs.Left.{left}
use Rattle.ytext.specs.Reading.{rows}
use Rattle.ytext.proofs.VersionLemmas.{unread_gives}
use Rattle.ytext.proofs.StatedLemmas.{same_version, row_stated, row_other, row_none, not_word}
use Rattle.ytext.proofs.reader.Reader.is_row_of_yang_1.Goals as goal

pub loop-self-preserved-in-Ok : goal.loop-self-preserved-in-Ok
loop-self-preserved-in-Ok c =
    sym (row_other c.loop-self.self c.in-Word.word c.in-Word.is (sym c.if-is_version_keyword.ensures) ∙ ap (version_behind version_row) c.in-Ok.ensures.statement)
    ∙ c.loop-self.invariant

pub returns-then-is_version_keyword : goal.returns-then-is_version_keyword
returns-then-is_version_keyword c =
    same_version c.states_yang_1.result c.states_yang_1.result _ _ refl
    (sym (row_stated c.loop-self.self c.in-Word.word c.in-Word.is (sym c.if-is_version_keyword.ensures)) ∙ c.loop-self.invariant) c.states_yang_1.ensures

pub returns-in-Err : goal.returns-in-Err
returns-in-Err c =
    let before = c.loop-self.self in
    same_version c.unread.result (unread c.in-Err.fault) _ _ c.unread.ensures
    (sym (row_other before c.in-Word.word c.in-Word.is (sym c.if-is_version_keyword.ensures)) ∙ c.loop-self.invariant)
    (unread_gives c.in-Err.fault (statement (rows 2) 1 c.in-Word.word.now before.token.line (left before.cursor)) (version_behind version_row) (λ s. refl) c.in-Err.ensures.statement)

pub returns : goal.returns
returns c = ap (λ v. Ok (is_yang_1 v)) (sym c.loop-self.invariant ∙ row_none c.loop-self.self (not_word c.loop-self.self.token.lexeme c.in_default.not-Word))
