use Rattle.std.proofs.Common.{Result, sym, ap, subst, ◌∙◌, string_bytes}
use Rattle.yspec.specs.text.Text.{Text}
use Rattle.yspec.specs.text.Token.{column_behind}
use Rattle.yspec.specs.text.Statement.{Slip, piece}
use Rattle.yspec.specs.Results.{Gives}
use Rattle.ytext.specs.Told.{told_by}
use Rattle.ytext.specs.Reading.{added}
use Rattle.ytext.specs.View.{lexeme_of}
use Rattle.ytext.specs.declared.lexeme.Lexeme.{Lexeme}
use Rattle.ytext.proofs.PieceLemmas.{reading_piece}
use Rattle.ytext.proofs.reader.Reader.push_piece.Goals as goal

pub returns-in-Double-clause-piece : goal.returns-in-Double-clause-piece
returns-in-Double-clause-piece c =
    let line = c.args.self.now.token.line in
    let old = string_bytes c.args.text.now in
    subst (λ (read : Result Text Slip). Gives (λ _. string_bytes c.push_double.new.text) told_by c.push_double.result read)
    (reading_piece c.in-Double.is_yang_1 (column_behind 1 c.in-Double.before.now) line old c.in-Double.raw.now
    ∙ ap (λ (l : Lexeme). added old (piece line (lexeme_of l))) (sym c.in-Double.is)) c.push_double.ensures
