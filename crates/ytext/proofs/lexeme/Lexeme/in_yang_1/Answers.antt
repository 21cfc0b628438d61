use Rattle.ytext.proofs.CursorLemmas.{marked}
use Rattle.ytext.proofs.lexeme.Lexeme.in_yang_1.Goals as goal

pub returns-in-Double-clause-lexeme : goal.returns-in-Double-clause-lexeme
returns-in-Double-clause-lexeme c = marked c.args.self _ _ _ c.in-Double.is
