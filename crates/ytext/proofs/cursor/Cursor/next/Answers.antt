use Rattle.ytext.specs.Left.{pieces_left}
use Rattle.ytext.proofs.CursorLemmas.{token_met}
use Rattle.ytext.proofs.cursor.Cursor.next.Goals as goal

pub returns-clause-tokens : goal.returns-clause-tokens
returns-clause-tokens c =
    token_met (pieces_left c.args.self) c.found-found.result c.with_lexeme.result c.behind.result c.found-found.ensures.pieces c.with_lexeme.ensures.lexeme c.with_lexeme.ensures.line c.behind.ensures.pieces
