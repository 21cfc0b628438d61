use Rattle.ysay_lines.proofs.TokenLemmas.{value_read}
use Rattle.ysay_lines.proofs.laws.tokens_where_they_begin.Goals as goal

pub returns : goal.returns
returns c = value_read
