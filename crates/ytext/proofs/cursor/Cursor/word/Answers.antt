use Rattle.ytext.proofs.TokenLemmas.{word_front}
use Rattle.ytext.proofs.cursor.Cursor.word.Goals as goal

pub returns-clause-front : goal.returns-clause-front
returns-clause-front c = word_front c.args.keeps_quotes c.args.self.text.now c.as_bytes.result.now c.between.result.now c.args.self.at c.word_end-end.result
    c.as_bytes.ensures.value c.word_end-end.ensures.length c.between.ensures.text c.requires
