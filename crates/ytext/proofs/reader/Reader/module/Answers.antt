use Rattle.std.proofs.Common.{Result, sym, ap, subst, ◌∙◌}
use Rattle.yspec.specs.text.Statement.{Slip, Row, ◌>>=◌, ending}
use Rattle.yspec.specs.Results.{Fails}
use Rattle.ytext.specs.Told.{told_by}
use Rattle.ytext.proofs.ReaderLemmas.{top_of, top_fails}
use Rattle.ytext.proofs.reader.Reader.module.Goals as goal

pub returns-in-Err : goal.returns-in-Err
returns-in-Err c = top_fails c.args.self.now c.in-Word.word c.in-Err.fault c.in-Word.is c.in-Err.ensures.statement

pub returns-in-Ok-end : goal.returns-in-Ok-end
returns-in-Ok-end c =
    top_of c.args.self.now c.in-Word.word c.in-Word.is ∙ ap (λ (read : Result Row Slip). read >>= ending) c.in-Ok.ensures.statement ∙ c.in-Ok-end.ensures _

pub returns-in-Err-end : goal.returns-in-Err-end
returns-in-Err-end c =
    subst (Fails (told_by c.in-Err-end.fault)) (sym (top_of c.args.self.now c.in-Word.word c.in-Word.is ∙ ap (λ (read : Result Row Slip). read >>= ending) c.in-Ok.ensures.statement)) (c.in-Err-end.ensures _)
