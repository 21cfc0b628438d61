use Rattle.ylink_arguments.proofs.CutLemmas.{white_cut, white_left}
use Rattle.ylink_arguments.proofs.cut.without_white.Goals as goal

pub returns-then-is_white-clause-some : goal.returns-then-is_white-clause-some
returns-then-is_white-clause-some c =
    white_cut c.args.text.now c.as_bytes-bytes.result.now c.parts_around.result.0.now c.as_bytes-bytes.ensures.value c.if-is_empty.ensures c.parts_around.ensures.before c.if-is_white.ensures.cases

pub returns-else-is_white-clause-none : goal.returns-else-is_white-clause-none
returns-else-is_white-clause-none c =
    white_left c.args.text.now c.as_bytes-bytes.result.now c.as_bytes-bytes.ensures.value c.if-is_empty.ensures c.if-is_white.ensures.cases
