use Rattle.std.proofs.Common.{sym, arith}
use Rattle.std.proofs.lemmas.List.{length-take-le}
use Rattle.ysay_text.proofs.LineLemmas.{all_taken}
use Rattle.ysay_text.proofs.line.first_bytes.Goals as goal

pub slice_bounds-result-end : goal.slice_bounds-result-end
slice_bounds-result-end c = sym (length-take-le 100 c.args.bytes.now (omega (arith, c.if-bytes-le-SHOWN_LIMIT.false)))

pub returns-then-bytes-le-SHOWN_LIMIT : goal.returns-then-bytes-le-SHOWN_LIMIT
returns-then-bytes-le-SHOWN_LIMIT c = all_taken 100 c.args.bytes.now (omega (arith, c.if-bytes-le-SHOWN_LIMIT.true))
