use Rattle.std.proofs.Common.{decimal, sym, arith, ◌∙◌}
use Rattle.std.proofs.lemmas.Fmt.{decimal_nonempty}
use Rattle.std.proofs.lemmas.List.{append-nil}
use Rattle.ybase_output.proofs.WritingLemmas.{writes_same}
use Rattle.ycheck.proofs.LineLemmas.{some_text}
use Rattle.ycheck.proofs.lines.write_number.Goals as goal

pub returns : goal.returns
returns g c =
    let n = c.args.number in
    writes_same _ _ _ _ c.put.result (append-nil c.format.result.now ∙ c.format.ensures.text ∙ sym (some_text (decimal n) (decimal_nonempty n (omega (arith, c.ranges.number))))) c.put.ensures
