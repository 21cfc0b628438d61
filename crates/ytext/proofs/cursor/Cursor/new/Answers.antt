use Rattle.std.proofs.Common.{arith}
use Rattle.std.proofs.lemmas.Str.{IsCharBoundary-start}
use Rattle.ytext.proofs.VersionLemmas.{tokens_first, pieces_first}
use Rattle.ytext.proofs.cursor.Cursor.new.Goals as goal

pub invariant_of-result : goal.invariant_of-result
invariant_of-result c = record {
  place = IsCharBoundary-start c.args.text.now c.utf8.text;
  line_begun = omega arith;
  few_lines = omega arith;
}

pub returns-clause-start : goal.returns-clause-start
returns-clause-start c = tokens_first c.args.is_yang_1 c.first.result c.args.text.now c.first.ensures

pub returns-clause-pieces : goal.returns-clause-pieces
returns-clause-pieces c = pieces_first c.args.is_yang_1 c.first.result c.args.text.now c.first.ensures
