use Rattle.std.proofs.Common.{rules}
use Rattle.ysay_codes.specs.Codes.{explanation_of}
use Rattle.ysay_codes.proofs.explanation.explain_spelled.Goals as goal

pub returns : goal.returns
unfolding explanation_of
returns c = search rules
