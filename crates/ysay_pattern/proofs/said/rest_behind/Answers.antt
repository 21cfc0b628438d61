use Rattle.std.proofs.Common.{ap, ◌∙◌}
use Rattle.std.specs.Str.Iter.{chars_rest}
use Rattle.std.proofs.lemmas.Iterator.{YieldsList-from_chars, text_from_collect}
use Rattle.std.proofs.lemmas.Iterator.Adapters.{YieldsList-from_skip}
use Rattle.ysay_pattern.proofs.said.rest_behind.Goals as goal

pub returns : goal.returns
returns c = text_from_collect c.collect.result c.collect.ensures.ran
    (YieldsList-from_skip c.args.count (YieldsList-from_chars c.args.text.now c.utf8.text (ap chars_rest c.skip.ensures.source ∙ c.chars.ensures.rest)) c.skip.ensures.count)
