use Rattle.std.proofs.Common.{ap, ◌∙◌, rules}
use Rattle.std.specs.Str.Iter.{chars_rest}
use Rattle.std.proofs.lemmas.Iterator.{YieldsList-from_chars, YieldsList-from_map, text_from_collect}
use Rattle.ysay_value.specs.Messages.{printed_character}
use Rattle.ysay_value.proofs.messages.on_one_line.Goals as goal

pub returns : goal.returns
returns c = text_from_collect c.collect.result c.collect.ensures.ran
    (YieldsList-from_map _ printed_character
    (YieldsList-from_chars c.args.text.now c.utf8.text (ap chars_rest c.map.ensures.source ∙ c.chars.ensures.rest))
    c.map.ensures.closure (λ x r q k. search rules))
