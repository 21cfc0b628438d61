use Rattle.std.proofs.Common.{ap, ◌∙◌}
use Rattle.std.specs.Prelude.{option_and_then}
use Rattle.yspec.specs.linking.Arguments.{with_digits, whole_of}
use Rattle.ytype_numbers.specs.Words.{capped}
use Rattle.ylink_arguments.proofs.SpanLemmas.{pointed_capped}
use Rattle.ylink_arguments.proofs.span.pointed.Goals as goal

pub returns-clause-value : goal.returns-clause-value
returns-clause-value c =
    c.with_digits.ensures.value ∙ ap (option_and_then (λ n. capped (with_digits n c.args.digits.now))) c.in_ok-whole_of.ensures.value
    ∙ pointed_capped c.args.digits.now (whole_of c.args.whole.now)
