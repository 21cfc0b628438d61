use Rattle.std.proofs.Common.{take, drop, ap, ◌∙◌}
use Rattle.std.specs.List.{list_any}
use Rattle.std.proofs.lemmas.List.{take_min, drop_min}
use Rattle.ylink_features.proofs.lost.first_flags.Goals as goal

pub returns-clause-first : goal.returns-clause-first
returns-clause-first c =
    let flags = c.args.flags.now in
    c.has_flag.ensures ∙ ap (list_any (λ flag. flag)) (c.split_at.ensures.front ∙ (ap (λ n. take n flags) c.min.ensures ∙ take_min c.args.count flags))

pub returns-clause-others : goal.returns-clause-others
returns-clause-others c =
    let flags = c.args.flags.now in
    c.split_at.ensures.back ∙ (ap (λ n. drop n flags) c.min.ensures ∙ drop_min c.args.count flags)
