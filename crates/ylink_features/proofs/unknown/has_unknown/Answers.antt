use Rattle.std.proofs.Common.{sym, ◌∙◌, arith}
use Rattle.yspec.specs.linking.Prefixes.{is_unknown_prefix}
use Rattle.ylink_arguments.specs.NameView.{name_view}
use Rattle.ylink_names.proofs.PrefixLemmas.{any_here, any_later, any_ended}
use Rattle.ylink_features.proofs.unknown.has_unknown.Goals as goal

pub returns-then-is_unknown : goal.returns-then-is_unknown
returns-then-is_unknown c modules prefixes =
    any_here name_view (is_unknown_prefix modules c.args.home) c.args.names.now c.loop-name.name-index _ _ (omega arith)
    (sym (c.is_unknown.ensures modules prefixes) ∙ c.if-is_unknown.true) (c.loop-name.invariant modules prefixes)

pub loop-name-preserved : goal.loop-name-preserved
loop-name-preserved c modules prefixes =
    any_later name_view (is_unknown_prefix modules c.args.home) c.args.names.now c.loop-name.name-index _ _ (omega arith)
    (sym (c.is_unknown.ensures modules prefixes) ∙ c.if-is_unknown.false) (c.loop-name.invariant modules prefixes)

pub returns : goal.returns
returns c modules prefixes =
    any_ended name_view (is_unknown_prefix modules c.args.home) c.args.names.now c.loop-name.name-index _ (omega arith) (c.loop-name.invariant modules prefixes)
