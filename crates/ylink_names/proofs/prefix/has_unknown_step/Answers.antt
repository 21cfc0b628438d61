use Rattle.std.proofs.Common.{sym, ap, ◌∙◌, arith}
use Rattle.std.specs.List.{list_any}
use Rattle.yspec.specs.linking.Prefixes.{is_unknown_prefix}
use Rattle.ylink_arguments.specs.NameView.{names_view}
use Rattle.ylink_names.proofs.PrefixLemmas.{any_here, any_later, any_ended}
use Rattle.ylink_names.proofs.prefix.has_unknown_step.Goals as goal

pub returns-then-has_unknown : goal.returns-then-has_unknown
returns-then-has_unknown c modules prefixes =
    any_here (λ p. names_view p.items) (list_any (is_unknown_prefix modules c.args.home)) c.args.paths.now c.loop-path.path-index c.path-item.result _ (omega arith)
    (ap (λ p. list_any (is_unknown_prefix modules c.args.home) (names_view p.items)) (sym c.path-item.is)
    ∙ ap (λ ns. list_any (is_unknown_prefix modules c.args.home) (names_view ns)) (sym c.deref.ensures.value) ∙ sym (c.has_unknown.ensures modules prefixes) ∙ c.if-has_unknown.true) (c.loop-path.invariant modules prefixes)

pub loop-path-preserved : goal.loop-path-preserved
loop-path-preserved c modules prefixes =
    any_later (λ p. names_view p.items) (list_any (is_unknown_prefix modules c.args.home)) c.args.paths.now c.loop-path.path-index c.path-item.result _ (omega arith)
    (ap (λ p. list_any (is_unknown_prefix modules c.args.home) (names_view p.items)) (sym c.path-item.is)
    ∙ ap (λ ns. list_any (is_unknown_prefix modules c.args.home) (names_view ns)) (sym c.deref.ensures.value) ∙ sym (c.has_unknown.ensures modules prefixes) ∙ c.if-has_unknown.false) (c.loop-path.invariant modules prefixes)

pub returns : goal.returns
returns c modules prefixes =
    any_ended (λ p. names_view p.items) (list_any (is_unknown_prefix modules c.args.home)) c.args.paths.now c.loop-path.path-index _ (omega arith) (c.loop-path.invariant modules prefixes)
