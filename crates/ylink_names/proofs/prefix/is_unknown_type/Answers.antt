use Rattle.std.proofs.Common.{is_some, sym, ap, ◌∙◌}
use Rattle.yspec.proofs.BasicLemmas.{is_some_map}
use Rattle.ybase_words.specs.BuiltInView.{built_in_view}
use Rattle.ylink_names.proofs.PrefixLemmas.{no_prefix}
use Rattle.ylink_names.proofs.prefix.is_unknown_type.Goals as goal

pub returns-then-is_some : goal.returns-then-is_some
returns-then-is_some c modules prefixes =
    no_prefix modules c.args.source.now.home _
    (sym (is_some_map built_in_view c.built_in.result ∙ ap is_some c.built_in.ensures) ∙ (sym c.is_some.ensures ∙ c.if-is_some.true))
