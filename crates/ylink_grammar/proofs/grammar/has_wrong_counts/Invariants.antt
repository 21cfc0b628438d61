use Rattle.std.proofs.Common.{◌≡◌, drop}
use Rattle.std.specs.List.{list_any}
use Rattle.ylink_grammar.specs.TableView.{allowed_views}
use Rattle.ylink_grammar.specs.Counts.{is_miscounted_by}
use Rattle.ylink_grammar.proofs.grammar.has_wrong_counts.Given as goal

abbrev pub invariant-loop-a : goal.invariant-loop-a
invariant-loop-a l =
    list_any (is_miscounted_by l.counts) (allowed_views (drop l.a-index l.allowed)) ≡ list_any (is_miscounted_by l.counts) (allowed_views l.allowed)
