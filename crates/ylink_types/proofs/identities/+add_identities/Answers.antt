use Rattle.std.proofs.Common.{ap, ◌∙◌, arith, map, ◌++◌}
use Rattle.yspec.specs.Forest.{size}
use Rattle.ybase_preorder.specs.View.{row_by, label_by}
use Rattle.ybase_preorder.proofs.RowLemmas.{takes_by, takes_none_by}
use Rattle.ylink_grammar.specs.SourceView.{source_view}
use Rattle.ylink_types.specs.IdentityView.{identity_view, listed_in}
use Rattle.ylink_values.specs.KeptView.{kept_view}
use Rattle.ylink_types.proofs.IdentityLemmas.{next_listed, all_listed}
use Rattle.ylink_types.proofs.identities.+add_identities.Goals as goal

pub loop-statement-preserved : goal.loop-statement-preserved
loop-statement-preserved t c =
    let taken = c.in-Some.ensures.steps in
    let before = c.loop-statement.statement-iterator in
    let after = row_by source_view c.next.new.self in
    let s = label_by source_view c.in-Some.statement in
    let below = row_by source_view c.in-Some.statement.children in
    let sized = ap size taken.0 in
    let first = takes_by source_view before c.next.new.self c.in-Some.statement taken in
    record {
      more = tt;
      ends = tt;
      smaller = omega (arith, sized, c.loop-statement.invariant.smaller);
      made = next_listed (kept_view c.args.kept) s below after (row_by source_view before) first (map identity_view c.loop-statement.made.items)
          (map identity_view c.add_identity.new.made.items) (map identity_view c.add_identities.new.made.items) _ c.in_ok-add_identity.ensures
          (c.in_ok-add_identities.ensures ∙ ap (λ n. map identity_view c.add_identity.new.made.items ++ listed_in (kept_view c.args.kept) (row_by source_view n)) c.children.ensures)
          c.loop-statement.invariant.made;
    }

pub returns : goal.returns
returns t c =
    let before = c.loop-statement.statement-iterator in
    let ended = (takes_none_by source_view before c.next.new.self c.in-None.ensures.steps).0 in
    all_listed (kept_view c.args.kept) (row_by source_view before) (map identity_view c.loop-statement.made.items) _ ended c.loop-statement.invariant.made
