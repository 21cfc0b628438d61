use Rattle.std.proofs.Common.{subst, sym, ap, ◌∙◌, ◌++◌, drop}
use Rattle.std.specs.Prelude.{reverse}
use Rattle.std.specs.List.{flat_map}
use Rattle.yspec_session.specs.Remembering.{turns_back}
use Rattle.ylive.specs.View.{view}
use Rattle.yapp_difference.specs.Turning.{turn_view, turn_views}
use Rattle.yapp_session.specs.View.{groups_view, past_view}
use Rattle.yapp_session.specs.Kept.{AreFit}
use Rattle.yapp_session.specs.Answered.{IsPlaced}
use Rattle.yapp_session.proofs.PastLemmas.{last_groups}
use Rattle.yapp_session.proofs.TurnLemmas.{turned_again}
use Rattle.yapp_session.proofs.turning.found_behind.Goals as goal

pub rewind-requires : goal.rewind-requires
rewind-requires c = subst (λ s. AreFit s (past_view c.args.past.now)) (sym c.add_all_turns.ensures.schema) c.requires

pub returns-clause-turns : goal.returns-clause-turns
returns-clause-turns c =
    let live = view c.args.live.now in
    let n = c.args.groups in
    turned_again turn_view c.add_all_turns.new.turns.items c.reverse.new.self.items
    (turns_back live.schema live.tree (flat_map (λ g. g) (drop n (past_view c.args.past.now).groups)))
    (c.in_ok-add_all_turns.ensures.turns
    ∙ (ap (λ ts. turn_views ts ++ reverse (turns_back live.schema live.tree (flat_map (λ g. g) (groups_view c.items_behind.result.now)))) c.new-turns.ensures.items
    ∙ ap (λ gs. reverse (turns_back live.schema live.tree (flat_map (λ g. g) gs)))
    (last_groups n c.groups.result.now c.items_behind.result.now c.items_behind.ensures ∙ ap (drop n) c.groups.ensures)))
    c.reverse.ensures.items

pub returns-clause-live : goal.returns-clause-live
returns-clause-live c = subst (λ s. IsPlaced s (past_view c.args.past.now) c.args.groups (view c.rewind.new.live)) c.add_all_turns.ensures.schema
    c.in_ok-rewind.ensures.ok
