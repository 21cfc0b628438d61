use Rattle.std.proofs.Common.{◌≡◌, subst, sym, ap, ◌∙◌, drop}
use Rattle.std.specs.Prelude.{IfSome, option_map, string_bytes}
use Rattle.std.specs.List.{flat_map}
use Rattle.yspec.specs.document.Sorting.{IsSorted}
use Rattle.yspec_session.specs.Remembering.{turns_back}
use Rattle.yinst_tree.specs.View.{tree_view}
use Rattle.ylive.specs.View.{view}
use Rattle.yapp_difference.specs.Turning.{turn_views}
use Rattle.yapp_session.specs.View.{past_view}
use Rattle.yapp_session.specs.Kept.{AreFit}
use Rattle.yapp_session.specs.Answered.{IsPlaced, configured_view}
use Rattle.yapp_session.specs.Came.{Falls, earlier_view, seen_text}
use Rattle.yapp_session.proofs.CameLemmas.{fell}
use Rattle.yapp_session.proofs.RewindLemmas.{placed_again}
use Rattle.yapp_session.proofs.TextLemmas.{always, if_ok}
use Rattle.yapp_session.proofs.replying.go_back.Goals as goal

pub turns_behind-requires : goal.turns_behind-requires
turns_behind-requires c = subst (λ s. AreFit s (past_view c.args.past.now)) (sym c.rewind.ensures.schema) c.requires

pub returns-clause-text : goal.returns-clause-text
returns-clause-text c =
    let tells = c.args.tells_changes in
    let looks = configured_view c.args.configured.now in
    let before = view c.args.live.now in
    let placed = view c.rewind.new.live in
    let after = view c.turns_behind.new.live in
    let k = past_view c.args.past.now in
    let n = c.args.groups in
    let o = option_map earlier_view c.in_ok-earlier.earlier in
    let turns = turn_views c.in_ok-turns.turns.items in
    let m = c.in_ok-before.before in
    let l = c.in_ok-after.after in
    if_ok (λ text. IfSome c.in_ok-earlier.earlier (λ e. IsSorted (tree_view e.tree))
    → string_bytes text ≡ seen_text looks o (turn_views c.deref.result.now) after m l)
    (λ text. Falls tells looks before k n (string_bytes text) after)
    (λ text said. fell tells looks before placed after k n o turns m l (string_bytes text) c.in_ok-earlier.ensures.seen
    (λ wanted. c.in_ok-turns.ensures.turns wanted ∙ ap (λ s. turns_back s placed.tree (flat_map (λ g. g) (drop n k.groups))) c.rewind.ensures.schema)
    c.in_ok-rewind.ensures.ok (placed_again before placed after k n c.rewind.ensures.schema c.in_ok-rewind.ensures.ok c.in_ok-turns.ensures.live)
    c.in_ok-before.ensures.counted c.in_ok-after.ensures.counted
    (said c.in_ok-earlier.ensures.sorted ∙ ap (λ ts. seen_text looks o (turn_views ts) after m l) c.deref.ensures.value))
    c.seen_text.result c.seen_text.ensures

pub returns-clause-live : goal.returns-clause-live
returns-clause-live c =
    let before = view c.args.live.now in
    let after = view c.turns_behind.new.live in
    let k = past_view c.args.past.now in
    always (IsPlaced before.schema k c.args.groups after)
    (placed_again before (view c.rewind.new.live) after k c.args.groups c.rewind.ensures.schema c.in_ok-rewind.ensures.ok c.in_ok-turns.ensures.live)
    c.seen_text.result
