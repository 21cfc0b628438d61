use Rattle.std.proofs.Common.{◌≡◌, ◌≢◌, ◌-◌, rules, length, refl, sym, ap, ◌∙◌}
use Rattle.std.specs.Prelude.{string_bytes}
use Rattle.std.proofs.lemmas.List.{length-map}
use Rattle.yspec_session.specs.Session as spec
use Rattle.ylive.specs.View.{view}
use Rattle.yapp_session.specs.View.{group_view, less_one, past_view}
use Rattle.yapp_session.specs.Answered.{configured_view}
use Rattle.yapp_session.proofs.ReplyLemmas.{one_to_undo, replies_as}
use Rattle.yapp_session.proofs.replying.undo.Goals as goal

pub returns-clause-answer : goal.returns-clause-answer
returns-clause-answer c s h =
    let before = view c.args.live.now in
    let after = view c.go_back.new.live in
    let k = past_view c.args.past.now in
    let count = c.saturating_sub-groups.result in
    let some : k.kept ≢ 0 = search rules in
    let at : count ≡ length k.groups - 1 =
    c.saturating_sub-groups.ensures ∙ ap (λ n. n - 1) (sym (length-map c.groups.result.now group_view) ∙ ap length c.groups.ensures) in
    let t = string_bytes c.in_ok-text.text in
    replies_as c.args.tells_changes (configured_view c.args.configured.now) c.args.limit before after k (past_view c.take_back.new.self) (less_one count k) spec.undo t t refl c.take_back.ensures
    (one_to_undo c.args.tells_changes (configured_view c.args.configured.now) c.args.limit before after k t count some at h.fresh c.in_ok-text.ensures.live c.in_ok-text.ensures.text) s h
