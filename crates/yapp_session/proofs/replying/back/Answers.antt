use Rattle.std.proofs.Common.{refl, sym, ap, ◌∙◌}
use Rattle.std.specs.Prelude.{option_map, string_bytes}
use Rattle.yspec_session.specs.Session as spec
use Rattle.yspec_session.specs.Remembering.{back_to}
use Rattle.ylive.specs.View.{view}
use Rattle.yapp_session.specs.View.{past_view, since_view}
use Rattle.yapp_session.specs.Answered.{configured_view}
use Rattle.yapp_session.proofs.ReplyLemmas.{falls_now, replies_as}
use Rattle.yapp_session.proofs.replying.back.Goals as goal

pub returns-clause-answer : goal.returns-clause-answer
returns-clause-answer c s h =
    let before = view c.args.live.now in
    let after = view c.go_back.new.live in
    let k = past_view c.args.past.now in
    let since = since_view c.in-Some.since in
    let t = string_bytes c.in_ok-text.text in
    replies_as c.args.tells_changes (configured_view c.args.configured.now) c.args.limit before after k (past_view c.back.new.self) (back_to since k) spec.back t t refl c.back.ensures
    (falls_now c.args.tells_changes (configured_view c.args.configured.now) c.args.limit before k after t since (sym c.begun.ensures ∙ ap (option_map since_view) c.in-Some.is) h.fresh
    c.in_ok-text.ensures.live c.in_ok-text.ensures.text) s h
