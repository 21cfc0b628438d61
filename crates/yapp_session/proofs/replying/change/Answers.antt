use Rattle.std.proofs.Common.{[], ◌∷◌, ap, ap₂, ◌∙◌}
use Rattle.std.specs.Prelude.{string_bytes}
use Rattle.yspec.specs.edit.Live.{Live}
use Rattle.yspec_session.specs.Session as spec
use Rattle.yspec_session.specs.Session.{turns_of}
use Rattle.yspec_session.specs.Remembering.{with_group}
use Rattle.yinst_path.specs.EditView.{edit_view}
use Rattle.ylive.specs.View.{view}
use Rattle.yapp_difference.specs.Turning.{turn_views}
use Rattle.yapp_session.specs.View.{past_view}
use Rattle.yapp_session.specs.Came.{seen, seen_text}
use Rattle.yapp_session.specs.Answered.{configured_view}
use Rattle.yapp_session.proofs.CameLemmas.{there_as}
use Rattle.yapp_session.proofs.ReplyLemmas.{accepted, replies_as}
use Rattle.yapp_session.proofs.replying.change.Goals as goal

pub returns-in-Ok-clause-answer : goal.returns-in-Ok-clause-answer
returns-in-Ok-clause-answer c =
    let tells = c.args.tells_changes in
    let looks = configured_view c.args.configured.now in
    let before = view c.args.live.now in
    let after = view c.edit.new.self in
    let k = past_view c.args.past.now in
    let e = edit_view c.args.edit in
    let a = c.in-Ok.ensures.edits in
    let m = c.in_ok-before.before in
    let n = c.in_ok-after-in-Ok.after in
    let turns = turn_views c.in_ok-turns.turns.items in
    let was_seen = c.in_ok-earlier.ensures.seen in
    replies_as tells looks c.args.limit before after k (past_view c.add.new.self) (with_group c.args.limit (e ∷ []) k) (spec.change e) (string_bytes c.in_ok-text-in-Ok.text)
    (seen_text looks (seen tells looks before) turns after m n)
    (c.in_ok-text-in-Ok.ensures c.in_ok-earlier.ensures.sorted
    ∙ ap₂ (λ o ts. seen_text looks o ts after m n) was_seen (ap turn_views c.deref.ensures.value)) c.in_ok-add-in-Ok.ensures.ok
    (accepted tells looks c.args.limit before k e m n turns after a.fresh a.answer a.left (c.in_ok-before.ensures.counted a.fresh)
    (c.in_ok-after-in-Ok.ensures.counted (ap (λ (l : Live). l.is_stale) a.left ∙ a.fresh))
    (there_as tells looks before c.in_ok-earlier.earlier (λ t. (turns_of before.schema t e).there) turns was_seen c.in_ok-turns.ensures))
