use Rattle.std.proofs.Common.{refl}
use Rattle.std.specs.Prelude.{string_bytes}
use Rattle.yapp_session.specs.View.{past_view}
use Rattle.yapp_session.proofs.LineLemmas.{line_said}
use Rattle.yapp_session.proofs.session.Session.answer.Goals as goal

pub returns-in-Ok : goal.returns-in-Ok
returns-in-Ok c =
    line_said (record { live = c.self.inside.live; past = c.self.inside.past; limit = c.self.inside.limit; tells_changes = c.self.inside.tells_changes; configured = c.self.inside.configured }) c.args.self.now
    (record { live = c.answer_line.new.live; past = c.settle.new.past; limit = c.self.inside.limit; tells_changes = c.self.inside.tells_changes; configured = c.self.inside.configured }) c.args.line.now (string_bytes c.in-Ok.text)
    (past_view c.answer_line.new.past) c.self.view_is refl refl refl c.in-Ok.ensures.stays.schema c.in-Ok.ensures.answer c.settle.ensures.holds
