use Rattle.std.proofs.Common.{inl, inr, ◌∙◌}
use Rattle.yapp_talk.specs.Watching.{AnswersWatched, close_of}
use Rattle.yapp_talk.proofs.TalkingLemmas.{closed_so, ends_same, talks_as}
use Rattle.yapp_talk.proofs.talking.hold.Goals as goal

pub returns-in-Ok : goal.returns-in-Ok
returns-in-Ok g c =
    let close = close_of c.converse-ended.result in
    let last = c.converse-ended.new.answerer in
    let talks = talks_as AnswersWatched _ _ _ last c.converse-ended.result c.converse-ended.ensures in (
      close,
      last,
      talks,
      inl (ends_same _ _ _ _ _ _ _ c.closing_text.ensures
          (c.closing_status-status.ensures ∙ closed_so _ _ _ last close last.has_refused _ talks c.requires c.in-Ok.ensures.counted) c.end_with.ensures),
    )

pub returns : goal.returns
returns g c =
    let close = close_of c.converse-ended.result in
    let last = c.converse-ended.new.answerer in
    (close, last, talks_as AnswersWatched _ _ _ last c.converse-ended.result c.converse-ended.ensures, inr (c.in-Err.ensures.err, c.end_with-in-Err.ensures))
