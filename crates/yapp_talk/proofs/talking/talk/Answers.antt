use Rattle.std.proofs.Common.{inl, inr, refl, ap, ◌∙◌}
use Rattle.yapp_session.specs.Answered.{configured_view}
use Rattle.yapp_talk.proofs.talking.talk.Goals as goal

pub begin-requires : goal.begin-requires
begin-requires g c = (_, c.in-Ok.ensures.opened c.requires.fresh)

pub returns-in-Ok : goal.returns-in-Ok
returns-in-Ok g c = inr (
  _,
  record {
    holds = c.in-Ok.ensures.opened c.requires.fresh;
    schema_is = c.in-Ok.ensures.schema;
    remembers = c.in-Ok.ensures.limit;
    tells_changes = c.in-Ok.ensures.changes;
    looks = ap configured_view c.in-Ok.ensures.looks ∙ c.requires.looks;
    unrefused = refl;
  },
  c.begin.ensures,
)

pub returns : goal.returns
returns g c = inl (refl, c.end_with.ensures)
