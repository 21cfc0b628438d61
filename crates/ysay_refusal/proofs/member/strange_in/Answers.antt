use Rattle.std.proofs.Common.{ap, is_some, string_bytes}
use Rattle.serde_json.specs.View as json
use Rattle.yschema_model.specs.Layout.{number_of}
use Rattle.yschema_model.specs.View.{view}
use Rattle.ysay_refusal.proofs.MemberLemmas.{known_passed, strange_found}
use Rattle.ysay_refusal.proofs.member.strange_in.Goals as goal

pub loop-name-preserved : goal.loop-name-preserved
loop-name-preserved c =
    known_passed (view c.args.schema.now) (number_of c.args.parent) (string_bytes c.in-Some.name.now) c.as_str-text.result.now _
    (json.members_view c.loop-name.name-iterator) (json.members_view c.next.new.self) _ (ap json.members_view c.in-Some.ensures.steps) c.as_str-text.ensures.value
    c.loop-name.invariant (number_of c.child_written.result) c.child_written.ensures (ap (λ o. is_some (number_of o)) c.in-Some-child_written.is)

pub returns-in-None-child_written : goal.returns-in-None-child_written
returns-in-None-child_written c =
    strange_found (view c.args.schema.now) (number_of c.args.parent) (string_bytes c.in-Some.name.now) c.as_str-text.result.now _
    (json.members_view c.loop-name.name-iterator) (json.members_view c.next.new.self) _ (ap json.members_view c.in-Some.ensures.steps) c.as_str-text.ensures.value
    c.loop-name.invariant (number_of c.child_written.result) c.child_written.ensures (ap (λ o. is_some (number_of o)) c.in-None-child_written.is)
