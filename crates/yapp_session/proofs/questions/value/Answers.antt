use Rattle.std.proofs.Common.{◌≡◌, ℕ, Bool, Option}
use Rattle.std.specs.Prelude.{string_bytes}
use Rattle.yspec.specs.schema.Schema.{Schema}
use Rattle.yspec_session.specs.Session as spec
use Rattle.yspec_session.specs.Remembering.{Kept}
use Rattle.yinst_path.specs.EditView.{path_view}
use Rattle.ylive.specs.View.{view}
use Rattle.yapp_session.specs.Answered.{Replies, value_text}
use Rattle.yapp_session.proofs.QuestionLemmas.{value_replied}
use Rattle.yapp_session.proofs.TextLemmas.{if_ok}
use Rattle.yapp_session.proofs.questions.value.Goals as goal

pub returns : goal.returns
returns c =
    let live = view c.args.live.now in
    let path = path_view c.args.path.now in
    if_ok (λ text. string_bytes text ≡ value_text live path) (λ text. (tells_changes : Bool) (configured : Option Schema) (limit : ℕ) (k : Kept) → Replies tells_changes configured limit live k (spec.value path) (string_bytes text) live k)
    (λ text said tells_changes configured limit k. value_replied tells_changes configured limit live k path (string_bytes text) said) c.node_value.result c.node_value.ensures
