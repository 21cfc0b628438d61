use Rattle.std.proofs.Common.{◌≡◌, ℕ, Bool, false}
use Rattle.std.specs.Prelude.{string_bytes}
use Rattle.yspec_session.specs.Session as spec
use Rattle.yspec_session.specs.Remembering.{Kept}
use Rattle.yinst_path.specs.EditView.{path_view}
use Rattle.ylive.specs.View.{view}
use Rattle.yapp_session.specs.Answered.{Replies, below_text, configured_view}
use Rattle.yapp_session.proofs.QuestionLemmas.{below_replied}
use Rattle.yapp_session.proofs.TextLemmas.{if_ok}
use Rattle.yapp_session.proofs.questions.below.Goals as goal

pub returns : goal.returns
returns c =
    let live = view c.args.live.now in
    let looks = configured_view c.args.configured.now in
    let path = path_view c.args.path.now in
    if_ok (λ text. live.is_stale ≡ false → string_bytes text ≡ below_text looks live path)
    (λ text. (tells_changes : Bool) (limit : ℕ) (k : Kept) → Replies tells_changes looks limit live k (spec.below path) (string_bytes text) live k)
    (λ text said tells_changes limit k. below_replied tells_changes looks limit live k path (string_bytes text) said) c.node_faults.result c.node_faults.ensures
