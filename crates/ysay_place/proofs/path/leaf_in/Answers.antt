use Rattle.std.proofs.Common.{ap, ◌∙◌}
use Rattle.std.specs.Prelude.{option_and_then, option_map}
use Rattle.yspec.specs.document.Document.{Stored}
use Rattle.ytype.specs.View.{raw_of}
use Rattle.ysay_place.proofs.path.leaf_in.Goals as goal

pub returns-in_err-stored_leaf : goal.returns-in_err-stored_leaf
returns-in_err-stored_leaf c = ap (option_map (λ raw. raw_of raw.now)) c.from_residual.ensures
    ∙ ap (option_and_then (λ (s : Stored). s.value)) c.in_err-stored_leaf.ensures

pub returns : goal.returns
returns c = c.value.ensures ∙ ap (option_and_then (λ (s : Stored). s.value)) c.in_ok-stored_leaf.ensures
