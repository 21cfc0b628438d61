use Rattle.std.proofs.Common.{◌≡◌, ◌∷◌, ap, ◌∙◌, rules}
use Rattle.std.proofs.lemmas.List.{at_drop_all, at_drop_more}
use Rattle.yspec.specs.schema.Diagram.{key_names}
use Rattle.yschema_model.specs.Layout.{numbers_of}
use Rattle.yschema_model.specs.View.{view}
use Rattle.ybase_output.proofs.WritingLemmas.{left_all, left_same, left_after, left_failed, left_last}
use Rattle.ydiagram.proofs.LabelLemmas.{keys_parts, others_left, other_first}
use Rattle.ydiagram.proofs.label.write_keys.Goals as goal

pub returns-in_err-put : goal.returns-in_err-put
returns-in_err-put g c =
    let s = view c.args.schema.now in
    let split : c.args.keys.now ≡ c.in-Some.first.now ∷ c.in-Some.others.now = search rules in
    left_failed _ _ _ _ _ _ c.from_residual.result c.from_residual.ensures.0
    (left_same _ _ _ _ _ (ap (λ ks. key_names s (numbers_of ks)) split ∙ keys_parts s c.in-Some.first.now.0 (numbers_of c.in-Some.others.now) c.key_name.result.now c.key_name.ensures) (left_all _ _))
    c.in_err-put.ensures

pub loop-other-init : goal.loop-other-init
loop-other-init g c =
    let s = view c.args.schema.now in
    let split : c.args.keys.now ≡ c.in-Some.first.now ∷ c.in-Some.others.now = search rules in
    left_after _ _ _ _ _ _
    (left_same _ _ _ _ _ (ap (λ ks. key_names s (numbers_of ks)) split ∙ keys_parts s c.in-Some.first.now.0 (numbers_of c.in-Some.others.now) c.key_name.result.now c.key_name.ensures) (left_all _ _))
    c.in_ok-put.ensures

pub returns-in_err-put-2 : goal.returns-in_err-put-2
returns-in_err-put-2 g c =
    let s = view c.args.schema.now in
    left_failed _ _ _ _ _ _ c.from_residual-in_err-put-2.result c.from_residual-in_err-put-2.ensures.0
    (left_same _ _ _ _ _ (at_drop_more (others_left s) c.in-Some.others.now c.loop-other.other-index _ c.loop-other-test.true ∙ other_first s _ _ c.key_name-in-loop-other.result.now c.key_name-in-loop-other.ensures) c.loop-other.invariant)
    c.in_err-put-2.ensures

pub loop-other-preserved : goal.loop-other-preserved
loop-other-preserved g c =
    let s = view c.args.schema.now in
    left_after _ _ _ _ _ _
    (left_same _ _ _ _ _ (at_drop_more (others_left s) c.in-Some.others.now c.loop-other.other-index _ c.loop-other-test.true ∙ other_first s _ _ c.key_name-in-loop-other.result.now c.key_name-in-loop-other.ensures) c.loop-other.invariant)
    c.in_ok-put-2.ensures

pub returns : goal.returns
returns g c =
    left_last _ _ _ _ _ c.put-2.result
    (left_same _ _ _ _ _ (at_drop_all (others_left (view c.args.schema.now)) c.in-Some.others.now c.loop-other.other-index c.loop-other-test.false) c.loop-other.invariant)
    c.put-2.ensures
