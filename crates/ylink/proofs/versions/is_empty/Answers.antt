use Rattle.std.proofs.Common.{◌≡◌, sym, ap, ◌∙◌, rules}
use Rattle.std.proofs.lemmas.Result.{IfOk-weaker}
use Rattle.std.specs.Prelude.{is_some, true, false}
use Rattle.yspec.specs.types.Types.{empty, empty_base, plain, taken, YangType}
use Rattle.ylink.specs.EmptyView.{are_alike}
use Rattle.ylink.proofs.EmptyLemmas.{no_reference, tells_empty}
use Rattle.ylink.proofs.versions.is_empty.Goals as goal

pub returns-then-is_some : goal.returns-then-is_some
returns-then-is_some c bare =
    let of = c.args.of.now in
    let some : is_some of.requires_instance ≡ true = sym (c.is_some.ensures ∙ ap is_some c.requires_instance.ensures) ∙ c.if-is_some.true in
    no_reference of.shape of.requires_instance some

pub returns-in-Ok : goal.returns-in-Ok
returns-in-Ok c bare =
    let of = c.args.of.now in
    let none : is_some of.requires_instance ≡ false = sym (c.is_some.ensures ∙ ap is_some c.requires_instance.ensures) ∙ c.if-is_some.false in
    let own : c.in-Ok.own ≡ plain empty_base = first_of (cc, search rules) in
    IfOk-weaker c.are_alike.result _ _ (λ b is. is ∙ (ap (λ (t : YangType). are_alike (taken of empty) (taken t empty)) own
    ∙ tells_empty of.shape of.requires_instance bare none)) c.are_alike.ensures
