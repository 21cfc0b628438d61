use Rattle.std.proofs.Common.{◌≡◌, None, refl, rules, subst, sym}
use Rattle.ystore.specs.Viewed.{viewed}
use Rattle.ylive_list.specs.Walked.{Gives, NoneComes}
use Rattle.ylive_list.proofs.RowLemmas.{gives_absence, gives_child, gives_none}
use Rattle.ylive_list.proofs.row_left.RowLeft.next_piece.Goals as goal

pub returns-in-Some-clause-gives : goal.returns-in-Some-clause-gives
returns-in-Some-clause-gives c schema =
    gives_absence schema (viewed c.args.view) c.args.levels c.args.self.now _ c.child-child.result c.in-Some.absence
    c.child-child.ensures.next c.in-Some.ensures.next refl refl refl refl refl

pub returns-in_err-child-clause-gives : goal.returns-in_err-child-clause-gives
returns-in_err-child-clause-gives c schema =
    let row = c.args.self.now in
    let nodes = viewed c.args.view in
    let none : c.from_residual.result ≡ None = first_of (search rules, cc) in
    subst (λ o. Gives c.args.levels schema nodes row o row) (sym none)
    (gives_none schema nodes c.args.levels row c.in_err-child.ensures.next (subst (λ child. NoneComes nodes child row) c.in_err-child.was c.in_default.ensures.none))

pub returns-clause-gives : goal.returns-clause-gives
returns-clause-gives c schema =
    let row = c.args.self.now in
    let nodes = viewed c.args.view in
    gives_child schema nodes c.args.levels row _ c.in_ok-child.child c.in_ok-child.ensures.next
    (subst (λ child. NoneComes nodes child row) c.in_ok-child.was c.in_default.ensures.none) refl refl refl refl c.position_behind-self.ensures
