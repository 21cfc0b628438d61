use Rattle.std.proofs.Common.{cond, sym, ap, ap₂, ◌∙◌}
use Rattle.std.specs.Prelude.{◌&&◌}
use Rattle.yspec.specs.Forest.{join}
use Rattle.yspec.specs.linking.Expansion.{others}
use Rattle.yspec.specs.linking.Parts.{own_of}
use Rattle.yspec_wide.specs.Sources.{guard_row, without_guards}
use Rattle.yschema_given.specs.GivenView.{language_of, row_of}
use Rattle.yschema_given.specs.Holding.{holds_in, kept_hold}
use Rattle.yschema_given.proofs.HoldingLemmas.{conditioned_holds}
use Rattle.yschema_given.proofs.given_row.GivenRow.stands.Goals as goal

pub returns-then-self : goal.returns-then-self
returns-then-self c = λ own is.
    let g = c.args.self in
    c.refined_stands.ensures own is
    ∙ ap (λ b. kept_hold (holds_in c.args.holding.now) (cond b (join (others (without_guards (language_of g) (row_of g)) own) (row_of g))
    (join own (guard_row (language_of g) (own_of (row_of g)))))) (sym c.if-self.true)

pub returns-else-self : goal.returns-else-self
returns-else-self c = λ own is.
    let g = c.args.self in
    c.both.ensures ∙ (ap₂ (λ a b. a && b) is c.asked_hold.ensures
    ∙ (sym (conditioned_holds (holds_in c.args.holding.now) (language_of g) (row_of g) own g.kept)
    ∙ ap (λ b. kept_hold (holds_in c.args.holding.now) (cond b (join (others (without_guards (language_of g) (row_of g)) own) (row_of g))
    (join own (guard_row (language_of g) (own_of (row_of g)))))) (sym c.if-self.false)))
