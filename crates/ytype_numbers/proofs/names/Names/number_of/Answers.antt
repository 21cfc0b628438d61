use Rattle.std.proofs.Common.{ap, subst, ◌∙◌}
use Rattle.ytype_numbers.specs.Tables.{assigned, number_named, IsIndex, Finds}
use Rattle.ytype_numbers.proofs.names.Names.number_of.Goals as goal

pub returns-in-None : goal.returns-in-None
returns-in-None c = c.number_among.ensures ∙ ap (number_named c.args.text.now) c.self.view_is

pub returns-in-Some : goal.returns-in-Some
returns-in-Some c =
    let names = assigned c.self.inside.by_number.entries in
    let index : IsIndex c.in-Some.table names = subst (λ o. Finds o names) c.in-Some.is c.self.invariant in
    c.copied.ensures ∙ c.get.ensures.value ∙ index.finds c.args.text.now ∙ ap (number_named c.args.text.now) c.self.view_is
