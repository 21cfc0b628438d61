use Rattle.std.proofs.Common.{◌<◌, length, ◌-◌, pos, ◌+ℤ◌, refl, sym, ap, ◌∙◌, arith}
use Rattle.std.proofs.lemmas.Int.{to_z-of_z}
use Rattle.std.specs.Int.{w64, w128}
use Rattle.yspec.specs.types.Names.{next_number}
use Rattle.ytype_numbers.specs.Tables.{assigned}
use Rattle.ytype_numbers.proofs.TableLemmas.{next_behind, word_at, words_found}
use Rattle.ytype_numbers.proofs.names.Names.next_number.Goals as goal

pub returns-in-Some : goal.returns-in-Some
returns-in-Some c =
    let es = c.self.inside.by_number.entries in
    let some : 0 < length es = c.in-Some.ensures.variant.0 refl in
    to_z-of_z w128 c.number_behind.result (record { sfits = c.number_behind.type_inv })
    ∙ c.number_behind.ensures ∙ ap (λ z. z +ℤ pos 1) (to_z-of_z w64 c.in-Some.number.now (word_at es (length es - 1) _ (words_found c.self.inside.by_name (assigned es) c.self.invariant) c.in-Some.ensures.last))
    ∙ sym (next_behind (pos 0) es (length es - 1) _ (omega (arith, some)) c.in-Some.ensures.last)
    ∙ ap next_number c.self.view_is
