use Rattle.std.proofs.Common.{◌≡◌, ◌++◌, ◌∷◌, [], map, true, sym, ap, subst, ◌∙◌}
use Rattle.std.proofs.lemmas.Int.{to_z-of_z}
use Rattle.std.specs.Int.{w64}
use Rattle.std.specs.Prelude.{int_lt}
use Rattle.std.specs.List.{list_all}
use Rattle.yspec.specs.text.Text.{Text}
use Rattle.yspec.specs.types.Names.{Assigned, placed, is_among}
use Rattle.ytype_numbers.specs.Words.{named}
use Rattle.ytype_numbers.specs.Tables.{assigned, Finds}
use Rattle.ytype_numbers.proofs.TableLemmas.{kept_later, more_later, placed_is, placed_last, number_last}
use Rattle.ytype_numbers.proofs.names.Names.with_later.Goals as goal
use Rattle.ytype_numbers.proofs.names.Names.with_later.Goals.{then-is_known, else-is_known+in_ok-by_name}

later : (c : goal.Joined-is_known) → list_all (λ (b : Assigned). int_lt b.number c.args.number) (assigned c.self.inside.by_number.entries) ≡ true
later c = ap (list_all (λ (b : Assigned). int_lt b.number c.args.number)) c.self.view_is ∙ c.requires.later

grown : (c : goal.Joined-is_known) → assigned c.insert.new.self.entries ≡ assigned c.self.inside.by_number.entries ++ named c.args.name.now c.args.number ∷ []
grown c =
    let es = c.self.inside.by_number.entries in
    let a = named c.args.name.now c.args.number in
    ap assigned (rw (to_z-of_z w64 c.args.number c.ranges.number) at c.in_ok-insert.ensures.entries)
    ∙ placed_is c.args.number c.in_ok-from_str.field-0 es (number_last a (assigned es) (later c))
    ∙ ap (λ (t : Text). placed (named t c.args.number) (assigned es)) c.in_ok-from_str.ensures.ok
    ∙ placed_last a (assigned es) (later c)

known : (c : goal.Joined-is_known) → c.has_name-is_known.result ≡ is_among (map (λ (a : Assigned). a.name) (assigned c.self.inside.by_number.entries)) c.args.name.now
known c = c.has_name-is_known.ensures ∙ ap (λ xs. is_among (map (λ (a : Assigned). a.name) xs) c.args.name.now) (sym c.self.view_is)

pub invariant_of-result : goal.invariant_of-result
invariant_of-result c =
    let a = named c.args.name.now c.args.number in
    elim c.if-is_known.branch [
      | then-is_known w ↦ subst (λ t. Finds t (assigned c.insert.new.self.entries)) (sym w.by_name-is)
          (kept_later c.self.inside.by_name a (assigned c.self.inside.by_number.entries) (assigned c.insert.new.self.entries) c.self.invariant c.ranges.number
          (sym (known c) ∙ w.if-is_known.true) (grown c))
      | else-is_known+in_ok-by_name w ↦ subst (λ t. Finds t (assigned c.insert.new.self.entries)) (sym w.by_name-is)
          (more_later c.self.inside.by_name w.in_ok-by_name.by_name a (assigned c.self.inside.by_number.entries) (assigned c.insert.new.self.entries) c.self.invariant c.ranges.number
          (sym (known c) ∙ w.if-is_known.false) (grown c) (rw (to_z-of_z w64 c.args.number c.ranges.number) at w.in_ok-by_name.ensures))
    ]

pub returns : goal.returns
returns c = grown c ∙ ap (λ xs. xs ++ named c.args.name.now c.args.number ∷ []) c.self.view_is
