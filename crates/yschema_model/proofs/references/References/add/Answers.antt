use Rattle.std.proofs.Common.{rules, cond, Some, [], sym, ap, ◌∙◌}
use Rattle.std.specs.Map.{lookup}
use Rattle.std.specs.Ordering.{is_eq, nat_cmp}
use Rattle.std.specs.Option.{option_map_or}
use Rattle.yschema_model.specs.Layout.{numbers_of}
use Rattle.yschema_model.proofs.ReferenceLemmas.{found_by, one_more}
use Rattle.yschema_model.proofs.references.References.add.Goals as goal

pub returns-in-Some : goal.returns-in-Some
returns-in-Some c =
    let old = c.args.self.now.by_target.entries in
    let new = c.get_mut.follows.lender c.push.new.self in
    one_more old new.entries c.args.target c.args.id c.push.new.self c.in-Some.ids.now.items
    (ap (λ o. option_map_or (λ ids. numbers_of ids.items) o []) (sym (c.in-Some.ensures.value ∙ found_by old c.args.target.0)))
    c.in_ok-push.ensures.items ((c.get_mut.follows.holds c.push.new.self).3 (search rules)).0

pub returns : goal.returns
returns c =
    let old = c.args.self.now.by_target.entries in
    one_more old c.insert.new.self.entries c.args.target c.args.id c.in_ok-vec.field-0 []
    (ap (λ o. option_map_or (λ ids. numbers_of ids.items) o []) (sym (c.in_default.ensures.value ∙ found_by old c.args.target.0)))
    c.in_ok-vec.ensures.items (λ q. c.in_ok-insert.ensures.updates.0 q
    ∙ ap (λ m. cond (is_eq (nat_cmp c.args.target.0 q.0)) (Some c.in_ok-vec.field-0) (lookup (λ k. is_eq (nat_cmp q.0 k.0)) m.entries)) c.get_mut.follows.holds-at-none)
