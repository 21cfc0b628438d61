use Rattle.std.proofs.Common.{rules, ◌≡◌, ◌≤◌, ◌<◌, false, length, map, refl, ap, ◌∙◌}
use Rattle.std.specs.Prelude.{option_map}
use Rattle.std.specs.Option.{option_map_or}
use Rattle.yspec.specs.linking.Expansion.{refine_steps}
use Rattle.yspec.specs.linking.Parts.{Part}
use Rattle.yspec.specs.linking.Prefixes as prefixes
use Rattle.yspec_wide.specs.Expansion.{may_take_in}
use Rattle.ylink_arguments.specs.NameView.{names_view}
use Rattle.yschema_expand.specs.AugmentView.{augment_view}
use Rattle.yschema_expand.specs.Indexing.{part_in}
use Rattle.yschema_expand.specs.NamedView.{language_of, modules_of}
use Rattle.yschema_expand.specs.TableView.{slots_of}
use Rattle.yschema_expand.specs.Targets.{found_at}
use Rattle.yschema_expand.proofs.IndexedLemmas.{taking_there}
use Rattle.yschema_expand.proofs.TargetLemmas.{taken_among, taken_takes}
use Rattle.yschema_expand.proofs.extending.target_of.Goals as goal

pub returns-clause-found : goal.returns-clause-found
returns-clause-found c = λ earlier parent f count at.
    let l = language_of c.args.context.now.named.now in
    let m = modules_of c.args.context.now.named.now in
    let owner = c.args.owner in
    let first = c.args.first in
    let slots = slots_of c.args.table.now in
    let a = augment_view c.args.augment in
    let steps : map (prefixes.node_name m c.label.result.now.home owner) (names_view c.deref.result.now) ≡ refine_steps m owner a.source = first_of (search rules, cc) in
    c.taking.ensures ∙ taking_there slots first earlier parent f count at l m a (refine_steps m owner a.source) c.number_at-number.result
    (c.number_at-number.ensures.found m earlier parent f c.prefixes.ensures count at ∙ ap (λ ss. option_map (λ x. x.number) (found_at ss first f)) steps)

pub returns-clause-among : goal.returns-clause-among
returns-clause-among c =
    let l = language_of c.args.context.now.named.now in
    let m = modules_of c.args.context.now.named.now in
    let slots = slots_of c.args.table.now in
    taken_among (λ n. option_map_or (λ (p : Part). may_take_in l m (augment_view c.args.augment) p) (part_in slots n) false)
    (λ n. (c.args.first ≤ n) × (n < length slots)) c.number_at-number.result _ c.taking.ensures
    (c.number_at-number.ensures.among m c.prefixes.ensures refl)

pub returns-clause-takes : goal.returns-clause-takes
returns-clause-takes c =
    let l = language_of c.args.context.now.named.now in
    let m = modules_of c.args.context.now.named.now in
    taken_takes (λ n. option_map_or (λ (p : Part). may_take_in l m (augment_view c.args.augment) p) (part_in (slots_of c.args.table.now) n) false)
    c.number_at-number.result _ c.taking.ensures
