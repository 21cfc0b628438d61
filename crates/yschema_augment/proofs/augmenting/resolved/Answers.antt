use Rattle.std.proofs.Common.{◌<◌, get_or, length, map, sym, ap, subst, ◌∙◌}
use Rattle.std.proofs.lemmas.Result.{IfOk-weaker}
use Rattle.std.proofs.lemmas.List.{length-map}
use Rattle.yspec.specs.linking.Augments.{in_turn, target_steps}
use Rattle.yspec_wide.specs.Expansion as spec
use Rattle.ybase_index.specs.Index.{texts_of}
use Rattle.yschema_augment.specs.Asking.{AreNames, texts_seen}
use Rattle.yschema_expand.specs.AugmentView.{augment_view, augments_seen}
use Rattle.yschema_augment.specs.Hanging.{plain}
use Rattle.yschema_expand.specs.NamedView.{language_of, modules_of}
use Rattle.yschema_augment.specs.SearchView.{look_by, names_by}
use Rattle.yschema_augment.specs.Starting.{first_child}
use Rattle.yschema_expand.specs.TableView.{parts_in, slots_of}
use Rattle.yschema_augment.specs.Turning.{Prepared}
use Rattle.yschema_augment.proofs.PreparedLemmas.{own_is, prepared}
use Rattle.yschema_augment.proofs.PutLemmas.{plain_numbered}
use Rattle.yschema_augment.proofs.augmenting.resolved.Goals as goal

pub invariant_of-targets : goal.invariant_of-targets
invariant_of-targets c = record {
  paired = ap length c.as_slice.ensures.value
      ∙ (sym (length-map c.in_ok-texts.field-0.paths.items (λ p. names_by (texts_seen c.in_ok-texts.field-0.texts.items) p.items))
      ∙ (ap length c.in_ok-texts.ensures.paths
      ∙ (length-map (augments_seen c.args.augments.now) (target_steps (modules_of c.args.named.now))
      ∙ length-map c.args.augments.now augment_view)));
  dated = c.versions.ensures;
}

pub resolve-requires : goal.resolve-requires
resolve-requires c =
    let l = language_of c.args.named.now in
    let m = modules_of c.args.named.now in
    let augments = augments_seen c.args.augments.now in
    let slots = slots_of c.args.nodes.now in
    let starts = c.args.starts.now in
    let s = c.in_ok-search.search in
    let index = c.in_ok-search.ensures.index in
    let texts = ap texts_of index ∙ c.in_ok-index.ensures.texts in
    let first = c.number_at-first.ensures ∙ ap (get_or starts 0) c.len.ensures in
    subst (λ paths. Prepared l m augments slots starts paths s) (sym c.as_slice.ensures.value)
    (prepared l m augments slots starts (spec.expanded_parts_in l m) c.requires.laid c.requires.starts c.in_ok-texts.field-0.paths.items s
    (λ above name. ap (λ i. look_by i above name) index ∙ (c.in_ok-index.ensures.look above name
    ∙ ap (λ n. first_child n above name 0 (parts_in c.args.nodes.now)) first))
    (subst (λ ts. AreNames ts slots) (sym texts) c.in_ok-texts.ensures.nodes)
    (ap (λ ts. map (λ p. names_by ts p.items) c.in_ok-texts.field-0.paths.items) texts ∙ c.in_ok-texts.ensures.paths)
    (λ j n step at. subst (λ ts. step.text < length ts) (sym texts) (c.in_ok-texts.ensures.within j n step at))
    c.in_ok-search.ensures.none)

pub returns : goal.returns
returns c =
    let l = language_of c.args.named.now in
    let m = modules_of c.args.named.now in
    let augments = augments_seen c.args.augments.now in
    let slots = slots_of c.args.nodes.now in
    let starts = c.args.starts.now in
    let own = ap plain (own_is l m augments slots starts (spec.expanded_parts_in l m) c.requires.laid c.requires.starts) ∙ plain_numbered 0 (spec.expanded_parts_in l m) in
    IfOk-weaker c.resolve.result _ _
    (λ r is. is ∙ ap (λ f. in_turn (spec.is_ready_in l m) (spec.applied_in l m) (length augments) f augments) own) c.resolve.ensures
