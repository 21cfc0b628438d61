use Rattle.std.proofs.Common.{◌≡◌, ◌++◌, ◌∷◌, ◌+◌, ◌∙◌, [], List, Vec, ap, ap₂, arith, drop, length, map, subst, sym}
use Rattle.std.proofs.lemmas.List.{append_assoc, append-nil, drop_all, drop_more, length-append, map-append}
use Rattle.std.specs.Global.{Global}
use Rattle.std.specs.List.{flat_map}
use Rattle.ybase_preorder.specs.declared.siblings.Node.{Node}
use Rattle.ylink_grammar.specs.declared.source.Source.{Source}
use Rattle.yschema_augment.specs.Asking.{AreNames, path_of, paths_from, row_name, texts_of_path, texts_seen}
use Rattle.yschema_expand.specs.AugmentView.{augment_view, augments_seen}
use Rattle.yschema_expand.specs.NamedView.{modules_of}
use Rattle.yschema_augment.specs.SearchView.{names_by}
use Rattle.yschema_expand.specs.TableView.{slots_of}
use Rattle.yschema_augment.specs.declared.search.Step.{Step}
use Rattle.yschema_augment.proofs.AskingLemmas.{all_within, are_names, count_more, count_rows, count_texts, names_of_paths, names_paths}
use Rattle.yschema_augment.proofs.paths.asked_names.Goals as goal

abbrev steps_in : List (Vec Step Global) → List (List Step)
steps_in paths = map (λ p. p.items) paths

pub loop-augment-init : goal.loop-augment-init
loop-augment-init c =
    let m = modules_of c.args.named.now in
    let slots = slots_of c.args.nodes.now in
    let all = augments_seen c.args.augments.now in
    let texts = c.in_ok-texts.texts.items in
    let named = ap length c.in_ok-texts.ensures in
    let count : length texts ≡ length slots = omega (arith, named, count_texts texts, count_rows slots) in
    record {
      few = omega (arith, count, c.args.nodes.now.numbered, c.args.nodes.now.slots.ok.0);
      texts = ap (λ ts. ts ++ flat_map texts_of_path all) c.in_ok-texts.ensures;
      paths = ap₂ (λ ps n. steps_in ps ++ paths_from m n all) c.in_ok-paths.ensures.items count;
    }

pub loop-augment-preserved : goal.loop-augment-preserved
loop-augment-preserved c =
    let m = modules_of c.args.named.now in
    let augments = c.args.augments.now in
    let i = c.loop-augment.augment-index in
    let item : Node Source = c.augment-item.result in
    let a = augment_view item in
    let rest = drop (i + 1) augments in
    let left = augments_seen rest in
    let at : drop i augments ≡ item ∷ rest = drop_more augments i item c.loop-augment-test.true ∙ ap (λ (x : Node Source). x ∷ rest) (sym c.augment-item.is) in
    let texts = c.loop-augment.texts.items in
    let paths = c.loop-augment.paths.items in
    let added = c.in_ok-augment_steps.ensures in
    let count = count_more texts c.augment_steps.new.texts.items (path_of a) added.texts in
    let later = paths_from m (length texts + length (path_of a)) left in
    record {
      few = added.few;
      texts = ap (λ ts. ts ++ flat_map texts_of_path left) added.texts
          ∙ (append_assoc (texts_seen texts) (texts_of_path a) (flat_map texts_of_path left)
          ∙ (ap (λ (xs : List (Node Source)). texts_seen texts ++ flat_map texts_of_path (augments_seen xs)) (sym at) ∙ c.loop-augment.invariant.texts));
      paths = ap₂ (λ ps n. steps_in ps ++ paths_from m n left) c.in_ok-push.ensures.items count
          ∙ (ap (λ ps. ps ++ later) (map-append (λ (p : Vec Step Global). p.items) paths (c.in_ok-augment_steps.field-0 ∷ []))
          ∙ (append_assoc (steps_in paths) (c.in_ok-augment_steps.field-0.items ∷ []) later
          ∙ (ap (λ s. steps_in paths ++ s ∷ later) (added.steps m c.prefixes-prefixes.ensures)
          ∙ (ap (λ (xs : List (Node Source)). steps_in paths ++ paths_from m (length texts) (augments_seen xs)) (sym at) ∙ c.loop-augment.invariant.paths))));
    }

pub returns-clause-nodes : goal.returns-clause-nodes
returns-clause-nodes c =
    let slots = slots_of c.args.nodes.now in
    let augments = c.args.augments.now in
    let texts = c.loop-augment.texts.items in
    let done = drop_all c.loop-augment.augment-index augments (omega (arith, c.loop-augment-test.false)) in
    let so_far = sym (append-nil (texts_seen texts))
    ∙ (ap (λ (xs : List (Node Source)). texts_seen texts ++ flat_map texts_of_path (augments_seen xs)) (sym done) ∙ c.loop-augment.invariant.texts) in
    subst (λ ts. AreNames ts slots) (sym so_far) (are_names slots (flat_map texts_of_path (augments_seen augments)))

pub returns-clause-paths : goal.returns-clause-paths
returns-clause-paths c =
    let m = modules_of c.args.named.now in
    let slots = slots_of c.args.nodes.now in
    let augments = c.args.augments.now in
    let texts = c.loop-augment.texts.items in
    let paths = c.loop-augment.paths.items in
    let done = drop_all c.loop-augment.augment-index augments (omega (arith, c.loop-augment-test.false)) in
    let so_far = sym (append-nil (texts_seen texts))
    ∙ (ap (λ (xs : List (Node Source)). texts_seen texts ++ flat_map texts_of_path (augments_seen xs)) (sym done) ∙ c.loop-augment.invariant.texts) in
    let made = sym (append-nil (steps_in paths))
    ∙ (ap (λ (xs : List (Node Source)). steps_in paths ++ paths_from m (length texts) (augments_seen xs)) (sym done) ∙ c.loop-augment.invariant.paths) in
    names_of_paths (texts_seen texts) paths
    ∙ (ap₂ (λ ts ps. map (names_by ts) ps) so_far made
    ∙ names_paths m (augments_seen augments) (map row_name slots) (length slots) (count_rows slots))

pub returns-clause-within : goal.returns-clause-within
returns-clause-within c = λ augment n step e.
    let m = modules_of c.args.named.now in
    let slots = slots_of c.args.nodes.now in
    let augments = c.args.augments.now in
    let texts = c.loop-augment.texts.items in
    let paths = c.loop-augment.paths.items in
    let added = flat_map texts_of_path (augments_seen augments) in
    let done = drop_all c.loop-augment.augment-index augments (omega (arith, c.loop-augment-test.false)) in
    let so_far = sym (append-nil (texts_seen texts))
    ∙ (ap (λ (xs : List (Node Source)). texts_seen texts ++ flat_map texts_of_path (augments_seen xs)) (sym done) ∙ c.loop-augment.invariant.texts) in
    let made = sym (append-nil (steps_in paths))
    ∙ (ap (λ (xs : List (Node Source)). steps_in paths ++ paths_from m (length texts) (augments_seen xs)) (sym done) ∙ c.loop-augment.invariant.paths) in
    let count = ap length so_far ∙ length-append (map row_name slots) added in
    omega (arith, count, count_rows slots, all_within m (augments_seen augments) paths (length slots) augment n step made e)
