use Rattle.std.proofs.Common.{◌≡◌, [], None, length, take, replicate, true, sym, ap, subst, arith}
use Rattle.std.proofs.lemmas.List.{length-map}
use Rattle.std.proofs.lemmas.Result.{on_ok_weaker}
use Rattle.yschema_expand.specs.AugmentView.{augment_view, augments_seen}
use Rattle.yschema_expand.specs.NamedView.{language_of, modules_of}
use Rattle.yschema_augment.specs.Picking.{askings_of, refused_by}
use Rattle.yschema_augment.specs.Searching.{reached}
use Rattle.yschema_augment.specs.SearchView.{look_in}
use Rattle.yschema_augment.specs.Settling.{Among, steps_of}
use Rattle.yschema_expand.specs.TableView.{slots_of}
use Rattle.yschema_augment.specs.Turning.{Goes}
use Rattle.yschema_augment.proofs.ResolvingLemmas.{goes_first}
use Rattle.yschema_augment.proofs.targets.Targets.start.Goals as goal

pub settle-requires : goal.settle-requires
settle-requires c w there =
    let s = c.args.search.now in
    let none = c.in_ok-all.ensures.none w (subst (Among w) c.deref.ensures.value there) in
    (none.0, ap (λ n. reached (look_in s) None (take n (steps_of s c.args.self.now.paths.now w.augment))) none.1)

pub returns : goal.returns
returns c =
    let l = language_of c.args.self.now.named.now in
    let m = modules_of c.args.self.now.named.now in
    let augments = augments_seen c.args.self.now.augments.now in
    let slots = slots_of c.args.self.now.nodes.now in
    let starts = c.args.self.now.starts.now in
    let paths = c.args.self.now.paths.now in
    let s = c.args.search.now in
    let same : length augments ≡ length c.args.self.now.augments.now = length-map c.args.self.now.augments.now augment_view in
    let paired : length paths ≡ length c.args.self.now.augments.now = c.args.self.now.paired in
    on_ok_weaker c.settle.result (λ moves. subst (λ n. Goes l m augments slots starts paths s (replicate n true) [] c.settle.new.self) same
    (goes_first l m augments slots starts paths s c.settle.new.self c.deref.result.now c.requires moves
    (λ j less. moves.settled (refused_by (askings_of c.args.self.now.named.now) slots augments) (record { augment = j; found = 0 })
    (subst (Among (record { augment = j; found = 0 })) (sym c.deref.ensures.value) (c.in_ok-all.ensures.all j (omega (arith, less, same, paired))))))) c.settle.ensures
