use Rattle.std.proofs.Common.{◌≡◌, ◌<◌, ◌≤◌, rules, length, get_or, sym, ap, ap₂, subst, ◌∙◌, arith}
use Rattle.std.specs.Prelude.{◌==◌, option_map, if◌then◌else◌}
use Rattle.std.specs.Option.{option_map_or}
use mathlib.Core.Path.{fun_ext}
use Rattle.yspec.specs.linking.DerivedTypes.{unknown, named, typedef_row}
use Rattle.yspec_wide.specs.Types.{known_in_row_of}
use Rattle.ybase_preorder.specs.View.{forest_in, row_by, slots_in}
use Rattle.ybase_preorder.proofs.LabelLemmas.{size-by}
use Rattle.ybase_preorder.proofs.RowLemmas.{size_forest}
use Rattle.ylink_grammar.specs.LinkView.{view}
use Rattle.ylink_grammar.specs.SourceView.{source_view}
use Rattle.ylink_names.proofs.PlacedLemmas.{number_named_at}
use Rattle.ylink_names.specs.MeaningView.{meaning_at}
use Rattle.ylink_types.specs.IdentityView as identity
use Rattle.ylink_values.specs.KeptView.{kept_view}
use Rattle.ylink_types.specs.TypedefView.{known_at, names_in}
use Rattle.ylink_types.proofs.OrderLemmas.{learned_next, learned_all}
use Rattle.ylink_types.proofs.typedefs.Typedefs.learned.Goals as goal

pub loop-number-init : goal.loop-number-init
loop-number-init c =
    let f = forest_in c.args.sources.now.table in
    record {
      meant = c.requires.meant;
      rests = record { named = number_named_at f c.args.meanings.items c.requires.meant; identities = c.requires.identities };
      count = c.in_ok-known.ensures ∙ (ap length c.slots.ensures ∙ (sym (size_forest (slots_in c.args.sources.now.table)) ∙ sym (size-by source_view 0 f)));
      known = λ j before within. absurd (omega (arith, before));
    }

pub loop-number-preserved : goal.loop-number-preserved
loop-number-preserved c =
    let set = view c.args.sources.now in
    let f = forest_in c.args.sources.now.table in
    let nodes = c.args.order.now in
    let i = c.loop-number.number-index in
    let typedefs = c.loop-number.typedefs in
    let table = known_at typedefs.known.items in
    let number = get_or nodes i 0 in
    let within : i < length nodes = first_of (search rules, omega arith) in
    let names : names_in typedefs ≡ named set table =
    fun_ext (λ n. ap (λ o. option_map_or table o unknown) (sym (number_named_at f typedefs.meanings.items c.loop-number.invariant.meant n))) in
    let row : option_map (row_by source_view) c.typedef_row-row.result ≡ typedef_row set number = c.typedef_row-row.ensures in
    let inside : number < length typedefs.known.items =
    let below = c.requires.ordered.within i within in let long = c.loop-number.invariant.count in omega (arith, below, long) in
    record {
      meant = ap (λ v. v.items) c.in_ok-learn.ensures.meanings ∙ c.loop-number.invariant.meant;
      rests = record {
        named = λ n. c.loop-number.invariant.rests.named n ∙ sym (ap (λ v. meaning_at v.items n) c.in_ok-learn.ensures.meanings);
        identities = subst (λ i. identity.IsOf (kept_view c.args.kept) i set) (sym c.in_ok-learn.ensures.identities) c.loop-number.invariant.rests.identities;
      };
      count = c.in_ok-learn.ensures.count ∙ c.loop-number.invariant.count;
      known = learned_next f (kept_view c.args.kept) nodes c.requires.ordered table (known_at c.learn.new.self.known.items) i c.loop-number.invariant.known within
          (λ e. c.in_ok-learn.ensures.known e inside
          ∙ ap₂ (λ ns r. if e == number then option_map_or (known_in_row_of (kept_view c.args.kept) set ns) r unknown else table e) names row);
    }

pub learn-requires : goal.learn-requires
learn-requires c = c.loop-number.invariant.rests

pub returns-clause-rests : goal.returns-clause-rests
returns-clause-rests c = c.loop-number.invariant.rests

pub returns-clause-meanings : goal.returns-clause-meanings
returns-clause-meanings c = c.loop-number.invariant.meant

pub returns-clause-known : goal.returns-clause-known
returns-clause-known c number =
    let f = forest_in c.args.sources.now.table in
    let nodes = c.args.order.now in
    let typedefs = c.loop-number.typedefs in
    let table = known_at typedefs.known.items in
    let ended : length nodes ≤ c.loop-number.number-index = first_of (search rules, omega arith) in
    ap (λ o. option_map_or table o unknown) (sym (number_named_at f typedefs.meanings.items c.loop-number.invariant.meant number))
    ∙ learned_all f (kept_view c.args.kept) nodes c.requires.ordered table (λ j before inside. c.loop-number.invariant.known j (omega (arith, before, ended)) inside) number
