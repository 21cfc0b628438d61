-- All nodes with what augments add, and all that is told of refines and augments without a target.
use Rattle.std.proofs.Common.{◌≡◌, ◌+◌, Bool, List, [], ◌∷◌, ◌++◌, length, Option, None, refl, sym, ap, ap₂, ◌∙◌, arith}
use Rattle.std.specs.List.{flat_map}
use Rattle.std.proofs.lemmas.List.{append-nil}
use Rattle.yspec.specs.Forest.{Forest, join, size}
use Rattle.yspec.specs.schema.Breaks.{Break, least_from}
use Rattle.yspec.specs.linking.Source.{Source}
use Rattle.yspec.specs.linking.Parts.{Part}
use Rattle.yspec.specs.linking.Augments.{Augment, augments_of, in_turn}
use Rattle.yspec_wide.specs.Language.{Language}
use Rattle.yspec_wide.specs.Expansion.{expanded_parts_in, unfit_breaks_in, is_ready_in, applied_in, augmented_in, body_breaks_in, augment_breaks_in}
use Rattle.yspec.proofs.SchemaProofs.LeastLemmas.{least_of_both}
use Rattle.ybase_preorder.specs.Layout.{places}
use Rattle.ybase_preorder.specs.declared.siblings.Node.{Node}
use Rattle.ybase_preorder.proofs.LayoutLemmas.{length-places, places-join}
use Rattle.ylink_grammar.specs.declared.source.Source as held
use Rattle.yschema_expand.specs.AugmentView.{augments_seen}
use Rattle.yschema_augment.specs.Augmenting.{breaks_of}
use Rattle.yschema_augment.specs.Picking.{left_of}
use Rattle.yschema_expand.specs.TableView.{parts_in, slots_of}
use Rattle.yschema_expand.specs.declared.table.NodeTable.{NodeTable}
use Rattle.yschema_augment.proofs.PreparedLemmas.{count_parts}

-- ---- where no augment is given

pub none_given : (language : Language) (m : Forest Source) → augments_of m ≡ [] → augmented_in language m ≡ (expanded_parts_in language m, [])
unfolding in_turn
none_given language m e = ap (λ as_given. in_turn (is_ready_in language m) (applied_in language m) (length as_given) (expanded_parts_in language m) as_given) e

pub none_told : (language : Language) (m : Forest Source) → augments_of m ≡ [] → unfit_breaks_in language m ≡ unfit_breaks_in language m ++ augment_breaks_in language m
none_told language m e =
    let none = ap₂ (λ as_given left. flat_map (body_breaks_in language m) as_given ++ breaks_of left) e (ap (λ x. x.1) (none_given language m e)) in
    sym (ap (λ bs. unfit_breaks_in language m ++ bs) none ∙ append-nil (unfit_breaks_in language m))

pub none_seen : (augments : List (Node held.Source)) → length augments ≡ 0 → augments_seen augments ≡ []
none_seen [] e = refl
none_seen (a ∷ augments) e = absurd (omega (arith, e))

-- ---- nodes and what augments add behind them

pub count_in : (t : NodeTable) (e : Forest Part) → parts_in t ≡ places None 0 e → length (slots_of t) ≡ size e
count_in t e is = sym (count_parts (slots_of t)) ∙ (ap length is ∙ length-places None 0 e)

pub lie_behind : (old new : NodeTable) (e bodies : Forest Part) → parts_in old ≡ places None 0 e
    → parts_in new ≡ parts_in old ++ places None (length (slots_of old)) bodies → parts_in new ≡ places None 0 (join e bodies)
lie_behind old new e bodies is more =
    let none : size e ≡ 0 + size e = omega arith in
    more ∙ (ap₂ (λ ps n. ps ++ places None n bodies) is (count_in old e is)
    ∙ (ap (λ n. places None 0 e ++ places None n bodies) none ∙ sym (places-join None 0 e bodies)))

-- ---- what is told

pub told_all : (language : Language) (m : Forest Source) (first second last : Option Break) (augments left : List Augment) → first ≡ least_from None (unfit_breaks_in language m)
    → second ≡ least_from first (flat_map (body_breaks_in language m) augments) → last ≡ least_from second (breaks_of left)
    → augments ≡ augments_of m → left ≡ (augmented_in language m).1 → last ≡ least_from None (unfit_breaks_in language m ++ augment_breaks_in language m)
told_all language m first second last augments left first_is second_is last_is all left_is =
    let bodies = flat_map (body_breaks_in language m) augments in
    last_is ∙ (ap (λ t. least_from t (breaks_of left)) second_is
    ∙ (sym (least_of_both first bodies (breaks_of left))
    ∙ (ap (λ t. least_from t (bodies ++ breaks_of left)) first_is
    ∙ (sym (least_of_both None (unfit_breaks_in language m) (bodies ++ breaks_of left))
    ∙ ap₂ (λ (xs ys : List Augment). least_from None (unfit_breaks_in language m ++ (flat_map (body_breaks_in language m) xs ++ breaks_of ys))) all left_is))))

pub left_none : (waits : List Bool) → left_of waits [] ≡ []
left_none [] = refl
left_none (w ∷ waits) = refl
