-- What callers need: which nodes of a plan stand themselves, and which bear no `when`, by what is told of parts.
use Rattle.std.proofs.Common.{◌≡◌, ℕ, suc, ◌+◌, Bool, true, false, not, List, [], ◌∷◌, ◌++◌, map, get_or, Option, Some, None, refl, sym, ap, ap₂, ◌∙◌}
use Rattle.std.specs.Prelude.{option_map, slice_get}
use Rattle.std.proofs.lemmas.List.{append-nil, map-append}
use Rattle.std.proofs.lemmas.Option.{slice_get-map}
use Rattle.yspec.specs.Forest.{Forest, end, node, preorder, size}
use Rattle.yspec.specs.linking.Parts.{Part}
use Rattle.yspec.specs.linking.Planned.{Around, Plan, Planned, around_below, at_top, nodes_of, planned}
use Rattle.yspec.specs.linking.Source.{Source}
use Rattle.yspec.specs.schema.Breaks.{Break, least_from, or_told}
use Rattle.yspec.proofs.SchemaProofs.LeastLemmas.{least_of_both}
use Rattle.yspec_wide.specs.Language.{Language, core}
use Rattle.yspec_wide.specs.Sources.{bears_when}
use Rattle.yspec_wide.specs.Standing.{is_standing}
use Rattle.yspec_wide.proofs.CoreLinkingLemmas.{all_stand_in_core}
use Rattle.yspec_wide.proofs.LeastLemmas.{told_in_two}
use Rattle.yschema_plan.specs.PlanView.{plan_with}
use Rattle.yschema_resolve.specs.Guarding.{TellsUnguarded}
use Rattle.yschema_resolve.specs.Standing.{TellsStanding}

-- under the core all nodes stand, and nothing needs to be told
pub none_told : (plan : Plan) → TellsStanding [] core plan
none_told plan number p at = sym (ap (λ holds. holds p.part.own) (all_stand_in_core plan.modules))

-- and no node bears a `when`
pub none_unguarded : (plan : Plan) → TellsUnguarded [] core plan
none_unguarded plan number p at = sym (ap not (no_when p.part.own))
  where
    no_when : (f : Forest Source) → bears_when core f ≡ false
    no_when end = refl
    no_when (node s below after) = no_when after

parts_planned : (k : ℕ) (a : Around) (parts : Forest Part) → map (λ (p : Planned). p.part) (preorder (planned k a parts)) ≡ preorder parts
unfolding planned
parts_planned k a end = refl
parts_planned k a (node x below after) =
    let inner = preorder (planned (k + 1) (around_below k a x) below) in
    let others = preorder (planned (k + suc (size below)) a after) in
    ap (λ xs. x ∷ xs) (map-append (λ (p : Planned). p.part) inner others
    ∙ ap₂ (λ xs ys. xs ++ ys) (parts_planned (k + 1) (around_below k a x) below) (parts_planned (k + suc (size below)) a after))

-- what is told of parts is told of their nodes
told_of_parts : (told : List Bool) (test : Part → Bool) (modules : Forest Source) (parts : Forest Part)
    → ((number : ℕ) (p : Part) → slice_get (preorder parts) number ≡ Some p → get_or told number true ≡ test p)
    → (number : ℕ) (p : Planned) → slice_get (nodes_of (plan_with modules parts)) number ≡ Some p → get_or told number true ≡ test p.part
told_of_parts told test modules parts tells number p at =
    tells number p.part (ap (λ ps. slice_get ps number) (sym (parts_planned 0 at_top parts))
    ∙ (slice_get-map (λ (q : Planned). q.part) (nodes_of (plan_with modules parts)) number ∙ ap (option_map (λ (q : Planned). q.part)) at))

pub parts_told : (standing : List Bool) (language : Language) (modules : Forest Source) (parts : Forest Part)
    → ((number : ℕ) (p : Part) → slice_get (preorder parts) number ≡ Some p → get_or standing number true ≡ is_standing language modules p)
    → TellsStanding standing language (plan_with modules parts)
parts_told standing language modules parts told = told_of_parts standing (is_standing language modules) modules parts told

pub unguarded_told : (unguarded : List Bool) (language : Language) (modules : Forest Source) (parts : Forest Part)
    → ((number : ℕ) (p : Part) → slice_get (preorder parts) number ≡ Some p → get_or unguarded number true ≡ not (bears_when language p.own))
    → TellsUnguarded unguarded language (plan_with modules parts)
unguarded_told unguarded language modules parts told = told_of_parts unguarded (λ (p : Part). not (bears_when language p.own)) modules parts told

-- ---- the least of a phase, its rules in either order

abbrev only_at : Bool → List Break → Bool → List Break
only_at true xs true = xs
only_at true xs false = []
only_at false xs true = []
only_at false xs false = xs

as_told : (xs : List Break) → or_told xs None ≡ least_from None xs
as_told [] = refl
as_told (b ∷ bs) = refl

-- those of what nodes break, once those of what augments add are told
pub least_of_phase : (own added : List Break) (told : Option Break) → told ≡ least_from (least_from None added) own
    → told ≡ least_from None (own ++ added)
least_of_phase own added told is =
    let others : (own ++ []) ++ [] ≡ own = append-nil (own ++ []) ∙ append-nil own in
    is ∙ (sym (least_of_both None added own) ∙ (sym (as_told (added ++ own))
    ∙ (sym (ap (λ xs. or_told (added ++ xs) None) others)
    ∙ (sym (told_in_two (only_at false own) (only_at true added) (true ∷ false ∷ []) None)
    ∙ (ap₂ (λ xs ys. or_told (xs ++ ys) None) (append-nil own) (append-nil added) ∙ as_told (own ++ added))))))
