-- What is told at the `augment` that adds a node, and of all nodes by which of them stand.
use Rattle.std.proofs.Common.{◌≡◌, ℕ, suc, Bool, true, false, cond, not, ◌&&◌, ◌||◌, List, [], ◌∷◌, ◌++◌, get_or, map, Option, Some, None, refl, sym, ap, ap₂, ◌∙◌, arith}
use Rattle.std.specs.Prelude.{option_map, option_and_then, slice_get}
use Rattle.std.specs.List.{Contains, flat_map}
use Rattle.std.specs.Option.{option_map_or}
use Rattle.std.proofs.lemmas.List.Elements.{Contains-append_left, Contains-append_right}
use Rattle.std.proofs.lemmas.Option.{slice_get-get_or}
use Rattle.yspec.specs.Forest.{Forest, end, node, preorder}
use Rattle.yspec.specs.schema.Breaks.{Break, broken, least_from, when}
use Rattle.yspec.specs.linking.Source.{Source}
use Rattle.yspec.specs.linking.Scopes.{Placed, statement_at}
use Rattle.yspec.specs.linking.Planned.{Plan, Planned, node_of, nodes_of}
use Rattle.yspec.specs.linking.NodeBreaks.{broken_in, is_foreign, must_be, row_below}
use Rattle.yspec_wide.specs.Guards.{is_let_add}
use Rattle.yspec_wide.specs.Language.{Language, is_yang_1, version_of}
use Rattle.yspec_wide.specs.Sources.{bears_when}
use Rattle.yspec_wide.specs.Operations.{is_in_operation}
use Rattle.yspec_wide.specs.Additions.{stands_itself, has_mandatory_standing, broken_unless_let, addition_breaks_in}
use Rattle.ybase_preorder.specs.Layout.{forest_of, numbered_by}
use Rattle.ybase_preorder.specs.View.{forest_in}
use Rattle.ybase_preorder.specs.declared.slot.Slot.{Slot}
use Rattle.ylink_grammar.specs.declared.source.Source as held
use Rattle.ylink_grammar.specs.SourceView.{source_view}
use Rattle.ylink_names.proofs.BelowLemmas.{source_at}
use Rattle.yschema_plan.specs.Needs.{has_mandatory_by, is_told, needs_below, stands_in}
use Rattle.yschema_plan.specs.PlanView.{view}
use Rattle.yschema_plan.specs.declared.plan.Plan as code
use Rattle.yschema_plan.proofs.NeedLemmas.{told_at}
use Rattle.yschema_resolve.specs.Standing.{TellsStanding, addition_breaks_outside, is_told_of}
use Rattle.yschema_resolve.proofs.GuardLemmas.{told_of}
use Rattle.yschema_types.proofs.TypeLemmas.{number_is}

told_in : Source → List Break
told_in s = broken 15 s.home s.statement.line

-- by the slot in which the statement lies
by_slot : (plan : Plan) (rows : List (Slot held.Source)) (n : ℕ) → numbered_by source_view 0 (forest_of rows) ≡ plan.modules
    → option_map_or told_in (option_map (λ (r : Slot held.Source). source_view n r.label) (slice_get rows n)) [] ≡ broken_in plan n
unfolding told_in
by_slot plan rows n are =
    ap (λ o. option_map_or told_in o []) (source_at rows n ∙ ap (λ modules. option_map (λ (p : Placed). p.source) (statement_at modules n)) are)
    ∙ by (statement_at plan.modules n)
  where
    by : (o : Option Placed) → option_map_or told_in (option_map (λ (p : Placed). p.source) o) []
        ≡ option_map_or (λ (p : Placed). broken 15 p.source.home p.source.statement.line) o []
    by None = refl
    by (Some p) = refl

pub nothing_told : (start : Option Break) (b : Bool) → start ≡ least_from start (when b [])
nothing_told start true = refl
nothing_told start false = refl

pub told_at_augment : (start : Option Break) (plan : Plan) (added : Option ℕ) (wrong : Bool) (rows : List (Slot held.Source)) (n : ℕ) (r : Slot held.Source)
    → numbered_by source_view 0 (forest_of rows) ≡ plan.modules → Some n ≡ added → slice_get rows n ≡ Some r
    → least_from start (when wrong (broken 15 r.label.home (source_view n r.label).statement.line))
    ≡ least_from start (when wrong (option_map_or (broken_in plan) added []))
unfolding told_in
told_at_augment start plan added wrong rows n r are is at =
    ap (λ bs. least_from start (when wrong bs))
    (sym (ap (λ o. option_map_or told_in (option_map (λ (x : Slot held.Source). source_view n x.label) o) []) at)
    ∙ (by_slot plan rows n are ∙ ap (λ o. option_map_or (broken_in plan) o []) is))

pub no_augment : (start : Option Break) (plan : Plan) (added : Option ℕ) (wrong : Bool) (rows : List (Slot held.Source)) (n : ℕ)
    → numbered_by source_view 0 (forest_of rows) ≡ plan.modules → Some n ≡ added → slice_get rows n ≡ None
    → start ≡ least_from start (when wrong (option_map_or (broken_in plan) added []))
unfolding told_in
no_augment start plan added wrong rows n are is at =
    nothing_told start wrong
    ∙ ap (λ bs. least_from start (when wrong bs))
    (sym (ap (λ o. option_map_or told_in (option_map (λ (x : Slot held.Source). source_view n x.label) o) []) at)
    ∙ (by_slot plan rows n are ∙ ap (λ o. option_map_or (broken_in plan) o []) is))

-- ---- at an `augment` that is let add it

pub let_off : (language : Language) (plan : Plan) (added : Option ℕ) (start : Option Break) (wrong : Bool)
    → option_map_or (is_let_add language plan) added false ≡ true
    → start ≡ least_from start (when wrong (option_map_or (broken_unless_let language plan) added []))
let_off language plan None start wrong is = absurd cc
let_off language plan (Some n) start wrong is = nothing_told start wrong
    ∙ sym (ap (λ b. least_from start (when wrong (cond b [] (broken_in plan n)))) is)

pub not_let : (language : Language) (plan : Plan) (added : Option ℕ) (start : Option Break) (wrong : Bool)
    → option_map_or (is_let_add language plan) added false ≡ false
    → least_from start (when wrong (option_map_or (broken_in plan) added []))
    ≡ least_from start (when wrong (option_map_or (broken_unless_let language plan) added []))
not_let language plan None start wrong is = refl
not_let language plan (Some n) start wrong is = sym (ap (λ b. least_from start (when wrong (cond b [] (broken_in plan n)))) is)

-- the version of a statement's module, by the slot in which the statement lies
pub first_at : (language : Language) (plan : Plan) (rows : List (Slot held.Source)) (n : ℕ) → numbered_by source_view 0 (forest_of rows) ≡ plan.modules
    → option_map_or (λ (r : Slot held.Source). is_yang_1 (version_of language plan.modules r.label.home)) (slice_get rows n) false
    ≡ option_map_or (λ (a : Placed). is_yang_1 (version_of language plan.modules a.source.home)) (statement_at plan.modules n) false
first_at language plan rows n are =
    of_slot (slice_get rows n)
    ∙ (ap (λ o. option_map_or first o false) (source_at rows n ∙ ap (λ modules. option_map (λ (p : Placed). p.source) (statement_at modules n)) are)
    ∙ of_placed (statement_at plan.modules n))
  where
    first : Source → Bool
    first s = is_yang_1 (version_of language plan.modules s.home)

    of_slot : (o : Option (Slot held.Source)) → option_map_or (λ (r : Slot held.Source). is_yang_1 (version_of language plan.modules r.label.home)) o false
        ≡ option_map_or first (option_map (λ (r : Slot held.Source). source_view n r.label) o) false
    of_slot None = refl
    of_slot (Some r) = refl

    of_placed : (o : Option Placed) → option_map_or first (option_map (λ (p : Placed). p.source) o) false
        ≡ option_map_or (λ (a : Placed). is_yang_1 (version_of language plan.modules a.source.home)) o false
    of_placed None = refl
    of_placed (Some p) = refl

-- it bears a `when` and isn't of YANG 1
pub let_by_both : (language : Language) (plan : Plan) (n : ℕ) (bears is_first : Bool)
    → bears ≡ option_map_or (λ (a : Placed). bears_when language a.below) (statement_at plan.modules n) false
    → is_first ≡ option_map_or (λ (a : Placed). is_yang_1 (version_of language plan.modules a.source.home)) (statement_at plan.modules n) false
    → (bears && not is_first) ≡ is_let_add language plan n
let_by_both language plan n bears is_first bears_is first_is =
    ap₂ (λ b f. b && not f) bears_is first_is ∙ by (statement_at plan.modules n)
  where
    by : (o : Option Placed) → (option_map_or (λ (a : Placed). bears_when language a.below) o false
        && not (option_map_or (λ (a : Placed). is_yang_1 (version_of language plan.modules a.source.home)) o false))
        ≡ option_map_or (λ (a : Placed). bears_when language a.below && not (is_yang_1 (version_of language plan.modules a.source.home))) o false
    by None = refl
    by (Some a) = refl

-- ---- all nodes

same_of_all : {A B : Type 0} (f g : A → List B) (xs : List A) → ((x : A) → Contains xs x → f x ≡ g x) → flat_map f xs ≡ flat_map g xs
same_of_all f g [] same = refl
same_of_all f g (x ∷ xs) same =
    ap₂ (λ ys zs. ys ++ zs) (same x (0, omega arith, refl)) (same_of_all f g xs (λ y at. same y (suc at.0, omega (arith, at.1), at.2)))

-- nodes that stand by what is told of each
needs_same : (first second : Planned → Bool) (f : Forest Planned) → ((p : Planned) → Contains (preorder f) p → first p ≡ second p)
    → (has_mandatory_by first f ≡ has_mandatory_by second f) × (needs_below first f ≡ needs_below second f)
needs_same first second end same = (refl, refl)
needs_same first second (node p below after) same =
    let others = preorder below ++ preorder after in
    let behind : (q : Planned) → Contains others q → first q ≡ second q = λ q at. same q (suc at.0, omega (arith, at.1), at.2) in
    let inside = needs_same first second below (λ q at. behind q (Contains-append_left (preorder below) (preorder after) q at)) in
    let later = needs_same first second after (λ q at. behind q (Contains-append_right (preorder below) (preorder after) q at)) in (
      ap₂ (λ b c. b || c) (ap₂ (λ own below. own && must_be p below) (same p (0, omega arith, refl)) inside.0) later.0,
      ap₂ (λ b bs. b ∷ bs) inside.0 (ap₂ (λ bs cs. bs ++ cs) inside.1 later.1),
    )

module _ (language : Language) (plan : Plan) where
  mandatory_is : (f : Forest Planned) → has_mandatory_by (stands_itself language plan) f ≡ has_mandatory_standing language plan f
  mandatory_is end = refl
  mandatory_is (node p below after) = ap₂ (λ inside later. (stands_itself language plan p && must_be p inside) || later)
      (mandatory_is below) (mandatory_is after)

pub breaks_same : (language : Language) (plan : code.Plan) (standing inside : List Bool) → TellsStanding standing language (view plan)
    → inside ≡ map (is_in_operation language (view plan)) (nodes_of (view plan))
    → flat_map (addition_breaks_outside language (stands_in standing) inside (view plan)) (nodes_of (view plan))
    ≡ flat_map (addition_breaks_in language (view plan)) (nodes_of (view plan))
breaks_same language plan standing inside tells inside_is =
    let v = view plan in
    let each : (p : Planned) → Contains (nodes_of v) p → stands_in standing p ≡ stands_itself language v p =
    λ p at.
    let there : slice_get (nodes_of v) at.0 ≡ Some p = slice_get-get_or (nodes_of v) at.0 p at.1 ∙ ap Some at.2 in
    ap (λ n. get_or standing n true) (number_is plan at.0 p there) ∙ tells at.0 p there in
    let needs = (needs_same (stands_in standing) (stands_itself language v) v.nodes each).1 in
    let below : (n : ℕ) → has_mandatory_by (stands_in standing) (row_below v n) ≡ has_mandatory_standing language v (row_below v n) =
    λ n. sym (told_at (stands_in standing) (forest_in plan.table) n) ∙ (ap (λ told. is_told told n) needs
    ∙ (told_at (stands_itself language v) (forest_in plan.table) n ∙ mandatory_is language v (row_below v n))) in
    let within : (p : Planned) → Contains (nodes_of v) p → is_told_of inside p ≡ is_in_operation language v p =
    λ p at. told_of inside (is_in_operation language v) plan inside_is at.0 p (slice_get-get_or (nodes_of v) at.0 p at.1 ∙ ap Some at.2) in
    same_of_all (addition_breaks_outside language (stands_in standing) inside v) (addition_breaks_in language v) (nodes_of v) (λ p at.
    ap₂ (λ b told. cond b [] told) (within p at)
    (ap₂ (λ own under. when (is_foreign p (option_and_then (node_of v) p.parent) && (p.config && (own && must_be p under)))
    (option_map_or (broken_unless_let language v) p.part.added_by [])) (each p at) (below p.number)))
