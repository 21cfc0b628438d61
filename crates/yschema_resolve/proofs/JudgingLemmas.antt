-- Rules that are judged one after another, and nodes one after another.
use Rattle.std.proofs.Common.{◌≡◌, List, [], ◌∷◌, ◌++◌, length, Option, Some, refl, sym, ap, ◌∙◌}
use Rattle.std.specs.Prelude.{slice_get}
use Rattle.std.specs.List.{flat_map}
use Rattle.std.proofs.lemmas.List.{append_assoc}
use Rattle.yspec.specs.schema.Breaks.{Break, least_from}
use Rattle.yspec.proofs.SchemaProofs.LeastLemmas.{least_of_both}
use Rattle.yspec.specs.linking.Planned.{Planned, nodes_of}
use Rattle.yschema_plan.specs.PlanView.{view}
use Rattle.yschema_plan.specs.declared.plan.Plan.{Plan}
use Rattle.yschema_types.proofs.TypeLemmas.{number_is}

pub six_told : (start first second third fourth fifth last : Option Break) (a b c d e f : List Break)
    → first ≡ least_from start a → second ≡ least_from first b → third ≡ least_from second c → fourth ≡ least_from third d
    → fifth ≡ least_from fourth e → last ≡ least_from fifth f → last ≡ least_from start (a ++ (b ++ (c ++ (d ++ (e ++ f)))))
six_told start first second third fourth fifth last a b c d e f first_is second_is third_is fourth_is fifth_is last_is =
    joined fourth fifth last e f fifth_is last_is ∙ joined_after third fourth d (e ++ f) fourth_is
    ∙ (joined_after second third c (d ++ (e ++ f)) third_is ∙ (joined_after first second b (c ++ (d ++ (e ++ f))) second_is
    ∙ joined_after start first a (b ++ (c ++ (d ++ (e ++ f)))) first_is))
  where
    joined_after : (before now : Option Break) (xs ys : List Break) → now ≡ least_from before xs → least_from now ys ≡ least_from before (xs ++ ys)
    joined_after before now xs ys is = ap (λ t. least_from t ys) is ∙ sym (least_of_both before xs ys)

    joined : (before now next : Option Break) (xs ys : List Break) → now ≡ least_from before xs → next ≡ least_from now ys → next ≡ least_from before (xs ++ ys)
    joined before now next xs ys is next_is = next_is ∙ joined_after before now xs ys is

-- one node more
pub next_judged : (breaks : Planned → List Break) (told next : Option Break) (p : Planned) (before rest : List Planned) (whole : Option Break)
    → before ≡ p ∷ rest → next ≡ least_from told (breaks p)
    → least_from told (flat_map breaks before) ≡ whole → least_from next (flat_map breaks rest) ≡ whole
next_judged breaks told next p before rest whole first is so =
    ap (λ t. least_from t (flat_map breaks rest)) is
    ∙ (sym (least_of_both told (breaks p) (flat_map breaks rest)) ∙ (sym (ap (λ ps. least_from told (flat_map breaks ps)) first) ∙ so))

-- the first of those that are left stands at its number
at_length : {X : Type 0} (done rest : List X) (x : X) → slice_get (done ++ x ∷ rest) (length done) ≡ Some x
at_length [] rest x = refl
at_length (y ∷ ys) rest x = at_length ys rest x

pub first_stands : (plan : Plan) (done before rest : List Planned) (p : Planned) → before ≡ p ∷ rest → done ++ before ≡ nodes_of (view plan)
    → slice_get (nodes_of (view plan)) p.number ≡ Some p
first_stands plan done before rest p first whole =
    let here : slice_get (nodes_of (view plan)) (length done) ≡ Some p =
    ap (λ ps. slice_get ps (length done)) (sym whole ∙ ap (λ ps. done ++ ps) first) ∙ at_length done rest p in
    ap (slice_get (nodes_of (view plan))) (number_is plan (length done) p here) ∙ here

pub one_done : {X : Type 0} (done before rest all : List X) (x : X) → before ≡ x ∷ rest → done ++ before ≡ all → (done ++ x ∷ []) ++ rest ≡ all
one_done done before rest all x first whole = append_assoc done (x ∷ []) rest ∙ (sym (ap (λ xs. done ++ xs) first) ∙ whole)
