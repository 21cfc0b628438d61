-- The data nodes of a row, with choices and cases passed through, as a walk adds them; and the last of some steps.
use Rattle.std.proofs.Common.{◌≡◌, Result, OnOk, subst, Bool, true, false, cond, List, [], ◌∷◌, ◌++◌, Option, Some, None, refl, sym, ap, ◌∙◌, append_assoc, append-nil, map}
use Rattle.std.proofs.lemmas.List.{map-append}
use Rattle.std.specs.List.{last_or}
use Rattle.yspec.specs.Forest.{Forest, end, node, row, join}
use Rattle.yspec.specs.schema.Schema.{SchemaNode, is_data, data_row}
use Rattle.yspec.specs.document.Document.{Step}
use Rattle.yschema_model.specs.View.{label_of, below_of}
use Rattle.yschema_model.specs.declared.children.Child.{Child}
use Rattle.yinst_tree.specs.View.{place_view, step_view}
use Rattle.yinst_tree.specs.declared.tree.Step as code
use Rattle.yspec.proofs.ForestLemmas.{join_end}
use Rattle.ysay_refusal.specs.Place.{last_step}

-- ---- rows

row_joined : (f g : Forest SchemaNode) → row (join f g) ≡ row f ++ row g
row_joined end g = refl
row_joined (node n below after) g = ap (λ (ns : List SchemaNode). n ∷ ns) (row_joined after g)

-- those of the first node of a row, and of the others
first_and_rest : (n : SchemaNode) (below after : Forest SchemaNode)
    → row (data_row (node n below after)) ≡ row (data_row (node n below end)) ++ row (data_row after)
first_and_rest n below after = by (is_data n.kind)
  where
    by : (b : Bool) → row (cond b (node n below (data_row after)) (join (data_row below) (data_row after)))
        ≡ row (cond b (node n below end) (join (data_row below) end)) ++ row (data_row after)
    by true = refl
    by false = row_joined (data_row below) (data_row after) ∙ ap (λ f. row f ++ row (data_row after)) (sym (join_end (data_row below)))

-- those of a choice or case
passed : (n : SchemaNode) (below : Forest SchemaNode) → is_data n.kind ≡ false → row (data_row (node n below end)) ≡ row (data_row below)
passed n below is = ap (λ b. row (cond b (node n below end) (join (data_row below) end))) is ∙ ap row (join_end (data_row below))

itself : (n : SchemaNode) (below : Forest SchemaNode) → is_data n.kind ≡ true → row (data_row (node n below end)) ≡ n ∷ []
itself n below is = ap (λ b. row (cond b (node n below end) (join (data_row below) end))) is

-- once those of the first node are added, those of the others are left
pub goes_on : (n : SchemaNode) (before below after : Forest SchemaNode) (done later whole : List SchemaNode) → before ≡ node n below after
    → later ≡ done ++ row (data_row (node n below end)) → done ++ row (data_row before) ≡ whole → later ++ row (data_row after) ≡ whole
goes_on n before below after done later whole is added so =
    ap (λ ns. ns ++ row (data_row after)) added
    ∙ (append_assoc done (row (data_row (node n below end))) (row (data_row after))
    ∙ (ap (λ ns. done ++ ns) (sym (ap (λ f. row (data_row f)) is ∙ first_and_rest n below after)) ∙ so))

-- all are added where none is left
pub all_added : (before : Forest SchemaNode) (done whole : List SchemaNode) → before ≡ end → done ++ row (data_row before) ≡ whole → done ≡ whole
all_added before done whole is so = sym (append-nil done) ∙ (ap (λ f. done ++ row (data_row f)) (sym is) ∙ so)

pub pushed : (old new : List Child) (child : Child) → new ≡ old ++ child ∷ [] → is_data (label_of child).kind ≡ true
    → map label_of new ≡ map label_of old ++ row (data_row (node (label_of child) (below_of child) end))
pushed old new child is stands =
    ap (map label_of) is ∙ (map-append label_of old (child ∷ []) ∙ ap (λ ns. map label_of old ++ ns) (sym (itself (label_of child) (below_of child) stands)))

-- what is added of a choice or case is added of what stands in it
pub passed_on : {X E : Type 0} (r : Result X E) (later done : List SchemaNode) (n : SchemaNode) (below inner : Forest SchemaNode)
    → is_data n.kind ≡ false → inner ≡ below → OnOk r (later ≡ done ++ row (data_row inner)) → OnOk r (later ≡ done ++ row (data_row (node n below end)))
passed_on r later done n below inner is same h = subst (λ (ns : List SchemaNode). OnOk r (later ≡ done ++ ns)) (ap (λ f. row (data_row f)) same ∙ sym (passed n below is)) h

-- ---- the last of some steps

last_behind : (first : Option Step) (above : List Step) (step : Step) → last_or first (above ++ step ∷ []) ≡ Some step
last_behind first [] step = refl
last_behind first (x ∷ xs) step = last_behind (Some x) xs step

pub last_seen : (steps above : List code.Step) (step : code.Step) → steps ≡ above ++ step ∷ [] → Some (step_view step) ≡ last_step (place_view steps)
last_seen steps above step is =
    sym (ap (λ (ss : List code.Step). last_step (place_view ss)) is
    ∙ (ap last_step (map-append step_view above (step ∷ [])) ∙ last_behind None (place_view above) (step_view step)))
