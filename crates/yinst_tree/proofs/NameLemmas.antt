-- Names in the form that isn't due, in a row of schema nodes.
use Rattle.std.proofs.Common.{◌≡◌, Result, IfOk, subst, Bool, true, false, cond, ◌||◌, refl, sym, ap, ◌∙◌}
use Rattle.std.specs.List.{list_any}
use Rattle.yspec.specs.Forest.{Forest, end, node, row, join}
use Rattle.yspec.specs.schema.Schema.{SchemaNode, is_data, data_row}
use Rattle.yspec.proofs.ForestLemmas.{join_end}

either : (a b c : Bool) → (a || (b || c)) ≡ ((a || b) || c)
either true b c = refl
either false b c = refl

or_false : (b : Bool) → (b || false) ≡ b
or_false true = refl
or_false false = refl

any_joined : (test : SchemaNode → Bool) (f g : Forest SchemaNode) → list_any test (row (join f g)) ≡ (list_any test (row f) || list_any test (row g))
any_joined test end g = refl
any_joined test (node n below after) g =
    ap (λ b. test n || b) (any_joined test after g) ∙ either (test n) (list_any test (row after)) (list_any test (row g))

-- of the first node of a row, and of the others
any_first : (test : SchemaNode → Bool) (n : SchemaNode) (below after : Forest SchemaNode)
    → list_any test (row (data_row (node n below after))) ≡ (list_any test (row (data_row (node n below end))) || list_any test (row (data_row after)))
any_first test n below after = by (is_data n.kind)
  where
    by : (b : Bool) → list_any test (row (cond b (node n below (data_row after)) (join (data_row below) (data_row after))))
        ≡ (list_any test (row (cond b (node n below end) (join (data_row below) end))) || list_any test (row (data_row after)))
    by true = ap (λ b. b || list_any test (row (data_row after))) (sym (or_false (test n)))
    by false = any_joined test (data_row below) (data_row after)
        ∙ ap (λ f. list_any test (row f) || list_any test (row (data_row after))) (sym (join_end (data_row below)))

pub any_within : (test : SchemaNode → Bool) (n : SchemaNode) (below : Forest SchemaNode) → is_data n.kind ≡ false
    → list_any test (row (data_row (node n below end))) ≡ list_any test (row (data_row below))
any_within test n below is = ap (λ b. list_any test (row (cond b (node n below end) (join (data_row below) end)))) is
    ∙ ap (λ f. list_any test (row f)) (join_end (data_row below))

-- one of the first node
pub any_found : (test : SchemaNode → Bool) (n : SchemaNode) (before below after : Forest SchemaNode) (whole : Bool) → before ≡ node n below after
    → true ≡ list_any test (row (data_row (node n below end))) → list_any test (row (data_row before)) ≡ whole → true ≡ whole
any_found test n before below after whole is found so =
    ap (λ b. b || list_any test (row (data_row after))) found
    ∙ (sym (any_first test n below after) ∙ (ap (λ f. list_any test (row (data_row f))) (sym is) ∙ so))

-- none of the first node
pub any_later : (test : SchemaNode → Bool) (n : SchemaNode) (before below after : Forest SchemaNode) (whole : Bool) → before ≡ node n below after
    → false ≡ list_any test (row (data_row (node n below end))) → list_any test (row (data_row before)) ≡ whole → list_any test (row (data_row after)) ≡ whole
any_later test n before below after whole is found so =
    ap (λ b. b || list_any test (row (data_row after))) found
    ∙ (sym (any_first test n below after) ∙ (ap (λ f. list_any test (row (data_row f))) (sym is) ∙ so))

pub told_if_ok : {E : Type 0} (r : Result Bool E) (a b : Bool) → b ≡ a → IfOk r (λ x. x ≡ a) → IfOk r (λ x. x ≡ b)
told_if_ok r a b is h = subst (λ (y : Bool). IfOk r (λ x. x ≡ y)) (sym is) h
