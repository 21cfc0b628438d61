-- The first data node of a row, with choices and cases passed through, as a walk finds it.
use Rattle.std.proofs.Common.{◌≡◌, ℕ, Bool, true, false, cond, Option, Some, None, refl, sym, ap, ◌∙◌}
use Rattle.std.specs.Prelude.{find}
use Rattle.yspec.specs.Forest.{Forest, node, end, row, first_of, join}
use Rattle.yspec.specs.schema.Schema.{SchemaNode, is_data, data_row, first_in_row}
use Rattle.yspec.proofs.BasicLemmas.{first_of_none}
use Rattle.yspec.proofs.SchemaProofs.NodeLemmas.{map_cond}

pub first_in_row-node : (test : SchemaNode → Bool) (l : SchemaNode) (below after : Forest SchemaNode)
    → first_in_row test (node l below after) ≡ cond (test l) (Some l.number) (first_in_row test after)
first_in_row-node test l below after = map_cond (λ n. n.number) (test l) (Some l) (find test (row after))

pub first_in_row-join : (test : SchemaNode → Bool) (f g : Forest SchemaNode) → first_in_row test (join f g) ≡ first_of (first_in_row test f) (first_in_row test g)
first_in_row-join test end g = refl
first_in_row-join test (node l below after) g =
    first_in_row-node test l below (join after g)
    ∙ (by (test l) (first_in_row-join test after g) ∙ ap (λ o. first_of o (first_in_row test g)) (sym (first_in_row-node test l below after)))
  where
    by : (b : Bool) → first_in_row test (join after g) ≡ first_of (first_in_row test after) (first_in_row test g)
        → cond b (Some l.number) (first_in_row test (join after g)) ≡ first_of (cond b (Some l.number) (first_in_row test after)) (first_in_row test g)
    by true h = refl
    by false h = h

-- a node alone: itself, or what stands in a choice or case
pub of_data : (test : SchemaNode → Bool) (l : SchemaNode) (below after : Forest SchemaNode) → is_data l.kind ≡ true
    → first_in_row test (data_row (node l below after)) ≡ cond (test l) (Some l.number) (first_in_row test (data_row after))
of_data test l below after is =
    ap (λ b. first_in_row test (cond b (node l below (data_row after)) (join (data_row below) (data_row after)))) is ∙ first_in_row-node test l below (data_row after)

pub of_passed : (test : SchemaNode → Bool) (l : SchemaNode) (below after : Forest SchemaNode) → is_data l.kind ≡ false
    → first_in_row test (data_row (node l below after)) ≡ first_of (first_in_row test (data_row below)) (first_in_row test (data_row after))
of_passed test l below after is =
    ap (λ b. first_in_row test (cond b (node l below (data_row after)) (join (data_row below) (data_row after)))) is ∙ first_in_row-join test (data_row below) (data_row after)

pub first_and_rest : (test : SchemaNode → Bool) (l : SchemaNode) (below after : Forest SchemaNode)
    → first_in_row test (data_row (node l below after)) ≡ first_of (first_in_row test (data_row (node l below end))) (first_in_row test (data_row after))
first_and_rest test l below after = by (is_data l.kind) refl
  where
    alone : (b : Bool) → cond b (Some l.number) (first_in_row test (data_row after)) ≡ first_of (cond b (Some l.number) None) (first_in_row test (data_row after))
    alone true = refl
    alone false = refl

    by : (b : Bool) → is_data l.kind ≡ b
        → first_in_row test (data_row (node l below after)) ≡ first_of (first_in_row test (data_row (node l below end))) (first_in_row test (data_row after))
    by true is = of_data test l below after is ∙ (alone (test l) ∙ ap (λ o. first_of o (first_in_row test (data_row after))) (sym (of_data test l below end is)))
    by false is = of_passed test l below after is
        ∙ ap (λ o. first_of o (first_in_row test (data_row after))) (sym (first_of_none (first_in_row test (data_row below))) ∙ sym (of_passed test l below end is))

-- ---- of the first node of a row

pub within_passed : (test : SchemaNode → Bool) (l : SchemaNode) (below : Forest SchemaNode) → is_data l.kind ≡ false
    → first_in_row test (data_row (node l below end)) ≡ first_in_row test (data_row below)
within_passed test l below is = of_passed test l below end is ∙ first_of_none (first_in_row test (data_row below))

pub found_first : (test : SchemaNode → Bool) (l : SchemaNode) (before below after : Forest SchemaNode) (number : ℕ) (whole : Option ℕ) → before ≡ node l below after
    → Some number ≡ first_in_row test (data_row (node l below end)) → first_in_row test (data_row before) ≡ whole → Some number ≡ whole
found_first test l before below after number whole is found so =
    ap (λ o. first_of o (first_in_row test (data_row after))) found
    ∙ (sym (first_and_rest test l below after) ∙ (ap (λ f. first_in_row test (data_row f)) (sym is) ∙ so))

pub found_later : (test : SchemaNode → Bool) (l : SchemaNode) (before below after : Forest SchemaNode) (whole : Option ℕ) → before ≡ node l below after
    → None ≡ first_in_row test (data_row (node l below end)) → first_in_row test (data_row before) ≡ whole → first_in_row test (data_row after) ≡ whole
found_later test l before below after whole is found so =
    ap (λ o. first_of o (first_in_row test (data_row after))) found
    ∙ (sym (first_and_rest test l below after) ∙ (ap (λ f. first_in_row test (data_row f)) (sym is) ∙ so))
