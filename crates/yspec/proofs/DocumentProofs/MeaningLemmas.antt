-- What a name means, from the child that is written so.
use Rattle.std.proofs.Common.{◌≡◌, ℕ, Bool, true, false, cond, ◌||◌, Option, Some, None, refl, sym, ap, ap₂, ◌∙◌}
use Rattle.std.specs.Prelude.{option_map, unwrap_or}
use Rattle.std.specs.List.{list_any}
use Rattle.yspec.specs.Forest.{Forest, node, end, row}
use Rattle.yspec.specs.text.Text.{Text, is_text}
use Rattle.yspec.specs.schema.Schema.{Schema, SchemaNode, written_name, other_name, is_written, data_row, row_at, module_at, node_at, children_of, child_written}
use Rattle.yspec.specs.document.Reading.{child, other_form, unknown, named, named_in, other_or}
use Rattle.yspec.specs.document.Fitting.{IsNumbered}
use Rattle.yspec.proofs.SchemaProofs.NodeLemmas.{Found, first_found, first_in_row-is, data_row_node}

pub named_child : (s : Schema) (m : Option ℕ) (name : Text) (f : Forest SchemaNode) (x : Found)
    → first_found (λ n. is_text name (written_name s m n)) f ≡ Some x → named_in s m name f ≡ child x.0 x.1
named_child s m name end x e = absurd cc
named_child s m name (node n below after) x e = by (is_text name (written_name s m n)) e (named_child s m name after x)
  where
    by : (b : Bool) → cond b (Some (n, below)) (first_found (λ n. is_text name (written_name s m n)) after) ≡ Some x
        → (first_found (λ n. is_text name (written_name s m n)) after ≡ Some x → named_in s m name after ≡ child x.0 x.1)
        → cond b (child n below) (other_or (is_text name (other_name s m n)) (named_in s m name after)) ≡ child x.0 x.1
    by true e h = ap (λ (o : Option Found). child (unwrap_or o x).0 (unwrap_or o x).1) e
    by false e h = ap (other_or (is_text name (other_name s m n))) (h e)

pub named_none : (s : Schema) (m : Option ℕ) (name : Text) (f : Forest SchemaNode)
    → first_found (λ n. is_text name (written_name s m n)) f ≡ None
    → named_in s m name f ≡ cond (list_any (λ n. is_text name (other_name s m n)) (row f)) other_form unknown
named_none s m name end e = refl
named_none s m name (node n below after) e = by (is_text name (written_name s m n)) e (named_none s m name after)
  where
    either : (b c : Bool) → other_or b (cond c other_form unknown) ≡ cond (b || c) other_form unknown
    either true true = refl
    either true false = refl
    either false c = same c
      where
        same : (c : Bool) → other_or false (cond c other_form unknown) ≡ cond c other_form unknown
        same true = refl
        same false = refl

    by : (b : Bool) → cond b (Some (n, below)) (first_found (λ n. is_text name (written_name s m n)) after) ≡ None
        → (first_found (λ n. is_text name (written_name s m n)) after ≡ None
        → named_in s m name after ≡ cond (list_any (λ n. is_text name (other_name s m n)) (row after)) other_form unknown)
        → cond b (child n below) (other_or (is_text name (other_name s m n)) (named_in s m name after))
        ≡ cond (is_text name (other_name s m n) || list_any (λ n. is_text name (other_name s m n)) (row after)) other_form unknown
    by true e h = absurd cc
    by false e h = ap (other_or (is_text name (other_name s m n))) (h e) ∙ either (is_text name (other_name s m n)) (list_any (λ n. is_text name (other_name s m n)) (row after))

-- the child that is written so is what the name means
pub means_child : (schema : Schema) (p : Option ℕ) (name : Text) (i : ℕ) → IsNumbered 0 schema.nodes → Some i ≡ child_written schema p name
    → option_map (λ n. child n (children_of schema i)) (node_at schema i) ≡ Some (named schema (module_at schema p) name (row_at schema p))
means_child schema p name i numbered e =
    by (first_found (is_written schema p name) (data_row (row_at schema p))) refl (e ∙ first_in_row-is (is_written schema p name) (data_row (row_at schema p)))
  where
    by : (o : Option Found) → first_found (is_written schema p name) (data_row (row_at schema p)) ≡ o → Some i ≡ option_map (λ x. x.0.number) o
        → option_map (λ n. child n (children_of schema i)) (node_at schema i) ≡ Some (named schema (module_at schema p) name (row_at schema p))
    by None is e = absurd cc
    by (Some x) is e =
        let at = data_row_node schema p (is_written schema p name) x numbered is in
        let number : i ≡ x.0.number = ap (λ o. unwrap_or o i) e in
        ap (λ j. option_map (λ n. child n (children_of schema j)) (node_at schema j)) number
        ∙ (ap₂ (λ f o. option_map (λ n. child n f) o) at.1 at.0
        ∙ ap Some (sym (named_child schema (module_at schema p) name (data_row (row_at schema p)) x is)))

-- where no child is written so
pub means_none : (s : Schema) (p : Option ℕ) (name : Text) (is_other : Bool) → None ≡ child_written s p name
    → is_other ≡ list_any (λ n. is_text name (other_name s (module_at s p) n)) (row (data_row (row_at s p)))
    → named s (module_at s p) name (row_at s p) ≡ cond is_other other_form unknown
means_none s p name is_other e is =
    named_none s (module_at s p) name (data_row (row_at s p))
    (nothing (first_found (is_written s p name) (data_row (row_at s p))) (e ∙ first_in_row-is (is_written s p name) (data_row (row_at s p))))
    ∙ ap (λ b. cond b other_form unknown) (sym is)
  where
    nothing : (o : Option Found) → None ≡ option_map (λ x. x.0.number) o → o ≡ None
    nothing None e = refl
    nothing (Some x) e = absurd cc
