-- What an index finds of planned nodes, once one more is added.
use Rattle.std.proofs.Common.{◌≡◌, ℕ, suc, ◌+◌, ◌<◌, ◌≤◌, length, map, get_or, arith, Bool, true, false, cond, List, [], ◌∷◌, ◌++◌, Option, Some, None, refl, sym, ap, ap₂, ◌∙◌}
use Rattle.std.specs.Prelude.{find, option_map, slice_get, unwrap_or}
use Rattle.std.proofs.lemmas.Option.{slice_get-get_or, slice_get-map}
use Rattle.std.specs.Borrow.{Bor}
use Rattle.yspec.specs.Forest.{first_of}
use Rattle.yspec.specs.text.Text.{Text}
use Rattle.yspec.specs.linking.Planned.{Planned}
use Rattle.yspec.specs.linking.SchemaNodes.{number_in}
use Rattle.yspec.specs.linking.Source.{argument_in}
use Rattle.ybase_preorder.specs.Layout.{labels_by}
use Rattle.ybase_preorder.specs.declared.slot.Slot.{Slot}
use Rattle.ybase_index.specs.Names.{is_at, text_in}
use Rattle.ybase_index.specs.declared.keys.Among.{Among}
use Rattle.ybase_index.specs.declared.keys.Among.TheVariants.{Children, Scope, DataNodes}
use Rattle.yschema_plan.specs.PlannedView.{planned_view}
use Rattle.yschema_plan.specs.Finding.{indexed, is_found, name_of, row_name}
use Rattle.yschema_plan.specs.declared.planned.Planned as code

find_last : (test : Planned → Bool) (ps : List Planned) (p : Planned)
    → option_map number_in (find test (ps ++ p ∷ [])) ≡ first_of (option_map number_in (find test ps)) (cond (test p) (Some p.number) None)
find_last test [] p = by (test p)
  where
    by : (b : Bool) → option_map number_in (cond b (Some p) None) ≡ cond b (Some p.number) None
    by true = refl
    by false = refl
find_last test (q ∷ ps) p = by (test q) (find_last test ps p)
  where
    by : (b : Bool) → option_map number_in (find test (ps ++ p ∷ [])) ≡ first_of (option_map number_in (find test ps)) (cond (test p) (Some p.number) None)
        → option_map number_in (cond b (Some q) (find test (ps ++ p ∷ []))) ≡ first_of (option_map number_in (cond b (Some q) (find test ps))) (cond (test p) (Some p.number) None)
    by true h = refl
    by false h = h

at_is : (among : Among) (above : Option ℕ) (m : ℕ) (t : Text) (p : Planned) → is_at among above m t (indexed p) (argument_in p.part.source) ≡ is_found among above m t p
at_is Children above m t p = refl
at_is Scope above m t p = refl
at_is DataNodes above m t p = refl

pub node_added : (among : Among) (above : Option ℕ) (m : ℕ) (t : Text) (ps : List Planned) (p : Planned) (before after : Option ℕ)
    → after ≡ first_of before (cond (is_at among above m t (indexed p) (argument_in p.part.source)) (Some p.number) None)
    → before ≡ option_map number_in (find (is_found among above m t) ps) → after ≡ option_map number_in (find (is_found among above m t) (ps ++ p ∷ []))
node_added among above m t ps p before after added was =
    added ∙ (ap₂ (λ (o : Option ℕ) (b : Bool). first_of o (cond b (Some p.number) None)) was (at_is among above m t p) ∙ sym (find_last (is_found among above m t) ps p))

-- ---- names

pub row_names : (k : ℕ) (rows : List (Slot code.Planned)) → map row_name rows ≡ map name_of (labels_by planned_view k rows)
row_names k [] = refl
row_names k (r ∷ rows) = ap (λ names. row_name r ∷ names) (row_names (k + 1) rows)

pub count_of_names : (k : ℕ) (rows : List (Slot code.Planned)) → length (map name_of (labels_by planned_view k rows)) ≡ length rows
count_of_names k [] = refl
count_of_names k (r ∷ rows) = ap suc (count_of_names (k + 1) rows)

-- the name of the node of a number
pub name_there : (rows : List (Slot code.Planned)) (i : ℕ) (r : Slot code.Planned) → suc i ≤ length rows → r ≡ get_or rows i r
    → text_in (map name_of (labels_by planned_view 0 rows)) i ≡ row_name r
name_there rows i r within is =
    let inside : i < length rows = omega arith in
    let there : slice_get rows i ≡ Some r = slice_get-get_or rows i r inside ∙ ap Some (sym is) in
    ap (λ names. unwrap_or (slice_get names i) []) (sym (row_names 0 rows))
    ∙ (ap (λ o. unwrap_or o []) (slice_get-map row_name rows i) ∙ ap (λ o. unwrap_or (option_map row_name o) []) there)

pub count_of_texts : (texts : List (Bor Text)) → length (map (λ t. t.now) texts) ≡ length texts
count_of_texts [] = refl
count_of_texts (t ∷ texts) = ap suc (count_of_texts texts)
