-- What is left of a document without its state data fits what is asked of configuration.
use Rattle.std.proofs.Common.{◌≡◌, ℕ, suc, ◌≤◌, ◌+◌, Bool, true, false, cond, eqb, List, ◌++◌, Option, Some, None, refl, sym, ap, ap₂, ◌∙◌, subst, arith}
use Rattle.std.specs.Prelude.{option_map}
use Rattle.yspec.specs.Forest.{Forest, end, node, relabelled, size}
use Rattle.yspec.specs.types.Types.{Raw}
use Rattle.yspec.specs.schema.Schema.{Schema, SchemaNode, Kind, container, leaf, leaf_list, list, choice, case, is_many, has_value, data_row, child_in, form_in}
use Rattle.yspec.specs.schema.Configuration.{unasked, asked_node, configuration_schema}
use Rattle.yspec.specs.document.Document.{Stored, Tree}
use Rattle.yspec.specs.document.Fault.{Fault}
use Rattle.yspec.specs.document.Faults.{faults_of}
use Rattle.yspec.specs.document.Fitting.{Fits, FitsBy, next_after}
use Rattle.yspec.specs.document.StateData.{Inspected, inspected, is_state, configuration_tree, state_faults}
use Rattle.yspec.specs.document.Writing.{HasForm, HasTextIf, IsDocument}
use Rattle.yspec.proofs.DocumentProofs.SortingLemmas.{child_number, fits_sooner, not_before}
use Rattle.yspec_fit.proofs.ConfigurationLemmas as json_form
use Rattle.yspec_fit.proofs.ConfigurationLemmas.{data_row_kept, kept_by, value_kept}

-- ---- rows

many_kept : (n : SchemaNode) → is_many (asked_node n).kind ≡ is_many n.kind
many_kept n = kept_by is_many by n
  where
    by : (k : Kind) → is_many (unasked k) ≡ is_many k
    by (container presence) = refl
    by (leaf type absence) = refl
    by (leaf_list type defaults amount) = refl
    by (list tuples amount) = refl
    by (choice default_case is_mandatory) = refl
    by case = refl

next_kept : (n : SchemaNode) → next_after (asked_node n) ≡ next_after n
next_kept n = ap (λ b. cond b n.number (suc n.number)) (many_kept n)

abbrev asked_found : SchemaNode × Forest SchemaNode → SchemaNode × Forest SchemaNode
asked_found found = (asked_node found.0, relabelled asked_node found.1)

child_kept : (f : Forest SchemaNode) (number : ℕ) → child_in (relabelled asked_node f) number ≡ option_map asked_found (child_in f number)
child_kept end number = refl
child_kept (node n below after) number = by (eqb n.number number) (child_kept after number)
  where
    by : (b : Bool) → child_in (relabelled asked_node after) number ≡ option_map asked_found (child_in after number)
        → cond b (Some (asked_found (n, below))) (child_in (relabelled asked_node after) number)
        ≡ option_map asked_found (cond b (Some (n, below)) (child_in after number))
    by true rest = refl
    by false rest = rest

-- ---- fits

module _ (s : Schema) (Held : SchemaNode → Option Raw → Type 0) (held : (n : SchemaNode) (value : Option Raw) → Held n value → Held (asked_node n) value) where
  pub configuration_fits : (f : Forest SchemaNode) (least : ℕ) (t : Tree) → FitsBy Held f least t
      → FitsBy Held (relabelled asked_node f) least (configuration_tree s t)
  configuration_fits f least end fits = tt
  configuration_fits f least (node l below after) fits = by (is_state s l.schema_number)
      (configuration_fits f (next_after fits.0.0) after fits.5) (configuration_fits fits.0.1 0 below fits.4)
    where
      found : child_in (data_row (relabelled asked_node f)) l.schema_number ≡ Some (asked_found fits.0)
      found = ap (λ g. child_in g l.schema_number) (data_row_kept f)
          ∙ (child_kept (data_row f) l.schema_number ∙ ap (option_map asked_found) fits.1)

      by : (b : Bool) → FitsBy Held (relabelled asked_node f) (next_after fits.0.0) (configuration_tree s after)
          → FitsBy Held (relabelled asked_node fits.0.1) 0 (configuration_tree s below)
          → FitsBy Held (relabelled asked_node f) least
          (cond b (configuration_tree s after) (node l (configuration_tree s below) (configuration_tree s after)))
      by true rest inner = fits_sooner Held (relabelled asked_node f) (configuration_tree s after) least (next_after fits.0.0)
          (omega (arith, fits.2, child_number (data_row f) l.schema_number fits.0 fits.1, not_before fits.0.0)) rest
      by false rest inner = (
        asked_found fits.0,
        found,
        fits.2,
        held fits.0.0 l.value fits.3,
        inner,
        subst (λ k. FitsBy Held (relabelled asked_node f) k (configuration_tree s after)) (sym (next_kept fits.0.0)) rest,
      )

-- values of a document stay such
pub form_kept : (n : SchemaNode) (value : Option Raw) → HasForm n value → HasForm (asked_node n) value
form_kept n value has = subst (λ form. HasTextIf (has_value (asked_node n).kind) form value) (sym (json_form.form_kept n))
    (subst (λ b. HasTextIf b (form_in n.kind) value) (sym (value_kept n)) has)

pub configuration_size : (s : Schema) (t : Tree) → size (configuration_tree s t) ≤ size t
configuration_size s end = omega arith
configuration_size s (node l below after) = by (is_state s l.schema_number) (configuration_size s below) (configuration_size s after)
  where
    by : (b : Bool) → size (configuration_tree s below) ≤ size below → size (configuration_tree s after) ≤ size after
        → size (cond b (configuration_tree s after) (node l (configuration_tree s below) (configuration_tree s after))) ≤ suc (size below + size after)
    by true inner rest = omega (arith, rest)
    by false inner rest = omega (arith, inner, rest)

-- ---- what is looked at

module _ (s s' : Schema) (t t' : Tree) (schema_is : s' ≡ configuration_schema s) (tree_is : t' ≡ configuration_tree s t) where
  left_by : (Held : SchemaNode → Option Raw → Type 0) → ((n : SchemaNode) (value : Option Raw) → Held n value → Held (asked_node n) value)
      → FitsBy Held s.nodes 0 t → FitsBy Held s'.nodes 0 t'
  left_by Held held fits = subst (λ (x : Schema). FitsBy Held x.nodes 0 t') (sym schema_is)
      (subst (FitsBy Held (configuration_schema s).nodes 0) (sym tree_is) (configuration_fits s Held held s.nodes 0 t fits))

  pub left_fits : Fits s t → Fits s' t'
  left_fits fits = left_by (λ n value. Unit {0}) (λ n value held. tt) fits

  pub left_whole : IsDocument s t → IsDocument s' t'
  left_whole whole = left_by HasForm form_kept whole

  pub left_within : size t' ≤ size t
  left_within = subst (λ (u : Tree). size u ≤ size t) (sym tree_is) (configuration_size s t)

  pub alone_is : (state found all : List Fault) → state ≡ state_faults s t → found ≡ faults_of s' t' → all ≡ state ++ found
      → record { schema = s'; tree = t'; faults = all } ≡ inspected true s t
  alone_is state found all state_is found_is all_is =
      ap (λ fs. made s' t' fs) (all_is ∙ ap₂ (λ (xs ys : List Fault). xs ++ ys) state_is found_is)
      ∙ (ap (λ x. made x t' (state_faults s t ++ faults_of x t')) schema_is
      ∙ ap (λ u. made (configuration_schema s) u (state_faults s t ++ faults_of (configuration_schema s) u)) tree_is)
    where
      made : Schema → Tree → List Fault → Inspected
      made x u fs = record { schema = x; tree = u; faults = fs }

pub whole_is : (s : Schema) (t : Tree) (found : List Fault) (of_configuration : Bool) → of_configuration ≡ false → found ≡ faults_of s t
    → record { schema = s; tree = t; faults = found } ≡ inspected of_configuration s t
whole_is s t found of_configuration all found_is =
    ap (λ (fs : List Fault). record { schema = s; tree = t; faults = fs }) found_is ∙ sym (ap (λ b. inspected b s t) all)
