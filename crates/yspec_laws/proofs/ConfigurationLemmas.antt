-- Under a schema without state nothing is left out of a document, and nothing is told of state.
use Rattle.std.proofs.Common.{◌≡◌, ℕ, ◌≤◌, ◌+◌, Bool, true, false, cond, not, List, [], ◌∷◌, ◌++◌, Option, Some, None, refl, sym, ap, ap₂, ◌∙◌, arith}
use Rattle.std.specs.Prelude.{◌↔◌, ◌==◌, ◌&&◌}
use Rattle.std.specs.List.{list_all}
use Rattle.std.specs.Option.{option_map_or}
use Rattle.std.proofs.lemmas.Bool.{and_parts, false≢true}
use Rattle.std.proofs.lemmas.Bool.Decides.{Decides-eqb}
use Rattle.std.proofs.lemmas.List.Folds.{list_all-append}
use Rattle.yspec.specs.Forest.{Forest, end, node, size, preorder, relabelled, find_label, first_of}
use Rattle.yspec.specs.schema.Schema.{Schema, SchemaNode}
use Rattle.yspec.specs.schema.Configuration.{asked_node, configuration_schema, unasked}
use Rattle.yspec.specs.document.Document.{Tree, Stored, Step, step_at, step_to}
use Rattle.yspec.specs.document.Fault.{Fault, plain_fault}
use Rattle.yspec.specs.document.FaultCode.{V12}
use Rattle.yspec.specs.document.Faults.{faults_of}
use Rattle.yspec.specs.document.StateData.{inspected, is_state, configuration_tree, state_faults, state_faults_in, state_told, step_behind, position_behind, is_many_at}
use Rattle.yspec.proofs.LinkingProofs.BreakLemmas.{none_first, none_second}
use Rattle.yspec_laws.specs.Stateless.{HasNoState}

-- ---- a schema without state

abbrev AreConfig : Forest SchemaNode → Type 0
AreConfig f = list_all (λ n. n.config) (preorder f) ≡ true

record Parts (n : SchemaNode) (below after : Forest SchemaNode) : Type 0 where
  own : n.config ≡ true
  inner : AreConfig below
  rest : AreConfig after

parts : (n : SchemaNode) (below after : Forest SchemaNode) → AreConfig (node n below after) → Parts n below after
parts n below after all =
    let first = and_parts n.config (list_all (λ n. n.config) (preorder below ++ preorder after)) all in
    let others = and_parts (list_all (λ n. n.config) (preorder below)) (list_all (λ n. n.config) (preorder after))
    (sym (list_all-append (λ n. n.config) (preorder below) (preorder after)) ∙ first.1) in
    record { own = first.0; inner = others.0; rest = others.1 }

all_asked : (f : Forest SchemaNode) → AreConfig f → relabelled asked_node f ≡ f
all_asked end all = refl
all_asked (node n below after) all =
    let p = parts n below after all in
    ap (λ b. node (record n { distinct_items = b && n.distinct_items; kind = cond b n.kind (unasked n.kind) }) (relabelled asked_node below) (relabelled asked_node after)) p.own
    ∙ ap₂ (λ x y. node n x y) (all_asked below p.inner) (all_asked after p.rest)

none_found : (test : SchemaNode → Bool) (f : Forest SchemaNode) → AreConfig f
    → option_map_or (λ n. not n.config) (find_label test f) false ≡ false
none_found test end all = refl
none_found test (node n below after) all =
    let p = parts n below after all in
    by (test n) p.own (behind (find_label test below) (none_found test below p.inner) (none_found test after p.rest))
  where
    behind : (o : Option SchemaNode) → option_map_or (λ n. not n.config) o false ≡ false
        → option_map_or (λ n. not n.config) (find_label test after) false ≡ false
        → option_map_or (λ n. not n.config) (first_of o (find_label test after)) false ≡ false
    behind None first others = others
    behind (Some m) first others = first

    by : (b : Bool) → n.config ≡ true
        → option_map_or (λ n. not n.config) (first_of (find_label test below) (find_label test after)) false ≡ false
        → option_map_or (λ n. not n.config) (cond b (Some n) (first_of (find_label test below) (find_label test after))) false ≡ false
    by true own others = ap not own
    by false own others = others

no_state : (schema : Schema) → HasNoState schema → (number : ℕ) → is_state schema number ≡ false
no_state schema all number = none_found (λ n. n.number == number) schema.nodes all

-- ---- documents

module _ (schema : Schema) where
  nothing_left_out : ((number : ℕ) → is_state schema number ≡ false) → (tree : Tree) → configuration_tree schema tree ≡ tree
  nothing_left_out none end = refl
  nothing_left_out none (node s below after) =
      ap (λ b. cond b (configuration_tree schema after) (node s (configuration_tree schema below) (configuration_tree schema after))) (none s.schema_number)
      ∙ ap₂ (λ x y. node s x y) (nothing_left_out none below) (nothing_left_out none after)

  -- the last step to a row isn't one to state
  abbrev IsPast : Option Step → Type 0
  IsPast last = option_map_or (λ s. is_state schema s.schema_number) last false ≡ false

  -- no less is left than what there is, and what is left is all that there is
  left_most : (tree : Tree) → size (configuration_tree schema tree) ≤ size tree
  left_most end = omega arith
  left_most (node s below after) = by (is_state schema s.schema_number) (left_most below) (left_most after)
    where
      by : (b : Bool) → size (configuration_tree schema below) ≤ size below → size (configuration_tree schema after) ≤ size after
          → size (cond b (configuration_tree schema after) (node s (configuration_tree schema below) (configuration_tree schema after))) ≤ size (node s below after)
      by true one two = omega (arith, one, two)
      by false one two = omega (arith, one, two)

  -- told where something is left out, however far it stands
  told_there : (place : List Step) (last : Option Step) (s : Stored) → is_state schema s.schema_number ≡ true → IsPast last
      → state_told place last s.schema_number ≡ [] → ⊥
  told_there place None s state past none = absurd cc
  told_there place (Some l) s state past none = by (l.schema_number == s.schema_number) refl none
    where
      by : (b : Bool) → (l.schema_number == s.schema_number) ≡ b
          → cond b [] (plain_fault V12 (place ++ step_to s.schema_number ∷ []) ∷ []) ≡ [] → ⊥
      by true same e = false≢true (sym past ∙ (ap (is_state schema) ((Decides-eqb l.schema_number s.schema_number).0 same) ∙ state))
      by false other e = absurd cc

  step_number : (last : Option Step) (number : ℕ) → (step_behind schema last number).schema_number ≡ number
  step_number last number = by (is_many_at schema number)
    where
      by : (b : Bool) → (cond b (step_at number (position_behind last number)) (step_to number)).schema_number ≡ number
      by true = refl
      by false = refl

  none_left_out : (place : List Step) (last : Option Step) (tree : Tree) → IsPast last → state_faults_in schema place last tree ≡ []
      → configuration_tree schema tree ≡ tree
  unfolding state_faults_in
  none_left_out place last end past none = refl
  none_left_out place last (node s below after) past none =
      by (is_state schema s.schema_number) refl none
      (none_left_out (place ++ step_behind schema last s.schema_number ∷ []) None below refl)
      (none_left_out place (Some (step_behind schema last s.schema_number)) after)
    where
      behind : List Fault
      behind = state_faults_in schema place (Some (step_behind schema last s.schema_number)) after

      under : List Fault
      under = state_faults_in schema (place ++ step_behind schema last s.schema_number ∷ []) None below

      by : (b : Bool) → is_state schema s.schema_number ≡ b → cond b (state_told place last s.schema_number) under ++ behind ≡ []
          → (under ≡ [] → configuration_tree schema below ≡ below)
          → (IsPast (Some (step_behind schema last s.schema_number)) → behind ≡ [] → configuration_tree schema after ≡ after)
          → cond b (configuration_tree schema after) (node s (configuration_tree schema below) (configuration_tree schema after)) ≡ node s below after
      by true is e inner rest = absurd (told_there place last s is past (none_first (state_told place last s.schema_number) behind e))
      by false is e inner rest = ap₂ (λ x y. node s x y) (inner (none_first under behind e))
          (rest (ap (is_state schema) (step_number last s.schema_number) ∙ is) (none_second under behind e))

  none_told_of : (place : List Step) (last : Option Step) (tree : Tree) → configuration_tree schema tree ≡ tree
      → state_faults_in schema place last tree ≡ []
  unfolding state_faults_in
  none_told_of place last end same = refl
  none_told_of place last (node s below after) same =
      by (is_state schema s.schema_number) same (left_most after)
      (none_told_of (place ++ step_behind schema last s.schema_number ∷ []) None below)
      (none_told_of place (Some (step_behind schema last s.schema_number)) after)
    where
      behind : List Fault
      behind = state_faults_in schema place (Some (step_behind schema last s.schema_number)) after

      under : List Fault
      under = state_faults_in schema (place ++ step_behind schema last s.schema_number ∷ []) None below

      by : (b : Bool) → cond b (configuration_tree schema after) (node s (configuration_tree schema below) (configuration_tree schema after)) ≡ node s below after
          → size (configuration_tree schema after) ≤ size after → (configuration_tree schema below ≡ below → under ≡ [])
          → (configuration_tree schema after ≡ after → behind ≡ []) → cond b (state_told place last s.schema_number) under ++ behind ≡ []
      by true e few inner rest = absurd (let whole = ap (λ f. size f) e in omega (arith, whole, few))
      by false e few inner rest = ap₂ (λ x y. x ++ y) (inner (ap below_of e)) (rest (ap after_of e))
        where
          below_of : Tree → Tree
          below_of end = end
          below_of (node t f g) = f

          after_of : Tree → Tree
          after_of end = end
          after_of (node t f g) = g

  pub told_where_left_out : (tree : Tree) → (state_faults schema tree ≡ []) ↔ (configuration_tree schema tree ≡ tree)
  told_where_left_out tree = (none_left_out [] None tree refl, none_told_of [] None tree)

  pub same_inspected : (tree : Tree) → HasNoState schema → inspected true schema tree ≡ inspected false schema tree
  same_inspected tree all =
      let whole = nothing_left_out (no_state schema all) tree in
      let asked : configuration_schema schema ≡ schema = ap (λ f. record schema { nodes = f }) (all_asked schema.nodes all) in
      ap (λ faults. record { schema = configuration_schema schema; tree = configuration_tree schema tree; faults = faults ++ faults_of (configuration_schema schema) (configuration_tree schema tree) })
      (none_told_of [] None tree whole)
      ∙ ap₂ (λ s t. record { schema = s; tree = t; faults = faults_of s t }) asked whole
