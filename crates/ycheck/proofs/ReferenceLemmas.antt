-- What the values of the targets tell, and all faults of a document.
use Rattle.std.proofs.Common.{◌≡◌, ℕ, Bool, true, false, not, cond, eqb, ◌&&◌, ◌||◌, [], ◌∷◌, ◌++◌, map, Option, Some, None, refl, sym, ap, ap₂, subst, ◌∙◌}
use Rattle.std.specs.Prelude.{option_and_then}
use Rattle.std.proofs.lemmas.Bool.{eq-eqb}
use Rattle.std.proofs.lemmas.List.{map-id}
use Rattle.std.specs.List.{list_any}
use Rattle.std.specs.Option.{option_map_or}
use Rattle.std.proofs.lemmas.List.Folds.{list_any-append}
use Rattle.yspec.specs.Forest.{Forest, end, node, preorder}
use Rattle.yspec.specs.types.Types.{Val}
use Rattle.yspec.specs.schema.Schema.{Schema, SchemaNode, Kind, container, leaf, leaf_list, list, choice, case, LeafType}
use Rattle.yspec.specs.document.Document.{Tree, instances_in}
use Rattle.yspec.specs.document.FaultCode.{V11}
use Rattle.yspec.specs.document.Fault.{plain_fault}
use Rattle.yspec.specs.document.Instances.{times_in}
use Rattle.yspec.specs.schema.References.{Reference, requires_instance, reference_in}
use Rattle.yspec.specs.document.Faults.{Times, lacks_instance, reference_faults, faults_of}
use Rattle.yspec.specs.document.RowFaults.{prefixed}
use Rattle.yspec.specs.document.Fitting.{IsNumbered}
use Rattle.yspec.specs.document.Sorting.{IsSorted}
use Rattle.yspec.proofs.DocumentProofs.CheckingRowLemmas.{rows_are_faults}
use Rattle.yspec.proofs.DocumentProofs.HeldNodeLemmas.{schema_has_all}
use Rattle.yspec.proofs.SchemaProofs.AmongLemmas.{reference_among}
use Rattle.yinst_tree.specs.View.{place_view}
use Rattle.ycheck.specs.declared.cases.Chosen.TheVariants as variant
use Rattle.ycheck.specs.declared.checking.Findings.{Findings}
use Rattle.ycheck.specs.declared.targets.Targets.{Targets}
use Rattle.ycheck.specs.View.{views}
use Rattle.ycheck.specs.Found.{Adds}
use Rattle.ycheck.specs.Targets.{holds, required_number, required_where, required_in, required_targets, is_among, refers_to, is_target_in, HasValues}
use Rattle.ycheck.specs.Walk.{times_of, walked}
use Rattle.ycheck.proofs.CaseLemmas.{no_case}
use Rattle.ycheck.proofs.WalkLemmas.{Agree, AllAgree, walked_is}

-- ---- references

-- what a value refers to is among what its type requires, where an instance is required
required_among : (type : LeafType) (v : Val) (r : Reference) → reference_in type v ≡ Some r → r.is_required ≡ true → is_among r.target (required_in type) ≡ true
required_among type v r is required =
    reference_among type v r (option_and_then required_number) (required_where (requires_instance type.type) type.target) is
    (λ target at same. subst (λ o. is_among target (required_where (requires_instance type.type) o) ≡ true) (sym at)
    (subst (λ b. is_among target (required_where b (Some target)) ≡ true) (sym (same ∙ required)) (alone target)))
    (λ m same. ap (λ b. cond b (Some m.target) None) (same ∙ required))
  where
    alone : (target : ℕ) → (eqb target target || false) ≡ true
    alone target = ap (λ b. b || false) (eq-eqb target target refl)

module _ (t : Targets) (times : Times) where
  abbrev Answers : (ℕ → Bool) → Type 0
  Answers is_asked = (number : ℕ) (v : Val) → is_asked number ≡ true → holds t number v ≡ not (eqb (times number v) 0)

  counted : (held some : Bool) → held ≡ not some → eqb (cond held 1 0) 0 ≡ some
  counted held true is = ap (λ b. eqb (cond b 1 0) 0) is
  counted held false is = ap (λ b. eqb (cond b 1 0) 0) is

  type_agrees : (type : LeafType) → Answers (λ number. is_among number (required_in type)) → (v : Val) → reference_faults (times_of t) type v ≡ reference_faults times type v
  type_agrees type answers v = by (reference_in type v) refl
    where
      -- asked only where an instance is required
      answered : (r : Reference) (b : Bool) → r.is_required ≡ b → (b ≡ true → is_among r.target (required_in type) ≡ true)
          → (b && eqb (times_of t r.target r.value) 0) ≡ (b && eqb (times r.target r.value) 0)
      answered r true is asked = counted (holds t r.target r.value) (eqb (times r.target r.value) 0) (answers r.target r.value (asked refl))
      answered r false is asked = refl

      by : (o : Option Reference) → reference_in type v ≡ o
          → option_map_or (λ r. cond (lacks_instance (times_of t) r) (plain_fault V11 [] ∷ []) []) o []
          ≡ option_map_or (λ r. cond (lacks_instance times r) (plain_fault V11 [] ∷ []) []) o []
      by None is = refl
      by (Some r) is = ap (λ b. cond b (plain_fault V11 [] ∷ []) []) (answered r r.is_required refl (required_among type v r is))

  kind_agrees : (kind : Kind) → Answers (λ number. is_among number (required_targets kind)) → Agree (times_of t) times kind
  kind_agrees (leaf type absence) answers = type_agrees type answers
  kind_agrees (leaf_list type defaults amount) answers = type_agrees type answers
  kind_agrees (container presence) answers = tt
  kind_agrees (list tuples amount) answers = tt
  kind_agrees (choice default_case is_mandatory) answers = tt
  kind_agrees case answers = tt

  first_or : (a b : Bool) → a ≡ true → (a || b) ≡ true
  first_or a b is = ap (λ x. x || b) is

  second_or : (a b : Bool) → b ≡ true → (a || b) ≡ true
  second_or true b is = refl
  second_or false b is = is

  all_agree : (f : Forest SchemaNode) → Answers (is_target_in f) → AllAgree (times_of t) times f
  all_agree end answers = tt
  all_agree (node n below after) answers = (
    kind_agrees n.kind (λ number v asked. answers number v (first_or (refers_to number n) (list_any (refers_to number) (preorder below ++ preorder after)) asked)),
    all_agree below (λ number v asked. answers number v (second_or (refers_to number n) (list_any (refers_to number) (preorder below ++ preorder after))
        (list_any-append (refers_to number) (preorder below) (preorder after) ∙ first_or (is_target_in below number) (is_target_in after number) asked))),
    all_agree after (λ number v asked. answers number v (second_or (refers_to number n) (list_any (refers_to number) (preorder below ++ preorder after))
        (list_any-append (refers_to number) (preorder below) (preorder after) ∙ second_or (is_target_in below number) (is_target_in after number) asked))),
  )

-- ---- the whole

-- all that is found from the top
pub all_found : (t : Targets) (schema : Schema) (tree row : Tree) (f : Forest SchemaNode) (old new : Findings)
    → IsNumbered 0 schema.nodes → IsSorted tree → HasValues t schema tree → f ≡ schema.nodes → row ≡ tree → old.steps.items ≡ [] → old.faults.items ≡ []
    → Adds old new (walked (times_of t) schema variant.NoCase f row) → views new.faults.items ≡ faults_of schema tree
unfolding faults_of
all_found t schema tree row f old new numbered sorted counts f_is row_is no_step nothing adds =
    let has = schema_has_all schema numbered in
    adds.found ∙ (ap₂ (λ fs p. views fs ++ map (prefixed (place_view p)) (walked (times_of t) schema variant.NoCase f row)) nothing no_step
    ∙ (map-id (walked (times_of t) schema variant.NoCase f row)
    ∙ (ap₂ (walked (times_of t) schema variant.NoCase) f_is row_is
    ∙ (walked_is (times_of t) (times_in schema tree) schema schema.nodes 0 variant.NoCase [] tree tree numbered has
    (all_agree t (times_in schema tree) schema.nodes counts) sorted (λ m from. refl) (no_case (instances_in tree) schema.nodes)
    ∙ sym (rows_are_faults (times_in schema tree) schema tree has)))))
