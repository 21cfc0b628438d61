-- Below a choice stand cases alone.
use Rattle.std.proofs.Common.{◌≡◌, ℕ, suc, ◌+◌, Bool, true, false, cond, Ok, refl, sym, ap, ◌∙◌, subst}
use Rattle.std.specs.Coded.{Coded-set, coded_bool, ×_prop, Unit-prop}
use mathlib.Core.HLevel.{×₃_prop}
use Rattle.yspec.specs.Forest.{Forest, end, node, size, relabelled}
use Rattle.yspec.specs.text.Statement.{Statement}
use Rattle.yspec.specs.schema.Schema.{Schema, SchemaNode, Kind, container, leaf, leaf_list, list, choice, case}
use Rattle.yspec.specs.schema.Configuration.{unasked, asked_node}
use Rattle.yspec.specs.linking.Keyword.{Keyword, same_keyword, case_word, choice_word}
use Rattle.yspec.specs.linking.Parts.{Part}
use Rattle.yspec.specs.linking.Planned.{Planned, Plan, Around, planned_node, around_below, planned}
use Rattle.yspec.specs.linking.SchemaNodes.{kind_by, schema_node}
use Rattle.yspec.specs.linking.Compiling.{compiled}
use Rattle.yspec.proofs.LinkingProofs.KeywordLemmas.{by_definition, same_is}
use Rattle.yspec.proofs.LinkingProofs.RightPartLemmas.{AllCases, AreRight}
use Rattle.yspec.proofs.LinkingProofs.LinkedLemmas.{plan_in, compiles, right_plan}
use Rattle.yspec_fit.specs.Fit.{is_case, AreCases, HoldCases, ChoicesHoldCases}
use Rattle.yspec_fit.proofs.PlacedLemmas.{case_kept}

cases_row : (plan : Plan) (next : ℕ) (around : Around) (f : Forest Part) → AllCases f → AreCases (relabelled (schema_node plan) (planned next around f))
unfolding planned
cases_row plan next around end all = tt
cases_row plan next around (node p below after) all = (
  sym (ap (λ k. is_case (kind_by plan (planned_node next around p) k)) (same_is case_word p.source.keyword all.0)),
  cases_row plan (next + suc (size below)) around after all.1,
)

cases_of : (plan : Plan) (count next : ℕ) (around : Around) (f : Forest Part) → AreRight count f → ChoicesHoldCases (relabelled (schema_node plan) (planned next around f))
unfolding planned
cases_of plan count next around end right = tt
cases_of plan count next around (node p below after) right =
    let inner = planned (next + 1) (around_below next around p) below in (
      by_definition p.source.keyword (λ k. (same_keyword choice_word k ≡ true → AllCases below) → HoldCases (kind_by plan (planned_node next around p) k) (relabelled (schema_node plan) inner))
          (λ all. tt) (λ all. tt) (λ all. tt) (λ all. tt) (λ all. cases_row plan (next + 1) (around_below next around p) below (all refl)) (λ all. tt) right.0.defines right.0.cases,
      cases_of plan count (next + 1) (around_below next around p) below right.1,
      cases_of plan count _ around after right.2,
    )

pub linked_choices : (modules : Forest Statement) (schema : Schema) → compiled modules ≡ Ok schema → ChoicesHoldCases schema.nodes
linked_choices modules schema e =
    let i = compiles modules schema e in
    subst (λ (s : Schema). ChoicesHoldCases s.nodes) i.is (cases_of (plan_in modules) _ 0 _ _ (right_plan modules i.none))

-- ---- what is asked of configuration alone

are_cases-prop : (f : Forest SchemaNode) → IsProp (AreCases f)
are_cases-prop end = Unit-prop
are_cases-prop (node n below after) = ×_prop (Coded-set coded_bool _ _) (are_cases-prop after)

holds-prop : (k : Kind) (below : Forest SchemaNode) → IsProp (HoldCases k below)
holds-prop (container presence) below = Unit-prop
holds-prop (leaf type absence) below = Unit-prop
holds-prop (leaf_list type defaults amount) below = Unit-prop
holds-prop (list tuples amount) below = Unit-prop
holds-prop (choice default_case is_mandatory) below = are_cases-prop below
holds-prop case below = Unit-prop

pub hold-prop : (f : Forest SchemaNode) → IsProp (ChoicesHoldCases f)
hold-prop end = Unit-prop
hold-prop (node n below after) = ×₃_prop (holds-prop n.kind below) (hold-prop below) (hold-prop after)

are_cases_kept : (f : Forest SchemaNode) → AreCases f → AreCases (relabelled asked_node f)
are_cases_kept end cased = tt
are_cases_kept (node n below after) cased = (case_kept n ∙ cased.0, are_cases_kept after cased.1)

holds_kept : (n : SchemaNode) (below : Forest SchemaNode) → HoldCases n.kind below → HoldCases (asked_node n).kind (relabelled asked_node below)
holds_kept n below is = by n.config
  where
    at : (k : Kind) → HoldCases k below → HoldCases k (relabelled asked_node below) × HoldCases (unasked k) (relabelled asked_node below)
    at (container presence) is = (tt, tt)
    at (leaf type absence) is = (tt, tt)
    at (leaf_list type defaults amount) is = (tt, tt)
    at (list tuples amount) is = (tt, tt)
    at (choice default_case is_mandatory) is = (are_cases_kept below is, are_cases_kept below is)
    at case is = (tt, tt)

    by : (b : Bool) → HoldCases (cond b n.kind (unasked n.kind)) (relabelled asked_node below)
    by true = (at n.kind is).0
    by false = (at n.kind is).1

pub hold_kept : (f : Forest SchemaNode) → ChoicesHoldCases f → ChoicesHoldCases (relabelled asked_node f)
hold_kept end hold = tt
hold_kept (node n below after) hold = (holds_kept n below hold.0, hold_kept below hold.1, hold_kept after hold.2)
