-- In any language the schema of a set of modules that compiles is fit, and its nodes are numbered.
use Rattle.std.proofs.Common.{◌≡◌, [], Ok, refl, sym, subst, ℕ, ◌≤◌}
use Rattle.yspec.specs.Forest.{Forest, preorder}
use Rattle.yspec.specs.text.Statement.{Statement}
use Rattle.yspec.specs.schema.Breaks.{node_limit, level_limit, low_level_limit}
use Rattle.yspec.specs.schema.Schema.{Schema}
use Rattle.yspec.specs.document.Fitting.{IsNumbered}
use Rattle.yspec.specs.document.Writing.{NamesDiffer}
use Rattle.yspec.specs.linking.Planned.{at_top, planned}
use Rattle.yspec.proofs.DocumentProofs.WrittenNameLemmas.{names_differ}
use Rattle.yspec.proofs.LinkingProofs.ApartLemmas.{apart_of}
use Rattle.yspec.proofs.LinkingProofs.LinkedLemmas.{relabelled-size, relabelled-levels}
use Rattle.yspec_wide.specs.Language.{Language}
use Rattle.yspec_wide.specs.Sources.{sources_in}
use Rattle.yspec_wide.specs.Standing.{is_standing}
use Rattle.yspec_wide.specs.Types.{schema_node_in}
use Rattle.yspec_wide.specs.Compiling.{schema_in, compiled_in}
use Rattle.yspec_fit.specs.Fit.{IsFit}
use Rattle.yspec_wide_fit.proofs.SoundLemmas.{elsewhere}
use Rattle.yspec_wide_fit.proofs.NodeLemmas.{bare_of, cases_in, choices_of, nodes_named, numbered_from}
use Rattle.yspec_wide_fit.proofs.CompilingLemmas.{whole_parts, standing_parts, plan_of, count_of, BreaksNothing, compiles, sound_whole, sound_plan}
use Rattle.yspec_wide_fit.proofs.ModuleLemmas.{modules_differ}
use Rattle.yspec_wide_fit.proofs.NameLemmas.{are_named}
use Rattle.yspec_wide_fit.proofs.PathLemmas.{paths_within}
use Rattle.yspec_wide_fit.proofs.AnythingLemmas.{any_planned}
use Rattle.yspec_wide_fit.proofs.AscendingLemmas.{augments_ascend}

siblings_differ : (language : Language) (modules : Forest Statement) → BreaksNothing language modules → NamesDiffer (schema_in language modules)
siblings_differ language modules none =
    let schema = schema_in language modules in
    names_differ schema (modules_differ language modules none)
    (are_named language schema (plan_of language modules) (is_standing language (sources_in language modules)) (whole_parts language modules)
    (sound_whole language modules none) (sound_plan language modules none)
    (apart_of [] (preorder (planned 0 at_top (whole_parts language modules))) none.names) refl)

fit_of : (language : Language) (modules : Forest Statement) → BreaksNothing language modules → IsFit (schema_in language modules)
fit_of language modules none =
    let plan = plan_of language modules in
    let parts = standing_parts language modules in
    let count = count_of language modules in
    let sound = sound_plan language modules none in
    let label = schema_node_in language plan in
    record {
      bare = bare_of language plan count 0 at_top elsewhere parts sound;
      modules_differ = modules_differ language modules none;
      names_differ = siblings_differ language modules none;
      named = nodes_named language (schema_in language modules) plan 0 at_top elsewhere parts sound;
      few = subst (λ (k : ℕ). k ≤ node_limit) (sym (relabelled-size label plan.nodes)) none.few;
      within = subst (λ (k : ℕ). k ≤ level_limit) (sym (relabelled-levels label plan.nodes)) none.within;
      low = λ some. subst (λ (k : ℕ). k ≤ low_level_limit) (sym (relabelled-levels label plan.nodes)) (none.low (any_planned language plan plan.nodes some));
      cases_in_choices = cases_in language plan count 0 at_top elsewhere _ parts (λ may. may) sound;
      choices_hold_cases = choices_of language plan count 0 at_top elsewhere parts sound;
      paths_within = paths_within language plan parts refl;
      augments_ascend = augments_ascend plan parts (schema_in language modules).nodes refl;
    }

pub fit_in : (language : Language) (modules : Forest Statement) (schema : Schema) → compiled_in language modules ≡ Ok schema → IsFit schema
fit_in language modules schema e =
    let i = compiles language modules schema e in
    subst IsFit i.is (fit_of language modules i.none)

pub numbered_in : (language : Language) (modules : Forest Statement) (schema : Schema) → compiled_in language modules ≡ Ok schema → IsNumbered 0 schema.nodes
numbered_in language modules schema e =
    subst (λ (s : Schema). IsNumbered 0 s.nodes) (compiles language modules schema e).is
    (numbered_from language (plan_of language modules) 0 at_top (standing_parts language modules))
