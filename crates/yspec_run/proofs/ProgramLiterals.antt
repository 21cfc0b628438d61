-- What an answer unfolds to compute the outcome of a run on literals.
use Rattle.std.specs.Prelude.{⊤}
use Rattle.yspec_wide.proofs.WideLiterals.{ywide_on_literals}
use Rattle.ysay_text.specs.Line.{shown_line}
use Rattle.ysay_text.specs.Near.{is_near, nearest}
use Rattle.ysay_text.specs.Sentence.{of_line}
use Rattle.ysay_pattern.specs.Stop.{stop_from}
use Rattle.ysay_pattern.specs.Said as patterns
use Rattle.ysay_forms.specs.Said as forms
use Rattle.ysay_names.specs.Keys as keys
use Rattle.ysay_names.specs.Names as names
use Rattle.ysay_names.specs.Prefixes as prefixes
use Rattle.ysay_types.specs.Defaults as defaults
use Rattle.ysay_types.specs.Restrictions as restrictions
use Rattle.ysay_slips.specs.Said.{of_slip}
use Rattle.ysay_slips.specs.Walk.{walk_from}
use Rattle.ysay_targets.specs.Leafrefs as leafrefs
use Rattle.ysay_targets.specs.Targets as targets
use Rattle.ysay_sets.specs.Taken as taken
use Rattle.ysay_sets.specs.Imports as imports
use Rattle.ysay_nodes.specs.Twice as twice
use Rattle.ysay_nodes.specs.Needed as needed
use Rattle.ysay_nodes.specs.Config as config
use Rattle.ysay_circles.specs.References as references
use Rattle.ysay_circles.specs.Conditions as conditions
use Rattle.ysay_circles.specs.Places as places
use Rattle.ysay_refusal.specs.NoJson.{said_of_no_json}
use Rattle.ysay_refusal.specs.Sentence.{said_of_refusal}
use Rattle.ysay_refusals.specs.Lines.{said_of_others}
use Rattle.ysay_refusals.specs.Remarks.{instance_remarks, item_remarks, member_remarks, node_remarks}
use Rattle.ysay_repeated.specs.Repeated.{has_repeated, repeated_in}
use Rattle.yspec_run.specs.Output.{outcome}
use Rattle.yspec_run.specs.Unjudged.{outcome_said}

unfoldable pub yprogram_on_literals : ⊤
unfolding ywide_on_literals outcome outcome_said shown_line of_line stop_from patterns.of_line forms.of_line prefixes.of_line names.of_line keys.of_line restrictions.of_line restrictions.of_entry restrictions.of_name defaults.of_line targets.of_line leafrefs.of_line of_slip walk_from taken.of_line imports.of_line twice.of_line needed.of_line config.of_line references.of_line conditions.of_line places.of_line is_near nearest said_of_refusal said_of_others instance_remarks item_remarks member_remarks node_remarks repeated_in has_repeated said_of_no_json
yprogram_on_literals = tt
