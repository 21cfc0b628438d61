-- Forms by version.
use Rattle.std.proofs.Common.{◌≡◌, not, refl}
use Rattle.std.specs.Prelude.{◌&&◌}
use Rattle.std.proofs.Math.Bool.{and-true}
use Rattle.yspec.specs.text.Text.{Text}
use Rattle.yspec.specs.linking.Arguments as spec
use Rattle.yspec.specs.linking.Arguments.{Form, fits}
use Rattle.yspec_wide.specs.Language.{YangVersion, yang_1, yang_1_1}
use Rattle.yspec_wide.specs.Table.{begins_xml, fits_before}
use Rattle.ylink_grammar.specs.FormView.{bars_xml}

pub fits_barring : (v : YangVersion) (form : Form) (t : Text) → (fits form t && not (bars_xml v form && begins_xml t)) ≡ fits_before v form t
fits_barring yang_1_1 form t = and-true (fits form t)
fits_barring yang_1 spec.identifier_form t = refl
fits_barring yang_1 spec.name_form t = and-true (fits spec.name_form t)
fits_barring yang_1 spec.date_form t = and-true (fits spec.date_form t)
fits_barring yang_1 spec.relative_path_form t = and-true (fits spec.relative_path_form t)
fits_barring yang_1 spec.absolute_path_form t = and-true (fits spec.absolute_path_form t)
fits_barring yang_1 spec.leafref_path_form t = and-true (fits spec.leafref_path_form t)
fits_barring yang_1 spec.key_form t = and-true (fits spec.key_form t)
fits_barring yang_1 spec.unique_form t = and-true (fits spec.unique_form t)
fits_barring yang_1 spec.flag_form t = and-true (fits spec.flag_form t)
fits_barring yang_1 spec.status_form t = and-true (fits spec.status_form t)
fits_barring yang_1 spec.ordered_by_form t = and-true (fits spec.ordered_by_form t)
fits_barring yang_1 spec.count_form t = and-true (fits spec.count_form t)
fits_barring yang_1 spec.max_elements_form t = and-true (fits spec.max_elements_form t)
fits_barring yang_1 spec.value_form t = and-true (fits spec.value_form t)
fits_barring yang_1 spec.fraction_digits_form t = and-true (fits spec.fraction_digits_form t)
fits_barring yang_1 spec.spans_form t = and-true (fits spec.spans_form t)
fits_barring yang_1 spec.any_form t = and-true (fits spec.any_form t)
