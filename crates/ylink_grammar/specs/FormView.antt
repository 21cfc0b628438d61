-- Forms of arguments as the specification's.
use Rattle.std.specs.Prelude.{Bool, true, false}
use Rattle.yspec.specs.linking.Arguments as spec
use Rattle.yspec_wide.specs.Language.{YangVersion, yang_1}
use Rattle.yspec_wide.specs.Table as wide
use Rattle.ylink_grammar.specs.declared.form.Form.{Form}
use Rattle.ylink_grammar.specs.declared.form.Form.TheVariants as forms
use Rattle.ylink_grammar.specs.declared.form.WideForm.{WideForm}
use Rattle.ylink_grammar.specs.declared.form.WideForm.TheVariants as wide_forms

abbrev pub form_view : Form → spec.Form
form_view forms.Identifier = spec.identifier_form
form_view forms.Name = spec.name_form
form_view forms.Date = spec.date_form
form_view forms.RelativePath = spec.relative_path_form
form_view forms.AbsolutePath = spec.absolute_path_form
form_view forms.LeafrefPath = spec.leafref_path_form
form_view forms.Key = spec.key_form
form_view forms.Unique = spec.unique_form
form_view forms.Flag = spec.flag_form
form_view forms.Status = spec.status_form
form_view forms.OrderedBy = spec.ordered_by_form
form_view forms.Count = spec.count_form
form_view forms.MaxElements = spec.max_elements_form
form_view forms.Value = spec.value_form
form_view forms.FractionDigits = spec.fraction_digits_form
form_view forms.Spans = spec.spans_form
form_view forms.Any = spec.any_form

abbrev pub wide_form_view : WideForm → wide.WideForm
wide_form_view (wide_forms.AsBefore form) = wide.as_before (form_view form)
wide_form_view wide_forms.Prefix = wide.prefix_form
wide_form_view wide_forms.IfFeature = wide.if_feature_form
wide_form_view wide_forms.Modifier = wide.modifier_form
wide_form_view wide_forms.NoArgument = wide.no_argument

-- whether no text that begins with `xml` is of a form
abbrev pub bars_xml : YangVersion → spec.Form → Bool
bars_xml yang_1 spec.identifier_form = true
bars_xml _ _ = false
