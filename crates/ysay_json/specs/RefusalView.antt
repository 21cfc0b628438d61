-- Refusals as the definition's.
use Rattle.std.specs.Prelude.{option_map}
use Rattle.ysay_json.specs.RefusalData as spec
use Rattle.ysay_json.specs.declared.refusal.Refused.{Refused}

abbrev pub refused_view : Refused → spec.Refused
refused_view r = record {
  code = option_map (λ t. t.now) r.code;
  value_code = option_map (λ t. t.now) r.value_code;
  tag = r.tag.now;
  message = r.message.now;
  file = option_map (λ t. t.now) r.file;
  line = r.line;
  path = option_map (λ t. t.now) r.path;
}
