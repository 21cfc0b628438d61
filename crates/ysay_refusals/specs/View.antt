-- What is found, as the definition's.
use Rattle.std.specs.Prelude.{List, map}
use Rattle.serde_json.specs.View as json
use Rattle.yinst_tree.specs.View.{place_view}
use Rattle.yinst_tree.specs.Told.{code_number}
use Rattle.ysay_refusals.specs.Remarks as spec
use Rattle.ysay_refusals.specs.declared.walk.Remark.{Remark}
use Rattle.ysay_refusals.specs.declared.walk.Remark.TheVariants as held

abbrev pub remark_view : Remark → spec.Remark
remark_view (held.OfName code place name) = spec.of_name (code_number code) (place_view place.items) name.now
remark_view (held.OfValue code place value) = spec.of_value (code_number code) (place_view place.items) (json.view value.now)

abbrev pub remarks_view : List Remark → List spec.Remark
remarks_view = map remark_view
