-- What statements refer to, as the specification's.
use Rattle.ysay_names.specs.Names as spec
use Rattle.ysay_names.specs.declared.named.Kind.{Kind}
use Rattle.ysay_names.specs.declared.named.Kind.TheVariants as kinds

abbrev pub kind_view : Kind → spec.Kind
kind_view kinds.Datatype = spec.a_type
kind_view kinds.Grouping = spec.a_grouping
kind_view kinds.Identity = spec.an_identity
