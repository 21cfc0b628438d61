-- Words of arguments as the specification's.
use Rattle.yspec.specs.schema.Schema as schema
use Rattle.yspec.specs.linking.Arguments as spec
use Rattle.ybase_words.specs.declared.word.Status.{Status}
use Rattle.ybase_words.specs.declared.word.Status.TheVariants as states
use Rattle.ybase_words.specs.declared.word.OrderedBy.{OrderedBy}
use Rattle.ybase_words.specs.declared.word.OrderedBy.TheVariants as orders

abbrev pub status_view : Status → schema.Status
status_view states.Current = schema.current
status_view states.Deprecated = schema.deprecated
status_view states.Obsolete = schema.obsolete

abbrev pub ordered_by_view : OrderedBy → spec.OrderedBy
ordered_by_view orders.System = spec.by_system
ordered_by_view orders.User = spec.by_user
