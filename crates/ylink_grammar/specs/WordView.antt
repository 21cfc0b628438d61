-- Keywords of a language as the specification's.
use Rattle.yspec_wide.specs.Words as spec
use Rattle.ybase_words.specs.KeywordView.{keyword_view}
use Rattle.ylink_grammar.specs.declared.word.Word.{Word}
use Rattle.ylink_grammar.specs.declared.word.Word.TheVariants as words

abbrev pub word_view : Word → spec.Word
word_view (words.Known k) = spec.known (keyword_view k)
word_view words.Feature = spec.feature_word
word_view words.IfFeature = spec.if_feature_word
word_view words.Pattern = spec.pattern_word
word_view words.Modifier = spec.modifier_word
word_view words.Must = spec.must_word
word_view words.When = spec.when_word
word_view words.Rpc = spec.rpc_word
word_view words.Action = spec.action_word
word_view words.Notification = spec.notification_word
word_view words.Input = spec.input_word
word_view words.Output = spec.output_word
word_view words.Anydata = spec.anydata_word
word_view words.Anyxml = spec.anyxml_word
