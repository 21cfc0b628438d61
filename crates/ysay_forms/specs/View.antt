-- What is looked for, as the definitions'.
use Rattle.ylink_conditions.specs.View.{version_view}
use Rattle.ylink_grammar.specs.LanguageView.{language_view}
use Rattle.ysay_forms.specs.Said as spec
use Rattle.ysay_forms.specs.declared.walk.Matter.{Matter}
use Rattle.ysay_forms.specs.declared.walk.Matter.TheVariants as matters
use Rattle.ysay_forms.specs.declared.walk.Question.{Question}

abbrev pub matter_view : Matter → spec.Matter
matter_view matters.Argument = spec.an_argument
matter_view matters.Amounts = spec.amounts

abbrev pub question_view : Question → spec.Question
question_view q = record {
  language = language_view q.language.now;
  version = version_view q.version;
  matter = matter_view q.matter;
  line = q.line;
}
