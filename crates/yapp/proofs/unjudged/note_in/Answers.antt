use Rattle.std.proofs.Common.{map, string_bytes, ap, sym, ◌∙◌}
use Rattle.yspec_opening.specs.Opening.{with_conditions}
use Rattle.ylink_grammar.specs.LanguageView.{language_view, wide_view}
use Rattle.ylink_grammar.specs.declared.language.Language.{Language}
use Rattle.yapp.proofs.SessionLemmas.{wide_said}
use Rattle.yapp.proofs.unjudged.note_in.Goals as goal

pub returns-in-Core : goal.returns-in-Core
returns-in-Core c = λ next.
    ap (λ (l : Language). with_conditions (language_view l) (map (λ n. n.now) c.args.names.now) (map (λ t. t.items) c.args.contents.now) next) c.in-Core.is
    ∙ ap next (sym c.new.ensures.bytes)

pub returns-in-Rfc : goal.returns-in-Rfc
returns-in-Rfc c = λ next. wide_said (language_view c.args.language.now) (wide_view c.in-Rfc.wide) (map (λ n. n.now) c.args.names.now) (map (λ t. t.items) c.args.contents.now)
    next (λ note. next (string_bytes note)) c.note_where.result (ap language_view c.in-Rfc.is) (c.note_where.ensures next)
