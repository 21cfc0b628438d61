use Rattle.std.proofs.Common.{Bool, [], map, string_bytes, sym, ap, subst, ◌∙◌}
use Rattle.std.specs.Prelude.{if◌then◌else◌}
use Rattle.yspec_run.specs.Output.{with_modules}
use Rattle.yspec_run.specs.Unjudged.{note_of}
use Rattle.ylink_grammar.specs.LanguageView.{language_view, unjudged_view}
use Rattle.yapp_report.specs.Failing.{LeadsTo}
use Rattle.yapp.proofs.unjudged.note_where.Goals as goal

pub returns-then-is_any : goal.returns-then-is_any
returns-then-is_any c = λ next.
    let said = with_modules (language_view c.args.language.now) (map (λ n. n.now) c.args.names.now) (map (λ t. t.items) c.args.contents.now) (λ modules files. next (note_of (unjudged_view c.args.unjudged) modules)) in
    subst (λ (b : Bool). LeadsTo (if b then said else next []) (λ note. next (string_bytes note)) c.note_of_files.result) (sym c.if-is_any.true ∙ c.is_any.ensures) (c.note_of_files.ensures next)

pub returns-else-is_any : goal.returns-else-is_any
returns-else-is_any c = λ next.
    let said = with_modules (language_view c.args.language.now) (map (λ n. n.now) c.args.names.now) (map (λ t. t.items) c.args.contents.now) (λ modules files. next (note_of (unjudged_view c.args.unjudged) modules)) in
    ap (λ (b : Bool). if b then said else next []) (sym c.is_any.ensures ∙ c.if-is_any.false) ∙ ap next (sym c.new.ensures.bytes)
