use Rattle.std.proofs.Common.{List, ap, sym, ◌∙◌}
use Rattle.yspec_run.specs.Unjudged.{note_of}
use Rattle.ytext.specs.View.{modules_view}
use Rattle.ytext.specs.declared.statement.Module.{Module}
use Rattle.ylink_grammar.specs.LanguageView.{unjudged_view}
use Rattle.yapp.proofs.unjudged.note_of_files.Goals as goal

pub returns-in_ok-note_of-in-Ok : goal.returns-in_ok-note_of-in-Ok
returns-in_ok-note_of-in-Ok c = λ next.
    let u = unjudged_view c.args.unjudged in
    c.in-Ok.ensures (λ modules files. next (note_of u modules))
    ∙ (ap (λ (ms : List Module). next (note_of u (modules_view ms))) (sym c.deref.ensures.value) ∙ ap next (sym c.in_ok-note_of-in-Ok.ensures))

pub returns-in-Err : goal.returns-in-Err
returns-in-Err c = λ next. c.in-Err.ensures (λ modules files. next (note_of (unjudged_view c.args.unjudged) modules))
