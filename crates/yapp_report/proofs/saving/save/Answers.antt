use Rattle.std.proofs.Common.{option_map, inr, sym, subst}
use Rattle.ybase_output.specs.Writing.{side}
use Rattle.yapp_words.specs.Running.{Ends}
use Rattle.yapp_report.specs.Saving as view
use Rattle.yapp_report.specs.Saving.{Saves, saved_view, unsaved_text}
use Rattle.yapp_report.proofs.saving.save.Goals as goal

pub returns-in-Err : goal.returns-in-Err
returns-in-Err g c = subst
    (λ saved. Saves c.args.ended.now.with_reasons (option_map saved_view saved) c.args.ended.now.status
    (view.shelf g.S.Shelf.written g.S.Shelf.failures g.S.Shelf.cause c.args.shelf.now)
    (view.shelf g.S.Shelf.written g.S.Shelf.failures g.S.Shelf.cause c.save.new.self)
    (side g.E.Sink.taken g.E.Sink.failures c.args.errors.now)
    (side g.E.Sink.taken g.E.Sink.failures c.tell_unsaved.new.errors) c.tell_unsaved.result)
    (sym c.in-Some.is)
    (inr (
      c.in-Err.cause,
      record {
        written = c.in-Err.ensures.err;
        failures = c.in-Err.ensures.counted;
        told = c.in-Err.ensures.cause;
      },
      subst
          (λ name. Ends (side g.E.Sink.taken g.E.Sink.failures c.args.errors.now)
          (side g.E.Sink.taken g.E.Sink.failures c.tell_unsaved.new.errors)
          (unsaved_text c.args.ended.now.with_reasons c.in-Err.cause name) 4 c.tell_unsaved.result)
          c.as_str.ensures.value c.tell_unsaved.ensures,
    ))
