use Rattle.std.proofs.Common.{inl, inr, refl, ap, ◌∙◌, map, string_bytes, false, true}
use Rattle.yapp_words.specs.Command.{Declines, refusals}
use Rattle.yapp_words.specs.declared.command.NoRequest.TheVariants as none
use Rattle.yapp_words.specs.Running.{End, memory_told, refused, shown}
use Rattle.yapp_words.proofs.CommandLemmas.{asked_help, text_is}
use Rattle.yapp.proofs.RunningLemmas.{four, on_errors, on_output}
use Rattle.yapp.proofs.SearchedLemmas.{does_in_same, does_in_same_without, never_stopped}
use Rattle.yapp.proofs.SessionLemmas.{does_without}
use Rattle.yapp.proofs.program.run.Goals as goal

pub returns-in-Ok-clause-taken : goal.returns-in-Ok-clause-taken
returns-in-Ok-clause-taken g c = λ taken. does_in_same _ _ _ _ _ _ _ _ _ _ _ _ _ _ _ (ap (map (λ folder. folder.now)) c.deref.ensures.value ∙ c.in-Ok.ensures.3) c.in-Ok.ensures.1 c.in-Ok.ensures.2 c.do_line.ensures.does

pub returns-in-Ok-clause-reasons : goal.returns-in-Ok-clause-reasons
returns-in-Ok-clause-reasons g c = λ taken. inl (c.do_line.ensures.reasons ∙ c.in-Ok.ensures.2)

pub returns-in-Err-Help : goal.returns-in-Err-Help
returns-in-Err-Help g c =
    let kinds = refusals (map string_bytes c.args.words.now) in
    let because : Declines kinds (none.Help c.in-Err-Help.text) = rw c.in-Err-Help.field-0-is at c.in-Err-Help.ensures in
    record {
      taken = λ taken. absurd (asked_help kinds because taken);
      words = λ not_taken. (
        shown c.as_str.result.now,
        inr (c.as_str.result.now, text_is kinds true c.as_str.result.now because),
        on_output _ _ _ (shown c.as_str.result.now) _ _ refl refl c.show.ensures c.with_status.ensures.end,
      );
      reasons = λ taken. absurd (asked_help kinds because taken);
      untouched = λ not_taken. refl;
      unasked = λ not_taken. refl;
    }

pub returns-in-Err-Refused : goal.returns-in-Err-Refused
returns-in-Err-Refused g c =
    let kinds = refusals (map string_bytes c.args.words.now) in
    let because : Declines kinds (none.Refused c.in-Err-Refused.text) = rw c.in-Err-Refused.field-0-is at c.in-Err-Refused.ensures in
    let text = c.as_str-in-Err-Refused.result.now in
    record {
      taken = λ taken. absurd (because.0 taken);
      words = λ not_taken. (
        refused text,
        inr (text, text_is kinds false text because.1),
        on_errors _ _ _ (refused text) _ _ refl refl c.refuse.ensures c.with_status-in-Err-Refused.ensures.end,
      );
      reasons = λ taken. absurd (because.0 taken);
      untouched = λ not_taken. refl;
      unasked = λ not_taken. refl;
    }

pub returns-in-Err-Memory : goal.returns-in-Err-Memory
returns-in-Err-Memory g c =
    let told = on_errors _ _ _ memory_told _ _ refl refl c.tell_memory.ensures c.with_status-in-Err-Memory.ensures.end in
    record {
      taken = λ taken. does_in_same_without _ _ _ _ _ _ _ _ _ _ (does_without _ _ _ _ _ _ _ _ _ told) (never_stopped _, refl, told);
      words = λ not_taken. (memory_told, inl refl, told);
      reasons = λ taken. inr (ap (λ (e : End). e.status) c.with_status-in-Err-Memory.ensures.end ∙ four _ _ _ _ c.tell_memory.ensures);
      untouched = λ not_taken. refl;
      unasked = λ not_taken. refl;
    }
