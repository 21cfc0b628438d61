use Rattle.std.proofs.Common.{ap, map, refl, string_bytes, sym, ◌∙◌}
use Rattle.yapp.proofs.SearchedLemmas.{does_plainly, does_searched, does_short, has_searched, none_named, some_named}
use Rattle.yapp.proofs.program.do_line.Goals as goal

pub returns-then-is_empty-clause-does : goal.returns-then-is_empty-clause-does
returns-then-is_empty-clause-does g c =
    does_plainly _ _ _ _ _ _ _ _ _ _ _ _ (none_named c.args.folders.now (sym c.is_empty.ensures ∙ c.if-is_empty.true)) c.do_asked.ensures.does

pub returns-in-Ok-clause-does : goal.returns-in-Ok-clause-does
returns-in-Ok-clause-does g c = does_searched _ _ _ _ _ _ _ _ _ _ _ _ (some_named c.args.folders.now (sym c.is_empty.ensures ∙ c.if-is_empty.false))
    (has_searched _ _ _ _ _ _ _ _ _ _ _ _ _ _ _ _ refl (ap (map string_bytes) c.deref.ensures.value) c.in-Ok.ensures c.do_with.ensures.does)

pub returns-in-Err-clause-does : goal.returns-in-Err-clause-does
returns-in-Err-clause-does g c = does_short _ _ _ _ _ _ _ _ _ _ _ _ (some_named c.args.folders.now (sym c.is_empty.ensures ∙ c.if-is_empty.false))
    (c.in-Err.ensures, refl, c.without_memory.ensures.tells _)
