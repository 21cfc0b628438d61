use Rattle.std.proofs.Common.{ℕ, List, [], ◌∷◌, ◌++◌, length, sym, ap, ◌∙◌, option_map}
use Rattle.std.proofs.lemmas.Iterator.{YieldsList-from_chars}
use Rattle.std.proofs.lemmas.Iterator.Consumers.{YieldsList-turn, YieldsList-end}
use Rattle.std.proofs.lemmas.List.{length_push}
use Rattle.std.specs.Str.{chars}
use Rattle.ytype_patterns.specs.ReadingView.{Read, left_behind, nothing_read, reader_view}
use Rattle.ytype_patterns.proofs.ReadingLemmas.{one_read, none_left}
use Rattle.ytype_patterns.proofs.SetLemmas.{if_ok}
use Rattle.ytype_patterns.proofs.reading.spelled_by.Goals as goal

pub loop-c-init : goal.loop-c-init
loop-c-init c = ap (λ (s : Read). left_behind s (chars c.args.text.now)) c.nothing_read-reader.ensures

pub loop-c-preserved : goal.loop-c-preserved
loop-c-preserved c =
    let cs : List ℕ = chars c.args.text.now in
    let yielded = c.loop-c.yielded in
    let turn = YieldsList-turn (YieldsList-from_chars c.args.text.now c.utf8.text cc) yielded _ c.loop-c.yielded_by _ _ c.in-Some.c c.in-Some.is c.next.ensures.steps in
    let made = ap (option_map reader_view) (sym c.in-Some-2.is) ∙ c.in_ok-with_character.ensures in
    one_read cs (length yielded) (length (yielded ++ c.in-Some.c ∷ [])) c.in-Some.c (reader_view c.loop-c.reader) (left_behind nothing_read cs)
    _ turn (length_push yielded c.in-Some.c) made c.loop-c.invariant

pub returns-in-None-2 : goal.returns-in-None-2
returns-in-None-2 c =
    let cs : List ℕ = chars c.args.text.now in
    let yielded = c.loop-c.yielded in
    let turn = YieldsList-turn (YieldsList-from_chars c.args.text.now c.utf8.text cc) yielded _ c.loop-c.yielded_by _ _ c.in-Some.c c.in-Some.is c.next.ensures.steps in
    let made = ap (option_map reader_view) (sym c.in-None-2.is) ∙ c.in_ok-with_character.ensures in
    one_read cs (length yielded) (length (yielded ++ c.in-Some.c ∷ [])) c.in-Some.c (reader_view c.loop-c.reader) (left_behind nothing_read cs)
    _ turn (length_push yielded c.in-Some.c) made c.loop-c.invariant

pub returns : goal.returns
returns c =
    let cs : List ℕ = chars c.args.text.now in
    let end = YieldsList-end (YieldsList-from_chars c.args.text.now c.utf8.text cc) c.loop-c.yielded _ c.loop-c.yielded_by _ _ c.in-None.is c.next.ensures.steps in
    if_ok _ _ c.ended.result (λ made is. is ∙ none_left cs (length c.loop-c.yielded) (reader_view c.loop-c.reader) (left_behind nothing_read cs) end.1 c.loop-c.invariant) c.ended.ensures
