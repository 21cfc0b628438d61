use Rattle.std.proofs.Common.{length, sym, string_bytes, ◌∙◌, ◌++◌, ◌∷◌, []}
use Rattle.std.proofs.lemmas.Iterator.{YieldsList-from_chars}
use Rattle.std.proofs.lemmas.Iterator.Consumers.{YieldsList-turn, YieldsList-end}
use Rattle.std.proofs.lemmas.List.{append-nil, length_push}
use Rattle.std.specs.Str.{chars}
use Rattle.ysay_text.specs.Control.{visible_character}
use Rattle.ysay_text.proofs.ControlLemmas.{one_more, all_added}
use Rattle.ysay_text.proofs.control.visible.Goals as goal

pub loop-character-preserved : goal.loop-character-preserved
loop-character-preserved c =
    let yielded = c.loop-character.yielded in
    let turn = YieldsList-turn (YieldsList-from_chars c.args.text.now c.utf8.text cc) yielded _ c.loop-character.yielded_by _ _ c.in-Some.character c.in-Some.is c.next.ensures.steps in
    one_more visible_character (chars c.args.text.now) (length yielded) (length (yielded ++ c.in-Some.character ∷ [])) c.in-Some.character
    (string_bytes c.loop-character.seen) (string_bytes c.push_visible.new.text) turn
    (length_push yielded c.in-Some.character) c.in_ok-push_visible.ensures c.loop-character.invariant

pub returns : goal.returns
returns c =
    let end = YieldsList-end (YieldsList-from_chars c.args.text.now c.utf8.text cc) c.loop-character.yielded _ c.loop-character.yielded_by _ _ c.in-None.is c.next.ensures.steps in
    sym (append-nil (string_bytes c.loop-character.seen))
    ∙ all_added visible_character (chars c.args.text.now) (length c.loop-character.yielded) (string_bytes c.loop-character.seen) end.1 c.loop-character.invariant
