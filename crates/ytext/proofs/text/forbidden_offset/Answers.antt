use Rattle.std.proofs.Common.{ℕ, List, Bool, ◌+◌, [], length, drop, sym, ap, ◌∙◌, refl, arith}
use Rattle.std.proofs.lemmas.Iterator.{YieldsList-from_chars}
use Rattle.std.proofs.lemmas.Iterator.Consumers.{YieldsList-turn, YieldsList-end}
use Rattle.std.proofs.lemmas.List.{length_push}
use Rattle.std.proofs.lemmas.Str.{encodes-chars, len_utf8_bounds}
use Rattle.std.specs.Str.{chars}
use Rattle.std.specs.List.{list_all}
use Rattle.ytext.specs.Characters.{is_plain}
use Rattle.ytext.proofs.PlainLemmas.{plain_place}
use lib.Utf8.{encodes}
use Rattle.ytext.specs.Characters.{pending_place}
use Rattle.ytext.proofs.TextLemmas.{char_at, char_bytes, none_left, no_return}
use Rattle.ytext.proofs.text.forbidden_offset.Goals as goal

pub loop-character-init : goal.loop-character-init
loop-character-init c = record { rest = refl; behind = no_return; bound = omega (arith, ap length (encodes-chars c.args.text.now c.utf8.text)) }

pub loop-character-preserved : goal.loop-character-preserved
loop-character-preserved c =
    let cs : List ℕ = chars c.args.text.now in
    let yielded = c.loop-character.yielded in
    let n : ℕ = length yielded in
    let turn = YieldsList-turn (YieldsList-from_chars c.args.text.now c.utf8.text cc) c.loop-character.yielded _ c.loop-character.yielded_by _ _ c.in-Some.character c.in-Some.is c.next.ensures.steps in
    let before = c.loop-character.invariant in
    let next = c.in-Ok.next in
    let more = length_push yielded c.in-Some.character in
    let here = char_at cs n c.in-Some.character turn in
    let long = len_utf8_bounds c.in-Some.character in
    record {
      rest = ap (λ (k : ℕ). pending_place next.1 next.0 (drop k cs)) more ∙ sym (c.in-Ok.ensures.allowed (drop (n + 1) cs))
          ∙ ap (pending_place c.loop-character.has_returned c.loop-character.place) (sym here) ∙ before.rest;
      behind = λ e. omega (arith, c.in-Ok.ensures.next, long.0);
      bound = ap (λ (k : ℕ). next.0 + length (encodes (drop k cs))) more ∙ omega (arith, c.in-Ok.ensures.next, char_bytes cs n c.in-Some.character here, before.bound);
    }

pub returns-in-Err-clause-place : goal.returns-in-Err-clause-place
returns-in-Err-clause-place c =
    let cs : List ℕ = chars c.args.text.now in
    let n : ℕ = length c.loop-character.yielded in
    let turn = YieldsList-turn (YieldsList-from_chars c.args.text.now c.utf8.text cc) c.loop-character.yielded _ c.loop-character.yielded_by _ _ c.in-Some.character c.in-Some.is c.next.ensures.steps in
    sym (c.in-Err.ensures.forbidden (drop (n + 1) cs))
    ∙ ap (pending_place c.loop-character.has_returned c.loop-character.place) (sym (char_at cs n c.in-Some.character turn)) ∙ c.loop-character.invariant.rest

pub returns-then-has_returned-clause-place : goal.returns-then-has_returned-clause-place
returns-then-has_returned-clause-place c =
    let cs : List ℕ = chars c.args.text.now in
    let end = YieldsList-end (YieldsList-from_chars c.args.text.now c.utf8.text cc) c.loop-character.yielded _ c.loop-character.yielded_by _ _ c.in-None.is c.next.ensures.steps in
    sym (ap (λ (b : Bool). pending_place b c.loop-character.place []) c.if-has_returned.true)
    ∙ ap (pending_place c.loop-character.has_returned c.loop-character.place) (sym (none_left cs (length c.loop-character.yielded) end.1)) ∙ c.loop-character.invariant.rest

pub returns-else-has_returned-clause-place : goal.returns-else-has_returned-clause-place
returns-else-has_returned-clause-place c =
    let cs : List ℕ = chars c.args.text.now in
    let end = YieldsList-end (YieldsList-from_chars c.args.text.now c.utf8.text cc) c.loop-character.yielded _ c.loop-character.yielded_by _ _ c.in-None.is c.next.ensures.steps in
    sym (ap (λ (b : Bool). pending_place b c.loop-character.place []) c.if-has_returned.false)
    ∙ ap (pending_place c.loop-character.has_returned c.loop-character.place) (sym (none_left cs (length c.loop-character.yielded) end.1)) ∙ c.loop-character.invariant.rest

pub returns-then-are_plain-clause-place : goal.returns-then-are_plain-clause-place
returns-then-are_plain-clause-place c =
    sym (plain_place (chars c.args.text.now) 0 (ap (list_all is_plain) (encodes-chars c.args.text.now c.utf8.text ∙ sym c.as_bytes.ensures.value) ∙ sym c.if-are_plain.ensures))
