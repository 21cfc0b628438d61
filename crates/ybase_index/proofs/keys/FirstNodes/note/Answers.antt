use Rattle.std.proofs.Common.{◌≡◌, Some, None, if◌then◌else◌, cond, ap, ◌∙◌, rules}
use Rattle.std.specs.Prelude.{option_and_then}
use Rattle.indexmap.specs.IndexMap.{get}
use Rattle.yspec.specs.Forest.{first_of}
use Rattle.ybase_index.specs.Keys.{asks_for, first_in, same_key}
use Rattle.ybase_index.proofs.KeyLemmas.{noted, put_twice, same_key-is}
use Rattle.ybase_index.proofs.keys.FirstNodes.note.Goals as goal

pub returns-in-Ok-clause-noted : goal.returns-in-Ok-clause-noted
returns-in-Ok-clause-noted c among k =
    let key = c.args.key in
    let held = get same_key c.args.self.now.by_key in
    let is_here = same_key key k in
    let twice = c.followed_by-in-Ok-Some.result in
    let was : Some c.in-Ok-Some.before ≡ held key = search rules in
    ap (option_and_then (first_in among))
    (c.in-Ok.ensures.updates.0 k
    ∙ (ap (cond is_here (Some twice)) (c.in-Ok-Some.ensures.updates.0 k)
    ∙ put_twice is_here twice c.followed_by.result (held k)))
    ∙ noted among is_here (asks_for among c.args.asked) (held k) twice c.args.number
    (λ e. c.followed_by-in-Ok-Some.ensures among
    ∙ ap (λ first. first_of first (if asks_for among c.args.asked then Some c.args.number else None))
    (ap (option_and_then (first_in among)) (was ∙ ap held (same_key-is key k e))))
