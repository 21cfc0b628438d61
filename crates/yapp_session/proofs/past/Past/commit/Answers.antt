use Rattle.std.proofs.Common.{ap, ◌∙◌, ◌++◌, [], ◌∷◌, take, drop, None}
use Rattle.std.specs.List.{flat_map}
use Rattle.yspec_session.specs.Remembering.{one_more, until}
use Rattle.yapp_session.specs.View.{group_view, groups_view, past_view}
use Rattle.yapp_session.proofs.PastLemmas.{joined_groups, past_as}
use Rattle.yapp_session.proofs.past.Past.commit.Goals as goal

pub returns-clause-ok : goal.returns-clause-ok
returns-clause-ok c =
    let k = past_view c.args.self.now in
    let n = c.args.since.groups in
    past_as k (groups_view c.put_last.new.groups.items) (take n k.groups ++ flat_map (λ g. g) (drop n k.groups) ∷ []) c.one_more-self.result
    (one_more c.args.limit c.args.since.kept) None _ (until n k.later)
    (c.in_ok-put_last.ensures.ok
    ∙ ap (λ es. take n k.groups ++ es ∷ [])
    (c.in_ok-all.ensures
    ∙ (ap (flat_map group_view) (c.items_behind.ensures ∙ ap (drop n) c.deref.ensures.value) ∙ joined_groups n c.args.self.now.groups.items)))
    c.one_more-self.ensures c.forget_behind.ensures
