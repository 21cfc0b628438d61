use Rattle.std.proofs.Common.{◌∙◌, ◌+◌, ◌*◌, ap₂, insert, sym}
use Rattle.std.proofs.lemmas.List.{get_or_read}
use Rattle.ybase_tiers.specs.Order.{in_order}
use Rattle.ybase_tiers.proofs.TierLemmas.{front_is}
use Rattle.ybase_tiers.proofs.tiers.Tiers.push_front.Goals as goal

pub returns-clause-row : goal.returns-clause-row
returns-clause-row g c =
    let old = c.args.self.now in
    let starts = old.starts.items in
    let tier = c.args.tier in
    let start = c.index.result.now in
    let out = c.change.result in
    let turn = c.place_before-last.ensures in
    ap₂ (λ ss ps. insert (in_order 1024 ss ps) (tier * 1024 + 1024) out) c.change.ensures.starts c.change.ensures.places
    ∙ front_is starts old.places.items old.full tier c.place_before-last.result start c.args.x out c.requires turn.inner turn.outer turn.within
    (sym (get_or_read starts tier start c.requires c.index.ensures 0)) c.change.ensures.value
