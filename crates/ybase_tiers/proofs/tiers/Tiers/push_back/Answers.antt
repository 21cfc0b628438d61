use Rattle.std.proofs.Common.{◌∙◌, ◌*◌, ap₂, insert, sym}
use Rattle.std.proofs.lemmas.List.{get_or_read}
use Rattle.ybase_tiers.specs.Order.{in_order}
use Rattle.ybase_tiers.proofs.TierLemmas.{back_is, start_within}
use Rattle.ybase_tiers.proofs.tiers.Tiers.push_back.Goals as goal

pub place_behind-requires : goal.place_behind-requires
place_behind-requires g c =
    let old = c.args.self.now in start_within old.starts.items c.args.tier c.index-start.result.now old.within c.requires c.index-start.ensures

pub returns-clause-row : goal.returns-clause-row
returns-clause-row g c =
    let old = c.args.self.now in
    let starts = old.starts.items in
    let tier = c.args.tier in
    let start = c.index-start.result.now in
    let out = c.change.result in
    let turn = c.place_behind.ensures in
    ap₂ (λ ss ps. insert (in_order 1024 ss ps) (tier * 1024) out) c.change.ensures.starts c.change.ensures.places
    ∙ back_is starts old.places.items old.full tier start c.place_behind.result c.args.x out c.requires turn.inner turn.outer
    (start_within starts tier start old.within c.requires c.index-start.ensures)
    (sym (get_or_read starts tier start c.requires c.index-start.ensures 0)) c.change.ensures.value
