use Rattle.std.proofs.Common.{rules, ◌≡◌, ◌∙◌, ap, insert}
use Rattle.ybase_tiers.specs.Order.{in_order}
use Rattle.ybase_tiers.proofs.TierLemmas.{inserted_is}
use Rattle.ybase_tiers.proofs.tiers.Tiers.insert_open.Goals as goal

pub returns-clause-row : goal.returns-clause-row
returns-clause-row g c =
    let old = c.args.self.now in
    let now : c.insert.new.self.items ≡ insert old.places.items c.args.place c.args.x = search (rules, c.requires.room) in
    ap (in_order 1024 old.starts.items) now ∙ inserted_is old.starts.items old.places.items old.full c.args.place c.args.x c.requires.run c.requires.within
