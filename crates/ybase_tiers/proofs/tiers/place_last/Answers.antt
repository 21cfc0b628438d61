use Rattle.std.proofs.Common.{rules, ◌≡◌, ◌-◌, ◌+◌, length, refl}
use Rattle.ybase_tiers.proofs.MoveLemmas.{put_last}
use Rattle.ybase_tiers.proofs.tiers.place_last.Goals as goal

pub returns-clause-items : goal.returns-clause-items
returns-clause-items g c =
    let old = c.args.places.now.items in
    let all = c.copy_within.ensures.by_index in
    let long : length c.copy_within.new.self.items ≡ length old = search rules in
    put_last old c.copy_within.new.self.items c.args.from c.args.end (c.args.end - (c.args.from + 1)) c.args.x c.index-first.result.now c.requires.order c.requires.within
    long refl all.0 all.1 all.2 c.index-first.ensures
