use Rattle.std.proofs.Common.{arith, ◌≡◌, ◌/◌, ◌%◌, ◌<◌, get_or, length, sym}
use Rattle.std.proofs.lemmas.List.{get_or_read}
use Rattle.ybase_tiers.proofs.TierLemmas.{stands_before, stands_behind, stands_past}
use Rattle.ybase_tiers.proofs.tiers.Tiers.index_of.Goals as goal

pub returns-then-tier-len-clause-index : goal.returns-then-tier-len-clause-index
returns-then-tier-len-clause-index g c =
    let old = c.args.self.now in
    sym (stands_past old.starts.items c.args.place (omega (arith, c.if-tier-len.true, c.len.ensures, old.starts.ok.0)))

pub returns-then-index-lt-TIER-clause-index : goal.returns-then-index-lt-TIER-clause-index
returns-then-index-lt-TIER-clause-index g c =
    let starts = c.args.self.now.starts in
    let tier = c.args.place / 1024 in
    let within : tier < length starts.items = omega (arith, c.if-tier-len.false, c.len.ensures, starts.ok.0) in
    let start = c.index.result.now in
    let held : get_or starts.items tier 0 ≡ start = sym (get_or_read starts.items tier start within c.index.ensures 0) in
    sym (stands_before starts.items tier (c.args.place % 1024) c.args.place start (omega arith) (omega arith) within held c.if-index-lt-TIER.true)

pub returns-else-index-lt-TIER-clause-index : goal.returns-else-index-lt-TIER-clause-index
returns-else-index-lt-TIER-clause-index g c =
    let starts = c.args.self.now.starts in
    let tier = c.args.place / 1024 in
    let within : tier < length starts.items = omega (arith, c.if-tier-len.false, c.len.ensures, starts.ok.0) in
    let start = c.index.result.now in
    let held : get_or starts.items tier 0 ≡ start = sym (get_or_read starts.items tier start within c.index.ensures 0) in
    sym (stands_behind starts.items tier (c.args.place % 1024) c.args.place start (omega arith) (omega arith) within held c.if-index-lt-TIER.false)
