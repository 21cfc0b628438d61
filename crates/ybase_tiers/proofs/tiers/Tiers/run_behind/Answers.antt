use Rattle.std.proofs.Common.{arith, ◌≡◌, ◌/◌, ◌%◌, ◌<◌, get_or, length, sym}
use Rattle.std.proofs.lemmas.List.{get_or_read}
use Rattle.ybase_tiers.proofs.TierLemmas.{run_from_seam, run_past, run_up_to_seam}
use Rattle.ybase_tiers.proofs.tiers.Tiers.run_behind.Goals as goal

pub returns-then-tier-len-clause-run : goal.returns-then-tier-len-clause-run
returns-then-tier-len-clause-run g c = λ k less.
    let starts = c.args.self.now.starts in run_past starts.items c.args.place k (omega (arith, c.if-tier-len.true, c.len.ensures, starts.ok.0))

pub returns-then-start-place-lt-TIER-clause-run : goal.returns-then-start-place-lt-TIER-clause-run
returns-then-start-place-lt-TIER-clause-run g c = λ k less.
    let starts = c.args.self.now.starts in
    let place = c.args.place in
    let tier = place / 1024 in
    let start = c.index-start.result.now in
    let within : tier < length starts.items = omega (arith, c.if-tier-len.false, c.len.ensures, starts.ok.0) in
    let held : get_or starts.items tier 0 ≡ start = sym (get_or_read starts.items tier start within c.index-start.ensures 0) in
    run_up_to_seam starts.items place tier (place % 1024) start (omega arith) within held k (omega (arith, less, c.if-start-place-lt-TIER.true))

pub returns-else-start-place-lt-TIER-clause-run : goal.returns-else-start-place-lt-TIER-clause-run
returns-else-start-place-lt-TIER-clause-run g c = λ k less.
    let starts = c.args.self.now.starts in
    let place = c.args.place in
    let tier = place / 1024 in
    let start = c.index-start.result.now in
    let within : tier < length starts.items = omega (arith, c.if-tier-len.false, c.len.ensures, starts.ok.0) in
    let held : get_or starts.items tier 0 ≡ start = sym (get_or_read starts.items tier start within c.index-start.ensures 0) in
    run_from_seam starts.items place tier (place % 1024) start (omega arith) within held k c.if-start-place-lt-TIER.false (omega (arith, less))
