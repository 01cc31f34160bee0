-- An active job notifies all, and then lets go.
use Rattle.std.proofs.Common.{◌≡◌, sym, ap, ◌∙◌, subst, arith}
use Rattle.carriers.specs.Meaning.{Sent}
use Rattle.carriers.proofs.Sends.{sent_more, length-sent}
use Rattle.rows.specs.Waiting.{at}
use Rattle.exchange.specs.Rules.{notify_messages, grant_messages, Act}
use Rattle.detection.proofs.Acts.{active_job_lets_go, active_job_puts_both}
use Rattle.detection.proofs.reactions.spread.Given as given
use Rattle.detection.proofs.reactions.spread.Goals as goal
use Rattle.detection.proofs.reactions.spread.Goals.{Then-need-eq0}

active : (g : given.Over) (c : Then-need-eq0 g) → (at (g.T.Table.rows c.args.table.now.table.now) c.args.job).need ≡ 0
active g c = sym c.need.ensures ∙ c.if-need-eq0.true

pub release-requires : goal.release-requires
release-requires g c =
    let rows = g.T.Table.rows c.args.table.now.table.now in
    let before = g.C.Carrier.carried c.args.carrier.now in
    let between = g.C.Carrier.carried c.send_notifies-own.new.carrier in
    let sent = c.send_notifies-own.ensures.sent in
    let puts = active_job_puts_both rows c.args.job c.args.own.now (active g (goal.at.release-requires g c).Then-need-eq0) in
    record { room = omega (arith, length-sent before between (notify_messages rows c.args.job) sent, sent.capacity, puts, c.requires) }

pub returns-then-need-eq0 : goal.returns-then-need-eq0
returns-then-need-eq0 g c =
    let rows = g.T.Table.rows c.args.table.now.table.now in
    let before = g.C.Carrier.carried c.args.carrier.now in
    let between = g.C.Carrier.carried c.send_notifies-own.new.carrier in
    let after = g.C.Carrier.carried c.release.new.carrier in
    let both = active_job_lets_go rows c.args.job c.args.own.now (active g (goal.at.returns-then-need-eq0 g c).Then-need-eq0) in
    let sent = sent_more before between after (notify_messages rows c.args.job) (grant_messages rows c.args.job)
    c.send_notifies-own.ensures.sent c.release.ensures.sent in
    let count = c.send_notifies-own.ensures.count in
    let becomes = c.release.ensures.own in
    let becomes-both = ap (λ (a : Act). a.becomes) both in
    record { own = cc; sent = subst (λ (a : Act). Sent before after a.puts) (sym both) sent }
