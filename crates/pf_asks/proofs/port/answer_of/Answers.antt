use Rattle.std.proofs.Common.{subst, sym, Some, rules}
use Rattle.std.specs.Prelude.{IfSome}
use Rattle.pf_base.specs.Asks.{Answers}
use Rattle.pf_base.specs.declared.asks.Ask.{Ask}
use Rattle.pf_asks.specs.declared.port.Sent.{Sent}
use Rattle.pf_asks.specs.Ports.{ReadIsCounted, IsSentOf}
use Rattle.pf_asks.proofs.FetchedBytes.{whole_reply}
use Rattle.pf_asks.proofs.port.answer_of.Goals as goal

pub returns-in_ok-data-in-Number-clause-whole : goal.returns-in_ok-data-in-Number-clause-whole
returns-in_ok-data-in-Number-clause-whole g c =
    let counts = g.K.Desk.counts c.args.desk.now in
    let whole : Sent → Type 0 = λ sent. IfSome c.map.result (λ r. (ask : Ask) → IsSentOf (Some ask) (Some sent) → ReadIsCounted counts (Some sent) (Some ask) → Answers ask r) in
    subst whole (sym c.in-Number.is) (whole_reply counts c.in-Number.number c.in_ok-data-in-Number.data c.map.result (search rules) c.in_ok-data-in-Number.ensures.whole)
