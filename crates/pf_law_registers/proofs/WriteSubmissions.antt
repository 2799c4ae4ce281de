-- Each write comes from a submission.
use Rattle.std.proofs.Common.{◌≡◌, ℕ, Some, sym, ap, ◌∙◌}
use Rattle.std.proofs.lemmas.Option.{none-some}
use Rattle.pf_entry.specs.Ops.{Sector}
use Rattle.pf_entry.specs.declared.ops.Op.{Op}
use Rattle.pf_protocol.specs.Servers.{Setup}
use Rattle.pf_protocol.specs.Histories.{History, IsChosen}
use Rattle.pf_protocol.specs.Ports.{WasSubmitted}
use Rattle.pf_protocol.proofs.ForPorts.{was_submitted}
use Rattle.pf_law_registers.specs.Orders.{given}
use Rattle.pf_law_registers.proofs.Folds.{noop_gives}

pub source : (setup : Setup) (now : History) (slot term : ℕ) (op : Op) (x : ℕ) (bytes : Sector) → IsChosen setup now slot term op → given op x ≡ Some bytes → WasSubmitted setup now slot op
source setup now slot term op x bytes c gives = was_submitted setup now slot term op c (λ noop. none-some bytes (sym (noop_gives x) ∙ ap (λ o. given o x) (sym noop) ∙ gives))
