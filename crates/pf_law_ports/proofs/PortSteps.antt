-- A step of a port, and all of its steps.
use Rattle.std.proofs.Common.{◌≡◌, ℕ, Bool, true, false, cond, List, ◌++◌, Option, Some, None, refl, sym, ap, subst, ◌∙◌}
use Rattle.std.specs.Prelude.{IfSome}
use Rattle.std.specs.Option.{option_map}
use Rattle.pf_base.specs.declared.asks.Ask.{Ask}
use Rattle.pf_base.specs.declared.asks.Ask.TheVariants.{Write as WriteAsk, Read as ReadAsk}
use Rattle.pf_base.specs.declared.asks.Reply.{Reply}
use Rattle.pf_protocol.specs.Servers.{Setup}
use Rattle.pf_protocol.specs.Histories.{History, IsPrefix, replay}
use Rattle.pf_protocol.specs.Answers.{IsLegal}
use Rattle.pf_protocol.specs.Ports.{FollowsRule}
use Rattle.pf_protocol.proofs.ForMoments.{legal_before}
use Rattle.pf_group_network.specs.Shown.{ServesInTerm}
use Rattle.pf_asks.specs.declared.port.Sent.{Sent}
use Rattle.pf_asks.specs.declared.port.Sent.TheVariants.{Slot, Number}
use Rattle.pf_asks.specs.Desks.{DeskCall, Led, Submitted, Fetched}
use Rattle.pf_asks.specs.Ports.{PortIs, goes_to, Hands, AskIsHanded, PortStays, PortGoes, IsLed, LooksFor, PortGoesOn, DrivesFrom, Drives}
use Rattle.pf_law_ports.specs.Calls.{PortPast, submission_of, fetching_of, with_write, with_read, slot_in, number_in, PastSays, SayInTurn}
use Rattle.pf_law_ports.specs.Driven.{IsUndisturbedStep, IsDriven, Begins, Others, Puts, Steps}
use Rattle.pf_law_ports.specs.Replies.{IsReplied}
use Rattle.pf_law_ports.specs.Rising.{TermsAreRising}
use Rattle.pf_law_ports.proofs.CallGrowth.{grows}
use Rattle.pf_law_ports.proofs.RisingTerms.{rising}
use Rattle.pf_law_ports.proofs.BetweenSteps.{IsSent, Stands, begins, later, puts, replies, writes, reads}
use Rattle.pf_law_ports.proofs.PortReplies.{look_leaves, replied, all_ended}

module _ (setup : Setup) (past : PortPast) (port : PortIs) (s : Stands setup past port) where
  -- the pending ask is handed to the leader
  handed : (ask : Ask) (server term : ℕ) (call : DeskCall) (sent : Option Sent) (new : PortPast) → port.ask ≡ Some ask → ServesInTerm (replay setup past.history) server term → goes_to port.sent port.last term ≡ true → Hands ask server call sent → PastSays setup past call new → IsLegal setup new.history → Stands setup new (record port { sent = sent; last = term })
  handed (WriteAsk chunk span sectors) server term (Submitted i range payload slot) sent new pending serves goes hands says legal =
      let answer = says.0 in
      let is : new ≡ with_write past (submission_of past server span sectors says.0) =
      says.2 ∙ ap (λ j. with_write past (submission_of past j range payload says.0)) hands.0 ∙ ap (λ r. with_write past (submission_of past server r payload says.0)) hands.1 ∙ ap (λ p. with_write past (submission_of past server span p says.0)) hands.2 in
      let told : option_map Slot (slot_in says.0) ≡ sent = ap (option_map Slot) (sym says.1) ∙ sym hands.3 in
      subst (λ (p : PortPast). Stands setup p (record port { sent = sent; last = term })) (sym is)
      (subst (λ z. Stands setup (with_write past (submission_of past server span sectors says.0)) (record port { sent = z; last = term })) told
      (writes setup past port s server term serves goes says.0 chunk span sectors pending (subst (λ (p : PortPast). IsLegal setup p.history) is legal)))
  handed (ReadAsk chunk span) server term (Fetched i range number) sent new pending serves goes hands says legal =
      let is : new ≡ with_read past (fetching_of past server span says.0) =
      says.2 ∙ ap (λ j. with_read past (fetching_of past j range says.0)) hands.0 ∙ ap (λ r. with_read past (fetching_of past server r says.0)) hands.1 in
      let told : option_map Number (number_in says.0) ≡ sent = ap (option_map Number) (sym says.1) ∙ sym hands.2 in
      subst (λ (p : PortPast). Stands setup p (record port { sent = sent; last = term })) (sym is)
      (subst (λ z. Stands setup (with_read past (fetching_of past server span says.0)) (record port { sent = z; last = term })) told
      (reads setup past port s server term serves goes says.0 chunk span pending))
  handed ask server term call sent new pending serves goes hands says legal = absurd hands

  -- or it stays where it is
  stays : (rest : List DeskCall) (next : PortIs) (new : PortPast) → PortStays port rest next → SayInTurn setup past rest new → Stands setup new next
  stays rest next new is say =
      let same : new ≡ past = subst (λ calls. SayInTurn setup past calls new) is.none say in
      subst (λ (p : PortPast). Stands setup p next) (sym same) (subst (Stands setup past) (sym is.same) s)

  module _ (ask : Ask) (pending : port.ask ≡ Some ask) (next : PortIs) (new : PortPast) (legal : IsLegal setup new.history) where
    by_term : (server term : ℕ) (rest : List DeskCall) (goes : Bool) → goes_to port.sent port.last term ≡ goes → ServesInTerm (replay setup past.history) server term → cond goes (AskIsHanded port ask term server rest next) (PortStays port rest next) → SayInTurn setup past rest new → Stands setup new next
    by_term server term rest true goes serves is say =
        let said = subst (λ calls. SayInTurn setup past calls new) is.once say in
        let says : PastSays setup past is.call new = subst (PastSays setup past is.call) (sym said.2) said.1 in
        subst (Stands setup new) (sym is.is) (handed ask server term is.call is.sent new pending serves goes is.hands says legal)
    by_term server term rest false goes serves is say = stays rest next new is say

    by_leader : (leader : Option (ℕ × ℕ)) (rest : List DeskCall) (mid : PortPast) → PortGoes port ask leader rest next → PastSays setup past (Led leader) mid → SayInTurn setup mid rest new → Stands setup new next
    by_leader None rest mid goes says say = stays rest next new goes (subst (λ (p : PortPast). SayInTurn setup p rest new) says.0 say)
    by_leader (Some (term, server)) rest mid goes says say =
        by_term server term rest (goes_to port.sent port.last term) refl says.1.0 goes (subst (λ (p : PortPast). SayInTurn setup p rest new) says.0 say)

    led : (calls : List DeskCall) → IsLed port ask calls next → SayInTurn setup past calls new → Stands setup new next
    led calls is say =
        let said = subst (λ all. SayInTurn setup past all new) is.asked say in
        by_leader is.leader is.rest said.0 is.goes said.1 said.2

    record Stepped (reply : Option Reply) : Type 0 where
      stands_on : Stands setup new next
      is_replied : IfSome reply (IsReplied setup new ask)

    by_reply : (sent : Sent) (look : DeskCall) (rest : List DeskCall) (mid : PortPast) (reply : Option Reply) → port.sent ≡ Some sent → LooksFor sent port.last look reply → PortGoesOn reply port ask rest next → PastSays setup past look mid → SayInTurn setup mid rest new → Stepped reply
    by_reply sent look rest mid None is looks goes says say = record {
      stands_on = led rest goes (subst (λ (p : PortPast). SayInTurn setup p rest new) (look_leaves setup past mid sent port.last look None looks says) say);
      is_replied = tt;
    }
    by_reply sent look rest mid (Some reply) is looks goes says say =
        let left : mid ≡ past = look_leaves setup past mid sent port.last look (Some reply) looks says in
        let same : new ≡ past = subst (λ calls. SayInTurn setup mid calls new) goes.0 say ∙ left in
        let here : IsLegal setup past.history = subst (λ (p : PortPast). IsLegal setup p.history) same legal in
        let sent_is : IsSent setup past port.last (Some ask) (Some sent) = subst (λ z. IsSent setup past port.last z (Some sent)) pending (subst (IsSent setup past port.last port.ask) is s.sent) in
        let answer = replied setup past port s here mid ask sent look reply pending sent_is looks says in
        let after = replies setup past port s (all_ended setup past port s here ask reply pending answer) in
        record {
          stands_on = subst (λ (p : PortPast). Stands setup p next) (sym same) (subst (Stands setup past) (sym goes.1) after);
          is_replied = subst (λ (p : PortPast). IsReplied setup p ask reply) (sym same) answer;
        }

    by_sent : (calls : List DeskCall) (reply : Option Reply) (sent : Option Sent) → port.sent ≡ sent → DrivesFrom sent port ask calls reply next → SayInTurn setup past calls new → Stepped reply
    by_sent calls reply None is drives say = record {
      stands_on = led calls drives.1 say;
      is_replied = subst (λ r. IfSome r (IsReplied setup new ask)) (sym drives.0) tt;
    }
    by_sent calls reply (Some sent) is drives say =
        let said = subst (λ all. SayInTurn setup past all new) drives.asked say in
        by_reply sent drives.look drives.rest said.0 reply is drives.looks drives.goes said.1 said.2

    stepped : (calls : List DeskCall) (reply : Option Reply) → Drives port ask calls reply next → SayInTurn setup past calls new → Stepped reply
    stepped calls reply drives say = by_sent calls reply port.sent refl drives say

begun_with : (setup : Setup) (past : PortPast) (more : History) → IsPrefix past.history (past.history ++ more)
begun_with setup past more = record { rest = more; whole = refl }

pub stands : (setup : Setup) (past : PortPast) (port : PortIs) → IsDriven setup past port → IsLegal setup past.history → Stands setup past port
stands setup _ _ (Begins history) legal = begins setup history
stands setup _ _ (Others past port more driven) legal =
    later setup past port (stands setup past port driven (legal_before setup past.history (past.history ++ more) (begun_with setup past more) legal)) (past.history ++ more) (begun_with setup past more)
stands setup _ _ (Puts past port ask number above none driven) legal = puts setup past port (stands setup past port driven legal) ask number above none
stands setup _ _ (Steps old new port next ask reply step driven) legal =
    (stepped setup old port (stands setup old port driven (legal_before setup old.history new.history (grows setup old step.calls new step.say) legal)) ask step.pending next new legal step.calls reply step.drives step.say).stands_on

pub follows : (setup : Setup) (past : PortPast) (port : PortIs) → IsDriven setup past port → IsLegal setup past.history → FollowsRule setup past.history past.writes
follows setup past port driven legal = (stands setup past port driven legal).rule

pub rises : (setup : Setup) (past : PortPast) (port : PortIs) → IsDriven setup past port → IsLegal setup past.history → TermsAreRising setup past.writes
rises setup past port driven legal =
    let s = stands setup past port driven legal in
    rising setup past.history past.writes s.rule s.target

pub answers : (setup : Setup) (old new : PortPast) (port next : PortIs) (ask : Ask) (reply : Reply) → IsDriven setup old port → IsUndisturbedStep setup old port ask (Some reply) new next → IsLegal setup new.history → IsReplied setup new ask reply
answers setup old new port next ask reply driven step legal =
    (stepped setup old port (stands setup old port driven (legal_before setup old.history new.history (grows setup old step.calls new step.say) legal)) ask step.pending next new legal step.calls (Some reply) step.drives step.say).is_replied
