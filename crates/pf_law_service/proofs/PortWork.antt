-- What a step of a port does: without a reply it hands on its ask at most once, and goes on to have it; with one it has none any more.
use Rattle.std.proofs.Common.{◌≡◌, ℕ, suc, ◌⊎◌, inl, inr, Bool, true, false, cond, List, length, Option, Some, None, arith, refl, sym, ap, subst, ◌∙◌}
use Rattle.std.proofs.lemmas.Option.{none-some}
use Rattle.pf_base.specs.Span.{Span}
use Rattle.pf_base.specs.declared.asks.Ask.{Ask}
use Rattle.pf_base.specs.declared.asks.Ask.TheVariants.{Write as WriteAsk, Read as ReadAsk}
use Rattle.pf_base.specs.declared.asks.Reply.{Reply}
use Rattle.pf_entry.specs.Ops.{Sector}
use Rattle.pf_protocol.specs.declared.answers.Answer.{Answer}
use Rattle.pf_protocol.specs.Servers.{Setup}
use Rattle.pf_asks.specs.declared.port.Sent.{Sent}
use Rattle.pf_asks.specs.Desks.{DeskCall, Fetched, Led, Submitted}
use Rattle.pf_asks.specs.Ports.{DrivesFrom, PortGoes, Hands, AskIsHanded, IsLed, PortIs, PortStays, goes_to}
use Rattle.pf_law_ports.specs.Calls.{PortPast, SayInTurn, PastSays, fetching_of, submission_of, with_read, with_write}
use Rattle.pf_law_ports.specs.Driven.{IsUndisturbedStep}
use Rattle.pf_law_ports.proofs.PortReplies.{look_leaves}

-- an ask is handed on by one event
pub data Works (old : PortPast) (ask : Ask) (new : PortPast) : Type 0 where
  Writes : (chunk server : ℕ) (span : Span) (sectors : List Sector) (answer : Answer) → ask ≡ WriteAsk chunk span sectors → new ≡ with_write old (submission_of old server span sectors answer) → Works old ask new
  Fetches : (chunk server : ℕ) (span : Span) (answer : Answer) → ask ≡ ReadAsk chunk span → new ≡ with_read old (fetching_of old server span answer) → Works old ask new

module _ (setup : Setup) (old : PortPast) (port : PortIs) (ask : Ask) (next : PortIs) (new : PortPast) where
  -- the ask still pends, and nothing was done, or it was handed on
  pub record WentOn : Type 0 where
    pub still : next.ask ≡ port.ask
    pub works : (new ≡ old) ⊎ Works old ask new

  handed : (its : Ask) (server : ℕ) (call : DeskCall) (sent : Option Sent) → Hands its server call sent → PastSays setup old call new → Works old its new
  handed (WriteAsk chunk span sectors) server (Submitted i range payload slot) sent hands says =
      Writes chunk i span sectors says.0 refl
      (says.2 ∙ ap (λ r. with_write old (submission_of old i r payload says.0)) hands.1 ∙ ap (λ p. with_write old (submission_of old i span p says.0)) hands.2)
  handed (ReadAsk chunk span) server (Fetched i range number) sent hands says =
      Fetches chunk i span says.0 refl (says.2 ∙ ap (λ r. with_read old (fetching_of old i r says.0)) hands.1)
  handed its server call sent hands says = absurd hands

  stays : (rest : List DeskCall) → PortStays port rest next → SayInTurn setup old rest new → WentOn
  stays rest is say = record { still = ap (λ (p : PortIs). p.ask) is.same; works = inl (subst (λ calls. SayInTurn setup old calls new) is.none say) }

  by_term : (server term : ℕ) (rest : List DeskCall) (goes : Bool) → cond goes (AskIsHanded port ask term server rest next) (PortStays port rest next) → SayInTurn setup old rest new → WentOn
  by_term server term rest true is say =
      let said = subst (λ calls. SayInTurn setup old calls new) is.once say in
      let says : PastSays setup old is.call new = subst (PastSays setup old is.call) (sym said.2) said.1 in
      record { still = ap (λ (p : PortIs). p.ask) is.is; works = inr (handed ask server is.call is.sent is.hands says) }
  by_term server term rest false is say = stays rest is say

  by_leader : (leader : Option (ℕ × ℕ)) (rest : List DeskCall) (mid : PortPast) → PortGoes port ask leader rest next → PastSays setup old (Led leader) mid → SayInTurn setup mid rest new → WentOn
  by_leader None rest mid goes says say = stays rest goes (subst (λ (p : PortPast). SayInTurn setup p rest new) says.0 say)
  by_leader (Some (term, server)) rest mid goes says say = by_term server term rest (goes_to port.sent port.last term) goes (subst (λ (p : PortPast). SayInTurn setup p rest new) says.0 say)

  led : (calls : List DeskCall) → IsLed port ask calls next → SayInTurn setup old calls new → WentOn
  led calls is say =
      let said = subst (λ all. SayInTurn setup old all new) is.asked say in
      by_leader is.leader is.rest said.0 is.goes said.1 said.2

  by_sent : (calls : List DeskCall) (sent : Option Sent) → DrivesFrom sent port ask calls None next → SayInTurn setup old calls new → WentOn
  by_sent calls None drives say = led calls drives.1 say
  by_sent calls (Some sent) drives say =
      let said = subst (λ all. SayInTurn setup old all new) drives.asked say in
      let left : said.0 ≡ old = look_leaves setup old said.0 sent port.last drives.look None drives.looks said.1 in
      led drives.rest drives.goes (subst (λ (p : PortPast). SayInTurn setup p drives.rest new) left said.2)

  pub goes_on : IsUndisturbedStep setup old port ask None new next → WentOn
  goes_on step = by_sent step.calls port.sent step.drives step.say

  -- one event of the group is that of the ask
  pub worked : IsUndisturbedStep setup old port ask None new next → length new.history ≡ suc (length old.history) → Works old ask new
  worked step one = elim (goes_on step).works [
    | inl same ↦ let long = ap (λ (p : PortPast). length p.history) same in absurd (omega (arith, long, one))
    | inr works ↦ works
  ]

  by_reply : (calls : List DeskCall) (reply : Reply) (sent : Option Sent) → DrivesFrom sent port ask calls (Some reply) next → next.ask ≡ None
  by_reply calls reply None drives = absurd (none-some reply (sym drives.0))
  by_reply calls reply (Some sent) drives = ap (λ (p : PortIs). p.ask) drives.goes.1

  pub replied : (reply : Reply) → IsUndisturbedStep setup old port ask (Some reply) new next → next.ask ≡ None
  replied reply step = by_reply step.calls reply port.sent step.drives
