-- A port's reply is of the kind of its ask, whatever the group did.
use Rattle.std.proofs.Common.{◌≡◌, ℕ, Bool, true, false, List, Option, Some, None, refl, sym, subst, cond}
use Rattle.std.specs.Option.{option_map}
use Rattle.std.proofs.lemmas.Option.{none-some, same_Some}
use Rattle.pf_base.specs.declared.asks.Ask.{Ask}
use Rattle.pf_base.specs.declared.asks.Ask.TheVariants.{Read, Write}
use Rattle.pf_base.specs.declared.asks.Reply.{Reply}
use Rattle.pf_base.specs.declared.asks.Reply.TheVariants.{Bytes, Written}
use Rattle.pf_protocol.specs.Groups.{Answered, Group}
use Rattle.pf_protocol.specs.Servers.{Setup}
use Rattle.pf_asks.specs.declared.port.Sent.{Sent}
use Rattle.pf_asks.specs.declared.port.Sent.TheVariants.{Number, Slot}
use Rattle.pf_asks.specs.Desks.{DeskCall, Fetched, Led, Submitted, Took, WasAcked}
use Rattle.pf_asks.specs.Ports.{DrivesFrom, PortGoes, PortGoesOn, Hands, AskIsHanded, IsLed, IsOfKind, IsSentOf, PortIs, PortStays, goes_to, reply_if}
use Rattle.pf_law_movers.specs.pf_law_ports.specs.Calls.{PortPast}
use Rattle.pf_law_movers.specs.pf_law_ports.specs.Driven.{Begins, IsDriven, Others, Puts, Steps}
use Rattle.pf_law_movers.specs.pf_chunk.specs.Asks.{ask_reply}
use Rattle.pf_law_movers.specs.Movers.{role_of_ask, role_of_reply}

pub sent_none : (ask : Option Ask) → IsSentOf ask None
sent_none None = tt
sent_none (Some (Write chunk span sectors)) = tt
sent_none (Some (Read chunk span)) = tt

-- what tells the answer is of the ask's kind, once it is handed on
hands_kind : (ask : Ask) (server : ℕ) (call : DeskCall) (sent : Option Sent) → Hands ask server call sent → IsSentOf (Some ask) sent
hands_kind (Write chunk span sectors) server (Submitted i range payload None) sent hands = subst (IsSentOf (Some (Write chunk span sectors))) (sym hands.3) tt
hands_kind (Write chunk span sectors) server (Submitted i range payload (Some slot)) sent hands = subst (IsSentOf (Some (Write chunk span sectors))) (sym hands.3) tt
hands_kind (Write chunk span sectors) server (Led leader) sent hands = absurd hands
hands_kind (Write chunk span sectors) server (Fetched i range number) sent hands = absurd hands
hands_kind (Write chunk span sectors) server (WasAcked term slot is) sent hands = absurd hands
hands_kind (Write chunk span sectors) server (Took number answer) sent hands = absurd hands
hands_kind (Read chunk span) server (Fetched i range None) sent hands = subst (IsSentOf (Some (Read chunk span))) (sym hands.2) tt
hands_kind (Read chunk span) server (Fetched i range (Some number)) sent hands = subst (IsSentOf (Some (Read chunk span))) (sym hands.2) tt
hands_kind (Read chunk span) server (Led leader) sent hands = absurd hands
hands_kind (Read chunk span) server (Submitted i range payload slot) sent hands = absurd hands
hands_kind (Read chunk span) server (WasAcked term slot is) sent hands = absurd hands
hands_kind (Read chunk span) server (Took number answer) sent hands = absurd hands

abbrev IsWell : PortIs → Type 0
IsWell port = IsSentOf port.ask port.sent

module _ (old : PortIs) (ask : Ask) (pending : old.ask ≡ Some ask) (well : IsWell old) where
  handed_well : (term server : ℕ) (calls : List DeskCall) (new : PortIs) → AskIsHanded old ask term server calls new → IsWell new
  handed_well term server calls new h =
      subst IsWell (sym h.is) (subst (λ (a : Option Ask). IsSentOf a h.sent) (sym pending) (hands_kind ask server h.call h.sent h.hands))

  stays_well : (calls : List DeskCall) (new : PortIs) → PortStays old calls new → IsWell new
  stays_well calls new s = subst IsWell (sym s.same) well

  goes_well : (leader : Option (ℕ × ℕ)) (calls : List DeskCall) (new : PortIs) → PortGoes old ask leader calls new → IsWell new
  goes_well None calls new goes = stays_well calls new goes
  goes_well (Some (term, server)) calls new goes = by (goes_to old.sent old.last term) goes
    where
      by : (b : Bool) → cond b (AskIsHanded old ask term server calls new) (PortStays old calls new) → IsWell new
      by true h = handed_well term server calls new h
      by false s = stays_well calls new s

  led_well : (calls : List DeskCall) (new : PortIs) → IsLed old ask calls new → IsWell new
  led_well calls new led = goes_well led.leader led.rest new led.goes

  on_well : (reply : Option Reply) (calls : List DeskCall) (new : PortIs) → PortGoesOn reply old ask calls new → IsWell new
  on_well (Some reply) calls new goes = subst IsWell (sym goes.1) (sent_none None)
  on_well None calls new goes = led_well calls new goes

  from_well : (sent : Option Sent) (calls : List DeskCall) (reply : Option Reply) (new : PortIs) → DrivesFrom sent old ask calls reply new → IsWell new
  from_well None calls reply new drives = led_well calls new drives.1
  from_well (Some sent) calls reply new drives = on_well reply drives.rest new drives.goes

pub driven_well : (setup : Setup) (past : PortPast) (port : PortIs) → IsDriven setup past port → IsSentOf port.ask port.sent
driven_well setup past port (Begins history) = tt
driven_well setup past port (Others before its more is) = driven_well setup before its is
driven_well setup past port (Puts before its ask number above none is) = sent_none (Some ask)
driven_well setup past port (Steps before new its next ask reply step is) = from_well its ask step.pending (driven_well setup before its is) its.sent step.calls reply next step.drives

-- the reply is of that kind
pub reply_kind : (g : Group) (ask : Ask) (sent : Option Sent) (last : ℕ) → IsSentOf (Some ask) sent → (reply : Reply) → ask_reply g sent last ≡ Some reply → IsOfKind ask reply
reply_kind g ask None last well reply is = absurd (none-some reply is)
reply_kind g (Write chunk span sectors) (Some (Slot slot)) last well Written is = tt
reply_kind g (Write chunk span sectors) (Some (Slot slot)) last well (Bytes bytes) is_so = absurd (by _ is_so)
  where
    by : (b : Bool) → reply_if b ≡ Some (Bytes bytes) → ⊥
    by true is = let same = same_Some Written (Bytes bytes) is in cc
    by false is = none-some (Bytes bytes) is
reply_kind g (Write chunk span sectors) (Some (Number number)) last well reply is = absurd well
reply_kind g (Read chunk span) (Some (Slot slot)) last well reply is = absurd well
reply_kind g (Read chunk span) (Some (Number number)) last well (Bytes bytes) is = tt
reply_kind g (Read chunk span) (Some (Number number)) last well Written is_so = absurd (by _ is_so)
  where
    by : (o : Option Answered) → option_map (λ (a : Answered). Bytes a.bytes) o ≡ Some Written → ⊥
    by None is = none-some Written is
    by (Some a) is = let same = same_Some (Bytes a.bytes) Written is in cc

-- and it is of the group that has the role of the ask
pub kind_role : (ask : Ask) (reply : Reply) → IsOfKind ask reply → role_of_reply reply ≡ role_of_ask ask
kind_role (Write chunk span sectors) Written of = refl
kind_role (Read chunk span) (Bytes sectors) of = refl
kind_role (Write chunk span sectors) (Bytes bytes) of = absurd of
kind_role (Read chunk span) Written of = absurd of

pub reply_of_kind : (setup : Setup) (past : PortPast) (port : PortIs) → IsDriven setup past port → (g : Group) (ask : Ask) → port.ask ≡ Some ask → (reply : Reply) → ask_reply g port.sent port.last ≡ Some reply → IsOfKind ask reply
reply_of_kind setup past port driven g ask pending reply is = reply_kind g ask port.sent port.last (subst (λ (a : Option Ask). IsSentOf a port.sent) pending (driven_well setup past port driven)) reply is
