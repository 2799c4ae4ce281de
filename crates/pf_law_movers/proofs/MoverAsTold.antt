-- What was told of a chunk tells what its ports did.
use Rattle.std.proofs.Common.{◌≡◌, ℕ, true, cond, List, [], ◌∷◌, ◌++◌, length, Option, Some, None, slice_get, refl, sym, ap, subst, ◌∙◌}
use Rattle.std.proofs.lemmas.Option.{none-some}
use Rattle.pf_base.specs.declared.asks.Ask.{Ask}
use Rattle.pf_base.specs.declared.asks.Reply.{Reply}
use Rattle.pf_entry.specs.Lists.{Every}
use Rattle.pf_entry.proofs.Lists.{every_append, every_more}
use Rattle.pf_protocol.specs.Histories.{History, replay}
use Rattle.pf_protocol.specs.Servers.{Setup}
use Rattle.pf_law_movers.specs.pf_group_network.specs.Shown.{IsLeader}
use Rattle.pf_asks.specs.declared.port.Sent.{Sent}
use Rattle.pf_asks.specs.Desks.{DeskCall, Led}
use Rattle.pf_asks.specs.Ports.{DrivesFrom, Hands as HandsTo, AskIsHanded, IsLed, PortIs, PortStays, ask_answered as answered_port, goes_to}
use Rattle.pf_move.specs.declared.mover.MoverAsk.{MoverAsk}
use Rattle.pf_law_movers.specs.pf_law_ports.specs.Calls.{PortPast, PastSays}
use Rattle.pf_law_movers.specs.pf_law_ports.specs.Driven.{IsDriven, IsUndisturbedStep, Others}
use Rattle.pf_law_movers.specs.pf_law_service.proofs.Places.{prefix_long}
use Rattle.pf_law_movers.specs.pf_chunk.specs.Asks.{serving_leader, ask_reply}
use Rattle.pf_law_movers.specs.pf_chunk.specs.Runs.{ChunkRun, mover_port}
use Rattle.pf_law_movers.specs.pf_world_moments.specs.Moments.{Moment}
use Rattle.pf_law_movers.specs.Pasts.{MoverTrace, PortTrace, at_carry, mover_trace, moves_into, past_in, trace_in}
use Rattle.pf_law_movers.proofs.HistoryGrowth.{Grows}
use Rattle.pf_law_movers.proofs.PortLooks.{Looks, leader_leads, looked_up}
use Rattle.pf_law_movers.proofs.PortTraces.{IsWithin, Passes, moves_longer, moves_more, within_more}

-- the mover's port of a role into it: it is in its place while the group has that role
pub record MoverAsTold (count : ℕ) (told : List Moment) (k : ℕ) (c : ChunkRun) (role : MoverAsk) : Type 0 where
  pub port : PortIs
  pub its : IsDriven c.group.setup (past_in c.group.history (mover_trace c.group.history k role count told)) port
  pub there : (moves_into c.group.history k count told).role ≡ Some role → slice_get c.ports mover_port ≡ Some port

-- the group has its place, it stands where its history leads, and each port of the mover was driven as was told
pub record IsAsTold (count : ℕ) (told : List Moment) (k : ℕ) (c : ChunkRun) : Type 0 where
  pub number : c.group.number ≡ k
  pub stands : c.group.state ≡ replay c.group.setup c.group.history
  pub within : Every (IsWithin k (length c.group.history)) told
  pub hauled : (role : MoverAsk) → MoverAsTold count told k c role

abbrev pub AreAsTold : (count : ℕ) → List Moment → List ChunkRun → Type 0
AreAsTold count told chunks = (k : ℕ) (c : ChunkRun) → slice_get chunks k ≡ Some c → IsAsTold count told k c

-- Others make events, and the mover's port is as it was

module _ (count : ℕ) (told : List Moment) (k : ℕ) (c d : ChunkRun) (movers : slice_get d.ports mover_port ≡ slice_get c.ports mover_port) (g : Grows c.group d.group) (is : IsAsTold count told k c) where
  -- a trace of the one history is that of the other
  others : (t u : PortTrace) (port : PortIs) → u ≡ t → IsDriven c.group.setup (past_in c.group.history t) port → IsDriven d.group.setup (past_in d.group.history u) port
  others t u port same driven_so =
      subst (λ (setup : Setup). IsDriven setup (past_in d.group.history u) port) (sym g.setup)
      (subst (λ (x : PortTrace). IsDriven c.group.setup (past_in d.group.history x) port) (sym same)
      (subst (λ (history : History). IsDriven c.group.setup (past_in history t) port) g.later.whole (Others (past_in c.group.history t) port g.later.rest driven_so)))

  moves_same : moves_into d.group.history k count told ≡ moves_into c.group.history k count told
  moves_same = ap (λ (history : History). moves_into history k count told) (sym g.later.whole) ∙ moves_longer c.group.history g.later.rest k count told is.within

  pub regrown : IsAsTold count told k d
  regrown = record {
    number = g.number ∙ is.number;
    stands = g.stands is.stands;
    within = every_more (IsWithin k (length c.group.history)) (IsWithin k (length d.group.history)) (within_more k (length c.group.history) (length d.group.history) (prefix_long c.group.history d.group.history g.later)) told is.within;
    hauled = λ role.
        let was = is.hauled role in record {
          port = was.port;
          its = others (mover_trace c.group.history k role count told) (mover_trace d.group.history k role count told) was.port (ap (λ (t : MoverTrace). trace_in t role) moves_same) was.its;
          there = λ its_role. movers ∙ was.there (sym (ap (λ (t : MoverTrace). t.role) moves_same) ∙ its_role);
        };
  }

-- More is told

-- a moment that leaves the past of each port of the mover
module _ (count : ℕ) (told : List Moment) (k : ℕ) (c : ChunkRun) (y : Moment) (is : IsAsTold count told k c) where
  pub mover_passed : at_carry c.group.history k (moves_into c.group.history k count told) y ≡ moves_into c.group.history k count told → (role : MoverAsk) → MoverAsTold count told k c role → MoverAsTold count (told ++ y ∷ []) k c role
  mover_passed same role was =
      let all : moves_into c.group.history k count (told ++ y ∷ []) ≡ moves_into c.group.history k count told = moves_more c.group.history k count told y ∙ same in record {
        port = was.port;
        its = subst (λ (t : MoverTrace). IsDriven c.group.setup (past_in c.group.history (trace_in t role)) was.port) (sym all) was.its;
        there = λ its_role. was.there (sym (ap (λ (t : MoverTrace). t.role) all) ∙ its_role);
      }

  pub passed : Passes k y → IsAsTold count (told ++ y ∷ []) k c
  passed p = record {
    number = is.number;
    stands = is.stands;
    within = every_append (IsWithin k (length c.group.history)) told (y ∷ []) is.within (p.within (length c.group.history), tt);
    hauled = λ role. mover_passed (p.hauls c.group.history (moves_into c.group.history k count told)) role (is.hauled role);
  }

-- Steps of a port

module _ (c : ChunkRun) (stands : c.group.state ≡ replay c.group.setup c.group.history) (t : PortTrace) (p : PortIs) (ask : Ask) (pending : p.ask ≡ Some ask) where
  abbrev past : PortPast
  past = past_in c.group.history t

  looks : (sent : Sent) (reply : Option Reply) → ask_reply c.group.state (Some sent) p.last ≡ reply → Looks c.group.setup past sent p.last reply
  looks sent reply told_so = looked_up c.group.setup past sent p.last reply (ap (λ g. ask_reply g (Some sent) p.last) (sym stands) ∙ told_so)

  -- the ask was answered
  pub reply_step : (reply : Reply) (sent : Option Sent) → p.sent ≡ sent → ask_reply c.group.state sent p.last ≡ Some reply → IsUndisturbedStep c.group.setup past p ask (Some reply) past (answered_port p)
  reply_step reply None same told_so = absurd (none-some reply told_so)
  reply_step reply (Some sent) same told_so =
      let l = looks sent (Some reply) told_so in record {
        pending = pending;
        calls = l.look ∷ [];
        drives = subst (λ s. DrivesFrom s p ask (l.look ∷ []) (Some reply) (answered_port p)) (sym same) (record { look = l.look; rest = []; asked = refl; looks = l.looks; goes = (refl, refl) });
        say = (past, l.says, refl);
      }

  -- it is handed to the leader
  module _ (term server : ℕ) (led : serving_leader c.group.state ≡ Some (term, server)) (goes : goes_to p.sent p.last term ≡ true)
      (call : DeskCall) (sent : Option Sent) (new : PortPast) (next : PortIs) (hands : HandsTo ask server call sent) (says : PastSays c.group.setup past call new) (next_is : next ≡ record p { sent = sent; last = term }) where
    leads : IsLeader (replay c.group.setup c.group.history) (Some (term, server))
    leads = subst (IsLeader (replay c.group.setup c.group.history)) (ap serving_leader (sym stands) ∙ led) (leader_leads (replay c.group.setup c.group.history))

    is_led : IsLed p ask (Led (Some (term, server)) ∷ call ∷ []) next
    is_led = record {
      leader = Some (term, server);
      rest = call ∷ [];
      asked = refl;
      goes = subst (λ b. cond b (AskIsHanded p ask term server (call ∷ []) next) (PortStays p (call ∷ []) next)) (sym goes) (record { call = call; once = refl; sent = sent; hands = hands; is = next_is });
    }

    pub hand_step : (before : Option Sent) → p.sent ≡ before → ask_reply c.group.state before p.last ≡ None → IsUndisturbedStep c.group.setup past p ask None new next
    hand_step None same untold = record {
      pending = pending;
      calls = Led (Some (term, server)) ∷ call ∷ [];
      drives = subst (λ s. DrivesFrom s p ask (Led (Some (term, server)) ∷ call ∷ []) None next) (sym same) (refl, is_led);
      say = (past, (refl, leads), (new, says, refl));
    }
    hand_step (Some before) same untold =
        let l = looks before None untold in record {
          pending = pending;
          calls = l.look ∷ Led (Some (term, server)) ∷ call ∷ [];
          drives = subst (λ s. DrivesFrom s p ask (l.look ∷ Led (Some (term, server)) ∷ call ∷ []) None next) (sym same)
              (record { look = l.look; rest = Led (Some (term, server)) ∷ call ∷ []; asked = refl; looks = l.looks; goes = is_led });
          say = (past, l.says, (past, (refl, leads), (new, says, refl)));
        }
