-- Each event of a group is something that may happen to its ballots.
use Rattle.std.proofs.Common.{◌≡◌, ℕ, suc, ◌<◌, ◌≤◌, ◌⊎◌, inl, inr, Bool, true, false, cond, ◌==◌, if◌then◌else◌, List, [], ◌∷◌, map, Option, Some, None, slice_get, slice_set, arith, refl, sym, ap, subst, ◌∙◌, le_refl, le_of_eq}
use Rattle.std.specs.FinMap
use Rattle.std.specs.List.{range_with_len}
use Rattle.std.proofs.lemmas.Bool.{cases_eq, cond-true, eq-eqb, false≢true}
use Rattle.pf_entry.specs.declared.entries.Entry.{Entry}
use Rattle.pf_entry.specs.declared.packets.Packet.{Packet}
use Rattle.pf_entry.specs.Records.{Durable, image_of, stored, holds}
use Rattle.pf_protocol.proofs.Ballots.{Cast, Ballot, Ballots, Sound}
use Rattle.pf_protocol.proofs.Changes.{grown, Grows, Extends}
use Rattle.pf_entry.proofs.Cases.{by_test}
use Rattle.pf_protocol.proofs.BallotsKept.{grown_sound, holds_is}
use Rattle.pf_protocol.proofs.DiskGrowth.{WithinTerm, unchanged_grows}
use Rattle.pf_protocol.proofs.BallotGrowth.{extends_grown, extends_self, grown_accepted}
use Rattle.pf_protocol.specs.Servers.{Setup, Server, Condition, Running, Stopped, Unformatted}
use Rattle.pf_protocol.specs.Outcomes.{Outcome}
use Rattle.pf_protocol.specs.Saving.{restarted, renewed, is_claimable, claimable, claimed}
use Rattle.pf_protocol.specs.Rows.{on_packet, settled}
use Rattle.pf_protocol.specs.Groups.{Acked, Sent, Group, Ending, Whole, CutOff, Missed, Untouched, send, acted, cut_off, step_ended, server_step_of, at_server, with_sent, delivered_in, packet_delivered, lost, stopped, server_begun, restart, least_claim, claim_at, claim_or, first_claim, only_whole, counted_election, happens}
use Rattle.pf_protocol.specs.declared.events.Event.{Event}
use Rattle.pf_protocol.specs.declared.events.Event.TheVariants.{Submit, Fetch, Deliver, Lose, Elect, Resend, Stop, Restart, Claim, Finish, GiveBack, Checkpoint}
use Rattle.pf_entry.specs.Lists.{Every}
use Rattle.pf_entry.proofs.Lists.{every_append, every_more, every_map, every_get, every_set, set_cases, set_there, found_passes}
use Rattle.pf_protocol.proofs.Follows.{ServerIs, StoppedIs, ConditionIs, PacketIs, Follows, Row, packet_stays, condition_stays}
use Rattle.pf_protocol.proofs.Rows.{on_submit_row, on_fetch_row, on_elect_row, on_resend_row, on_checkpoint_row, on_finish_row, on_give_back_row, on_message_row, claimed_is}
use Rattle.pf_protocol.proofs.ChosenKnown.{AppliedKnown, applied_there, IsAcked, acked_there}
use Rattle.std.specs.Option.{option_to_list}
use Rattle.pf_protocol.proofs.LookBehinds.{Served, grown_served}
use Rattle.pf_entry.specs.Applying.{is_applied}
use Rattle.pf_entry.proofs.Sets.{contains-empty}
use Rattle.std.specs.FinMap.{get-empty}
use Rattle.std.specs.Ordering.{nat_cmp}
use Rattle.std.proofs.lemmas.Option.{none-some}

-- a running server has an entry of the slot and term
pub record HoldsAt (g : Group) (i slot term : ℕ) : Type 0 where
  pub server : Server
  pub runs : slice_get g.servers i ≡ Some (Running server)
  pub has : holds server.durable slot term ≡ true

-- votes and merges stay, no term falls, and nothing is accepted of a term that is below the server's
pub record Persists (b after : Ballots) : Type 0 where
  pub terms : (i : ℕ) → (b.disk i).term ≤ (after.disk i).term
  pub fresh : (i s t : ℕ) → after.accepted i s t ≡ true → (b.accepted i s t ≡ true) ⊎ ((b.disk i).term ≤ t)
  pub votes : (i t : ℕ) (v : Cast) → b.vote i t ≡ Some v → after.vote i t ≡ Some v
  pub ballots : (t : ℕ) (m : Ballot) → b.ballot t ≡ Some m → after.ballot t ≡ Some m

-- the ballots after an event
pub record Next (b : Ballots) (g : Group) : Type 0 where
  pub ballots : Ballots
  pub sound : Sound ballots
  pub served : Served ballots
  pub follows : Follows g ballots
  pub proposals : (s t : ℕ) (e : Entry) → b.proposal s t ≡ Some e → ballots.proposal s t ≡ Some e
  pub accepted : (i s t : ℕ) → b.accepted i s t ≡ true → ballots.accepted i s t ≡ true
  pub persists : Persists b ballots
  pub new_accepted : (i s t : ℕ) → ballots.accepted i s t ≡ true → (b.accepted i s t ≡ true) ⊎ HoldsAt g i s t

module _ (b : Ballots) (sound : Sound b) (served : Served b) (g : Group) (follows : Follows g b) where
  nothing_next : Next b g
  nothing_next = record { ballots = b; sound = sound; served = served; follows = follows; proposals = λ s t e is. is; accepted = λ i s t is. is; persists = record { terms = λ i. le_refl _; fresh = λ i s t is. inl is; votes = λ i t v is. is; ballots = λ t m is. is }; new_accepted = λ i s t is. inl is }

  servers_follow : (i : ℕ) (c : Condition) (after : Ballots) → i < 3 → Extends i b after → Sound after → ConditionIs after i c → (j : ℕ) (d : Condition) → slice_get (slice_set g.servers i c) j ≡ Some d → (j < 3) × ConditionIs after j d
  servers_follow i c after below x after_sound is j d at =
      elim (set_cases g.servers i c j d at) [
        | inl here ↦ (subst (λ k. k < 3) (sym here.0) below, subst (λ k. ConditionIs after k d) (sym here.0) (subst (ConditionIs after i) here.1 is))
        | inr there ↦ let h = follows.servers j d there.1 in (h.0, condition_stays i j b after x after_sound there.0 d h.1)
      ]

  packets_follow : (i : ℕ) (after : Ballots) → Extends i b after → Sound after → Every (λ p. PacketIs after p.packet) g.packets
  packets_follow i after x after_sound = every_more (λ p. PacketIs b p.packet) (λ p. PacketIs after p.packet) (λ p h. packet_stays i b after x after_sound p.packet h) g.packets follows.packets

  acked_follow : (i : ℕ) (after : Ballots) → Extends i b after → Every (λ a. IsAcked after a.term a.slot) g.acked
  acked_follow i after x = every_more (λ a. IsAcked b a.term a.slot) (λ a. IsAcked after a.term a.slot) (λ a h. acked_there i b after x a.term a.slot h) g.acked follows.acked

  -- the term of the server that stepped, and those of the others
  terms_rise : (i : ℕ) (after : Ballots) → Extends i b after → (b.disk i).term ≤ (after.disk i).term → (j : ℕ) → (b.disk j).term ≤ (after.disk j).term
  terms_rise i after x low j =
      elim (cases_eq j i) [
        | inl same ↦ subst (λ k. (b.disk k).term ≤ (after.disk k).term) (sym same) low
        | inr apart ↦ le_of_eq (ap (λ d. d.term) (sym (x.other_disks j apart)))
      ]

  term_after : (old before later new : Durable) → old ≡ before → new ≡ later → before.term ≤ later.term → old.term ≤ new.term
  term_after old before later new from to low = omega (arith, ap (λ d. d.term) from, ap (λ d. d.term) to, low)

  -- an entry that is new on a disk is of no lower term than the disk
  fresh_after : (proposal : ℕ → ℕ → Option Entry) (ballot : ℕ → Option Ballot) (i : ℕ) (before d : Durable) → b.disk i ≡ before → Grows proposal ballot before d → (j slot t : ℕ) → (b.accepted j slot t ≡ true) ⊎ ((j ≡ i) × (holds d slot t ≡ true)) → (b.accepted j slot t ≡ true) ⊎ ((b.disk j).term ≤ t)
  fresh_after proposal ballot i before d disk grows j slot t which =
      elim which [
        | inl old ↦ inl old
        | inr new ↦
            let e = holds_is d slot t new.1 in
            elim (grows.news slot e.0 e.1) [
              | inl was ↦ inl (subst (λ k. b.accepted k slot t ≡ true) (sym new.0) (subst (λ u. b.accepted i slot u ≡ true) e.2 (sound.held_accepted i slot e.0 (ap (λ x. FinMap.get x.log slot) disk ∙ was))))
              | inr news ↦ inr (omega (arith, news.not_old, e.2, ap (λ x. x.term) disk, ap (λ k. (b.disk k).term) new.0))
            ]
      ]

  -- one server's condition changes
  changed_next : (i : ℕ) (c : Condition) (after : Ballots) → (b.disk i).term ≤ (after.disk i).term → ((j s t : ℕ) → after.accepted j s t ≡ true → (b.accepted j s t ≡ true) ⊎ ((b.disk j).term ≤ t)) → i < 3 → Sound after → Served after → Extends i b after → ConditionIs after i c → ((j s t : ℕ) → after.accepted j s t ≡ true → (b.accepted j s t ≡ true) ⊎ HoldsAt (record g { servers = slice_set g.servers i c }) j s t) → Next b (record g { servers = slice_set g.servers i c })
  changed_next i c after low fresh below after_sound after_served x is back = record {
    ballots = after;
    sound = after_sound;
    served = after_served;
    follows = record { servers = servers_follow i c after below x after_sound is; packets = packets_follow i after x after_sound; acked = acked_follow i after x };
    proposals = x.proposals;
    accepted = x.accepted;
    persists = record { terms = terms_rise i after x low; fresh = fresh; votes = x.votes; ballots = x.ballots };
    new_accepted = back;
  }

  -- what the server that stepped has accepted
  holds_there : (i : ℕ) (c : Condition) (s : Server) (after : Ballots) → slice_get g.servers i ≡ Some c → ((j slot t : ℕ) → after.accepted j slot t ≡ true → (b.accepted j slot t ≡ true) ⊎ ((j ≡ i) × (holds s.durable slot t ≡ true))) → (j slot t : ℕ) → after.accepted j slot t ≡ true → (b.accepted j slot t ≡ true) ⊎ HoldsAt (record g { servers = slice_set g.servers i (Running s) }) j slot t
  holds_there i c s after at back j slot t is =
      elim (back j slot t is) [
        | inl old ↦ inl old
        | inr new ↦ inr (record { server = s; runs = ap (slice_get (slice_set g.servers i (Running s))) new.0 ∙ set_there g.servers i c (Running s) at; has = new.1 })
      ]

  settled_is : (after : Ballots) (i : ℕ) (s : Server) → ServerIs after i s → ServerIs after i (settled s)
  unfolding settled
  settled_is after i s h =
      let k = h.knows in
      record { number = h.number; disk = h.disk; role = h.role; knows = record { committed = k.committed; applied = k.applied; saved = k.saved; in_hand = k.in_hand; role = k.role; marks = k.marks } }

  acked_now : (after : Ballots) (term : ℕ) (o : Option ℕ) → ((slot : ℕ) → o ≡ Some slot → IsAcked after term slot) → Every {X = Acked} (λ a. IsAcked after a.term a.slot) (map (λ slot. record { term = term; slot = slot }) (option_to_list o))
  acked_now after term None h = tt
  acked_now after term (Some slot) h = (h slot refl, tt)

  acted_next : (i : ℕ) (s : Server) (o : Outcome) → slice_get g.servers i ≡ Some (Running s) → i < 3 → Row b i s o → Next b (acted g i o)
  unfolding acted settled
  acted_next i s o at below row = record {
    ballots = row.done;
    sound = row.done_sound;
    served = row.done_served;
    follows = record {
      servers = servers_follow i (Running (settled o.server)) row.done below row.done_extends row.done_sound (settled_is row.done i o.server row.server_is);
      packets = every_append (λ p. PacketIs row.done p.packet) g.packets (send o.packets) (packets_follow i row.done row.done_extends row.done_sound)
          (every_map (λ p. PacketIs row.done p.packet) _ o.packets row.packets);
      acked = every_append (λ a. IsAcked row.done a.term a.slot) g.acked _ (acked_follow i row.done row.done_extends)
          (acked_now row.done o.server.durable.term o.acked row.acked);
    };
    proposals = row.done_extends.proposals;
    accepted = row.done_extends.accepted;
    persists = record { terms = terms_rise i row.done row.done_extends (term_after (b.disk i) s.durable o.server.durable (row.done.disk i) (follows.servers i (Running s) at).1.disk row.server_is.disk row.grows.term); fresh = λ j slot t did. fresh_after row.made.proposal row.made.ballot i s.durable o.server.durable (follows.servers i (Running s) at).1.disk row.grows j slot t (row.done_accepted j slot t did); votes = row.done_extends.votes; ballots = row.done_extends.ballots };
    new_accepted = λ j slot t is. elim (holds_there i (Running s) (settled o.server) row.done at row.done_accepted j slot t is) [
      | inl old ↦ inl old
      | inr new ↦ inr (record { server = new.server; runs = new.runs; has = new.has })
    ];
  }

  cut_off_next : (i : ℕ) (s : Server) (o : Outcome) → i < 3 → ServerIs b i s → Row b i s o → Next b (cut_off g i s o)
  unfolding cut_off
  cut_off_next i s o below is row =
      changed_next i (Stopped (suc s.life) s.durable o.server.durable) row.made (term_after (b.disk i) s.durable s.durable (row.made.disk i) is.disk row.made_disk (le_refl _)) (λ j slot t did. inl (row.made_accepted j slot t did)) below row.made_sound row.made_served row.made_extends (record { disk = row.made_disk; grows = row.grows; before_known = applied_there i b row.made row.made_extends row.made_sound s.durable.term (is_applied s.durable.base s.durable.saved) s.durable.sectors is.knows.saved; after_known = row.after_known }) (λ j slot t did. inl (row.made_accepted j slot t did))

  ended_next : (how : Ending) (i : ℕ) (s : Server) (o : Outcome) → slice_get g.servers i ≡ Some (Running s) → i < 3 → ServerIs b i s → Row b i s o → Next b (step_ended how g i s o)
  ended_next Whole i s o at below is row = acted_next i s o at below row
  ended_next CutOff i s o at below is row = cut_off_next i s o below is row
  ended_next Missed i s o at below is row = nothing_next
  ended_next Untouched i s o at below is row = nothing_next

  abbrev RowOf : ℕ → (Server → Outcome) → Type 0
  RowOf i rule = (s : Server) → i < 3 → ServerIs b i s → Row b i s (rule s)

  step_next : (how : Ending) (i : ℕ) (o : Option Condition) (rule : Server → Outcome) → slice_get g.servers i ≡ o → RowOf i rule → Next b (server_step_of how g i o rule)
  step_next how i (Some (Running s)) rule at row = let h = follows.servers i (Running s) at in ended_next how i s (rule s) at h.0 h.1 (row s h.0 h.1)
  step_next how i (Some (Stopped life before after)) rule at row = nothing_next
  step_next how i (Some Unformatted) rule at row = nothing_next
  step_next how i None rule at row = nothing_next

  at_server_next : (how : Ending) (i : ℕ) (rule : Server → Outcome) → RowOf i rule → Next b (at_server how g i rule)
  at_server_next how i rule row = step_next how i (slice_get g.servers i) rule refl row

  -- a packet's marks are no part of what it says
  delivery_next : (k : ℕ) (p q : Sent) → slice_get g.packets k ≡ Some p → q.packet ≡ p.packet → Follows (with_sent g k q) b
  delivery_next k p q at same = record {
    servers = follows.servers;
    acked = follows.acked;
    packets = every_set (λ p. PacketIs b p.packet) g.packets k q follows.packets
        (subst (PacketIs b) (sym same) (every_get (λ p. PacketIs b p.packet) g.packets k p follows.packets at));
  }

  -- a restart, whichever of its disk's states is found
  begun_next : (i life : ℕ) (d : Durable) (c : Condition) → slice_get g.servers i ≡ Some c → i < 3 → Grows b.proposal b.ballot (b.disk i) d → AppliedKnown b d.term d.base d.saved d.sectors → Next b (record g { servers = slice_set g.servers i (Running (restarted i life d)) })
  unfolding restarted
  begun_next i life d c at below grows known =
      let grown_is = grown_sound b sound i below d grows in
      let there = applied_there i b (grown b i d) (extends_grown b i d) grown_is d.term (is_applied d.base d.saved) d.sectors known in
      changed_next i (Running (restarted i life d)) (grown b i d) (term_after (b.disk i) (b.disk i) d ((grown b i d).disk i) refl (cond-true _ _ _ (eq-eqb i i refl)) grows.term) (λ j slot t did. fresh_after b.proposal b.ballot i (b.disk i) d refl grows j slot t (grown_accepted b i d j slot t did)) below grown_is (grown_served b i d (extends_grown b i d) served) (extends_grown b i d)
      (record {
        number = refl;
        disk = cond-true _ _ _ (eq-eqb i i refl);
        role = tt;
        knows = record {
          committed = λ slot is. absurd (false≢true (sym (contains-empty slot) ∙ is));
          applied = there;
          saved = there;
          in_hand = λ slot op is. absurd (none-some op (sym (get-empty nat_cmp slot) ∙ is));
          role = tt;
          marks = tt;
        };
      })
      (holds_there i c (restarted i life d) (grown b i d) at (grown_accepted b i d))

  disk_within : (i : ℕ) → WithinTerm (b.disk i)
  disk_within i k e is = let h = (sound.disks i).proposes k e is in omega (arith, h.0)

  same_disk : (i : ℕ) (d : Durable) → b.disk i ≡ d → Grows b.proposal b.ballot (b.disk i) d
  same_disk i d is = subst (Grows b.proposal b.ballot (b.disk i)) is (unchanged_grows b.proposal b.ballot (b.disk i) (disk_within i))

  found_disk : (i : ℕ) (found : Bool) (before after : Durable) → StoppedIs b i before after → Grows b.proposal b.ballot (b.disk i) (cond found after before)
  found_disk i true before after h = subst (λ d. Grows b.proposal b.ballot d after) (sym h.disk) h.grows
  found_disk i false before after h = same_disk i before h.disk

  found_known : (i : ℕ) (found : Bool) (before after : Durable) → StoppedIs b i before after → AppliedKnown b (cond found after before).term (cond found after before).base (cond found after before).saved (cond found after before).sectors
  found_known i true before after h = h.after_known
  found_known i false before after h = h.before_known

  -- a half of format 1 that is saved anew stands for the same
  renewed_grows : (i : ℕ) (d : Durable) → Grows b.proposal b.ballot (b.disk i) d → Grows b.proposal b.ballot (b.disk i) (renewed d)
  unfolding renewed stored
  renewed_grows i d grows =
      by_test (d.format == 1) (λ c. Grows b.proposal b.ballot (b.disk i) (if c then stored d (image_of (record d { generation = suc d.generation })) else d))
      (λ _. record {
        term = grows.term;
        base = grows.base;
        news = λ s e is. elim (grows.news s e is) [
          | inl old ↦ inl old
          | inr new ↦ inr (record { not_old = new.not_old; not_above = new.not_above; is = new.is; started = new.started })
        ];
        keeps = grows.keeps;
        starts = grows.starts;
        true_starts = grows.true_starts;
      })
      (λ _. grows)

  renewed_known : (d : Durable) → AppliedKnown b d.term d.base d.saved d.sectors → AppliedKnown b (renewed d).term (renewed d).base (renewed d).saved (renewed d).sectors
  unfolding renewed stored
  renewed_known d known =
      by_test (d.format == 1) (λ c. let after = if c then stored d (image_of (record d { generation = suc d.generation })) else d in AppliedKnown b after.term after.base after.saved after.sectors) (λ _. known) (λ _. known)

  begun_at : (how : Ending) (i life : ℕ) (d before after : Durable) (c : Condition) → slice_get g.servers i ≡ Some c → i < 3 → Grows b.proposal b.ballot (b.disk i) d → AppliedKnown b d.term d.base d.saved d.sectors → StoppedIs b i before after → Next b (server_begun how g i life d before after)
  begun_at Whole i life d before after c at below grows known h = begun_next i (suc life) (renewed d) c at below (renewed_grows i d grows) (renewed_known d known)
  begun_at CutOff i life d before after c at below grows known h = changed_next i (Stopped (suc life) before after) b (le_refl _) (λ j slot t did. inl did) below sound served (extends_self i b) h (λ j slot t did. inl did)
  begun_at Missed i life d before after c at below grows known h = nothing_next
  begun_at Untouched i life d before after c at below grows known h = nothing_next

  stopped_now : (i : ℕ) (s : Server) → ServerIs b i s → StoppedIs b i s.durable s.durable
  stopped_now i s h = record { before_known = h.knows.saved; after_known = h.knows.saved; disk = h.disk; grows = subst (λ d. Grows b.proposal b.ballot d s.durable) h.disk (same_disk i s.durable h.disk) }

  restart_next : (how : Ending) (i : ℕ) (found : Bool) (o : Option Condition) → slice_get g.servers i ≡ o → Next b (restart how g i found o)
  restart_next how i found (Some (Running s)) at =
      let h = follows.servers i (Running s) at in begun_at how i s.life s.durable s.durable s.durable (Running s) at h.0 (same_disk i s.durable h.1.disk) h.1.knows.saved (stopped_now i s h.1)
  restart_next how i found (Some (Stopped life before after)) at =
      let h = follows.servers i (Stopped life before after) at in begun_at how i life (cond found after before) before after (Stopped life before after) at h.0 (found_disk i found before after h.1) (found_known i found before after h.1) h.1
  restart_next how i found (Some Unformatted) at = nothing_next
  restart_next how i found None at = nothing_next

  stop_next : (i : ℕ) (o : Option Condition) → slice_get g.servers i ≡ o → Next b (stopped g i o)
  stop_next i (Some (Running s)) at =
      let h = follows.servers i (Running s) at in changed_next i (Stopped (suc s.life) s.durable s.durable) b (le_refl _) (λ j slot t did. inl did) h.0 sound served (extends_self i b) (stopped_now i s h.1) (λ j slot t did. inl did)
  stop_next i (Some (Stopped life before after)) at = nothing_next
  stop_next i (Some Unformatted) at = nothing_next
  stop_next i None at = nothing_next

  claimable_is : (window : ℕ) (s : Server) (slot : ℕ) → claimable window s ≡ Some slot → is_claimable s (FinMap.get s.durable.log slot) slot ≡ true
  unfolding claimable
  claimable_is window s slot is = found_passes (λ k. is_claimable s (FinMap.get s.durable.log k) k) (range_with_len (suc s.durable.base) window) slot is

  claim_at_next : (window i slot : ℕ) (o : Option Condition) → slice_get g.servers i ≡ o → least_claim window o ≡ Some slot → Next b (claim_at g i o (Some slot))
  claim_at_next window i slot (Some (Running s)) at is =
      let h = follows.servers i (Running s) at in
      changed_next i (Running (claimed s slot)) b (le_refl _) (λ j slot t did. inl did) h.0 sound served (extends_self i b) (claimed_is b sound served i h.0 s h.1 slot (FinMap.get s.durable.log slot) refl (claimable_is window s slot is)) (λ j slot t did. inl did)
  claim_at_next window i slot (Some (Stopped life before after)) at is = nothing_next
  claim_at_next window i slot (Some Unformatted) at is = nothing_next
  claim_at_next window i slot None at is = nothing_next

  claim_or_next : (window i : ℕ) (o : Option ℕ) (rest : Group) → least_claim window (slice_get g.servers i) ≡ o → Next b rest → Next b (claim_or g i o rest)
  claim_or_next window i None rest is n = n
  claim_or_next window i (Some slot) rest is n = claim_at_next window i slot (slice_get g.servers i) refl is

  claim_next : (window : ℕ) (is : List ℕ) → Next b (first_claim window g is)
  claim_next window [] = nothing_next
  claim_next window (i ∷ is) = claim_or_next window i (least_claim window (slice_get g.servers i)) (first_claim window g is) refl (claim_next window is)

  only_next : (how : Ending) (after : Group) → Next b after → Next b (only_whole how g after)
  only_next Whole after n = n
  only_next CutOff after n = nothing_next
  only_next Missed after n = nothing_next
  only_next Untouched after n = nothing_next

  lost_next : (k : ℕ) (o : Option Sent) → slice_get g.packets k ≡ o → Next b (lost g k o)
  lost_next k None at = nothing_next
  lost_next k (Some p) at = record { ballots = b; sound = sound; served = served; follows = delivery_next k p _ at refl; proposals = λ s t e is. is; accepted = λ i s t is. is; persists = record { terms = λ i. le_refl _; fresh = λ i s t is. inl is; votes = λ i t v is. is; ballots = λ t m is. is }; new_accepted = λ i s t is. inl is }

-- the counts of a group are not read
pub counts_next : (b : Ballots) (g : Group) (elections reads : ℕ) → Follows g b → Follows (record g { elections = elections; reads = reads }) b
counts_next b g elections reads f = record { servers = f.servers; packets = f.packets; acked = f.acked }

packet_row : (setup : Setup) (b : Ballots) (sound : Sound b) (served : Served b) (p : Packet) → PacketIs b p → (s : Server) → p.to < 3 → ServerIs b p.to s → Row b p.to s (on_packet setup s p)
unfolding on_packet
packet_row setup b sound served p h s below is = on_message_row b sound served p.to below s is setup p.from p.term p.body h.from_below h.apart h.body

election_follows : (b : Ballots) (g : Group) (how : Ending) → Follows g b → Follows (counted_election how g) b
election_follows b g Whole f = counts_next b g (suc g.elections) g.reads f
election_follows b g CutOff f = counts_next b g (suc g.elections) g.reads f
election_follows b g Missed f = f
election_follows b g Untouched f = f

delivery_follows : (b : Ballots) (sound : Sound b) (served : Served b) (g : Group) (follows : Follows g b) (how : Ending) (k : ℕ) (p : Sent) → slice_get g.packets k ≡ Some p → Follows (delivered_in how g k p) b
delivery_follows b sound served g follows Whole k p at = delivery_next b sound served g follows k p _ at refl
delivery_follows b sound served g follows CutOff k p at = delivery_next b sound served g follows k p _ at refl
delivery_follows b sound served g follows Missed k p at = delivery_next b sound served g follows k p _ at refl
delivery_follows b sound served g follows Untouched k p at = follows

delivered_next : (setup : Setup) (b : Ballots) (sound : Sound b) (served : Served b) (g : Group) (follows : Follows g b) (how : Ending) (k : ℕ) (o : Option Sent) → slice_get g.packets k ≡ o → Next b (packet_delivered setup how g k o)
delivered_next setup b sound served g follows how k None at = nothing_next b sound served g follows
delivered_next setup b sound served g follows how k (Some p) at =
    by_test p.lost (λ c. Next b (if c then g else at_server how (delivered_in how g k p) p.packet.to (λ s. on_packet setup s p.packet)))
    (λ _. nothing_next b sound served g follows)
    (λ _. let h = every_get (λ p. PacketIs b p.packet) g.packets k p follows.packets at in
    at_server_next b sound served (delivered_in how g k p) (delivery_follows b sound served g follows how k p at) how p.packet.to (λ s. on_packet setup s p.packet)
    (λ s below is. packet_row setup b sound served p.packet h s below is))

-- every event
pub happens_next : (setup : Setup) (b : Ballots) (sound : Sound b) (served : Served b) (g : Group) (follows : Follows g b) (event : Event) (how : Ending) → Next b (happens setup g event how)
unfolding happens
happens_next setup b sound served g follows (Submit i op) how = at_server_next b sound served g follows how i _ (λ s below is. on_submit_row b sound served i below s is setup op s.role refl)
happens_next setup b sound served g follows (Fetch i range) how = at_server_next b sound served g follows how i _ (λ s below is. on_fetch_row b sound served i below s is range g.reads s.role refl)
happens_next setup b sound served g follows (Deliver k) how = delivered_next setup b sound served g follows how k (slice_get g.packets k) refl
happens_next setup b sound served g follows (Lose k) how = only_next b sound served g follows how _ (lost_next b sound served g follows k (slice_get g.packets k) refl)
happens_next setup b sound served g follows (Elect i) how = at_server_next b sound served _ (election_follows b g how follows) how i _ (λ s below is. on_elect_row b sound served i below s is)
happens_next setup b sound served g follows (Resend i) how = at_server_next b sound served g follows how i _ (λ s below is. on_resend_row b sound served i below s is s.role refl)
happens_next setup b sound served g follows (Stop i) how = only_next b sound served g follows how _ (stop_next b sound served g follows i (slice_get g.servers i) refl)
happens_next setup b sound served g follows (Restart i found) how = restart_next b sound served g follows how i found (slice_get g.servers i) refl
happens_next setup b sound served g follows Claim how = only_next b sound served g follows how _ (claim_next b sound served g follows setup.window (0 ∷ 1 ∷ 2 ∷ []))
happens_next setup b sound served g follows (Finish i life slot) how = at_server_next b sound served g follows how i _ (λ s below is. on_finish_row b sound served i below s is life slot)
happens_next setup b sound served g follows (GiveBack i life slot) how = at_server_next b sound served g follows how i _ (λ s below is. on_give_back_row b sound served i below s is life slot)
happens_next setup b sound served g follows (Checkpoint i) how = at_server_next b sound served g follows how i _ (λ s below is. on_checkpoint_row b sound served i below s is)
