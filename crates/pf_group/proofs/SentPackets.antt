-- No event makes a packet left again.
use Rattle.std.proofs.Common.{◌≡◌, ℕ, zero, suc, ◌<◌, ◌≤◌, ◌⊎◌, inl, inr, Bool, true, false, not, ◌||◌, if◌then◌else◌, List, [], ◌∷◌, ◌++◌, length, Option, Some, None, slice_get, slice_set, arith, refl, sym, ap, ◌∙◌}
use Rattle.std.proofs.lemmas.Bool.{cases_lt, false≢true}
use Rattle.std.proofs.lemmas.List.{length-append}
use Rattle.pf_entry.proofs.Lists.{set_cases}
use Rattle.pf_entry.specs.Records.{Durable}
use Rattle.pf_group_network.proofs.Lists.{set_length}
use Rattle.pf_protocol.specs.declared.events.Event.{Event}
use Rattle.pf_protocol.specs.declared.events.Event.TheVariants.{Submit, Fetch, Deliver, Lose, Elect, Resend, Stop, Restart, Claim, Finish, GiveBack, Checkpoint}
use Rattle.pf_protocol.specs.Servers.{Setup, Server, Condition, Running, Stopped, Unformatted}
use Rattle.pf_protocol.specs.Outcomes.{Outcome}
use Rattle.pf_protocol.specs.Leading.{on_submit, on_fetch, on_elect, on_resend}
use Rattle.pf_protocol.specs.Saving.{on_checkpoint, on_finish, on_give_back}
use Rattle.pf_protocol.specs.Rows.{on_packet}
use Rattle.pf_protocol.specs.Groups.{Sent, Group, Ending, Whole, CutOff, Missed, Untouched, send, acted, cut_off, step_ended, ending, server_step_of, at_server, delivered_in, packet_delivered, lost, stopped, server_begun, restart, least_claim, claim_at, claim_or, first_claim, only_whole, counted_election, happens}
use Rattle.pf_protocol.specs.Histories.{History, run}
use Rattle.pf_entry.proofs.Cases.{by_test}
use Rattle.pf_group.specs.Readers.{is_left}

-- packets are only sent and marked
pub record OnlySent (before now : List Sent) : Type 0 where
  pub longer : length before ≤ length now
  pub none : (k : ℕ) → is_left (slice_get now k) ≡ true → (is_left (slice_get before k) ≡ true) ⊎ (length before ≤ k)

same_sent : (xs : List Sent) → OnlySent xs xs
same_sent xs = record { longer = omega arith; none = λ k is. inl is }

both_sent : (a b c : List Sent) → OnlySent a b → OnlySent b c → OnlySent a c
both_sent a b c p q = record {
  longer = omega (arith, p.longer, q.longer);
  none = λ k is. elim (q.none k is) [ inl left ↦ p.none k left | inr high ↦ inr (omega (arith, high, p.longer)) ];
}

front_get : (xs ys : List Sent) (k : ℕ) → k < length xs → slice_get (xs ++ ys) k ≡ slice_get xs k
front_get [] ys k low = absurd (omega arith)
front_get (x ∷ xs) ys zero low = refl
front_get (x ∷ xs) ys (suc k) low = front_get xs ys k (omega arith)

more_sent : (xs ys : List Sent) → OnlySent xs (xs ++ ys)
more_sent xs ys = record {
  longer = omega (arith, length-append xs ys);
  none = λ k is. elim (cases_lt k (length xs)) [
    | inl low ↦ inl (ap is_left (sym (front_get xs ys k low)) ∙ is)
    | inr high ↦ inr high
  ];
}

delivery_sent : (xs : List Sent) (k : ℕ) (q : Sent) → is_left (Some q) ≡ false → OnlySent xs (slice_set xs k q)
delivery_sent xs k q gone = record {
  longer = omega (arith, set_length xs k q);
  none = λ j is. by j (slice_get (slice_set xs k q) j) refl is;
}
  where
    by : (j : ℕ) (o : Option Sent) → slice_get (slice_set xs k q) j ≡ o → is_left o ≡ true → (is_left (slice_get xs j) ≡ true) ⊎ (length xs ≤ j)
    by j None at is = absurd (false≢true is)
    by j (Some p) at is = elim (set_cases xs k q j p at) [
      | inl here ↦ absurd (false≢true (sym gone ∙ ap (λ x. is_left (Some x)) here.1 ∙ is))
      | inr there ↦ inl (ap is_left there.1 ∙ is)
    ]

or_true : (b : Bool) → not (b || true) ≡ false
or_true true = refl
or_true false = refl

module _ (g : Group) where
  -- what comes of a group that came of this one
  abbrev Comes : Group → Type 0
  Comes after = OnlySent g.packets after.packets

  acted_sent : (mid : Group) → Comes mid → (i : ℕ) (o : Outcome) → Comes (acted mid i o)
  unfolding acted
  acted_sent mid is i o = both_sent g.packets mid.packets (mid.packets ++ send o.packets) is (more_sent mid.packets (send o.packets))

  cut_sent : (mid : Group) → Comes mid → (i : ℕ) (s : Server) (o : Outcome) → Comes (cut_off mid i s o)
  unfolding cut_off
  cut_sent mid is i s o = is

  ended_sent : (how : Ending) (mid : Group) → Comes mid → (i : ℕ) (s : Server) (o : Outcome) → Comes (step_ended how mid i s o)
  ended_sent Whole mid is i s o = acted_sent mid is i o
  ended_sent CutOff mid is i s o = cut_sent mid is i s o
  ended_sent Missed mid is i s o = is
  ended_sent Untouched mid is i s o = is

  step_sent : (how : Ending) (mid : Group) → Comes mid → (i : ℕ) (c : Option Condition) (rule : Server → Outcome) → Comes (server_step_of how mid i c rule)
  step_sent how mid is i (Some (Running s)) rule = ended_sent how mid is i s (rule s)
  step_sent how mid is i (Some (Stopped life before after)) rule = is
  step_sent how mid is i (Some Unformatted) rule = is
  step_sent how mid is i None rule = is

  server_sent : (how : Ending) (mid : Group) → Comes mid → (i : ℕ) (rule : Server → Outcome) → Comes (at_server how mid i rule)
  server_sent how mid is i rule = step_sent how mid is i (slice_get mid.servers i) rule

  itself : Comes g
  itself = same_sent g.packets

  delivery_comes : (how : Ending) (k : ℕ) (p : Sent) → Comes (delivered_in how g k p)
  delivery_comes Whole k p = delivery_sent g.packets k (record p { delivered = true }) refl
  delivery_comes CutOff k p = delivery_sent g.packets k (record p { delivered = true }) refl
  delivery_comes Missed k p = delivery_sent g.packets k (record p { delivered = true }) refl
  delivery_comes Untouched k p = itself

  delivered_sent : (setup : Setup) (how : Ending) (k : ℕ) (o : Option Sent) → Comes (packet_delivered setup how g k o)
  delivered_sent setup how k None = itself
  delivered_sent setup how k (Some p) =
      by_test p.lost (λ c. Comes (if c then g else at_server how (delivered_in how g k p) p.packet.to (λ s. on_packet setup s p.packet)))
      (λ _. itself) (λ _. server_sent how (delivered_in how g k p) (delivery_comes how k p) p.packet.to (λ s. on_packet setup s p.packet))

  lost_sent : (k : ℕ) (o : Option Sent) → Comes (lost g k o)
  lost_sent k None = itself
  lost_sent k (Some p) = delivery_sent g.packets k (record p { lost = true }) (or_true p.delivered)

  stopped_sent : (i : ℕ) (c : Option Condition) → Comes (stopped g i c)
  stopped_sent i (Some (Running s)) = itself
  stopped_sent i (Some (Stopped life before after)) = itself
  stopped_sent i (Some Unformatted) = itself
  stopped_sent i None = itself

  begun_sent : (how : Ending) (i life : ℕ) (d before after : Durable) → Comes (server_begun how g i life d before after)
  begun_sent Whole i life d before after = itself
  begun_sent CutOff i life d before after = itself
  begun_sent Missed i life d before after = itself
  begun_sent Untouched i life d before after = itself

  restart_sent : (how : Ending) (i : ℕ) (found : Bool) (c : Option Condition) → Comes (restart how g i found c)
  restart_sent how i found (Some (Running s)) = begun_sent how i s.life s.durable s.durable s.durable
  restart_sent how i found (Some (Stopped life before after)) = begun_sent how i life _ before after
  restart_sent how i found (Some Unformatted) = itself
  restart_sent how i found None = itself

  claim_at_sent : (i : ℕ) (c : Option Condition) (slot : ℕ) → Comes (claim_at g i c (Some slot))
  claim_at_sent i (Some (Running s)) slot = itself
  claim_at_sent i (Some (Stopped life before after)) slot = itself
  claim_at_sent i (Some Unformatted) slot = itself
  claim_at_sent i None slot = itself

  claim_or_sent : (i : ℕ) (o : Option ℕ) (rest : Group) → Comes rest → Comes (claim_or g i o rest)
  claim_or_sent i None rest is = is
  claim_or_sent i (Some slot) rest is = claim_at_sent i (slice_get g.servers i) slot

  claims_sent : (window : ℕ) (is : List ℕ) → Comes (first_claim window g is)
  claims_sent window [] = itself
  claims_sent window (i ∷ is) = claim_or_sent i (least_claim window (slice_get g.servers i)) (first_claim window g is) (claims_sent window is)

  only_sent : (how : Ending) (after : Group) → Comes after → Comes (only_whole how g after)
  only_sent Whole after is = is
  only_sent CutOff after is = itself
  only_sent Missed after is = itself
  only_sent Untouched after is = itself

  elected_sent : (how : Ending) → Comes (counted_election how g)
  elected_sent Whole = itself
  elected_sent CutOff = itself
  elected_sent Missed = itself
  elected_sent Untouched = itself

  happens_sent : (setup : Setup) (event : Event) (how : Ending) → Comes (happens setup g event how)
  unfolding happens
  happens_sent setup (Submit i op) how = server_sent how g itself i (λ s. on_submit setup s op s.role)
  happens_sent setup (Fetch i range) how = server_sent how g itself i (λ s. on_fetch s range g.reads s.role)
  happens_sent setup (Deliver k) how = delivered_sent setup how k (slice_get g.packets k)
  happens_sent setup (Lose k) how = only_sent how _ (lost_sent k (slice_get g.packets k))
  happens_sent setup (Elect i) how = server_sent how (counted_election how g) (elected_sent how) i on_elect
  happens_sent setup (Resend i) how = server_sent how g itself i (λ s. on_resend s s.role)
  happens_sent setup (Stop i) how = only_sent how _ (stopped_sent i (slice_get g.servers i))
  happens_sent setup (Restart i found) how = restart_sent how i found (slice_get g.servers i)
  happens_sent setup Claim how = only_sent how _ (claims_sent setup.window (0 ∷ 1 ∷ 2 ∷ []))
  happens_sent setup (Finish i life slot) how = server_sent how g itself i (λ s. on_finish s life slot)
  happens_sent setup (GiveBack i life slot) how = server_sent how g itself i (λ s. on_give_back s life slot)
  happens_sent setup (Checkpoint i) how = server_sent how g itself i on_checkpoint

pub run_sent : (setup : Setup) (history : History) (g : Group) → OnlySent g.packets (run setup g history).packets
run_sent setup [] g = same_sent g.packets
run_sent setup (h ∷ hs) g =
    let next = happens setup g h.event (ending h.answer) in
    both_sent g.packets next.packets (run setup next hs).packets (happens_sent g setup h.event (ending h.answer)) (run_sent setup hs next)
