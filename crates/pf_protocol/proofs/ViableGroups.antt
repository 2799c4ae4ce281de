-- A viable group stays so.
use Rattle.std.proofs.Common.{◌≡◌, ℕ, zero, suc, ◌+◌, ◌<◌, ◌≤◌, inl, inr, Bool, true, not, cond, ◌==◌, if◌then◌else◌, List, [], ◌∷◌, length, Option, Some, None, slice_get, slice_set, arith, refl, sym, ap, subst, ◌∙◌}
use Rattle.std.specs.FinMap
use Rattle.std.specs.FinMap.{get-empty}
use Rattle.std.specs.List.{list_any}
use Rattle.std.specs.Ordering.{nat_cmp}
use Rattle.std.proofs.lemmas.Option.{same_Some, none-some}
use Rattle.pf_entry.specs.Lists.{Every}
use Rattle.pf_entry.proofs.Lists.{every_filter, every_get, every_more, set_cases}
use Rattle.std.proofs.lemmas.Bool.{false≢true}
use Rattle.pf_protocol.specs.declared.answers.Answer.{Answer}
use Rattle.pf_entry.specs.Canonical.{IsCanonicalPacket}
use Rattle.pf_entry.specs.declared.packets.Body.{Body}
use Rattle.pf_entry.specs.declared.packets.Body.TheVariants.{RequestVote, Vote, Accept, Ack, Nack, Commit, Probe, ProbeOk, Image}
use Rattle.pf_entry.specs.Records.{Durable}
use Rattle.pf_protocol.specs.declared.events.Event.{Event}
use Rattle.pf_protocol.specs.declared.events.Event.TheVariants.{Submit, Fetch, Deliver, Lose, Elect, Resend, Stop, Restart, Claim, Finish, GiveBack, Checkpoint}
use Rattle.pf_protocol.specs.declared.events.Happening.{Happening}
use Rattle.pf_protocol.specs.Servers.{Setup, Server, Condition, Running, Stopped, Unformatted}
use Rattle.pf_protocol.specs.Groups.{Sent, Group, Ending, Whole, CutOff, Missed, Untouched, acted, cut_off, server_step_of, at_server, delivered_in, packet_delivered, lost, stopped, server_begun, restart, least_claim, claim_at, claim_or, first_claim, only_whole, counted_election, ending, happens, opening, unless_failed, first_leader, opening_disk}
use Rattle.pf_protocol.specs.Histories.{RunsAs}
use Rattle.pf_protocol.specs.Answers.{Claimed, claims_after, claims_with, claim_answer, claim_answer_at, is_claim, answer_to, may_halt, IsAnswer, ClaimIsOpen, IsLegalNext, IsSetup, most_packets, most_packet_bytes}
use Rattle.pf_protocol.specs.Asked.{Asks}
use Rattle.pf_protocol.specs.Elected.{BodyKeeps, ConditionKeeps, GroupKeeps, KeepsTerms}
use Rattle.pf_protocol.specs.Fitting.{PacketFits}
use Rattle.pf_protocol.specs.Viable.{IsViable, LastLife, MayBeFound, BeginsAnew}
use Rattle.pf_protocol.proofs.Legal.{Tells, happens_fits, begun_fits, opening_fits, over_fits}
use Rattle.pf_protocol.proofs.LegalSizes.{condition_more}
use Rattle.pf_protocol.proofs.WaitingReads.{next_answered, next_asks, opening_asks, restarted_asks}
use Rattle.pf_protocol.proofs.OpenClaims.{happens_open, begun_open, over_open}
use Rattle.pf_protocol.proofs.Room.{begun_room, happens_room}
use Rattle.pf_protocol.proofs.MapSizes.{HasFewStarts, packet_canonical}
use Rattle.pf_protocol.proofs.ElectedLeaders.{few_starts_beside, happens_keeps, terms_after, stood, begins_from_any, runs_over_any, stops_over_any}
use Rattle.pf_entry.proofs.Cases.{by_test}
use Rattle.pf_protocol.specs.Outcomes.{Outcome}
use Rattle.pf_protocol.specs.Leading.{on_submit, on_fetch, on_elect, on_resend}
use Rattle.pf_protocol.specs.Saving.{on_checkpoint, on_finish, on_give_back, restarted, renewed}
use Rattle.pf_protocol.specs.Rows.{on_packet}

tells_by : (terms : List ℕ) (g : Group) → GroupKeeps terms g → Tells g
tells_by terms g k = record {
  number = λ i s at. let x = k.servers i (Running s) at in x.number;
  own = λ i s l at role. let x = k.servers i (Running s) at in x.own l role;
  unapplied = λ i s slot op at job. let x = k.servers i (Running s) at in x.unapplied slot op job;
}

-- elections are counted where somebody stands
step_elections : (how : Ending) (g : Group) (i : ℕ) (c : Option Condition) (rule : Server → Outcome) → (server_step_of how g i c rule).elections ≡ g.elections
unfolding acted cut_off
step_elections Whole g i (Some (Running s)) rule = refl
step_elections CutOff g i (Some (Running s)) rule = refl
step_elections Missed g i (Some (Running s)) rule = refl
step_elections Untouched g i (Some (Running s)) rule = refl
step_elections how g i (Some (Stopped life before after)) rule = refl
step_elections how g i (Some Unformatted) rule = refl
step_elections how g i None rule = refl

only_elections : (how : Ending) (g later : Group) → later.elections ≡ g.elections → (only_whole how g later).elections ≡ g.elections
only_elections Whole g later same = same
only_elections CutOff g later same = refl
only_elections Missed g later same = refl
only_elections Untouched g later same = refl

delivery_elections : (how : Ending) (g : Group) (k : ℕ) (p : Sent) → (delivered_in how g k p).elections ≡ g.elections
delivery_elections Whole g k p = refl
delivery_elections CutOff g k p = refl
delivery_elections Missed g k p = refl
delivery_elections Untouched g k p = refl

delivered_elections : (setup : Setup) (how : Ending) (g : Group) (k : ℕ) (o : Option Sent) → (packet_delivered setup how g k o).elections ≡ g.elections
delivered_elections setup how g k None = refl
delivered_elections setup how g k (Some p) =
    by_test p.lost (λ c. (if c then g else at_server how (delivered_in how g k p) p.packet.to (λ s. on_packet setup s p.packet)).elections ≡ g.elections)
    (λ _. refl) (λ _. step_elections how (delivered_in how g k p) p.packet.to _ (λ s. on_packet setup s p.packet) ∙ delivery_elections how g k p)

lost_elections : (g : Group) (k : ℕ) (o : Option Sent) → (lost g k o).elections ≡ g.elections
lost_elections g k None = refl
lost_elections g k (Some p) = refl

stopped_elections : (g : Group) (i : ℕ) (c : Option Condition) → (stopped g i c).elections ≡ g.elections
stopped_elections g i (Some (Running s)) = refl
stopped_elections g i (Some (Stopped life before after)) = refl
stopped_elections g i (Some Unformatted) = refl
stopped_elections g i None = refl

begun_elections : (how : Ending) (g : Group) (i life : ℕ) (d before after : Durable) → (server_begun how g i life d before after).elections ≡ g.elections
begun_elections Whole g i life d before after = refl
begun_elections CutOff g i life d before after = refl
begun_elections Missed g i life d before after = refl
begun_elections Untouched g i life d before after = refl

restart_elections : (how : Ending) (g : Group) (i : ℕ) (found : Bool) (c : Option Condition) → (restart how g i found c).elections ≡ g.elections
restart_elections how g i found (Some (Running s)) = begun_elections how g i s.life s.durable s.durable s.durable
restart_elections how g i found (Some (Stopped life before after)) = begun_elections how g i life (cond found after before) before after
restart_elections how g i found (Some Unformatted) = refl
restart_elections how g i found None = refl

claim_at_elections : (g : Group) (i : ℕ) (c : Option Condition) (o : Option ℕ) → (claim_at g i c o).elections ≡ g.elections
claim_at_elections g i (Some (Running s)) (Some slot) = refl
claim_at_elections g i (Some (Running s)) None = refl
claim_at_elections g i (Some (Stopped life before after)) o = refl
claim_at_elections g i (Some Unformatted) o = refl
claim_at_elections g i None o = refl

claim_or_elections : (g : Group) (i : ℕ) (o : Option ℕ) (rest : Group) → rest.elections ≡ g.elections → (claim_or g i o rest).elections ≡ g.elections
claim_or_elections g i None rest same = same
claim_or_elections g i (Some slot) rest same = claim_at_elections g i (slice_get g.servers i) (Some slot)

claim_elections : (window : ℕ) (g : Group) (places : List ℕ) → (first_claim window g places).elections ≡ g.elections
claim_elections window g [] = refl
claim_elections window g (i ∷ places) = claim_or_elections g i (least_claim window (slice_get g.servers i)) _ (claim_elections window g places)

stood_few : (terms : List ℕ) (g : Group) → length terms ≤ suc g.elections → (how : Ending) (c : Option Condition) → length (stood how c terms) ≤ suc (counted_election how g).elections
stood_few terms g few Whole (Some (Running s)) = omega (arith, few)
stood_few terms g few CutOff (Some (Running s)) = omega (arith, few)
stood_few terms g few Missed c = few
stood_few terms g few Untouched c = few
stood_few terms g few Whole (Some (Stopped life before after)) = omega (arith, few)
stood_few terms g few CutOff (Some (Stopped life before after)) = omega (arith, few)
stood_few terms g few Whole (Some Unformatted) = omega (arith, few)
stood_few terms g few CutOff (Some Unformatted) = omega (arith, few)
stood_few terms g few Whole None = omega (arith, few)
stood_few terms g few CutOff None = omega (arith, few)

few_after : (setup : Setup) (terms : List ℕ) (g : Group) → length terms ≤ suc g.elections → (event : Event) (how : Ending) → length (terms_after g terms event how) ≤ suc (happens setup g event how).elections
unfolding happens
few_after setup terms g few (Submit i op) how = omega (arith, few, step_elections how g i (slice_get g.servers i) (λ s. on_submit setup s op s.role))
few_after setup terms g few (Fetch i range) how = omega (arith, few, step_elections how g i (slice_get g.servers i) (λ s. on_fetch s range g.reads s.role))
few_after setup terms g few (Deliver k) how = omega (arith, few, delivered_elections setup how g k (slice_get g.packets k))
few_after setup terms g few (Lose k) how = omega (arith, few, only_elections how g (lost g k (slice_get g.packets k)) (lost_elections g k (slice_get g.packets k)))
few_after setup terms g few (Elect i) how = omega (arith, stood_few terms g few how (slice_get g.servers i), step_elections how (counted_election how g) i (slice_get (counted_election how g).servers i) on_elect)
few_after setup terms g few (Resend i) how = omega (arith, few, step_elections how g i (slice_get g.servers i) (λ s. on_resend s s.role))
few_after setup terms g few (Stop i) how = omega (arith, few, only_elections how g (stopped g i (slice_get g.servers i)) (stopped_elections g i (slice_get g.servers i)))
few_after setup terms g few (Restart i found) how = omega (arith, few, restart_elections how g i found (slice_get g.servers i))
few_after setup terms g few Claim how = omega (arith, few, only_elections how g (first_claim setup.window g (0 ∷ 1 ∷ 2 ∷ [])) (claim_elections setup.window g (0 ∷ 1 ∷ 2 ∷ [])))
few_after setup terms g few (Finish i life slot) how = omega (arith, few, step_elections how g i (slice_get g.servers i) (λ s. on_finish s life slot))
few_after setup terms g few (GiveBack i life slot) how = omega (arith, few, step_elections how g i (slice_get g.servers i) (λ s. on_give_back s life slot))
few_after setup terms g few (Checkpoint i) how = omega (arith, few, step_elections how g i (slice_get g.servers i) on_checkpoint)

-- each open claim is of one of the three servers
abbrev IsLow : Claimed → Type 0
IsLow c = c.server < 3

low_with : (claims : List Claimed) (i : ℕ) (c : Option Condition) (slot : Option ℕ) (rest : Answer) → i < 3 → Every IsLow claims → Every IsLow (claims_with rest claims) → Every IsLow (claims_with (claim_answer_at i c slot rest) claims)
low_with claims i (Some (Running s)) (Some slot) rest low all later = (low, all)
low_with claims i (Some (Running s)) None rest low all later = later
low_with claims i (Some (Stopped life before after)) slot rest low all later = later
low_with claims i (Some Unformatted) slot rest low all later = later
low_with claims i None slot rest low all later = later

claim_low : (window : ℕ) (g : Group) (claims : List Claimed) → Every IsLow claims → Every IsLow (claims_with (claim_answer window g (0 ∷ 1 ∷ 2 ∷ [])) claims)
claim_low window g claims all =
    low_with claims 0 (slice_get g.servers 0) (least_claim window (slice_get g.servers 0)) (claim_answer window g (1 ∷ 2 ∷ [])) (omega arith) all
    (low_with claims 1 (slice_get g.servers 1) (least_claim window (slice_get g.servers 1)) (claim_answer window g (2 ∷ [])) (omega arith) all
    (low_with claims 2 (slice_get g.servers 2) (least_claim window (slice_get g.servers 2)) (claim_answer window g []) (omega arith) all all))

pub after_low : (setup : Setup) (g : Group) (claims : List Claimed) (event : Event) (answer : Answer) → IsAnswer setup g event answer → Every IsLow claims → Every IsLow (claims_after claims event answer)
unfolding answer_to may_halt
after_low setup g claims (Submit i op) answer is all = all
after_low setup g claims (Fetch i range) answer is all = all
after_low setup g claims (Deliver k) answer is all = all
after_low setup g claims (Lose k) answer is all = all
after_low setup g claims (Elect i) answer is all = all
after_low setup g claims (Resend i) answer is all = all
after_low setup g claims (Stop i) answer is all = all
after_low setup g claims (Restart i found) answer is all = all
after_low setup g claims Claim answer is all =
    elim is [
      | inl right ↦ subst (λ a. Every IsLow (claims_with a claims)) (sym right) (claim_low setup.window g claims all)
      | inr cut ↦ absurd (false≢true cut.0)
    ]
after_low setup g claims (Finish i life slot) answer is all = every_filter IsLow (λ c. not (is_claim i life slot c)) claims (every_more IsLow (λ c. not (is_claim i life slot c) ≡ true → IsLow c) (λ c low kept. low) claims all)
after_low setup g claims (GiveBack i life slot) answer is all = every_filter IsLow (λ c. not (is_claim i life slot c)) claims (every_more IsLow (λ c. not (is_claim i life slot c) ≡ true → IsLow c) (λ c low kept. low) claims all)
after_low setup g claims (Checkpoint i) answer is all = all

-- each legal event
pub viable_goes : (setup : Setup) → IsSetup setup → (top n : ℕ) (terms : List ℕ) (claims : List Claimed) (g : Group) → IsViable setup top n terms claims g → (h : Happening) → IsLegalNext setup g claims h
    → IsViable setup top (suc n) (terms_after g terms h.event (ending h.answer)) (claims_after claims h.event h.answer) (happens setup g h.event (ending h.answer))
viable_goes setup is top n terms claims g v h legal = record {
  fits = happens_fits setup is top n g (tells_by terms g v.keeps) v.fits claims h.event h.answer legal.asked legal.answered;
  keeps = happens_keeps setup terms g v.keeps h.event (ending h.answer);
  elected = few_after setup terms g v.elected h.event (ending h.answer);
  asks = next_asks setup g claims h legal v.asks;
  opened = happens_open setup g claims v.opened h.event h.answer legal.answered;
  low = after_low setup g claims h.event h.answer legal.answered v.low;
  answered = next_answered setup g claims h legal v.asks v.answered;
  count = (happens_room setup g (record { count = v.count; bytes = v.bytes }) h.event h.answer legal.answered).count;
  bytes = (happens_room setup g (record { count = v.count; bytes = v.bytes }) h.event h.answer legal.answered).bytes;
}

-- a viable group's packets have spellings, and its servers have few starts
few_body : (terms : List ℕ) → length terms ≤ 65 → (body : Body) → BodyKeeps terms body → HasFewStarts body
few_body terms few (RequestVote base) k = tt
few_body terms few (Vote v) k = omega (arith, few, few_starts_beside terms v.starts k)
few_body terms few (Accept e) k = tt
few_body terms few (Ack slot upto_there) k = tt
few_body terms few Nack k = tt
few_body terms few (Commit slot) k = tt
few_body terms few (Probe number) k = tt
few_body terms few (ProbeOk number upto_there) k = tt
few_body terms few (Image base applied sectors) k = tt

pub viable_packets : (setup : Setup) → IsSetup setup → (top n : ℕ) (terms : List ℕ) (claims : List Claimed) (g : Group) → IsViable setup top n terms claims g → (k : ℕ) (sent : Sent) → slice_get g.packets k ≡ Some sent → IsCanonicalPacket sent.packet
viable_packets setup is top n terms claims g v k sent at =
    packet_canonical setup is n (suc (top + g.elections)) sent.packet
    (few_body terms (omega (arith, v.elected, v.fits.elections)) sent.packet.body (every_get (λ sent. BodyKeeps terms sent.packet.body) g.packets k sent v.keeps.packets at))
    (every_get (λ sent. PacketFits setup n (suc (top + g.elections)) sent.packet) g.packets k sent v.fits.packets at)

pub viable_starts : (setup : Setup) (top n : ℕ) (terms : List ℕ) (claims : List Claimed) (g : Group) → IsViable setup top n terms claims g → (i : ℕ) (s : Server) → RunsAs g i s → FinMap.len s.durable.starts ≤ 130
viable_starts setup top n terms claims g v i s at =
    let k = v.keeps.servers i (Running s) at in
    omega (arith, v.elected, v.fits.elections, few_starts_beside terms s.durable.starts k.few)

-- a restart, whatever fits it finds
module _ (setup : Setup) (top n : ℕ) (terms : List ℕ) (claims : List Claimed) (g : Group) (v : IsViable setup top n terms claims g) (i : ℕ) where
  low_life : (c : Condition) (life : ℕ) → slice_get g.servers i ≡ Some c → LastLife c life → life ≤ n
  low_life (Running s) life at last = let x = v.fits.servers i (Running s) at in omega (arith, last, x.1.life)
  low_life (Stopped its before after) life at last = let x = v.fits.servers i (Stopped its before after) at in omega (arith, last, x.1.0)
  low_life Unformatted life at last = absurd last

  no_later : (c : Condition) (life : ℕ) → slice_get g.servers i ≡ Some c → LastLife c life → (claim : Claimed) → ClaimIsOpen g.servers claim → claim.server ≡ i → claim.life ≤ life
  no_later (Running s) life at last claim is same = let x = is.running s (ap (slice_get g.servers) same ∙ at) in omega (arith, last, x.0)
  no_later (Stopped its before after) life at last claim is same = let x = is.stopped its before after (ap (slice_get g.servers) same ∙ at) in omega (arith, last, x)
  no_later Unformatted life at last claim is same = absurd last

  begun_elected : (how : Ending) (life : ℕ) (d before later : Durable) → FinMap.len d.starts ≤ 65 → FinMap.len before.starts ≤ 65 → FinMap.len later.starts ≤ 65 → GroupKeeps terms (server_begun how g i life d before later)
  begun_elected Whole life d before later few b l = begins_from_any terms g v.keeps i (suc life) d few
  begun_elected CutOff life d before later few b l = stops_over_any terms g v.keeps i (suc life) before later b l
  begun_elected Missed life d before later few b l = v.keeps
  begun_elected Untouched life d before later few b l = v.keeps

  begun_ask : (how : Ending) (life : ℕ) (d before later : Durable) (j : ℕ) (s : Server) → RunsAs (server_begun how g i life d before later) j s → Asks setup.chunk g.reads s
  begun_ask Whole life d before later j s at = elim (set_cases g.servers i (Running (restarted i (suc life) (renewed d))) j (Running s) at) [
    | inl here ↦ subst (Asks setup.chunk g.reads) (same_running here.1) (restarted_asks setup.chunk g.reads i (suc life) (renewed d))
    | inr there ↦ v.asks j s there.1
  ]
    where
      same_running : {x y : Server} → Running x ≡ Running y → x ≡ y
      same_running e = cc
  begun_ask CutOff life d before later j s at = elim (set_cases g.servers i (Stopped (suc life) before later) j (Running s) at) [
    | inl here ↦ absurd (grind (arith, here.1))
    | inr there ↦ v.asks j s there.1
  ]
  begun_ask Missed life d before later j s at = v.asks j s at
  begun_ask Untouched life d before later j s at = v.asks j s at

  begun_reads : (how : Ending) (life : ℕ) (d before later : Durable) → (server_begun how g i life d before later).reads ≡ g.reads
  begun_reads Whole life d before later = refl
  begun_reads CutOff life d before later = refl
  begun_reads Missed life d before later = refl
  begun_reads Untouched life d before later = refl

  begun_answered : (how : Ending) (life : ℕ) (d before later : Durable) → Every (λ a. a.number < (server_begun how g i life d before later).reads) (server_begun how g i life d before later).answered
  begun_answered Whole life d before later = v.answered
  begun_answered CutOff life d before later = v.answered
  begun_answered Missed life d before later = v.answered
  begun_answered Untouched life d before later = v.answered

pub viable_begins : (setup : Setup) (top n : ℕ) (terms : List ℕ) (claims : List Claimed) (g : Group) → IsViable setup top n terms claims g → (i : ℕ) (how : Ending) (after : Group) → BeginsAnew setup top n g i how after → IsViable setup top (suc n) terms claims after
viable_begins setup top n terms claims g v i how after b = subst (IsViable setup top (suc n) terms claims) (sym b.is) (record {
  fits = begun_fits setup top n g v.fits how i b.life b.d b.before b.later (v.fits.servers i b.c b.there).0 (low_life setup top n terms claims g v i b.c b.life b.there b.last) b.found.fits b.first.fits b.second.fits;
  keeps = begun_elected setup top n terms claims g v i how b.life b.d b.before b.later b.found.few b.first.few b.second.few;
  elected = omega (arith, v.elected, begun_elections how g i b.life b.d b.before b.later);
  asks = λ j s at. subst (λ r. Asks setup.chunk r s) (sym (begun_reads setup top n terms claims g v i how b.life b.d b.before b.later)) (begun_ask setup top n terms claims g v i how b.life b.d b.before b.later j s at);
  opened = begun_open g.servers claims v.opened how g i b.life b.d b.before b.later refl (no_later setup top n terms claims g v i b.c b.life b.there b.last);
  low = v.low;
  answered = begun_answered setup top n terms claims g v i how b.life b.d b.before b.later;
  count = (begun_room g (record { count = v.count; bytes = v.bytes }) how i b.life b.d b.before b.later).count;
  bytes = (begun_room g (record { count = v.count; bytes = v.bytes }) how i b.life b.d b.before b.later).bytes;
})

-- a server that begins over a state that fits
pub viable_over : (setup : Setup) (top n : ℕ) (terms : List ℕ) (claims : List Claimed) (g : Group) → IsViable setup top n terms claims g → (i : ℕ) (c : Condition) (life : ℕ) (d : Durable) → slice_get g.servers i ≡ Some c → LastLife c life → MayBeFound setup top n g d
    → IsViable setup top (suc n) terms claims (record g { servers = slice_set g.servers i (Running (restarted i (suc life) d)) })
viable_over setup top n terms claims g v i c life d there last found = record {
  fits = over_fits setup top n g v.fits i life d (v.fits.servers i c there).0 (low_life setup top n terms claims g v i c life there last) found.fits;
  keeps = runs_over_any terms g v.keeps i (suc life) d found.few;
  elected = v.elected;
  asks = λ j s at. elim (set_cases g.servers i (Running (restarted i (suc life) d)) j (Running s) at) [
    | inl here ↦ subst (Asks setup.chunk g.reads) (same_running here.1) (restarted_asks setup.chunk g.reads i (suc life) d)
    | inr there ↦ v.asks j s there.1
  ];
  opened = over_open g.servers claims v.opened g i life d refl (no_later setup top n terms claims g v i c life there last);
  low = v.low;
  answered = v.answered;
  count = v.count;
  bytes = v.bytes;
}
  where
    same_running : {x y : Server} → Running x ≡ Running y → x ≡ y
    same_running e = cc

-- a new group
opening_kept : (setup : Setup) (i : ℕ) → KeepsTerms (1 ∷ []) i (restarted i 0 (opening_disk setup))
unfolding restarted opening_disk
opening_kept setup i = record {
  number = refl;
  few = record { others = []; few = omega arith; each = λ t first at. absurd (none-some first (sym (get-empty nat_cmp t) ∙ at)) };
  elected = tt;
  own = λ l is. elim is [ inl m ↦ absurd (grind (arith, m)) | inr m ↦ absurd (grind (arith, m)) ];
  unapplied = λ slot op at. absurd (none-some op (sym (get-empty nat_cmp slot) ∙ at));
}

leader_kept : (setup : Setup) → KeepsTerms (1 ∷ []) 0 (first_leader setup)
unfolding first_leader restarted opening_disk
leader_kept setup = record {
  number = refl;
  few = record { others = []; few = omega arith; each = λ t first at. absurd (none-some first (sym (get-empty nat_cmp t) ∙ at)) };
  elected = inl refl;
  own = λ l is slot e low high at. absurd (none-some e (sym (get-empty nat_cmp slot) ∙ at));
  unapplied = λ slot op at. absurd (none-some op (sym (get-empty nat_cmp slot) ∙ at));
}

opening_keeps : (setup : Setup) → GroupKeeps (1 ∷ []) (opening setup)
unfolding opening
opening_keeps setup = record { servers = each; packets = tt }
  where
    starts : (i : ℕ) (s : Server) → KeepsTerms (1 ∷ []) i s → ConditionKeeps (1 ∷ []) i (unless_failed setup i s)
    starts i s k = by_test (list_any (λ j. j == i) setup.failed) (λ c. ConditionKeeps (1 ∷ []) i (if c then Unformatted else Running s)) (λ _. tt) (λ _. k)

    each : (i : ℕ) (c : Condition) → slice_get (opening setup).servers i ≡ Some c → ConditionKeeps (1 ∷ []) i c
    each zero c at = subst (ConditionKeeps (1 ∷ []) 0) (same_Some _ c at) (starts 0 (first_leader setup) (leader_kept setup))
    each (suc zero) c at = subst (ConditionKeeps (1 ∷ []) 1) (same_Some _ c at) (starts 1 (restarted 1 0 (opening_disk setup)) (opening_kept setup 1))
    each (suc (suc zero)) c at = subst (ConditionKeeps (1 ∷ []) 2) (same_Some _ c at) (starts 2 (restarted 2 0 (opening_disk setup)) (opening_kept setup 2))
    each (suc (suc (suc i))) c at = absurd (none-some c at)

pub viable_opening : (setup : Setup) (top n : ℕ) → IsViable setup top n (1 ∷ []) [] (opening setup)
unfolding opening most_packets most_packet_bytes
viable_opening setup top n =
    let f = opening_fits setup in
    record {
      fits = record {
        servers = λ i c at. let x = f.servers i c at in (x.0, condition_more setup 0 n (suc (0 + 0)) (suc (top + 0)) (omega arith) (omega arith) c x.1);
        packets = tt;
        elections = omega arith;
        reads = omega arith;
      };
      keeps = opening_keeps setup;
      elected = omega arith;
      asks = opening_asks setup;
      opened = tt;
      low = tt;
      answered = tt;
      count = omega arith;
      bytes = omega arith;
    }
