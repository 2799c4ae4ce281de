-- What tells the answer of a port's ask is of its kind, and stands in the group's history; so a reply has the sectors that were asked for, each of 512 bytes.
use Rattle.std.proofs.Common.{◌≡◌, ℕ, zero, suc, ◌+◌, ◌-◌, ◌≤◌, Bool, true, false, cond, ◌==◌, List, [], ◌∷◌, ◌++◌, drop, filter, length, take, Option, Some, None, slice_get, arith, refl, sym, ap, subst, ◌∙◌}
use Rattle.std.specs.Option.{option_map}
use Rattle.std.proofs.lemmas.Bool.{eqb-true}
use Rattle.std.proofs.lemmas.List.{append-nil}
use Rattle.std.proofs.lemmas.Option.{none-some, same_Some}
use Rattle.pf_base.specs.Asks.{Answers}
use Rattle.pf_base.specs.Span.{Span}
use Rattle.pf_base.specs.declared.asks.Ask.{Ask}
use Rattle.pf_base.specs.declared.asks.Ask.TheVariants as asks
use Rattle.pf_base.specs.declared.asks.Reply.{Reply}
use Rattle.pf_base.specs.declared.asks.Reply.TheVariants.{Written, Bytes}
use Rattle.pf_entry.specs.Lists.{Every}
use Rattle.pf_entry.specs.Ops.{Sector}
use Rattle.pf_entry.specs.declared.ops.Op.TheVariants.{Write}
use Rattle.pf_entry.proofs.Cases.{by_test}
use Rattle.pf_asks.specs.Ports.{reply_if}
use Rattle.pf_asks.specs.declared.port.Sent.{Sent}
use Rattle.pf_asks.specs.declared.port.Sent.TheVariants.{Slot, Number}
use Rattle.pf_protocol.specs.declared.answers.Answer.{Answer}
use Rattle.pf_protocol.specs.declared.answers.Answer.TheVariants.{Done, Slot as SlotIs, Term as TermIs, Read as ReadIs, Base as BaseIs, Job as JobIs, Refused}
use Rattle.pf_protocol.specs.declared.events.Event.TheVariants.{Fetch, Submit}
use Rattle.pf_protocol.specs.declared.events.Happening.{Happening}
use Rattle.pf_protocol.specs.Servers.{Running, Setup}
use Rattle.pf_protocol.specs.Groups.{Answered, Group}
use Rattle.pf_protocol.specs.Histories.{History, IsPrefix, replay}
use Rattle.pf_protocol.specs.Answers.{IsAnswer, IsLegal}
use Rattle.pf_protocol.proofs.ForHistories.{fresh, legal_fits}
use Rattle.pf_protocol.proofs.ForMoments.{legal_before, prefix_of}
use Rattle.pf_law_positions.proofs.TakenReads.{answered_taken_up}
use Rattle.pf_law_positions.proofs.WorkedDeeds.{next_there}
use Rattle.pf_law_movers.proofs.SubmitAnswers.{read_sent, write_sent}
use Rattle.pf_law_movers.specs.pf_law_ports.specs.Calls.{Fetching, PortPast, number_in, slot_in}
use Rattle.pf_law_movers.specs.pf_law_ports.specs.Replies.{WasRead}
use Rattle.pf_law_movers.specs.pf_law_service.proofs.ReplyCounts.{in_kind}
use Rattle.pf_world.specs.pf_chunk.specs.Asks.{ask_reply}
use Rattle.pf_world.specs.pf_chunk.specs.Driving.{event_of_ask, sent_of}
use Rattle.pf_world.specs.pf_chunk.specs.Waiting.{answers_of_read}

-- this read of the range was taken up
pub record IsTaken (history : History) (range : Span) (number : ℕ) : Type 0 where
  pub before : History
  pub server : ℕ
  pub part : IsPrefix (before ++ record { event = Fetch server range; answer = ReadIs number } ∷ []) history

-- what tells the answer of the ask, if anything does
abbrev pub IsSentFor : History → Ask → Option Sent → Type 0
IsSentFor history (asks.Write chunk range sectors) (Some (Number number)) = ⊥
IsSentFor history (asks.Write chunk range sectors) (Some (Slot slot)) = Unit {0}
IsSentFor history (asks.Read chunk range) (Some (Number number)) = IsTaken history range number
IsSentFor history (asks.Read chunk range) (Some (Slot slot)) = ⊥
IsSentFor history (asks.Write chunk range sectors) None = Unit {0}
IsSentFor history (asks.Read chunk range) None = Unit {0}

pub sent_none : (history : History) (ask : Ask) → IsSentFor history ask None
sent_none history (asks.Write chunk range sectors) = tt
sent_none history (asks.Read chunk range) = tt

pub sent_later : (old new : History) (ask : Ask) (sent : Option Sent) → IsPrefix old new → IsSentFor old ask sent → IsSentFor new ask sent
sent_later old new (asks.Write chunk range sectors) (Some (Number number)) later is = absurd is
sent_later old new (asks.Write chunk range sectors) (Some (Slot slot)) later is = tt
sent_later old new (asks.Read chunk range) (Some (Number number)) later is = record { before = is.before; server = is.server; part = prefix_of _ old new is.part later }
sent_later old new (asks.Read chunk range) (Some (Slot slot)) later is = absurd is
sent_later old new (asks.Write chunk range sectors) None later is = tt
sent_later old new (asks.Read chunk range) None later is = tt

-- as the ask is handed to a server
pub sent_now : (setup : Setup) (g : Group) (history : History) (ask : Ask) (server : ℕ) (answer : Answer) → IsAnswer setup g (event_of_ask ask server) answer
    → IsSentFor (history ++ record { event = event_of_ask ask server; answer = answer } ∷ []) ask (sent_of answer)
sent_now setup g history (asks.Write chunk range sectors) server answer is =
    let all : History = history ++ record { event = Submit server (Write range sectors); answer = answer } ∷ [] in
    subst (IsSentFor all (asks.Write chunk range sectors)) (sym (write_sent setup g server (Write range sectors) answer is)) (by all (slot_in answer))
  where
    by : (all : History) (o : Option ℕ) → IsSentFor all (asks.Write chunk range sectors) (option_map Slot o)
    by all None = tt
    by all (Some slot) = tt
sent_now setup g history (asks.Read chunk range) server answer is = by answer (read_sent setup g server range answer is)
  where
    by : (a : Answer) → sent_of a ≡ option_map Number (number_in a) → IsSentFor (history ++ record { event = Fetch server range; answer = a } ∷ []) (asks.Read chunk range) (sent_of a)
    by (ReadIs number) same = record { before = history; server = server; part = record { rest = []; whole = append-nil _ } }
    by (SlotIs slot) same = absurd (none-some (Slot slot) (sym same))
    by Done same = tt
    by (TermIs term) same = tt
    by (BaseIs base) same = tt
    by (JobIs job) same = tt
    by (Refused refusal) same = tt

-- Replies

abbrev pub IsFull : Reply → Type 0
IsFull Written = Unit {0}
IsFull (Bytes sectors) = Every (λ bytes. length bytes ≡ 512) sectors

every_drop : {X : Type 0} → (P : X → Type 0) (n : ℕ) (xs : List X) → Every P xs → Every P (drop n xs)
every_drop P zero xs all = all
every_drop P (suc n) [] all = tt
every_drop P (suc n) (x ∷ xs) all = every_drop P n xs all.1

every_take : {X : Type 0} → (P : X → Type 0) (n : ℕ) (xs : List X) → Every P xs → Every P (take n xs)
every_take P zero xs all = tt
every_take P (suc n) [] all = tt
every_take P (suc n) (x ∷ xs) all = (all.0, every_take P n xs all.1)

-- what a read of a legal history gave are whole sectors
full_given : (setup : Setup) (history : History) (k : ℕ) (a : Answered) → IsLegal setup history → slice_get (replay setup history).answered k ≡ Some a → Every (λ bytes. length bytes ≡ 512) a.bytes
full_given setup history k a legal at =
    let f = fresh setup history k a at in
    let then_so = f.answering ++ f.answering_event ∷ [] in
    let fits = (legal_fits setup then_so (legal_before setup then_so history f.is_part legal)).servers a.server (Running f.server) f.runs in
    let Full : Sector → Type 0 = λ bytes. length bytes ≡ 512 in
    subst (Every Full) (sym f.bytes) (every_take Full ((a.range.first + a.range.count) - a.range.first) (drop a.range.first f.server.sectors) (every_drop Full a.range.first f.server.sectors fits.1.sectors.1))

-- the first answer to a read
record IsAnsweredAt (answered : List Answered) (number : ℕ) (a : Answered) : Type 0 where
  k : ℕ
  there : slice_get answered k ≡ Some a
  its : a.number ≡ number

first_there : (number : ℕ) (all : List Answered) (a : Answered) → slice_get (filter (λ (x : Answered). x.number == number) all) 0 ≡ Some a → IsAnsweredAt all number a
first_there number [] a is = absurd (none-some a is)
first_there number (x ∷ xs) a is =
    by_test (x.number == number) (λ b. (x.number == number) ≡ b → slice_get (cond b (x ∷ filter (λ (y : Answered). y.number == number) xs) (filter (λ (y : Answered). y.number == number) xs)) 0 ≡ Some a → IsAnsweredAt (x ∷ xs) number a)
    (λ _ same found. let one = same_Some x a found in record { k = 0; there = found; its = ap (λ (y : Answered). y.number) (sym one) ∙ eqb-true x.number number same })
    (λ _ _ found. let later = first_there number xs a found in record { k = suc later.k; there = later.there; its = later.its }) refl is

module _ (setup : Setup) (history : History) (legal : IsLegal setup history) where
  read_full : (chunk number : ℕ) (range : Span) (o : Option Answered) (reply : Reply) → IsTaken history range number → slice_get (answers_of_read (replay setup history) number) 0 ≡ o → option_map (λ (a : Answered). Bytes a.bytes) o ≡ Some reply
      → Answers (asks.Read chunk range) reply × IsFull reply
  read_full chunk number range None reply taken there is = absurd (none-some reply is)
  read_full chunk number range (Some a) reply taken there is =
      let found = first_there number (replay setup history).answered a there in
      let h : Happening = record { event = Fetch taken.server range; answer = ReadIs number } in
      let at : slice_get history (length taken.before) ≡ Some (record { event = Fetch taken.server range; answer = ReadIs a.number }) =
      (next_there taken.before history h taken.part).0 ∙ ap (λ n. Some (record { event = Fetch taken.server range; answer = ReadIs n })) (sym found.its) in
      let up = answered_taken_up setup history (length taken.before) taken.server found.k range a legal at found.there in
      let final : Fetching = record { ask = 0; before = taken.before; server = taken.server; range = range; answer = ReadIs number } in
      let past : PortPast = record { history = history; asks = 0; writes = []; reads = final ∷ [] } in
      let was : WasRead setup past range a.bytes = record {
        m = 0;
        final = final;
        at = refl;
        same = refl;
        no_later = last final;
        asked = refl;
        happened = taken.part;
        k = found.k;
        read = a;
        answered = found.there;
        numbered = ap ReadIs (sym found.its);
        of_range = up.same_range;
        gives = refl;
      } in
      subst (λ r. Answers (asks.Read chunk range) r × IsFull r) (same_Some (Bytes a.bytes) reply is)
      (in_kind setup past (asks.Read chunk range) (Bytes a.bytes) legal was, full_given setup history found.k a legal found.there)
    where
      last : (final : Fetching) (k : ℕ) (f : Fetching) → slice_get (final ∷ []) k ≡ Some f → k ≤ 0
      last final zero f there = omega arith
      last final (suc k) f there = absurd (none-some f there)

  written_full : (chunk : ℕ) (range : Span) (sectors : List Sector) (b : Bool) (reply : Reply) → reply_if b ≡ Some reply → Answers (asks.Write chunk range sectors) reply × IsFull reply
  written_full chunk range sectors true reply is = subst (λ r. Answers (asks.Write chunk range sectors) r × IsFull r) (same_Some Written reply is) (tt, tt)
  written_full chunk range sectors false reply is = absurd (none-some reply is)

  -- each reply answers its ask, with whole sectors
  pub reply_full : (ask : Ask) (sent : Option Sent) (last : ℕ) (reply : Reply) → IsSentFor history ask sent → ask_reply (replay setup history) sent last ≡ Some reply → Answers ask reply × IsFull reply
  reply_full ask None last reply is told = absurd (none-some reply told)
  reply_full (asks.Write chunk range sectors) (Some (Slot slot)) last reply is told = written_full chunk range sectors _ reply told
  reply_full (asks.Write chunk range sectors) (Some (Number number)) last reply is told = absurd is
  reply_full (asks.Read chunk range) (Some (Slot slot)) last reply is told = absurd is
  reply_full (asks.Read chunk range) (Some (Number number)) last reply is told = read_full chunk number range (slice_get (answers_of_read (replay setup history) number) 0) reply is refl told
