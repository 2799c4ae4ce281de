-- Replies of a legal history's group are of the kind of their asks, and the bytes of a read have as many sectors as its range.
use Rattle.std.proofs.Common.{◌≡◌, ℕ, zero, suc, ◌+◌, ◌≤◌, inl, inr, Bool, true, false, not, nat_le, ◌||◌, List, [], ◌∷◌, length, Option, Some, None, slice_get, arith, refl, sym, ap, subst, ◌∙◌}
use Rattle.std.proofs.lemmas.Bool.{eqb-true, leb-true}
use Rattle.std.proofs.lemmas.Option.{none-some, same_Some}
use Rattle.pf_base.specs.Asks.{Answers}
use Rattle.pf_base.specs.Span.{IsWritable, Span, fits_in, is_whole}
use Rattle.pf_base.specs.declared.asks.Ask.{Ask}
use Rattle.pf_base.specs.declared.asks.Ask.TheVariants as asks
use Rattle.pf_base.specs.declared.asks.Reply.{Reply}
use Rattle.pf_base.specs.declared.asks.Reply.TheVariants.{Written, Bytes}
use Rattle.pf_protocol.specs.declared.answers.Answer.TheVariants.{Read as ReadIs, Refused}
use Rattle.pf_protocol.specs.declared.answers.Refusal.{Refusal}
use Rattle.pf_protocol.specs.declared.answers.Refusal.TheVariants.{BadRange, Down, Halted, NotLeader}
use Rattle.pf_protocol.specs.declared.events.Event.TheVariants.{Fetch}
use Rattle.pf_protocol.specs.declared.events.Happening.{Happening}
use Rattle.pf_protocol.specs.Servers.{Condition, Running, Server, Setup, Stopped, Unformatted}
use Rattle.pf_protocol.specs.Groups.{Answered, Group, ending, happens, opening}
use Rattle.pf_protocol.specs.Histories.{History, replay}
use Rattle.pf_protocol.specs.Answers.{Claimed, IsAnswer, IsLegal, IsLegalFrom, IsLegalNext, answer_at, answer_by, answer_to, claims_after, fetch_refusal, fetch_turn, is_serving, refuse, room_refusal}
use Rattle.pf_protocol.specs.Leading.{on_fetch}
use Rattle.pf_law_positions.proofs.Answers.{eight_given}
use Rattle.pf_law_positions.proofs.TakenReads.{answered_taken_up}
use Rattle.pf_law_positions.proofs.WorkedDeeds.{next_there}
use Rattle.pf_law_ports.specs.Calls.{PortPast, fetching}
use Rattle.pf_law_ports.specs.Replies.{IsReplied}

number_apart : (number : ℕ) (refusal : Refusal) → ReadIs number ≡ Refused refusal → ⊥
number_apart number refusal e = cc

module _ (setup : Setup) (g : Group) (i number : ℕ) (range : Span) where
  by_fit : (s : Server) (fits : Bool) → fits_in range setup.chunk ≡ fits → ReadIs number ≡ (answer_at (Some (Running s)) (fetch_turn setup g range)) → fits ≡ true
  unfolding fetch_refusal
  by_fit s true is answer = refl
  by_fit s false is answer =
      absurd (number_apart number BadRange
      (answer ∙ ap (λ fit. answer_by (refuse (not fit) BadRange (refuse (not (is_serving s.role)) NotLeader (room_refusal g (on_fetch s range g.reads s.role)))) (on_fetch s range g.reads s.role).answer) is))

  by_condition : (c : Option Condition) → ReadIs number ≡ answer_at c (fetch_turn setup g range) → fits_in range setup.chunk ≡ true
  by_condition (Some (Running s)) answer = by_fit s (fits_in range setup.chunk) refl answer
  by_condition (Some (Stopped life before after)) answer = absurd (number_apart number Down answer)
  by_condition (Some Unformatted) answer = absurd (number_apart number Down answer)
  by_condition None answer = absurd (number_apart number Down answer)

  -- a range that does not fit is refused
  fits : IsAnswer setup g (Fetch i range) (ReadIs number) → fits_in range setup.chunk ≡ true
  unfolding answer_to
  fits answer = elim answer [
    | inl is ↦ by_condition (slice_get g.servers i) is
    | inr halted ↦ absurd (number_apart number Halted halted.1)
  ]

-- a happening of a legal history could be asked for and has its answer
record Stood (setup : Setup) (h : Happening) : Type 0 where
  before : Group
  claims : List Claimed
  next : IsLegalNext setup before claims h

stood : (setup : Setup) (history : History) (g : Group) (claims : List Claimed) (k : ℕ) (h : Happening) → IsLegalFrom setup g claims history → slice_get history k ≡ Some h → Stood setup h
stood setup [] g claims k h legal at = absurd (none-some h at)
stood setup (x ∷ xs) g claims zero h legal at = subst (Stood setup) (same_Some x h at) (record { before = g; claims = claims; next = legal.0 })
stood setup (x ∷ xs) g claims (suc k) h legal at = stood setup xs (happens setup g x.event (ending x.answer)) (claims_after claims x.event x.answer) k h legal.1 at

within : (range : Span) (sectors : ℕ) → IsWritable range.first range.count → fits_in range sectors ≡ true → range.first + range.count ≤ sectors
within range sectors writable is = by (is_whole range) refl
  where
    by : (w : Bool) → is_whole range ≡ w → range.first + range.count ≤ sectors
    by true whole = absurd (omega (arith, eqb-true range.count 255 whole, writable.few))
    by false whole = leb-true (range.first + range.count) sectors (sym (ap (λ w. w || nat_le (range.first + range.count) sectors) whole) ∙ is)

-- an answered read that was taken up by this event has as many sectors as its range
counted : (setup : Setup) (history : History) → IsLegal setup history → (server place k : ℕ) (range : Span) (a : Answered) → slice_get history place ≡ Some (record { event = Fetch server range; answer = ReadIs a.number }) → slice_get (replay setup history).answered k ≡ Some a
    → length a.bytes ≡ range.count
counted setup history legal server place k range a at there =
    let up = answered_taken_up setup history place server k range a legal at there in
    let s = stood setup history (opening setup) [] place (record { event = Fetch server range; answer = ReadIs a.number }) legal.legal at in
    let low = within range setup.chunk s.next.asked.1 (fits setup s.before server a.number range s.next.answered) in
    let same = up.same_range in
    eight_given setup history k a legal there (subst (λ (r : Span). r.first + r.count ≤ setup.chunk) (sym same) low) ∙ ap (λ (r : Span). r.count) same

-- a reply of a legal history's group answers its ask
pub in_kind : (setup : Setup) (past : PortPast) (ask : Ask) (reply : Reply) → IsLegal setup past.history → IsReplied setup past ask reply → Answers ask reply
in_kind setup past (asks.Write chunk range sectors) Written legal replied = tt
in_kind setup past (asks.Read chunk range) (Bytes sectors) legal replied =
    let f = replied.final in
    let there : slice_get past.history (length f.before) ≡ Some (record { event = Fetch f.server range; answer = ReadIs replied.read.number }) =
    (next_there f.before past.history (fetching f) replied.happened).0
    ∙ ap (λ (r : Span). Some (record { event = Fetch f.server r; answer = f.answer })) replied.asked
    ∙ ap (λ z. Some (record { event = Fetch f.server range; answer = z })) replied.numbered in
    ap length (sym replied.gives) ∙ counted setup past.history legal f.server (length f.before) replied.k range replied.read there replied.answered
in_kind setup past (asks.Write chunk range sectors) (Bytes bytes) legal replied = absurd replied
in_kind setup past (asks.Read chunk range) Written legal replied = absurd replied
