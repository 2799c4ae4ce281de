-- What stands between a port's steps.
use Rattle.std.proofs.Common.{◌≡◌, ℕ, ◌<◌, ◌≤◌, ◌⊎◌, inl, inr, true, List, [], ◌∷◌, ◌++◌, length, Option, Some, None, slice_get, arith, refl, sym, ap, subst, ◌∙◌}
use Rattle.std.specs.Option.{option_map}
use Rattle.std.proofs.lemmas.Option.{same_Some, none-some, slice_get_within}
use Rattle.std.proofs.lemmas.Bool.{cases_lt, leb-true, ltb-true}
use Rattle.std.proofs.lemmas.List.{length-append}
use Rattle.pf_base.specs.Span.{Span}
use Rattle.pf_base.specs.declared.asks.Ask.{Ask}
use Rattle.pf_base.specs.declared.asks.Ask.TheVariants.{Write as WriteAsk, Read as ReadAsk}
use Rattle.pf_entry.specs.Ops.{Sector}
use Rattle.pf_entry.specs.declared.ops.Op.{Op}
use Rattle.pf_entry.specs.declared.ops.Op.TheVariants.{Write}
use Rattle.pf_protocol.specs.declared.answers.Answer.{Answer}
use Rattle.pf_protocol.specs.declared.answers.Answer.TheVariants.{Slot as SlotIs, Read as ReadIs}
use Rattle.pf_protocol.specs.Servers.{Setup}
use Rattle.pf_protocol.specs.Groups.{Whole, ending}
use Rattle.pf_protocol.specs.Histories.{History, IsPrefix, replay}
use Rattle.pf_protocol.specs.Answers.{IsLegal}
use Rattle.pf_protocol.specs.Ports.{Submission, submitting, IsTarget, WriteHasEnded, FollowsRule}
use Rattle.pf_protocol.proofs.ForMoments.{prefix_of}
use Rattle.pf_protocol.proofs.ForPorts.{given_slot}
use Rattle.pf_protocol.proofs.ForMoments.{whole_prefix}
use Rattle.pf_group_network.specs.Shown.{ServesInTerm}
use Rattle.pf_group_network.proofs.Lists.{at_end, end_cases}
use Rattle.pf_asks.specs.declared.port.Sent.{Sent}
use Rattle.pf_asks.specs.declared.port.Sent.TheVariants.{Slot, Number}
use Rattle.pf_asks.specs.Ports.{PortIs, new_port, goes_to, ask_answered}
use Rattle.pf_law_ports.specs.Calls.{PortPast, new_past, Fetching, fetching, submission_of, fetching_of, with_write, with_read, slot_in, number_in}
use Rattle.pf_law_ports.proofs.PortRules.{target_in, ended_later, ended_more, rule_later, rule_more}

-- the op is what this ask writes
abbrev pub IsOpOf : Ask → Op → Type 0
IsOpOf (WriteAsk chunk range sectors) op = op ≡ Write range sectors
IsOpOf (ReadAsk chunk range) op = ⊥

-- the last submission is of the write of this number, and a leader of this term gave it this slot
pub record IsLastWrite (setup : Setup) (number : ℕ) (writes : List Submission) (term slot : ℕ) : Type 0 where
  pub m : ℕ
  pub final : Submission
  pub at : slice_get writes m ≡ Some final
  pub no_later : (k : ℕ) (b : Submission) → slice_get writes k ≡ Some b → k ≤ m
  pub same : final.write ≡ number
  pub took_slot : final.answer ≡ SlotIs slot
  pub in_term : (x : IsTarget setup final) → x.server.durable.term ≡ term

-- the last time that the port asked for sectors it asked for this range, for the last ask, and was given this number
pub record IsLastRead (past : PortPast) (range : Span) (number : ℕ) : Type 0 where
  pub m : ℕ
  pub final : Fetching
  pub at : slice_get past.reads m ≡ Some final
  pub no_later : (k : ℕ) (f : Fetching) → slice_get past.reads k ≡ Some f → k ≤ m
  pub same : final.ask ≡ past.asks
  pub asked : final.range ≡ range
  pub numbered : final.answer ≡ ReadIs number
  pub happened : IsPrefix (final.before ++ fetching final ∷ []) past.history

-- what a port remembers of its last submission is so
abbrev pub IsSent : Setup → PortPast → (last : ℕ) → Option Ask → Option Sent → Type 0
IsSent setup past last ask None = Unit {0}
IsSent setup past last (Some (WriteAsk chunk range sectors)) (Some (Slot slot)) = IsLastWrite setup past.asks past.writes last slot
IsSent setup past last (Some (ReadAsk chunk range)) (Some (Number number)) = IsLastRead past range number
IsSent setup past last ask sent = ⊥

-- The port followed its rule, and met a leader each time. No submission is of a later ask, or went to a leader of a higher term than the
-- port's last. One of the pending ask that was taken up went to a lower term than those to which it goes next. Every other write has ended
pub record Stands (setup : Setup) (past : PortPast) (port : PortIs) : Type 0 where
  pub rule : FollowsRule setup past.history past.writes
  pub target : (k : ℕ) (a : Submission) → slice_get past.writes k ≡ Some a → IsTarget setup a
  pub numbered : (k : ℕ) (a : Submission) → slice_get past.writes k ≡ Some a → a.write ≤ past.asks
  pub low : (k : ℕ) (a : Submission) → slice_get past.writes k ≡ Some a → (x : IsTarget setup a) → x.server.durable.term ≤ port.last
  pub passed : (k : ℕ) (a : Submission) → slice_get past.writes k ≡ Some a → a.write ≡ past.asks → ending a.answer ≡ Whole → (ask : Ask) → port.ask ≡ Some ask → (x : IsTarget setup a) (term : ℕ) → goes_to port.sent port.last term ≡ true → x.server.durable.term < term
  pub ended : (k : ℕ) (a : Submission) → slice_get past.writes k ≡ Some a → (a.write < past.asks) ⊎ (port.ask ≡ None) → WriteHasEnded setup past.writes past.history a.write
  pub own : (k : ℕ) (a : Submission) → slice_get past.writes k ≡ Some a → a.write ≡ past.asks → (ask : Ask) → port.ask ≡ Some ask → IsOpOf ask a.op
  pub sent : IsSent setup past port.last port.ask port.sent

-- an ask goes to no lower term
goes_over : (sent : Option Sent) (last term : ℕ) → goes_to sent last term ≡ true → last ≤ term
goes_over None last term goes = leb-true last term goes
goes_over (Some sent) last term goes = omega (arith, ltb-true last term goes)

-- one that was given a slot goes to a higher one
goes_above : (answer : Answer) (slot last term : ℕ) → answer ≡ SlotIs slot → goes_to (option_map Slot (slot_in answer)) last term ≡ true → last < term
goes_above answer slot last term is goes = ltb-true last term (subst (λ z. goes_to (option_map Slot (slot_in z)) last term ≡ true) is goes)

pub begins : (setup : Setup) (history : History) → Stands setup (new_past history) new_port
begins setup history = record {
  rule = record {
    happened = λ k a at. absurd (none-some a at);
    in_order = λ j k a b at there lt. absurd (none-some a at);
    ascends = λ j k a b at there lt. absurd (none-some a at);
    no_lower = λ j k a b at there lt x y. absurd (none-some a at);
    again = λ j k a b at there lt same x y terms. absurd (none-some a at);
    waits = λ j k a b at there less. absurd (none-some a at);
  };
  target = λ k a at. absurd (none-some a at);
  numbered = λ k a at. absurd (none-some a at);
  low = λ k a at x. absurd (none-some a at);
  passed = λ k a at same whole ask pending x term goes. absurd (none-some a at);
  ended = λ k a at which. absurd (none-some a at);
  own = λ k a at same ask pending. absurd (none-some a at);
  sent = tt;
}

sent_later : (setup : Setup) (past : PortPast) (now : History) → IsPrefix past.history now → (last : ℕ) (ask : Option Ask) (sent : Option Sent) → IsSent setup past last ask sent → IsSent setup (record past { history = now }) last ask sent
sent_later setup past now p last ask None is = tt
sent_later setup past now p last (Some (WriteAsk chunk range sectors)) (Some (Slot slot)) is = is
sent_later setup past now p last (Some (ReadAsk chunk range)) (Some (Number number)) is = record {
  m = is.m;
  final = is.final;
  at = is.at;
  no_later = is.no_later;
  same = is.same;
  asked = is.asked;
  numbered = is.numbered;
  happened = prefix_of (is.final.before ++ fetching is.final ∷ []) past.history now is.happened p;
}
sent_later setup past now p last ask sent is = absurd is

module _ (setup : Setup) (past : PortPast) (port : PortIs) (s : Stands setup past port) where
  -- others make events
  pub later : (now : History) → IsPrefix past.history now → Stands setup (record past { history = now }) port
  later now p = record {
    rule = rule_later setup past.history now past.writes p s.rule;
    target = s.target;
    numbered = s.numbered;
    low = s.low;
    passed = s.passed;
    ended = λ k a at which. ended_later setup past.writes past.history now a.write p (s.ended k a at which);
    own = s.own;
    sent = sent_later setup past now p port.last port.ask port.sent s.sent;
  }

  -- an ask is put into the port
  pub puts : (ask : Ask) (number : ℕ) → past.asks < number → port.ask ≡ None → Stands setup (record past { asks = number }) (record port { ask = Some ask; sent = None })
  puts ask number above none = record {
    rule = s.rule;
    target = s.target;
    numbered = λ k a at. omega (arith, s.numbered k a at, above);
    low = s.low;
    passed = λ k a at same whole its pending x term goes. absurd (omega (arith, s.numbered k a at, above, same));
    ended = λ k a at which. s.ended k a at (inr none);
    own = λ k a at same its pending. absurd (omega (arith, s.numbered k a at, above, same));
    sent = tt;
  }

  -- the pending ask is answered
  pub replies : ((k : ℕ) (a : Submission) → slice_get past.writes k ≡ Some a → a.write ≡ past.asks → WriteHasEnded setup past.writes past.history a.write) → Stands setup past (ask_answered port)
  replies done = record {
    rule = s.rule;
    target = s.target;
    numbered = s.numbered;
    low = s.low;
    passed = λ k a at same whole its pending x term goes. absurd (none-some its pending);
    ended = λ k a at which. elim (cases_lt a.write past.asks) [
      | inl less ↦ s.ended k a at (inl less)
      | inr not_less ↦ done k a at (omega (arith, not_less, s.numbered k a at))
    ];
    own = λ k a at same its pending. absurd (none-some its pending);
    sent = tt;
  }

  module _ (server term : ℕ) (serves : ServesInTerm (replay setup past.history) server term) (goes : goes_to port.sent port.last term ≡ true) (answer : Answer) where
    over : port.last ≤ term
    over = goes_over port.sent port.last term goes

    -- the pending write is handed to the leader
    module _ (chunk : ℕ) (range : Span) (sectors : List Sector) (pending : port.ask ≡ Some (WriteAsk chunk range sectors)) where
      abbrev a : Submission
      a = submission_of past server range sectors answer

      abbrev now : History
      now = past.history ++ submitting a ∷ []

      grown : IsPrefix past.history now
      grown = record { rest = submitting a ∷ []; whole = refl }

      its_term : (b : Submission) → a ≡ b → (x : IsTarget setup b) → x.server.durable.term ≡ term
      its_term b is = subst (λ (z : Submission). (x : IsTarget setup z) → x.server.durable.term ≡ term) is (target_in setup a term serves)

      writes_on : FollowsRule setup now (past.writes ++ a ∷ [])
      writes_on = rule_more setup past.writes a s.rule s.numbered
          (λ k b at x y. omega (arith, s.low k b at x, over, its_term a refl y))
          (λ k b at same x y terms whole. omega (arith, s.passed k b at same whole (WriteAsk chunk range sectors) pending x term goes, terms, its_term a refl y))
          (λ k b at less. s.ended k b at (inl less))

      taken : (other : Answer) → answer ≡ other → IsSent setup (with_write past a) term (Some (WriteAsk chunk range sectors)) (option_map Slot (slot_in other))
      taken (SlotIs slot) is = record {
        m = length past.writes;
        final = a;
        at = at_end past.writes a;
        no_later = λ k b at. omega (arith, slice_get_within (past.writes ++ a ∷ []) k b at, length-append past.writes (a ∷ []));
        same = refl;
        took_slot = is;
        in_term = its_term a refl;
      }
      taken _ is = tt

      pub writes : IsLegal setup now → Stands setup (with_write past a) (record port { sent = option_map Slot (slot_in answer); last = term })
      writes legal = record {
        rule = writes_on;
        target = λ k b at. elim (end_cases past.writes a k b at) [
          | inl old ↦ s.target k b old
          | inr new ↦ subst (λ (z : Submission). IsTarget setup z) new.1 (record { server = serves.s; leader = serves.leader; runs = serves.runs; serves = serves.serves })
        ];
        numbered = λ k b at. elim (end_cases past.writes a k b at) [
          | inl old ↦ s.numbered k b old
          | inr new ↦ omega (arith, ap (λ (z : Submission). z.write) new.1)
        ];
        low = λ k b at x. elim (end_cases past.writes a k b at) [
          | inl old ↦ omega (arith, s.low k b old x, over)
          | inr new ↦ omega (arith, its_term b new.1 x)
        ];
        passed = λ k b at same whole its is x up above. elim (end_cases past.writes a k b at) [
          | inl old ↦ omega (arith, s.passed k b old same whole (WriteAsk chunk range sectors) pending x term goes, goes_over (option_map Slot (slot_in answer)) term up above)
          | inr new ↦ was_taken b new.1 whole x up above
        ];
        ended = λ k b at which. elim which [
          | inl less ↦ elim (end_cases past.writes a k b at) [
            | inl old ↦ ended_more setup past.writes now b.write a (λ same. omega (arith, same, less)) (ended_later setup past.writes past.history now b.write grown (s.ended k b old (inl less)))
            | inr new ↦ absurd (omega (arith, ap (λ (z : Submission). z.write) new.1, less))
          ]
          | inr none ↦ absurd (none-some (WriteAsk chunk range sectors) (sym none ∙ pending))
        ];
        own = λ k b at same its is. elim (end_cases past.writes a k b at) [
          | inl old ↦ s.own k b old same its is
          | inr new ↦ subst (λ z. IsOpOf z b.op) (same_Some (WriteAsk chunk range sectors) its (sym pending ∙ is)) (sym (ap (λ (z : Submission). z.op) new.1))
        ];
        sent = subst (λ z. IsSent setup (with_write past a) term z (option_map Slot (slot_in answer))) (sym pending) (taken answer refl);
      }
        where
          was_taken : (b : Submission) → a ≡ b → ending b.answer ≡ Whole → (x : IsTarget setup b) (up : ℕ) → goes_to (option_map Slot (slot_in answer)) term up ≡ true → x.server.durable.term < up
          was_taken b is whole x up above =
              let t = given_slot setup now a legal (whole_prefix now) (ap (λ (z : Submission). ending z.answer) is ∙ whole) in
              omega (arith, its_term b is x, goes_above answer t.leader.next term up t.gives above)

    -- the pending read is handed to the leader
    module _ (chunk : ℕ) (range : Span) (pending : port.ask ≡ Some (ReadAsk chunk range)) where
      abbrev f : Fetching
      f = fetching_of past server range answer

      abbrev after : PortPast
      after = with_read past f

      numbered_so : (other : Answer) → answer ≡ other → IsSent setup after term (Some (ReadAsk chunk range)) (option_map Number (number_in other))
      numbered_so (ReadIs number) is = record {
        m = length past.reads;
        final = f;
        at = at_end past.reads f;
        no_later = λ k b at. omega (arith, slice_get_within (past.reads ++ f ∷ []) k b at, length-append past.reads (f ∷ []));
        same = refl;
        asked = refl;
        numbered = is;
        happened = whole_prefix (past.history ++ fetching f ∷ []);
      }
      numbered_so _ is = tt

      pub reads : Stands setup after (record port { sent = option_map Number (number_in answer); last = term })
      reads = record {
        rule = rule_later setup past.history after.history past.writes grown s.rule;
        target = s.target;
        numbered = s.numbered;
        low = λ k a at x. omega (arith, s.low k a at x, over);
        passed = λ k a at same whole its is x up above. absurd (s.own k a at same (ReadAsk chunk range) pending);
        ended = λ k a at which. ended_later setup past.writes past.history after.history a.write grown (s.ended k a at which);
        own = s.own;
        sent = subst (λ z. IsSent setup after term z (option_map Number (number_in answer))) (sym pending) (numbered_so answer refl);
      }
        where
          grown : IsPrefix past.history (past.history ++ fetching f ∷ [])
          grown = record { rest = fetching f ∷ []; whole = refl }
