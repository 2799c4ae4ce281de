-- Deeds of one mount fit a worked history.
use Rattle.std.proofs.Common.{◌≡◌, ◌≢◌, ℕ, zero, suc, ◌<◌, ◌≤◌, ◌==◌, ◌⊎◌, inl, inr, Bool, true, false, List, [], ◌∷◌, ◌++◌, length, take, drop, Option, Some, None, slice_get, arith, refl, sym, ap, subst, ◌∙◌}
use Rattle.std.proofs.lemmas.Option.{same_Some, none-some}
use Rattle.std.proofs.lemmas.Bool.{false≢true, cases_eq, cond-true, cond-false, eq-eqb, ne_eqb}
use Rattle.std.proofs.lemmas.Bool.Decides.{nat_tests}
use Rattle.std.proofs.lemmas.List.{append_assoc}
use Rattle.pf_base.specs.Span.{is_in}
use Rattle.pf_entry.specs.Ops.{Sector, zero_sector, writes}
use Rattle.pf_entry.specs.declared.ops.Op.{Op}
use Rattle.pf_protocol.specs.LastWriters.{bytes_for}
use Rattle.pf_protocol.specs.declared.answers.Answer.{Answer}
use Rattle.pf_protocol.specs.declared.answers.Answer.TheVariants.{Slot as SlotIs}
use Rattle.pf_protocol.specs.declared.events.Event.{Event}
use Rattle.pf_protocol.specs.declared.events.Event.TheVariants.{Submit}
use Rattle.pf_protocol.specs.declared.events.Happening.{Happening}
use Rattle.pf_protocol.specs.Servers.{Condition, Running}
use Rattle.pf_protocol.specs.Groups.{Answered}
use Rattle.pf_protocol.specs.Histories.{History, IsPrefix, replay}
use Rattle.pf_protocol.specs.Ports.{Submission, submitting, IsTarget}
use Rattle.pf_protocol.specs.Answers.{IsLegal}
use Rattle.pf_protocol.specs.Shown.{small_group, write_at, so}
use Rattle.pf_protocol.specs.StaleReads.{stale_read, ReadsAtTheLeader}
use Rattle.pf_protocol.proofs.ForPorts.{acked_chosen, new_slot, submitted}
use Rattle.pf_law_registers.specs.Orders.{given}
use Rattle.pf_law_registers.specs.Worked.{before_it, one_port, its_read}
use Rattle.pf_paxos.specs.declared.block.Block.{Block}
use Rattle.pf_paxos.specs.Blocks.{zero_block}
use Rattle.pf_law_positions.specs.Deeds.{PortAsk, Puts, Gets, PortReply, Put, Got, Deed, Takes, Submits, DeedIsPending, BringsBy, Acks, Reads, IsOfEpoch, Hands, Brings, WriteIsHanded, IsPort, WasPut, WasGot, DeedsFit}
use Rattle.pf_law_positions.specs.Homes.{sector_of, turns_in}
use Rattle.pf_law_positions.specs.Moves.{mover_into}
use Rattle.pf_law_positions.specs.Hosted.{AreAlone, IsHosted}
use Rattle.pf_law_positions.specs.Worked.{its_home, its_groups, its_deeds, its_turns}

-- what stands at the next place after a moment
pub next_there : (a hs : History) (h : Happening) → IsPrefix (a ++ h ∷ []) hs → (slice_get hs (length a) ≡ Some h) × (take (length a) hs ≡ a)
next_there a hs h p = by a hs (p.rest) (sym (append_assoc a (h ∷ []) p.rest) ∙ p.whole)
  where
    by : (a hs rest : History) → a ++ (h ∷ rest) ≡ hs → (slice_get hs (length a) ≡ Some h) × (take (length a) hs ≡ a)
    by [] hs rest is = (ap (λ l. slice_get l 0) (sym is), refl)
    by (x ∷ xs) [] rest is = let e : x ∷ (xs ++ (h ∷ rest)) ≡ [] = is in absurd (cc)
    by (x ∷ xs) (y ∷ ys) rest is =
        let e : x ∷ (xs ++ (h ∷ rest)) ≡ y ∷ ys = is in
        let head : x ≡ y = cc in
        let tail : xs ++ (h ∷ rest) ≡ ys = cc in
        let r = by xs ys rest tail in
        (r.0, ap (λ z. z ∷ take (length xs) ys) (sym head) ∙ ap (λ zs. x ∷ zs) r.1)

abbrev pub is_submit : Event → Bool
is_submit (Submit server op) = true
is_submit _ = false

module _ (first : Sector) where
  abbrev deeds : List Deed
  deeds = its_deeds first

  abbrev the_submission : Submission
  the_submission = record { write = 0; before = before_it; server = 1; op = write_at 0 first; answer = SlotIs 1 }

  record IsIt (n server : ℕ) (op : Op) (answer : Answer) : Type 0 where
    place : n ≡ 3
    at_server : server ≡ 1
    has_op : op ≡ write_at 0 first
    has_answer : answer ≡ SlotIs 1

  abbrev submits : Option Happening → Bool
  submits (Some h) = is_submit h.event
  submits None = false

  -- the only event that submits something
  one_submit : (n server : ℕ) (op : Op) (answer : Answer) → slice_get (stale_read first) n ≡ Some (record { event = Submit server op; answer = answer }) → IsIt n server op answer
  one_submit zero server op answer is = absurd (false≢true (ap submits is))
  one_submit (suc zero) server op answer is = absurd (false≢true (ap submits is))
  one_submit (suc (suc zero)) server op answer is = absurd (false≢true (ap submits is))
  one_submit (suc (suc (suc zero))) server op answer is =
      let same = same_Some (so (Submit 1 (write_at 0 first)) (SlotIs 1)) (record { event = Submit server op; answer = answer }) is in
      let e : Submit 1 (write_at 0 first) ≡ Submit server op = ap (λ (h : Happening). h.event) same in
      record { place = refl; at_server = cc; has_op = cc; has_answer = sym (ap (λ (h : Happening). h.answer) same) }
  one_submit (suc (suc (suc (suc zero)))) server op answer is = absurd (false≢true (ap submits is))
  one_submit (suc (suc (suc (suc (suc zero))))) server op answer is = absurd (false≢true (ap submits is))
  one_submit (suc (suc (suc (suc (suc (suc zero)))))) server op answer is = absurd (false≢true (ap submits is))
  one_submit (suc (suc (suc (suc (suc (suc (suc zero))))))) server op answer is = absurd (false≢true (ap submits is))
  one_submit (suc (suc (suc (suc (suc (suc (suc (suc zero)))))))) server op answer is = absurd (false≢true (ap submits is))
  one_submit (suc (suc (suc (suc (suc (suc (suc (suc (suc zero))))))))) server op answer is = absurd (false≢true (ap submits is))
  one_submit (suc (suc (suc (suc (suc (suc (suc (suc (suc (suc zero)))))))))) server op answer is = absurd (false≢true (ap submits is))
  one_submit (suc (suc (suc (suc (suc (suc (suc (suc (suc (suc (suc zero))))))))))) server op answer is = absurd (false≢true (ap submits is))
  one_submit (suc (suc (suc (suc (suc (suc (suc (suc (suc (suc (suc (suc zero)))))))))))) server op answer is = absurd (false≢true (ap submits is))
  one_submit (suc (suc (suc (suc (suc (suc (suc (suc (suc (suc (suc (suc (suc zero))))))))))))) server op answer is = absurd (false≢true (ap submits is))
  one_submit (suc (suc (suc (suc (suc (suc (suc (suc (suc (suc (suc (suc (suc (suc zero)))))))))))))) server op answer is = absurd (false≢true (ap submits is))
  one_submit (suc (suc (suc (suc (suc (suc (suc (suc (suc (suc (suc (suc (suc (suc (suc zero))))))))))))))) server op answer is = absurd (false≢true (ap submits is))
  one_submit (suc (suc (suc (suc (suc (suc (suc (suc (suc (suc (suc (suc (suc (suc (suc (suc n)))))))))))))))) server op answer is = absurd (none-some _ is)

  -- what a deed is
  record Hand (k client chunk epoch place : ℕ) : Type 0 where
    its : client ≡ 0
    in_epoch : epoch ≡ 0
    which : ((k ≡ 1) × (place ≡ 3)) ⊎ ((k ≡ 3) × (place ≡ 13))

  hand : (k client chunk epoch place : ℕ) → slice_get deeds k ≡ Some (Submits client chunk epoch place) → Hand k client chunk epoch place
  hand zero client chunk epoch place is = absurd (cc)
  hand (suc zero) client chunk epoch place is = record { its = cc; in_epoch = cc; which = inl (refl, cc) }
  hand (suc (suc zero)) client chunk epoch place is = absurd (cc)
  hand (suc (suc (suc zero))) client chunk epoch place is = record { its = cc; in_epoch = cc; which = inr (refl, cc) }
  hand (suc (suc (suc (suc zero)))) client chunk epoch place is = absurd (cc)
  hand (suc (suc (suc (suc (suc k))))) client chunk epoch place is = absurd (none-some _ is)

  record Turned (k client : ℕ) (reply : Option PortReply) (ask : Option PortAsk) : Type 0 where
    its : client ≡ 0
    which : ((k ≡ 0) × (reply ≡ None) × (ask ≡ Some (Puts 0 (write_at 0 first))))
        ⊎ (((k ≡ 2) × (reply ≡ Some (Put 0 0 13 (write_at 0 first))) × (ask ≡ Some (Gets 0 (record { first = 0; count = 1 }))))
        ⊎ ((k ≡ 4) × (reply ≡ Some (Got 0 0 16 (its_read first))) × (ask ≡ None)))

  abbrev Which : (k : ℕ) (reply : Option PortReply) (ask : Option PortAsk) → Type 0
  Which k reply ask =
      ((k ≡ 0) × (reply ≡ None) × (ask ≡ Some (Puts 0 (write_at 0 first))))
      ⊎ (((k ≡ 2) × (reply ≡ Some (Put 0 0 13 (write_at 0 first))) × (ask ≡ Some (Gets 0 (record { first = 0; count = 1 }))))
      ⊎ ((k ≡ 4) × (reply ≡ Some (Got 0 0 16 (its_read first))) × (ask ≡ None)))

  turned : (k client : ℕ) (reply : Option PortReply) (ask : Option PortAsk) → slice_get deeds k ≡ Some (Takes client reply ask) → Turned k client reply ask
  turned zero client reply ask is = record { its = cc; which = inl (refl, cc, cc) }
  turned (suc zero) client reply ask is = absurd (cc)
  turned (suc (suc zero)) client reply ask is = record { its = cc; which = inr (inl (refl, cc, cc)) }
  turned (suc (suc (suc zero))) client reply ask is = absurd (cc)
  turned (suc (suc (suc (suc zero)))) client reply ask is = record { its = cc; which = inr (inr (refl, cc, cc)) }
  turned (suc (suc (suc (suc (suc k))))) client reply ask is = absurd (none-some _ is)

  -- where an answer is brought
  record BroughtAt (k epoch by : ℕ) : Type 0 where
    in_epoch : epoch ≡ 0
    which : ((k ≡ 2) × (by ≡ 13)) ⊎ ((k ≡ 4) × (by ≡ 16))

  brings : (k epoch by : ℕ) (deed : Deed) → slice_get deeds k ≡ Some deed → BringsBy 0 epoch by deed → BroughtAt k epoch by
  brings k epoch by _ at (Acks client op ask) = elim (turned k client (Some (Put 0 epoch by op)) ask at).which [
    | inl one ↦ let e = one.1 in absurd (cc)
    | inr rest ↦ elim rest [
      | inl two ↦ let e = two.1 in record { in_epoch = cc; which = inl (two.0, cc) }
      | inr three ↦ let e = three.1 in absurd (cc)
    ]
  ]
  brings k epoch by _ at (Reads client read ask) = elim (turned k client (Some (Got 0 epoch by read)) ask at).which [
    | inl one ↦ let e = one.1 in absurd (cc)
    | inr rest ↦ elim rest [
      | inl two ↦ let e = two.1 in absurd (cc)
      | inr three ↦ let e = three.1 in record { in_epoch = cc; which = inr (three.0, cc) }
    ]
  ]

  epoch_is : (k epoch : ℕ) (deed : Deed) → slice_get deeds k ≡ Some deed → IsOfEpoch 0 epoch deed → epoch ≡ 0
  epoch_is k epoch _ at (Hands client place) = (hand k client 0 epoch place at).in_epoch
  epoch_is k epoch _ at (Brings by deed is) = (brings k epoch by deed at is).in_epoch

  only_one : (k : ℕ) (a : Submission) → slice_get (one_port first) k ≡ Some a → (k ≡ 0) × (the_submission ≡ a)
  only_one zero a at = (refl, same_Some _ a at)
  only_one (suc k) a at = absurd (none-some a at)

  given_it : given (write_at 0 first) 0 ≡ Some first
  unfolding given writes bytes_for
  given_it = refl

  outside : (x : ℕ) → x ≢ 0 → is_in (record { first = 0; count = 1 }) x ≡ false
  outside x apart = grind (arith, nat_tests, apart)

  gives_no_other : (x : ℕ) → x ≢ 0 → given (write_at 0 first) x ≡ None
  unfolding given writes
  gives_no_other x apart = cond-false _ _ _ (outside x apart)

  -- the term of the server to which the write went
  abbrev term_in : Option Condition → ℕ
  term_in (Some (Running s)) = s.durable.term
  term_in _ = 0

  target_term : (a : Submission) → the_submission ≡ a → (x : IsTarget small_group a) → x.server.durable.term ≡ term_in (slice_get (replay small_group before_it).servers 1)
  target_term a is x =
      sym (ap term_in x.runs) ∙ ap (λ (z : Submission). term_in (slice_get (replay small_group z.before).servers z.server)) (sym is)

  own_port : (epoch : ℕ) → epoch ≤ 0 → IsPort (its_groups first) deeds 0 epoch 0
  own_port epoch le = record {
    happened = λ k a at. subst (λ (z : Submission). IsPrefix (z.before ++ submitting z ∷ []) (stale_read first)) (only_one k a at).1 (record { rest = drop 4 (stale_read first); whole = refl });
    handed = λ k a at. subst (λ (z : Submission). WriteIsHanded deeds 0 epoch 0 z) (only_one k a at).1 (record {
      moment = 1;
      at = ap (λ e. Some (Submits 0 0 e 3)) zero_epoch;
      pending = record { reply = None; at = refl; earlier = omega arith; no_other = λ k its next lt less there. absurd (omega (arith, lt, less)) };
    });
    in_order = λ k a b at there. absurd (omega (arith, (only_one (suc k) b there).0));
    term = λ k. term_in (slice_get (replay small_group before_it).servers 1);
    in_term = λ k a at x. target_term a (only_one k a at).1 x;
    no_lower = λ k a b at there. absurd (omega (arith, (only_one (suc k) b there).0));
    again = λ k a b at there same whole. absurd (omega (arith, (only_one (suc k) b there).0));
  }
    where
      zero_epoch : 0 ≡ epoch
      zero_epoch = omega (arith, le)

  no_port : (epoch client : ℕ) → client ≢ 0 → IsPort (its_groups first) deeds 0 epoch client
  no_port epoch client apart = record {
    happened = λ k a at. absurd (none k a at);
    handed = λ k a at. absurd (none k a at);
    in_order = λ k a b at there. absurd (none k a at);
    term = λ k. 0;
    in_term = λ k a at x. absurd (none k a at);
    no_lower = λ k a b at there. absurd (none k a at);
    again = λ k a b at there same whole. absurd (none k a at);
  }
    where
      none : (k : ℕ) (a : Submission) → slice_get ((its_groups first).writes 0 epoch client) k ≡ Some a → ⊥
      none k a at = none-some a (sym (ap (λ l. slice_get l k) (cond-false (client == 0) (one_port first) [] (ne_eqb client 0 apart))) ∙ at)

  module _ (x : ReadsAtTheLeader first) (is_legal : IsLegal small_group (stale_read first)) where
    -- the server served, and took the write into slot 1
    record Target : Type 0 where
      target : IsTarget small_group the_submission
      next : target.leader.next ≡ 1
      in_term : target.server.durable.term ≡ 2

    the_target : Target
    the_target =
        let n = acked_chosen small_group (stale_read first) 0 (record { term = 2; slot = 1 }) (ap (λ l. slice_get l 0) x.acked) in
        let s = submitted small_group (stale_read first) n.chosen.entry n.chosen.proposed n.is_new in
        let there = next_there s.submission.before (stale_read first) (submitting s.submission) s.made in
        let it = one_submit (length s.submission.before) s.submission.server s.submission.op s.submission.answer there.0 in
        let before : s.submission.before ≡ before_it = sym there.1 ∙ ap (λ k. take k (stale_read first)) it.place in
        let t = s.copy.target in
        let made = new_slot small_group.names t.server t.leader s.submission.op in
        record {
          target = record { server = t.server; leader = t.leader; runs = ap (slice_get (replay small_group before_it).servers) (sym it.at_server) ∙ ap (λ h. slice_get (replay small_group h).servers s.submission.server) (sym before) ∙ t.runs; serves = t.serves };
          next = sym made.0 ∙ sym (ap (λ e. e.slot) s.copy.is) ∙ n.chosen.in_slot;
          in_term = sym made.1 ∙ sym (ap (λ e. e.term) s.copy.is) ∙ n.chosen.in_term;
        }

    its_fits : DeedsFit (its_groups first) deeds 0
    its_fits = record {
      places = λ moment later epoch client other place next lt at there. by_two moment later place next lt (hand moment client 0 epoch place at).which (hand later other 0 epoch next there).which;
      rises = λ moment later epoch client by place deed lt at is there. by_answer moment later by place lt (brings moment epoch by deed at is).which (hand later client 0 epoch place there).which;
      goes_on = λ moment later epoch other deed next lt at is there that. omega (arith, epoch_is moment epoch deed at is);
      reached = λ moment epoch deed at is. omega (arith, epoch_is moment epoch deed at is);
      port = λ epoch client le. elim (cases_eq client 0) [
        | inl same ↦ subst (IsPort (its_groups first) deeds 0 epoch) (sym same) (own_port epoch le)
        | inr apart ↦ no_port epoch client apart
      ];
      waits = λ client asked moment op reply next p at. by_asked client asked moment op reply next p at (turned asked client p.reply (Some (Puts 0 op)) p.at).which (turned moment client reply next at).which;
      put = λ client moment epoch by op ask at. by_put client moment epoch by op ask (turned moment client (Some (Put 0 epoch by op)) ask at).its (turned moment client (Some (Put 0 epoch by op)) ask at).which;
      got = λ client moment epoch by read ask at. by_got client moment epoch by read ask (turned moment client (Some (Got 0 epoch by read)) ask at).its (turned moment client (Some (Got 0 epoch by read)) ask at).which;
    }
      where
        by_two : (moment later place next : ℕ) → moment < later → ((moment ≡ 1) × (place ≡ 3)) ⊎ ((moment ≡ 3) × (place ≡ 13)) → ((later ≡ 1) × (next ≡ 3)) ⊎ ((later ≡ 3) × (next ≡ 13)) → place < next
        by_two moment later place next lt (inl (m, p)) (inl (l, n)) = omega (arith, m, p, l, n, lt)
        by_two moment later place next lt (inl (m, p)) (inr (l, n)) = omega (arith, m, p, l, n, lt)
        by_two moment later place next lt (inr (m, p)) (inl (l, n)) = omega (arith, m, p, l, n, lt)
        by_two moment later place next lt (inr (m, p)) (inr (l, n)) = omega (arith, m, p, l, n, lt)

        by_answer : (moment later by place : ℕ) → moment < later → ((moment ≡ 2) × (by ≡ 13)) ⊎ ((moment ≡ 4) × (by ≡ 16)) → ((later ≡ 1) × (place ≡ 3)) ⊎ ((later ≡ 3) × (place ≡ 13)) → by ≤ place
        by_answer moment later by place lt (inl (m, p)) (inl (l, n)) = omega (arith, m, p, l, n, lt)
        by_answer moment later by place lt (inl (m, p)) (inr (l, n)) = omega (arith, m, p, l, n, lt)
        by_answer moment later by place lt (inr (m, p)) (inl (l, n)) = omega (arith, m, p, l, n, lt)
        by_answer moment later by place lt (inr (m, p)) (inr (l, n)) = omega (arith, m, p, l, n, lt)

        by_asked : (client asked moment : ℕ) (op : Op) (reply : Option PortReply) (next : Option PortAsk) (p : DeedIsPending deeds client asked moment (Puts 0 op)) → slice_get deeds moment ≡ Some (Takes client reply next) → Which asked p.reply (Some (Puts 0 op)) → Which moment reply next → (epoch : ℕ) × (by : ℕ) × (reply ≡ Some (Put 0 epoch by op))
        by_asked client asked moment op reply next p at (inr (inl a)) m = let e = a.2 in absurd (cc)
        by_asked client asked moment op reply next p at (inr (inr a)) m = let e = a.2 in absurd (cc)
        by_asked client asked moment op reply next p at (inl a) (inl m) = absurd (omega (arith, a.0, m.0, p.earlier))
        by_asked client asked moment op reply next p at (inl a) (inr (inl m)) = let e = a.2 in let same : op ≡ write_at 0 first = cc in (0, 13, m.1 ∙ ap (λ o. Some (Put 0 0 13 o)) (sym same))
        by_asked client asked moment op reply next p at (inl a) (inr (inr m)) = absurd (p.no_other 2 (Some (Put 0 0 13 (write_at 0 first))) (Some (Gets 0 (record { first = 0; count = 1 }))) (omega (arith, a.0)) (omega (arith, m.0)) (ap (λ c. Some (Takes c (Some (Put 0 0 13 (write_at 0 first))) (Some (Gets 0 (record { first = 0; count = 1 }))))) (sym (turned moment client reply next at).its)))

        -- the turn at which its write was answered
        was_put : WasPut (its_groups first) deeds 0 0 0 2 13 (write_at 0 first)
        was_put = record {
          asked = 0;
          pending = record { reply = None; at = refl; earlier = omega arith; no_other = λ k its next lt less there. by_turn k (turned k 0 its next there).which lt less };
          k = 0;
          submission = the_submission;
          there = refl;
          is_it = refl;
          is_last = λ j s at same. omega (arith, (only_one j s at).0);
          slot = 1;
          took_slot = refl;
          term = 2;
          in_term = λ z. target_term the_submission refl z ∙ sym (target_term the_submission refl the_target.target) ∙ the_target.in_term;
          n = 0;
          acked = ap (λ l. slice_get l 0) x.acked_before;
        }
          where
            by_turn : (k : ℕ) {its : Option PortReply} {next : Option PortAsk} → Which k its next → 0 < k → k < 2 → ⊥
            by_turn k (inl m) lt less = omega (arith, m.0, lt, less)
            by_turn k (inr (inl m)) lt less = omega (arith, m.0, lt, less)
            by_turn k (inr (inr m)) lt less = omega (arith, m.0, lt, less)

        by_put : (client moment epoch by : ℕ) (op : Op) (ask : Option PortAsk) → client ≡ 0 → Which moment (Some (Put 0 epoch by op)) ask → WasPut (its_groups first) deeds 0 epoch client moment by op
        by_put client moment epoch by op ask its (inl m) = let e = m.1 in absurd (cc)
        by_put client moment epoch by op ask its (inr (inr m)) = let e = m.1 in absurd (cc)
        by_put client moment epoch by op ask its (inr (inl m)) =
            let e = m.1 in
            let e_epoch : 0 ≡ epoch = cc in
            let e_by : 13 ≡ by = cc in
            let e_op : write_at 0 first ≡ op = cc in
            subst (λ n. WasPut (its_groups first) deeds 0 epoch n moment by op) (sym its)
            (subst (λ n. WasPut (its_groups first) deeds 0 epoch 0 n by op) (sym m.0)
            (subst (λ n. WasPut (its_groups first) deeds 0 n 0 2 by op) e_epoch
            (subst (λ n. WasPut (its_groups first) deeds 0 0 0 2 n op) e_by
            (subst (λ o. WasPut (its_groups first) deeds 0 0 0 2 13 o) e_op was_put))))

        was_got : WasGot (its_groups first) deeds 0 0 0 4 16 (its_read first)
        was_got = record {
          asked = 2;
          range = record { first = 0; count = 1 };
          pending = record { reply = Some (Put 0 0 13 (write_at 0 first)); at = refl; earlier = omega arith; no_other = λ k its next lt less there. by_turn k (turned k 0 its next there).which lt less };
          handed = 3;
          after = omega arith;
          place = 13;
          at = refl;
          server = 1;
          taken = refl;
          k = 0;
          answered = ap (λ l. slice_get l 0) x.answered;
        }
          where
            by_turn : (k : ℕ) {its : Option PortReply} {next : Option PortAsk} → Which k its next → 2 < k → k < 4 → ⊥
            by_turn k (inl m) lt less = omega (arith, m.0, lt, less)
            by_turn k (inr (inl m)) lt less = omega (arith, m.0, lt, less)
            by_turn k (inr (inr m)) lt less = omega (arith, m.0, lt, less)

        by_got : (client moment epoch by : ℕ) (read : Answered) (ask : Option PortAsk) → client ≡ 0 → Which moment (Some (Got 0 epoch by read)) ask → WasGot (its_groups first) deeds 0 epoch client moment by read
        by_got client moment epoch by read ask its (inl m) = let e = m.1 in absurd (cc)
        by_got client moment epoch by read ask its (inr (inl m)) = let e = m.1 in absurd (cc)
        by_got client moment epoch by read ask its (inr (inr m)) =
            let e = m.1 in
            let e_epoch : 0 ≡ epoch = cc in
            let e_by : 16 ≡ by = cc in
            let e_read : its_read first ≡ read = cc in
            subst (λ n. WasGot (its_groups first) deeds 0 epoch n moment by read) (sym its)
            (subst (λ n. WasGot (its_groups first) deeds 0 epoch 0 n by read) (sym m.0)
            (subst (λ n. WasGot (its_groups first) deeds 0 n 0 4 by read) e_epoch
            (subst (λ n. WasGot (its_groups first) deeds 0 0 0 4 n read) e_by
            (subst (λ o. WasGot (its_groups first) deeds 0 0 0 4 16 o) e_read was_got))))

    -- nobody else writes, and block 0 is the one that is written
    alone_at : (block : ℕ) → block < 16 → AreAlone (stale_read first) [] ((its_groups first).writes 0 0 block) (sector_of its_home block)
    alone_at block low before server op answer bytes p took gives =
        let there = next_there before (stale_read first) (record { event = Submit server op; answer = answer }) p in
        let it = one_submit (length before) server op answer there.0 in
        let moment : before ≡ before_it = sym there.1 ∙ ap (λ k. take k (stale_read first)) it.place in
        let sector : sector_of its_home block ≡ block = omega (arith, low) in
        elim (cases_eq block 0) [
          | inl same ↦ inr (record {
            k = 0;
            submission = the_submission;
            there = ap (λ l. slice_get l 0) (cond-true (block == 0) (one_port first) [] (eq-eqb block 0 same));
            at_moment = sym moment;
            to = sym it.at_server;
            has_op = sym it.has_op;
            has_answer = sym it.has_answer;
          })
          | inr apart ↦ absurd (none-some bytes (sym (gives_no_other (sector_of its_home block) (λ e. apart (sym sector ∙ e))) ∙ ap (λ o. given o (sector_of its_home block)) (sym it.has_op) ∙ gives))
        ]

    pub is_hosted : (read : Sector → Block) → read zero_sector ≡ zero_block → IsHosted (its_groups first) read its_home (its_deeds first)
    is_hosted read zeros = record {
      zeros = zeros;
      legal = λ half epoch low le. is_legal;
      inside = λ half epoch low le. omega (arith, low);
      fits = λ half low. its_fits;
      alone = λ block epoch low le. by_epoch block epoch low le;
      last = λ half epoch. its_read first;
      moved = λ half epoch low lt. absurd (omega (arith, lt));
    }
      where
        by_epoch : (block epoch : ℕ) → block < 16 → epoch ≤ 0 → AreAlone (stale_read first) (mover_into (its_groups first) 0 epoch) ((its_groups first).writes 0 epoch block) (sector_of its_home block)
        by_epoch block zero low le = alone_at block low
        by_epoch block (suc epoch) low le = absurd (omega (arith, le))

  pub the_turns : (read : Sector → Block) → turns_in read its_home (its_deeds first) ≡ its_turns (read first)
  unfolding given writes bytes_for
  the_turns read = refl
