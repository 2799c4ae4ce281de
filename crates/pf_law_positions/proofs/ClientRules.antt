-- A client's port follows the rule of ports.
use Rattle.std.proofs.Common.{◌≡◌, ℕ, zero, suc, ◌+◌, ◌<◌, ◌≤◌, ◌⊎◌, inl, inr, List, [], ◌∷◌, ◌++◌, length, take, Option, Some, None, slice_get, arith, refl, sym, ap, subst, ◌∙◌}
use Rattle.std.proofs.lemmas.Option.{same_Some, none-some, slice_get_within}
use Rattle.std.proofs.lemmas.Bool.{cases_lt, cases_eq}
use Rattle.std.proofs.lemmas.List.{append-nil, length-append}
use Rattle.pf_protocol.specs.Servers.{Setup}
use Rattle.pf_protocol.specs.Groups.{Whole, ending}
use Rattle.pf_protocol.specs.Histories.{History, IsPrefix}
use Rattle.pf_protocol.specs.Ports.{Submission, submitting, WriteHasEnded, FollowsRule}
use Rattle.pf_protocol.specs.Answers.{IsLegal}
use Rattle.pf_protocol.proofs.ForMoments.{comparable, begins_with}
use Rattle.pf_entry.proofs.BoundedSearches.{decide_below}
use Rattle.pf_law_registers.proofs.Lists.{something_there}
use Rattle.pf_law_registers.proofs.AnswersKept.{acked_stays}
use Rattle.pf_law_positions.specs.Deeds.{PortAsk, Puts, PortReply, Put, Deed, Takes, Submits, Acks, Hands, Brings, Groups, DeedIsPending, WriteIsHanded, IsPort, WasPut, DeedsFit}
use Rattle.pf_law_positions.proofs.TakenReads.{slot_acked}
use Rattle.pf_law_positions.proofs.Answers.{taken_before, taken_whole}

-- the shorter of two moments of a history comes first
shorter : (a b history : History) → IsPrefix a history → IsPrefix b history → length a ≤ length b → IsPrefix a b
shorter a b history p q le = elim (comparable a p.rest b q.rest (p.whole ∙ sym q.whole)) [
  | inl first ↦ first
  | inr second ↦ by_rest second.rest second.whole
]
  where
    by_rest : (rest : History) → b ++ rest ≡ a → IsPrefix a b
    by_rest [] is = record { rest = []; whole = append-nil a ∙ sym is ∙ append-nil b }
    by_rest (h ∷ hs) is = absurd (omega (arith, ap length is, length-append b (h ∷ hs), le))

module _ (groups : Groups) (deeds : List Deed) (chunk : ℕ) (fits : DeedsFit groups deeds chunk) (epoch client : ℕ) (within : epoch ≤ groups.moves chunk) (legal : IsLegal (groups.setup chunk epoch) (groups.history chunk epoch)) where
  abbrev setup : Setup
  setup = groups.setup chunk epoch

  abbrev history : History
  history = groups.history chunk epoch

  abbrev writes : List Submission
  writes = groups.writes chunk epoch client

  port : IsPort groups deeds chunk epoch client
  port = fits.port epoch client within

  handed : (k : ℕ) (a : Submission) → slice_get writes k ≡ Some a → WriteIsHanded deeds chunk epoch client a
  handed k a at = port.handed k a at

  -- what stands between
  before_it : (k : ℕ) (b : Submission) → slice_get writes (suc k) ≡ Some b → (a : Submission) × (slice_get writes k ≡ Some a)
  before_it k b at = something_there writes k (omega (arith, slice_get_within writes (suc k) b at))

  longer : (j k : ℕ) (a b : Submission) → slice_get writes j ≡ Some a → slice_get writes k ≡ Some b → j < k → length a.before < length b.before
  longer j zero a b at there lt = absurd (omega (arith, lt))
  longer j (suc k) a b at there lt =
      let m = before_it k b there in
      let step = port.in_order k m.0 b m.1 there in
      elim (cases_lt j k) [
        | inl less ↦ omega (arith, longer j k a m.0 at m.1 less, step)
        | inr not_less ↦
            let same : j ≡ k = omega (arith, lt, not_less) in
            let one : a ≡ m.0 = same_Some a m.0 (sym at ∙ ap (slice_get writes) same ∙ m.1) in
            subst (λ (z : Submission). length z.before < length b.before) (sym one) step
      ]

  term_rises : (j k : ℕ) (b : Submission) → slice_get writes k ≡ Some b → j ≤ k → port.term j ≤ port.term k
  term_rises j zero b there le = let same : j ≡ zero = omega (arith, le) in omega (arith, ap port.term same)
  term_rises j (suc k) b there le =
      let m = before_it k b there in
      elim (cases_lt j (suc k)) [
        | inl less ↦ omega (arith, term_rises j k m.0 m.1 (omega (arith, less)), port.no_lower k m.0 b m.1 there)
        | inr not_less ↦ let same : j ≡ suc k = omega (arith, le, not_less) in omega (arith, ap port.term same)
      ]

  sooner : (j k : ℕ) (a b : Submission) (at : slice_get writes j ≡ Some a) (there : slice_get writes k ≡ Some b) → j < k → (handed j a at).moment < (handed k b there).moment
  sooner j k a b at there lt =
      let ha = handed j a at in
      let hb = handed k b there in
      let long = longer j k a b at there lt in
      elim (cases_lt ha.moment hb.moment) [
        | inl is ↦ is
        | inr not ↦ elim (cases_lt hb.moment ha.moment) [
          | inl wrong ↦ absurd (omega (arith, long, fits.places hb.moment ha.moment epoch client client (length b.before) (length a.before) wrong hb.at ha.at))
          | inr not_wrong ↦
              let same : ha.moment ≡ hb.moment = omega (arith, not, not_wrong) in
              let one : Submits client chunk epoch (length a.before) ≡ Submits client chunk epoch (length b.before) = same_Some _ _ (sym ha.at ∙ ap (slice_get deeds) same ∙ hb.at) in
              let lengths : length a.before ≡ length b.before = cc in
              absurd (omega (arith, lengths, long))
        ]
      ]

  ascends : (j k : ℕ) (a b : Submission) → slice_get writes j ≡ Some a → slice_get writes k ≡ Some b → j < k → a.write ≤ b.write
  ascends j k a b at there lt =
      let ha = handed j a at in
      let hb = handed k b there in
      elim (cases_lt b.write a.write) [
        | inr not_later ↦ not_later
        | inl later ↦ absurd (hb.pending.no_other a.write ha.pending.reply (Some (Puts chunk a.op)) later (omega (arith, ha.pending.earlier, sooner j k a b at there lt)) ha.pending.at)
      ]

  in_order : (j k : ℕ) (a b : Submission) → slice_get writes j ≡ Some a → slice_get writes k ≡ Some b → j < k → IsPrefix (a.before ++ submitting a ∷ []) b.before
  in_order j k a b at there lt =
      shorter (a.before ++ submitting a ∷ []) b.before history (port.happened j a at) (begins_with b.before history (submitting b) (port.happened k b there))
      (omega (arith, longer j k a b at there lt, length-append a.before (submitting a ∷ [])))

  -- the same write again
  again : (j k : ℕ) (a b : Submission) → slice_get writes j ≡ Some a → slice_get writes k ≡ Some b → j < k → a.write ≡ b.write → ending a.answer ≡ Whole → port.term j < port.term k
  again j k a b at there lt same whole =
      let n = something_there writes (suc j) (omega (arith, lt, slice_get_within writes k b there)) in
      let up = ascends j (suc j) a n.0 at n.1 (omega arith) in
      let rest : n.0.write ≤ b.write = elim (cases_lt (suc j) k) [
        | inl less ↦ ascends (suc j) k n.0 b n.1 there less
        | inr not_less ↦
            let one : suc j ≡ k = omega (arith, lt, not_less) in
            let it : n.0 ≡ b = same_Some n.0 b (sym n.1 ∙ ap (slice_get writes) one ∙ there) in
            omega (arith, ap (λ (z : Submission). z.write) it)
      ] in
      omega (arith, port.again j a n.0 at n.1 (omega (arith, up, rest, same)) whole, term_rises (suc j) k b there (omega (arith, lt)))

  -- a turn of the client
  record IsTurn (k : ℕ) : Type 0 where
    reply : Option PortReply
    next : Option PortAsk
    at : slice_get deeds k ≡ Some (Takes client reply next)

  turn_or_not : (k : ℕ) → IsTurn k ⊎ (IsTurn k → ⊥)
  turn_or_not k = by (slice_get deeds k) refl
    where
      by : (o : Option Deed) → slice_get deeds k ≡ o → IsTurn k ⊎ (IsTurn k → ⊥)
      by None at = inr (λ t. none-some _ (sym at ∙ t.at))
      by (Some (Submits other c e place)) at = inr (λ t. let e : Submits other c e place ≡ Takes client t.reply t.next = same_Some _ _ (sym at ∙ t.at) in cc)
      by (Some (Takes other reply next)) at = elim (cases_eq other client) [
        | inl same ↦ inl (record { reply = reply; next = next; at = at ∙ ap (λ n. Some (Takes n reply next)) same })
        | inr apart ↦ inr (λ t. let e : Takes other reply next ≡ Takes client t.reply t.next = same_Some _ _ (sym at ∙ t.at) in let same : other ≡ client = cc in apart same)
      ]

  -- the first turn after a moment
  record FirstTurn (after upto : ℕ) : Type 0 where
    moment : ℕ
    later : after < moment
    low : moment ≤ upto
    turn : IsTurn moment
    none : (k : ℕ) → after < k → k < moment → IsTurn k → ⊥

  abbrev Between : (after k : ℕ) → Type 0
  Between after k = (after < k) × IsTurn k

  between_or_not : (after k : ℕ) → Between after k ⊎ (Between after k → ⊥)
  between_or_not after k = elim (cases_lt after k) [
    | inr not_later ↦ inr (λ z. omega (arith, z.0, not_later))
    | inl later ↦ elim (turn_or_not k) [
      | inl turn ↦ inl (later, turn)
      | inr none ↦ inr (λ z. none z.1)
    ]
  ]

  first_turn : (fuel after upto : ℕ) → upto ≤ after + fuel → after < upto → IsTurn upto → FirstTurn after upto
  first_turn zero after upto le lt turn = absurd (omega (arith, le, lt))
  first_turn (suc fuel) after upto le lt turn = elim (decide_below (Between after) (between_or_not after) upto) [
    | inr none ↦ record { moment = upto; later = lt; low = omega arith; turn = turn; none = λ k later before t. none k before (later, t) }
    | inl found ↦
        let before = found.1 in
        let f = first_turn fuel after found.0 (omega (arith, le, found.1)) found.2.0 found.2.1 in
        record { moment = f.moment; later = f.later; low = omega (arith, f.low, before); turn = f.turn; none = f.none }
  ]

  -- a write that was answered to the client has ended when the client hands on another
  ended : (moment by k : ℕ) (next : Option PortAsk) (a b : Submission) (there : slice_get writes k ≡ Some b) → moment < (handed k b there).moment → slice_get deeds moment ≡ Some (Takes client (Some (Put chunk epoch by a.op)) next) → (p : WasPut groups deeds chunk epoch client moment by a.op) → p.asked ≡ a.write → WriteHasEnded setup writes b.before a.write
  ended moment by k next a b there later answer p same =
      let hb = handed k b there in
      let le = fits.rises moment hb.moment epoch client by (length b.before) _ later answer (Acks client a.op next) hb.at in
      let before = subst (IsPrefix (take by history)) (taken_whole b.before history (begins_with b.before history (submitting b) (port.happened k b there))) (taken_before by (length b.before) history le) in
      record {
        m = p.k;
        final = p.submission;
        at = p.there;
        same = p.is_it ∙ same;
        no_later = λ j s at is. p.is_last j s at (is ∙ sym same);
        answered = (slot_acked setup history b.before p.submission p.slot p.term p.n legal (port.happened p.k p.submission p.there) p.took_slot p.in_term (acked_stays setup (take by history) b.before p.n (record { term = p.term; slot = p.slot }) before p.acked)).answered;
      }

  handed_before : (a : Submission) (upto : ℕ) (h : WriteIsHanded deeds chunk epoch client a) (f : FirstTurn a.write upto) → h.moment < f.moment
  handed_before a upto h f = elim (cases_lt h.moment f.moment) [
    | inl is ↦ is
    | inr not ↦ elim (cases_lt f.moment h.moment) [
      | inl wrong ↦ absurd (h.pending.no_other f.moment f.turn.reply f.turn.next f.later wrong f.turn.at)
      | inr not_wrong ↦
          let same : h.moment ≡ f.moment = omega (arith, not, not_wrong) in
          let e : Submits client chunk epoch (length a.before) ≡ Takes client f.turn.reply f.turn.next = same_Some _ _ (sym h.at ∙ ap (slice_get deeds) same ∙ f.turn.at) in
          absurd (cc)
    ]
  ]

  same_asked : (asked other moment : ℕ) (one : PortAsk) (its : Option PortReply) (next : PortAsk) → DeedIsPending deeds client asked moment one → other < moment → slice_get deeds other ≡ Some (Takes client its (Some next)) → ((k : ℕ) → other < k → k < moment → IsTurn k → ⊥) → asked ≡ other
  same_asked asked other moment one its next p before at none = elim (cases_lt asked other) [
    | inl sooner ↦ absurd (p.no_other other its (Some next) sooner before at)
    | inr not_sooner ↦ elim (cases_lt other asked) [
      | inl later ↦ absurd (none asked later p.earlier (record { reply = p.reply; next = Some one; at = p.at }))
      | inr not_later ↦ omega (arith, not_sooner, not_later)
    ]
  ]

  waits_from : (k : ℕ) (a b : Submission) (there : slice_get writes k ≡ Some b) (ha : WriteIsHanded deeds chunk epoch client a) (upto : ℕ) (f : FirstTurn a.write upto) → upto < (handed k b there).moment → (other by : ℕ) → slice_get deeds f.moment ≡ Some (Takes client (Some (Put chunk other by a.op)) f.turn.next) → WriteHasEnded setup writes b.before a.write
  waits_from k a b there ha upto f inside other by answer =
      let last : f.moment < (handed k b there).moment = omega (arith, f.low, inside) in
      let up = fits.goes_on ha.moment f.moment epoch other (Submits client chunk epoch (length a.before)) _ (handed_before a upto ha f) ha.at (Hands client (length a.before)) answer (Brings by _ (Acks client a.op f.turn.next)) in
      let down = fits.goes_on f.moment (handed k b there).moment other epoch _ (Submits client chunk epoch (length b.before)) last answer (Brings by _ (Acks client a.op f.turn.next)) (handed k b there).at (Hands client (length b.before)) in
      in_epoch other by (omega (arith, up, down)) last answer
    where
      in_epoch : (other by : ℕ) → other ≡ epoch → f.moment < (handed k b there).moment → slice_get deeds f.moment ≡ Some (Takes client (Some (Put chunk other by a.op)) f.turn.next) → WriteHasEnded setup writes b.before a.write
      in_epoch other by same last answer =
          let here = subst (λ e. slice_get deeds f.moment ≡ Some (Takes client (Some (Put chunk e by a.op)) f.turn.next)) same answer in
          let p = fits.put client f.moment epoch by a.op f.turn.next here in
          ended f.moment by k f.turn.next a b there last here p
          (same_asked p.asked a.write f.moment (Puts chunk a.op) ha.pending.reply (Puts chunk a.op) p.pending f.later ha.pending.at f.none)

  -- the next write waits until the last submission of the one before was acknowledged
  waits : (j k : ℕ) (a b : Submission) → slice_get writes j ≡ Some a → slice_get writes k ≡ Some b → a.write < b.write → WriteHasEnded setup writes b.before a.write
  waits j k a b at there less =
      let hb = handed k b there in
      by_first (first_turn b.write a.write b.write (omega arith) less (record { reply = hb.pending.reply; next = Some (Puts chunk b.op); at = hb.pending.at }))
    where
      by_first : FirstTurn a.write b.write → WriteHasEnded setup writes b.before a.write
      by_first f =
          let ha = handed j a at in
          let w = fits.waits client a.write f.moment a.op f.turn.reply f.turn.next (record {
            reply = ha.pending.reply;
            at = ha.pending.at;
            earlier = f.later;
            no_other = λ n its next later before is. f.none n later before (record { reply = its; next = next; at = is });
          }) f.turn.at in
          waits_from k a b there ha b.write f (handed k b there).pending.earlier w.0 w.1 (f.turn.at ∙ ap (λ r. Some (Takes client r f.turn.next)) w.2)

  follows : FollowsRule setup history writes
  follows = record {
    happened = port.happened;
    in_order = in_order;
    ascends = ascends;
    no_lower = λ j k a b at there lt x y. omega (arith, port.in_term j a at x, port.in_term k b there y, term_rises j k b there (omega (arith, lt)));
    again = λ j k a b at there lt same x y terms whole. omega (arith, port.in_term j a at x, port.in_term k b there y, again j k a b at there lt same whole, terms);
    waits = waits;
  }

pub ruled : (groups : Groups) (deeds : List Deed) (chunk : ℕ) → DeedsFit groups deeds chunk → (epoch client : ℕ) → epoch ≤ groups.moves chunk → IsLegal (groups.setup chunk epoch) (groups.history chunk epoch) → FollowsRule (groups.setup chunk epoch) (groups.history chunk epoch) (groups.writes chunk epoch client)
ruled groups deeds chunk fits epoch client within legal = follows groups deeds chunk fits epoch client within legal
