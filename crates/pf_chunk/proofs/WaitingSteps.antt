-- A read waits on only where it waited, and only one that waited is answered.
use Rattle.std.proofs.Common.{◌≡◌, ◌≢◌, ℕ, suc, ◌<◌, ◌≤◌, ◌⊎◌, inl, inr, true, not, List, [], ◌∷◌, ◌++◌, map, slice_get, arith, refl, sym, ap, subst, ◌∙◌}
use Rattle.std.specs.List.{filter}
use Rattle.std.proofs.lemmas.Bool.{false≢true}
use Rattle.std.proofs.lemmas.List.{append_assoc, append-nil}
use Rattle.pf_entry.specs.Lists.{Every}
use Rattle.pf_entry.specs.Tables.{ascends}
use Rattle.pf_entry.proofs.Lists.{every_append, every_filter, every_get, every_map, set_cases}
use Rattle.pf_protocol.specs.declared.answers.Answer.{Answer}
use Rattle.pf_protocol.specs.declared.answers.Answer.TheVariants.{Done, Slot as SlotIs, Term as TermIs, Read as ReadIs, Base as BaseIs, Job as JobIs, Refused}
use Rattle.pf_protocol.specs.declared.events.Event.{Event}
use Rattle.pf_protocol.specs.Servers.{Setup, Read, Server, Running}
use Rattle.pf_protocol.specs.Outcomes.{Outcome}
use Rattle.pf_protocol.specs.Rows.{is_ready, ready_reads, settled}
use Rattle.pf_protocol.specs.Groups.{Group, answer_of, reads_after, ending, happens}
use Rattle.pf_protocol.specs.Histories.{History, RunsAs, run}
use Rattle.pf_protocol.specs.Answers.{Claimed, IsAnswer, IsLegalFrom, claims_after}
use Rattle.pf_protocol.proofs.ForMoments.{IsRule}
use Rattle.pf_protocol.proofs.ForRows.{new_read, ReadsFrom, NoReads, SameReads, Takes, Confirms, does}
use Rattle.pf_chunk.specs.Waiting.{HasReadNumber, WaitsAt, Waits, IsAnsweredIn, AddsAnswers, TookUp, StepsReads, GoesQuietly, ReadsGoOn, IsDropped}
use Rattle.pf_chunk_waiting.proofs.Filters.{every_place}
use Rattle.pf_chunk.proofs.Members.{numbers, of_each, none_has, one_more_has, fewer_have, same_numbers, confirmed_have, last_ascends}
use Rattle.pf_chunk.proofs.ReadNumbers.{NoRead, rule_number}
use Rattle.pf_chunk.proofs.EventEffects.{Acted, Rested, Went, Acts, Rests, went}

same_running : (x y : Server) → Running x ≡ Running y → x ≡ y
same_running x y e = cc

-- the answers to these reads, of one server
pub answer_numbers : (s : Server) (reads : List Read) → map (λ a. a.number) (map (answer_of s) reads) ≡ numbers reads
answer_numbers s [] = refl
answer_numbers s (r ∷ rs) = ap (λ ns. r.number ∷ ns) (answer_numbers s rs)

-- an answer stands among the old ones, or is to a read that was ready
answered_cases : (g after : Group) (z : Server) (reads : List Read) → after.answered ≡ g.answered ++ map (answer_of z) reads → (n : ℕ) → IsAnsweredIn after n → IsAnsweredIn g n ⊎ HasReadNumber reads n
answered_cases g after z reads is n a =
    let P : ℕ → Type 0 = λ k. IsAnsweredIn g k ⊎ HasReadNumber reads k in
    let each : Every (λ x. P x.number) after.answered = subst (Every (λ x. P x.number)) (sym is)
    (every_append (λ x. P x.number) g.answered (map (answer_of z) reads)
    (every_place (λ x. P x.number) g.answered (λ k x at. inl (record { place = k; answer = x; there = at; numbered = refl })))
    (every_map (λ x. P x.number) (answer_of z) reads (every_place (λ r. P r.number) reads (λ k r at. inr (record { place = k; read = r; there = at; numbered = refl }))))) in
    subst P a.numbered (every_get (λ x. P x.number) after.answered a.place a.answer each a.there)

pub reads_are : (reads : ℕ) (answer : Answer) (n : ℕ) → answer ≡ ReadIs n → reads_after reads answer ≡ suc reads
reads_are reads answer n is = ap (reads_after reads) is

none_more : (reads : ℕ) (answer : Answer) → NoRead answer → reads_after reads answer ≡ reads
none_more reads (ReadIs n) none = absurd (none n refl)
none_more reads Done none = refl
none_more reads (SlotIs slot) none = refl
none_more reads (TermIs term) none = refl
none_more reads (BaseIs base) none = refl
none_more reads (JobIs job) none = refl
none_more reads (Refused refusal) none = refl

pub grows : (reads : ℕ) (answer : Answer) → reads ≤ reads_after reads answer
grows reads (ReadIs n) = omega arith
grows reads Done = omega arith
grows reads (SlotIs slot) = omega arith
grows reads (TermIs term) = omega arith
grows reads (BaseIs base) = omega arith
grows reads (JobIs job) = omega arith
grows reads (Refused refusal) = omega arith

-- what a server's rule does to its reads
module _ (setup : Setup) (g : Group) (event : Event) (answer : Answer) (i : ℕ) (s : Server) (o : Outcome) (runs : RunsAs g i s) (rule : IsRule setup g i s event o) (told : answer ≡ o.answer) where
  same_term : (n : ℕ) → HasReadNumber o.server.reads n → o.server.durable.term ≡ s.durable.term
  same_term n h = elim ((does setup g i s event o rule).moves.reads) [
    | inl none ↦ absurd (none_has n (subst (λ rs. HasReadNumber rs n) none h))
    | inr same ↦ same.0
  ]

  has_from : ReadsFrom g i s event o → (n : ℕ) → HasReadNumber o.server.reads n → HasReadNumber s.reads n ⊎ TookUp g event answer i n
  has_from (NoReads none) n h = absurd (none_has n (subst (λ rs. HasReadNumber rs n) none h))
  has_from (SameReads same) n h = inl (subst (λ rs. HasReadNumber rs n) same h)
  has_from (Takes range is takes) n h = elim (one_more_has s.reads (new_read s range g.reads) n (subst (λ rs. HasReadNumber rs n) takes.reads h)) [
    | inl old ↦ inl old
    | inr new ↦ inr (record { range = range; fetched = is; numbered = new; told = told ∙ takes.answer ∙ ap ReadIs (sym new) })
  ]
  has_from (Confirms k sent number upto_there at to body term is) n h = inl (confirmed_have number s.reads n (subst (λ rs. HasReadNumber rs n) is h))

  was_or_new : (n : ℕ) → HasReadNumber o.server.reads n → WaitsAt g i o.server.durable.term n ⊎ TookUp g event answer i n
  was_or_new n h = elim (has_from (does setup g i s event o rule).reads n h) [
    | inl old ↦ inl (record { server = s; runs = runs; in_term = sym (same_term n h); has = old })
    | inr new ↦ inr new
  ]

  -- a read that was taken up just then is not confirmed
  ready_from : ReadsFrom g i s event o → (n : ℕ) → HasReadNumber (ready_reads o.server) n → HasReadNumber s.reads n
  ready_from (Takes range is takes) n h =
      let P : Read → Type 0 = λ r. is_ready o.server r ≡ true → HasReadNumber s.reads r.number in
      let each : Every P o.server.reads = subst (Every P) (sym takes.reads)
      (every_append P s.reads (new_read s range g.reads ∷ [])
      (every_place P s.reads (λ k r at ready. record { place = k; read = r; there = at; numbered = refl }))
      (λ ready. absurd (false≢true ready), tt)) in
      of_each (HasReadNumber s.reads) (ready_reads o.server) (every_filter (λ r. HasReadNumber s.reads r.number) (is_ready o.server) o.server.reads each) n h
  ready_from (NoReads none) n h = absurd (none_has n (subst (λ rs. HasReadNumber rs n) none (fewer_have (is_ready o.server) o.server.reads n h)))
  ready_from (SameReads same) n h = subst (λ rs. HasReadNumber rs n) same (fewer_have (is_ready o.server) o.server.reads n h)
  ready_from (Confirms k sent number upto_there at to body term is) n h =
      confirmed_have number s.reads n (subst (λ rs. HasReadNumber rs n) is (fewer_have (is_ready o.server) o.server.reads n h))

  ready_waited : (n : ℕ) → HasReadNumber (ready_reads o.server) n → Waits g n
  ready_waited n h = record {
    server = i;
    term = s.durable.term;
    there = record { server = s; runs = runs; in_term = refl; has = ready_from (does setup g i s event o rule).reads n h };
  }

  pub ascends_on : ReadsFrom g i s event o → Every (λ r. r.number < g.reads) s.reads → ascends (numbers s.reads) ≡ true → ascends (numbers o.server.reads) ≡ true
  ascends_on (NoReads none) below is = ap (λ rs. ascends (numbers rs)) none
  ascends_on (SameReads same) below is = ap (λ rs. ascends (numbers rs)) same ∙ is
  ascends_on (Takes range event_is takes) below is = ap (λ rs. ascends (numbers rs)) takes.reads ∙ last_ascends s.reads (new_read s range g.reads) is below
  ascends_on (Confirms k sent number upto_there at to body term same) below is = ap (λ rs. ascends (numbers rs)) same ∙ ap ascends (same_numbers number s.reads) ∙ is

pub settled_term : (z : Server) → (settled z).durable.term ≡ z.durable.term
unfolding settled
settled_term z = refl

pub left_reads : (z : Server) → (settled z).reads ≡ filter (λ r. not (is_ready z r)) z.reads
unfolding settled
left_reads z = refl

pub left_have : (z : Server) (n : ℕ) → HasReadNumber (settled z).reads n → HasReadNumber z.reads n
left_have z n h = fewer_have (λ r. not (is_ready z r)) z.reads n (subst (λ rs. HasReadNumber rs n) (left_reads z) h)

-- one server's step
module _ (setup : Setup) (g : Group) (event : Event) (answer : Answer) (after : Group) (i : ℕ) (s : Server) (o : Outcome) (a : Acted setup g event answer after i s o) where
  pub at_place : (j : ℕ) (z : Server) → RunsAs after j z → ((j ≡ i) × (settled o.server ≡ z)) ⊎ ((j ≢ i) × RunsAs g j z)
  at_place j z at = elim (set_cases g.servers i (Running (settled o.server)) j (Running z) (ap (λ x. slice_get x j) (sym a.servers) ∙ at)) [
    | inl here ↦ inl (here.0, same_running (settled o.server) z here.1)
    | inr there ↦ inr there
  ]

  -- a read that waits then is one of its server's own, or waits elsewhere as it did
  pub place_of : (j t n : ℕ) → WaitsAt after j t n → ((j ≡ i) × (o.server.durable.term ≡ t) × HasReadNumber (settled o.server).reads n) ⊎ ((j ≢ i) × WaitsAt g j t n)
  place_of j t n w = elim (at_place j w.server w.runs) [
    | inl here ↦ inl (here.0, sym (settled_term o.server) ∙ ap (λ z. z.durable.term) here.1 ∙ w.in_term, subst (λ z. HasReadNumber z.reads n) (sym here.1) w.has)
    | inr there ↦ inr (there.0, record { server = w.server; runs = there.1; in_term = w.in_term; has = w.has })
  ]

  pub was : (n : ℕ) → HasReadNumber o.server.reads n → WaitsAt g i o.server.durable.term n ⊎ TookUp g event answer i n
  was n h = was_or_new setup g event answer i s o a.runs a.rule a.told n h

  pub waits_on : (j t n : ℕ) → WaitsAt after j t n → WaitsAt g j t n ⊎ TookUp g event answer j n
  waits_on j t n w = elim (place_of j t n w) [
    | inl here ↦ subst (λ k. WaitsAt g k t n ⊎ TookUp g event answer k n) (sym here.0)
        (subst (λ u. WaitsAt g i u n ⊎ TookUp g event answer i n) here.1 (was n (left_have o.server n here.2)))
    | inr there ↦ inl there.1
  ]

  pub answers_from : (n : ℕ) → IsAnsweredIn after n → IsAnsweredIn g n ⊎ HasReadNumber (ready_reads o.server) n
  answers_from n x = answered_cases g after o.server (ready_reads o.server) a.answered n x

  pub ready_have : (n : ℕ) → HasReadNumber (ready_reads o.server) n → HasReadNumber o.server.reads n
  ready_have n h = fewer_have (is_ready o.server) o.server.reads n h

  answers_on : (n : ℕ) → IsAnsweredIn after n → IsAnsweredIn g n ⊎ Waits g n
  answers_on n x = elim (answers_from n x) [
    | inl old ↦ inl old
    | inr new ↦ inr (ready_waited setup g event answer i s o a.runs a.rule a.told n new)
  ]

  pub acted_steps : StepsReads g event answer after
  acted_steps = record {
    waiting = waits_on;
    answered = answers_on;
    adds = record { more = map (answer_of o.server) (ready_reads o.server); longer = a.answered };
    reads = a.reads ∙ ap (reads_after g.reads) (sym a.told);
    next = λ n is. (rule_number setup g i s event o a.rule n (sym a.told ∙ is)).2;
  }

-- no server took a step
module _ (g after : Group) (r : Rested g after) where
  pub waits_still : (j t n : ℕ) → WaitsAt after j t n → WaitsAt g j t n
  waits_still j t n w = elim (r.servers j w.server w.runs) [
    | inl none ↦ absurd (none_has n (subst (λ rs. HasReadNumber rs n) none w.has))
    | inr old ↦ record { server = old.0; runs = old.1; in_term = sym old.3 ∙ w.in_term; has = subst (λ rs. HasReadNumber rs n) old.2 w.has }
  ]

  pub answered_still : (n : ℕ) → IsAnsweredIn after n → IsAnsweredIn g n
  answered_still n x = record { place = x.place; answer = x.answer; there = ap (λ xs. slice_get xs x.place) (sym r.answered) ∙ x.there; numbered = x.numbered }

  pub rested_steps : (event : Event) (answer : Answer) → NoRead answer → StepsReads g event answer after
  rested_steps event answer none = record {
    waiting = λ j t n w. inl (waits_still j t n w);
    answered = λ n x. inl (answered_still n x);
    adds = record { more = []; longer = r.answered ∙ sym (append-nil g.answered) };
    reads = r.reads ∙ sym (none_more g.reads answer none);
    next = λ n is. absurd (none n is);
  }

-- every event that has its answer
pub steps_reads : (setup : Setup) (g : Group) (event : Event) (answer : Answer) → IsAnswer setup g event answer → StepsReads g event answer (happens setup g event (ending answer))
steps_reads setup g event answer is = by_way (went setup g event answer is)
  where
    by_way : Went setup g event answer (happens setup g event (ending answer)) → StepsReads g event answer (happens setup g event (ending answer))
    by_way (Acts i s o a) = acted_steps setup g event answer _ i s o a
    by_way (Rests r none) = rested_steps g _ r event answer none

adds_none : (g : Group) → AddsAnswers g g
adds_none g = record { more = []; longer = sym (append-nil g.answered) }

pub adds_both : (g mid after : Group) → AddsAnswers g mid → AddsAnswers mid after → AddsAnswers g after
adds_both g mid after a b = record { more = a.more ++ b.more; longer = b.longer ∙ ap (λ xs. xs ++ b.more) a.longer ∙ append_assoc g.answered a.more b.more }

-- steps in which no read is taken up
pub quiet_none : (g : Group) → GoesQuietly g g
quiet_none g = record { waiting = λ i t n w. w; answered = λ n x. inl x; adds = adds_none g; reads = refl }

pub quiet_both : (g mid after : Group) → GoesQuietly g mid → GoesQuietly mid after → GoesQuietly g after
quiet_both g mid after a b = record {
  waiting = λ i t n w. a.waiting i t n (b.waiting i t n w);
  answered = λ n x. elim (b.answered n x) [
    | inl old ↦ a.answered n old
    | inr waits ↦ inr (record { server = waits.server; term = waits.term; there = a.waiting waits.server waits.term n waits.there })
  ];
  adds = adds_both g mid after a.adds b.adds;
  reads = b.reads ∙ a.reads;
}

pub quiet_step : (setup : Setup) (g : Group) (event : Event) (answer : Answer) → IsAnswer setup g event answer → ((n : ℕ) → answer ≢ ReadIs n) → GoesQuietly g (happens setup g event (ending answer))
quiet_step setup g event answer is none =
    let h = steps_reads setup g event answer is in
    record {
      waiting = λ i t n w. elim (h.waiting i t n w) [ inl old ↦ old | inr took ↦ absurd (none n took.told) ];
      answered = h.answered;
      adds = h.adds;
      reads = h.reads ∙ none_more g.reads answer none;
    }

-- any steps
pub on_none : (g : Group) → ReadsGoOn g g
on_none g = record { waiting = λ i t n low w. w; answered = λ n low x. inl x; adds = adds_none g; reads = omega arith }

pub on_both : (g mid after : Group) → ReadsGoOn g mid → ReadsGoOn mid after → ReadsGoOn g after
on_both g mid after a b = record {
  waiting = λ i t n low w. a.waiting i t n low (b.waiting i t n (omega (arith, low, a.reads)) w);
  answered = λ n low x. elim (b.answered n (omega (arith, low, a.reads)) x) [
    | inl old ↦ a.answered n low old
    | inr waits ↦ inr (record { server = waits.server; term = waits.term; there = a.waiting waits.server waits.term n low waits.there })
  ];
  adds = adds_both g mid after a.adds b.adds;
  reads = omega (arith, a.reads, b.reads);
}

pub on_step : (setup : Setup) (g : Group) (event : Event) (answer : Answer) → IsAnswer setup g event answer → ReadsGoOn g (happens setup g event (ending answer))
on_step setup g event answer is =
    let h = steps_reads setup g event answer is in
    record {
      waiting = λ i t n low w. elim (h.waiting i t n w) [ inl old ↦ old | inr took ↦ absurd (omega (arith, low, took.numbered)) ];
      answered = λ n low x. h.answered n x;
      adds = h.adds;
      reads = subst (λ n. g.reads ≤ n) (sym h.reads) (grows g.reads answer);
    }

pub legal_goes_on : (setup : Setup) (history : History) (g : Group) (claims : List Claimed) → IsLegalFrom setup g claims history → ReadsGoOn g (run setup g history)
legal_goes_on setup [] g claims legal = on_none g
legal_goes_on setup (h ∷ hs) g claims legal =
    let next = happens setup g h.event (ending h.answer) in
    on_both g next (run setup next hs) (on_step setup g h.event h.answer legal.0.answered) (legal_goes_on setup hs next (claims_after claims h.event h.answer) legal.1)

pub legal_goes_quietly : (setup : Setup) (history : History) (g : Group) (claims : List Claimed) → IsLegalFrom setup g claims history → Every (λ h. (n : ℕ) → h.answer ≢ ReadIs n) history → GoesQuietly g (run setup g history)
legal_goes_quietly setup [] g claims legal none = quiet_none g
legal_goes_quietly setup (h ∷ hs) g claims legal none =
    let next = happens setup g h.event (ending h.answer) in
    quiet_both g next (run setup next hs) (quiet_step setup g h.event h.answer legal.0.answered none.0) (legal_goes_quietly setup hs next (claims_after claims h.event h.answer) legal.1 none.1)

-- a read that waits nowhere and was not answered never will be
pub dropped_stays : (g after : Group) (n : ℕ) → ReadsGoOn g after → IsDropped g n → IsDropped after n
dropped_stays g after n go d = record {
  taken_up = omega (arith, d.taken_up, go.reads);
  nowhere = λ waits. d.nowhere (record { server = waits.server; term = waits.term; there = go.waiting waits.server waits.term n d.taken_up waits.there });
  unanswered = λ x. elim (go.answered n d.taken_up x) [ inl old ↦ d.unanswered old | inr waits ↦ d.nowhere waits ];
}

pub legal_dropped : (setup : Setup) (history : History) (g : Group) (claims : List Claimed) (n : ℕ) → IsLegalFrom setup g claims history → IsDropped g n → IsDropped (run setup g history) n
legal_dropped setup history g claims n legal d = dropped_stays g (run setup g history) n (legal_goes_on setup history g claims legal) d
