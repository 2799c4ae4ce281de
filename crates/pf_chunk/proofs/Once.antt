-- A read waits at one server, and is answered once.
use Rattle.std.proofs.Common.{◌≡◌, ◌≢◌, ℕ, ◌<◌, ◌≤◌, inl, inr, true, not, List, [], ◌++◌, map, Some, slice_get, arith, refl, sym, ap, subst, ◌∙◌}
use Rattle.std.proofs.lemmas.Bool.{false≢true}
use Rattle.std.proofs.lemmas.List.{map-append}
use Rattle.pf_entry.specs.Lists.{Every}
use Rattle.pf_entry.specs.Tables.{ascends}
use Rattle.pf_entry.proofs.Lists.{every_map}
use Rattle.pf_protocol.specs.declared.answers.Answer.{Answer}
use Rattle.pf_protocol.specs.declared.answers.Answer.TheVariants.{Read as ReadIs}
use Rattle.pf_protocol.specs.declared.events.Event.{Event}
use Rattle.pf_protocol.specs.Servers.{Read, Setup, Server}
use Rattle.pf_protocol.specs.Outcomes.{Outcome}
use Rattle.pf_protocol.specs.Saving.{restarted}
use Rattle.pf_protocol.specs.Rows.{is_ready, ready_reads, settled}
use Rattle.pf_protocol.specs.Groups.{Answered, Group, answer_of, ending, happens, opening, first_leader}
use Rattle.pf_protocol.specs.Histories.{History, RunsAs, replay}
use Rattle.pf_protocol.specs.Answers.{IsAnswer, IsLegal}
use Rattle.pf_protocol.proofs.ForRows.{does}
use Rattle.pf_protocol.proofs.ForMoments.{legal_keeps, opened}
use Rattle.pf_chunk.specs.Waiting.{HasReadNumber, WaitsAt, IsAnsweredIn, ReadsWaitOnce, StepsReads}
use Rattle.pf_chunk_waiting.proofs.Filters.{every_place, fewer_ascend}
use Rattle.pf_chunk.proofs.Members.{numbers, each_of, none_has, AreApart, apart_of, apart_append, same_place, apart_by_place, mapped_get, got_mapped, same_read, passed}
use Rattle.pf_chunk.proofs.ReadNumbers.{NoRead}
use Rattle.pf_chunk.proofs.EventEffects.{Acted, Rested, Went, Acts, Rests, went}
use Rattle.pf_chunk.proofs.WaitingSteps.{answer_numbers, grows, reads_are, left_reads, left_have, ascends_on, at_place, place_of, was, answers_from, ready_have, acted_steps, waits_still, answered_still, rested_steps}

abbrev pub answer_places : Group → List ℕ
answer_places g = map (λ a. a.number) g.answered

-- the answers have different numbers
pub answers_apart : (g : Group) → ReadsWaitOnce g → AreApart (answer_places g)
answers_apart g w = apart_by_place (answer_places g) (λ j k n at_j at_k.
    let a = got_mapped (λ a. a.number) g.answered j n at_j in
    let b = got_mapped (λ a. a.number) g.answered k n at_k in
    w.answered_once j k a.0 b.0 a.1 b.1 (a.2 ∙ sym b.2))

once_by : (g : Group) → AreApart (answer_places g) → (j k : ℕ) (a b : Answered) → slice_get g.answered j ≡ Some a → slice_get g.answered k ≡ Some b → a.number ≡ b.number → j ≡ k
once_by g apart j k a b at_j at_k same =
    same_place (answer_places g) apart j k b.number (mapped_get (λ a. a.number) g.answered j a at_j ∙ ap Some same) (mapped_get (λ a. a.number) g.answered k b at_k)

-- the numbers stay below the count
module _ (g : Group) (event : Event) (answer : Answer) (after : Group) (h : StepsReads g event answer after) (w : ReadsWaitOnce g) where
  risen : g.reads ≤ after.reads
  risen = subst (λ n. g.reads ≤ n) (sym h.reads) (grows g.reads answer)

  new_below : (n : ℕ) → n ≡ g.reads → answer ≡ ReadIs n → n < after.reads
  new_below n new told = omega (arith, new, h.reads, reads_are g.reads answer n told)

  waits_below : (i t n : ℕ) → WaitsAt after i t n → n < after.reads
  waits_below i t n x = elim (h.waiting i t n x) [
    | inl old ↦ omega (arith, w.waiting_below i t n old, risen)
    | inr took ↦ new_below n took.numbered took.told
  ]

  answers_below : (n : ℕ) → IsAnsweredIn after n → n < after.reads
  answers_below n x = elim (h.answered n x) [
    | inl old ↦ omega (arith, w.answered_below n old, risen)
    | inr waits ↦ omega (arith, w.waiting_below waits.server waits.term n waits.there, risen)
  ]

-- one server's step
module _ (setup : Setup) (g : Group) (event : Event) (answer : Answer) (after : Group) (i : ℕ) (s : Server) (o : Outcome) (a : Acted setup g event answer after i s o) (w : ReadsWaitOnce g) where
  sorted : ascends (numbers o.server.reads) ≡ true
  sorted = ascends_on setup g event answer i s o a.runs a.rule a.told (does setup g i s event o a.rule).reads
      (each_of (λ n. n < g.reads) s.reads (λ n h. w.waiting_below i s.durable.term n (record { server = s; runs = a.runs; in_term = refl; has = h })))
      (w.ascending i s a.runs)

  -- what is answered does not wait on
  not_left : (n : ℕ) → HasReadNumber (settled o.server).reads n → HasReadNumber (ready_reads o.server) n → ⊥
  not_left n left ready =
      let z = o.server in
      let x = passed (λ r. not (is_ready z r)) z.reads n (subst (λ rs. HasReadNumber rs n) (left_reads z) left) in
      let y = passed (is_ready z) z.reads n ready in
      let same = same_read z.reads sorted x.place y.place x.read y.read x.there y.there (x.numbered ∙ sym y.numbered) in
      false≢true (sym (ap (λ r. not (is_ready z r)) same ∙ ap not y.passes) ∙ x.passes)

  -- a read of this server waits nowhere else
  alone : (n : ℕ) → HasReadNumber o.server.reads n → (j t : ℕ) → j ≢ i → WaitsAt g j t n → ⊥
  alone n h j t apart there = elim (was setup g event answer after i s o a n h) [
    | inl waited ↦ apart (w.one_server j i t o.server.durable.term n there waited)
    | inr took ↦ omega (arith, took.numbered, w.waiting_below j t n there)
  ]

  -- nor was it answered
  no_answer : (n : ℕ) → HasReadNumber o.server.reads n → IsAnsweredIn g n → ⊥
  no_answer n h x = elim (was setup g event answer after i s o a n h) [
    | inl waited ↦ w.unanswered i o.server.durable.term n waited x
    | inr took ↦ omega (arith, took.numbered, w.answered_below n x)
  ]

  waits_unanswered : (j t n : ℕ) → WaitsAt after j t n → IsAnsweredIn after n → ⊥
  waits_unanswered j t n x y = elim (place_of setup g event answer after i s o a j t n x) [
    | inl here ↦ elim (answers_from setup g event answer after i s o a n y) [
      | inl old ↦ no_answer n (left_have o.server n here.2) old
      | inr ready ↦ not_left n here.2 ready
    ]
    | inr there ↦ elim (answers_from setup g event answer after i s o a n y) [
      | inl old ↦ w.unanswered j t n there.1 old
      | inr ready ↦ alone n (ready_have setup g event answer after i s o a n ready) j t there.0 there.1
    ]
  ]

  at_one : (j k t u n : ℕ) → WaitsAt after j t n → WaitsAt after k u n → j ≡ k
  at_one j k t u n x y = elim (place_of setup g event answer after i s o a j t n x) [
    | inl here ↦ elim (place_of setup g event answer after i s o a k u n y) [
      | inl also ↦ here.0 ∙ sym also.0
      | inr there ↦ absurd (alone n (left_have o.server n here.2) k u there.0 there.1)
    ]
    | inr there ↦ elim (place_of setup g event answer after i s o a k u n y) [
      | inl here ↦ absurd (alone n (left_have o.server n here.2) j t there.0 there.1)
      | inr also ↦ w.one_server j k t u n there.1 also.1
    ]
  ]

  ascends_after : (j : ℕ) (z : Server) → RunsAs after j z → ascends (numbers z.reads) ≡ true
  ascends_after j z at = elim (at_place setup g event answer after i s o a j z at) [
    | inl here ↦ ap (λ x. ascends (numbers x.reads)) (sym here.1) ∙ ap (λ rs. ascends (numbers rs)) (left_reads o.server) ∙ fewer_ascend (λ (r : Read). r.number) (λ r. not (is_ready o.server r)) o.server.reads sorted
    | inr there ↦ w.ascending j z there.1
  ]

  -- the new answers are none of the old ones
  across : Every (λ m. Every (λ n. n ≢ m) (numbers (ready_reads o.server))) (answer_places g)
  across =
      let ready = ready_reads o.server in
      every_map (λ m. Every (λ n. n ≢ m) (numbers ready)) (λ x. x.number) g.answered
      (every_place (λ x. Every (λ n. n ≢ x.number) (numbers ready)) g.answered (λ k x at.
      every_map (λ n. n ≢ x.number) (λ r. r.number) ready
      (each_of (λ n. n ≢ x.number) ready (λ n h same.
      no_answer n (ready_have setup g event answer after i s o a n h) (record { place = k; answer = x; there = at; numbered = sym same })))))

  apart_after : AreApart (answer_places after)
  apart_after =
      let ready = ready_reads o.server in
      let is : answer_places after ≡ answer_places g ++ numbers ready =
      ap (map (λ x. x.number)) a.answered ∙ map-append (λ x. x.number) g.answered (map (answer_of o.server) ready) ∙ ap (λ ns. answer_places g ++ ns) (answer_numbers o.server ready) in
      subst AreApart (sym is) (apart_append (answer_places g) (numbers ready) (answers_apart g w) (apart_of (numbers ready) (fewer_ascend (λ (r : Read). r.number) (is_ready o.server) o.server.reads sorted)) across)

  acted_once : ReadsWaitOnce after
  acted_once =
      let h = acted_steps setup g event answer after i s o a in
      record {
        waiting_below = waits_below g event answer after h w;
        answered_below = answers_below g event answer after h w;
        unanswered = waits_unanswered;
        one_server = at_one;
        ascending = ascends_after;
        answered_once = once_by after apart_after;
      }

-- no server took a step
rested_once : (g : Group) (event : Event) (answer : Answer) (after : Group) → Rested g after → NoRead answer → ReadsWaitOnce g → ReadsWaitOnce after
rested_once g event answer after r none w =
    let h = rested_steps g after r event answer none in
    record {
      waiting_below = waits_below g event answer after h w;
      answered_below = answers_below g event answer after h w;
      unanswered = λ i t n x y. w.unanswered i t n (waits_still g after r i t n x) (answered_still g after r n y);
      one_server = λ i j t u n x y. w.one_server i j t u n (waits_still g after r i t n x) (waits_still g after r j u n y);
      ascending = λ i z at. elim (r.servers i z at) [
        | inl none ↦ ap (λ rs. ascends (numbers rs)) none
        | inr old ↦ ap (λ rs. ascends (numbers rs)) old.2 ∙ w.ascending i old.0 old.1
      ];
      answered_once = once_by after (subst AreApart (ap (map (λ x. x.number)) (sym r.answered)) (answers_apart g w));
    }

-- every event that has its answer keeps it so
pub next_once : (setup : Setup) (g : Group) (event : Event) (answer : Answer) → IsAnswer setup g event answer → ReadsWaitOnce g → ReadsWaitOnce (happens setup g event (ending answer))
next_once setup g event answer is w = by_way (went setup g event answer is)
  where
    by_way : Went setup g event answer (happens setup g event (ending answer)) → ReadsWaitOnce (happens setup g event (ending answer))
    by_way (Acts i s o a) = acted_once setup g event answer _ i s o a w
    by_way (Rests r none) = rested_once g event answer _ r none w

-- no read waits at the start
opening_reads : (setup : Setup) (i : ℕ) (s : Server) → RunsAs (opening setup) i s → s.reads ≡ []
unfolding first_leader restarted
opening_reads setup = opened setup (λ s. s.reads ≡ []) refl (λ i. refl)

opening_answers : (setup : Setup) → (opening setup).answered ≡ []
unfolding opening
opening_answers setup = refl

pub none_waits : (setup : Setup) (i t n : ℕ) → WaitsAt (opening setup) i t n → ⊥
none_waits setup i t n x = none_has n (subst (λ rs. HasReadNumber rs n) (opening_reads setup i x.server x.runs) x.has)

none_there : (k : ℕ) (a : Answered) → slice_get [] k ≡ Some a → ⊥
none_there k a at = grind (arith, at)

none_answered : (setup : Setup) (n : ℕ) → IsAnsweredIn (opening setup) n → ⊥
none_answered setup n x = none_there x.place x.answer (ap (λ xs. slice_get xs x.place) (sym (opening_answers setup)) ∙ x.there)

pub opening_once : (setup : Setup) → ReadsWaitOnce (opening setup)
opening_once setup = record {
  waiting_below = λ i t n x. absurd (none_waits setup i t n x);
  answered_below = λ n x. absurd (none_answered setup n x);
  unanswered = λ i t n x y. none_waits setup i t n x;
  one_server = λ i j t u n x y. absurd (none_waits setup i t n x);
  ascending = λ i s at. ap (λ rs. ascends (numbers rs)) (opening_reads setup i s at);
  answered_once = λ j k a b at_j at_k same. absurd (none_there j a (ap (λ xs. slice_get xs j) (sym (opening_answers setup)) ∙ at_j));
}

-- every legal history
pub reads_wait_once : (setup : Setup) (history : History) → IsLegal setup history → ReadsWaitOnce (replay setup history)
reads_wait_once setup history is = legal_keeps setup ReadsWaitOnce (λ g claims h legal w. next_once setup g h.event h.answer legal.answered w) history (opening setup) [] is.legal (opening_once setup)
