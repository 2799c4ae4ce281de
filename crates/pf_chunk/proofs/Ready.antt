-- What is kept beside a group goes on to fit it.
use Rattle.std.proofs.Common.{◌≡◌, ◌≢◌, ℕ, ◌<◌, inl, inr, Bool, true, false, List, [], ◌∷◌, ◌++◌, append-nil, length, Some, slice_get, slice_set, arith, sym, ap, subst, ◌∙◌}
use Rattle.std.specs.Prelude.{IsTrue}
use Rattle.std.proofs.lemmas.List.{length-append, map-append}
use Rattle.std.proofs.lemmas.Option.{same_Some, slice_get_within}
use Rattle.std.proofs.lemmas.Bool.{cases_eq}
use Rattle.pf_base.specs.Span.{Span}
use Rattle.pf_base.specs.declared.asks.Ask.TheVariants.{Read}
use Rattle.pf_entry.specs.Lists.{Every}
use Rattle.pf_entry.specs.Tables.{ascends}
use Rattle.pf_entry.proofs.Lists.{every_append, every_map, every_more}
use Rattle.pf_protocol.specs.declared.answers.Answer.{Answer}
use Rattle.pf_protocol.specs.declared.answers.Answer.TheVariants.{Done, Slot as SlotIs, Term as TermIs, Read as ReadIs, Base as BaseIs, Job as JobIs, Refused}
use Rattle.pf_protocol.specs.Groups.{reads_after}
use Rattle.pf_protocol.specs.Histories.{History}
use Rattle.pf_law_ports.specs.pf_group_network.specs.Readings.{taken_after}
use Rattle.pf_law_ports.specs.pf_group_network.proofs.Lists.{at_end, at_front, set_elsewhere, set_length, set_there}
use Rattle.pf_asks.specs.declared.port.Sent.TheVariants.{Number}
use Rattle.pf_asks.specs.Ports.{PortIs}
use Rattle.pf_group_rounds.specs.pf_group.specs.GroupIs.{GroupIs, state_of}
use Rattle.pf_chunk_waiting.specs.declared.waiting.Waiting.{Waiting}
use Rattle.pf_chunk.specs.Steps.{AreGoneThrough}
use Rattle.pf_chunk.specs.Views.{ArePorts, IsFetched, ChunkIsKept}
use Rattle.pf_chunk_waiting.proofs.NumberSearches.{last_greatest}
use Rattle.pf_chunk_waiting.specs.Waiters.{waiting_numbers}

-- whether a read was handed out
pub taken_reads : (taken : List Bool) (reads : ℕ) (answer : Answer) → length taken ≡ reads → length (taken_after taken answer) ≡ reads_after reads answer
taken_reads taken reads (ReadIs n) is = length-append taken (false ∷ []) ∙ omega (arith, is)
taken_reads taken reads Done is = is
taken_reads taken reads (SlotIs slot) is = is
taken_reads taken reads (TermIs term) is = is
taken_reads taken reads (BaseIs base) is = is
taken_reads taken reads (JobIs job) is = is
taken_reads taken reads (Refused refusal) is = is

pub taken_still : (taken : List Bool) (answer : Answer) (n : ℕ) (b : Bool) → slice_get taken n ≡ Some b → slice_get (taken_after taken answer) n ≡ Some b
taken_still taken (ReadIs m) n b is = at_front taken (false ∷ []) n b is
taken_still taken Done n b is = is
taken_still taken (SlotIs slot) n b is = is
taken_still taken (TermIs term) n b is = is
taken_still taken (BaseIs base) n b is = is
taken_still taken (JobIs job) n b is = is
taken_still taken (Refused refusal) n b is = is

pub fetched_still : (history more : History) (n : ℕ) (range : Span) → IsFetched history n range → IsFetched (history ++ more) n range
fetched_still history more n range is = record { server = is.server; place = is.place; happened = at_front history more is.place _ is.happened }

-- what an event adds to the reads that wait: nothing, or the one that it took up
abbrev pub IsNew : (reads : ℕ) → Answer → List Waiting → Type 0
IsNew reads answer [] = Unit {0}
IsNew reads answer (w ∷ []) = (w.number ≡ reads) × (answer ≡ ReadIs w.number) × (w.server < 3)
IsNew reads answer ws = ⊥

-- after an event
module _ (old mid : GroupIs) (waiting more : List Waiting) (ports : List PortIs) (kept : ChunkIsKept old waiting ports) (answer : Answer) (new : IsNew (length old.taken) answer more) (added : History)
    (taken_is : mid.taken ≡ taken_after old.taken answer) (history_is : mid.history ≡ old.history ++ added) (told_is : mid.told ≡ old.told) (reads_is : IsTrue old.told → (state_of mid).reads ≡ reads_after (state_of old).reads answer) where
  below : (n : ℕ) (b : Bool) → slice_get old.taken n ≡ Some b → n < length old.taken
  below n b is = slice_get_within old.taken n b is

  still : (n : ℕ) → slice_get old.taken n ≡ Some false → slice_get mid.taken n ≡ Some false
  still n is = ap (λ t. slice_get t n) taken_is ∙ taken_still old.taken answer n false is

  ascend : (more : List Waiting) → IsNew (length old.taken) answer more → ascends (waiting_numbers (waiting ++ more)) ≡ true
  ascend [] new = ap (λ ws. ascends (waiting_numbers ws)) (append-nil waiting) ∙ kept.listed.ascending
  ascend (w ∷ []) new =
      ap ascends (map-append (λ (x : Waiting). x.number) waiting (w ∷ []))
      ∙ last_greatest (waiting_numbers waiting) w.number kept.listed.ascending
      (every_map (λ k. k < w.number) (λ (x : Waiting). x.number) waiting
      (every_more (λ x. slice_get old.taken x.number ≡ Some false) (λ x. x.number < w.number) (λ x is. omega (arith, below x.number false is, new.0)) waiting kept.listed.pending))
  ascend (w ∷ x ∷ ws) new = absurd new

  serve : (more : List Waiting) → IsNew (length old.taken) answer more → Every (λ (w : Waiting). w.server < 3) more
  serve [] new = tt
  serve (w ∷ []) new = (new.2, tt)
  serve (w ∷ x ∷ ws) new = absurd new

  pend : (more : List Waiting) → IsNew (length old.taken) answer more → Every (λ (w : Waiting). slice_get mid.taken w.number ≡ Some false) more
  pend [] new = tt
  pend (w ∷ []) new = (
    ap (λ t. slice_get t w.number) taken_is
        ∙ ap (λ a. slice_get (taken_after old.taken a) w.number) new.1
        ∙ ap (slice_get (old.taken ++ false ∷ [])) new.0 ∙ at_end old.taken false,
    tt,
  )
  pend (w ∷ x ∷ ws) new = absurd new

  others : (more : List Waiting) → IsNew (length old.taken) answer more → (n : ℕ) → n < length old.taken → Every (λ (w : Waiting). w.number ≢ n) more
  others [] new n low = tt
  others (w ∷ []) new n low = ((λ same. omega (arith, same, low, new.0)), tt)
  others (w ∷ x ∷ ws) new n low = absurd new

  pub kept_on : ChunkIsKept mid (waiting ++ more) ports
  kept_on = record {
    numbered = λ told.
        let was = subst IsTrue told_is told in
        ap length taken_is ∙ taken_reads old.taken (state_of old).reads answer (kept.numbered was) ∙ sym (reads_is was);
    listed = record {
      ascending = ascend more new;
      servers = every_append (λ w. w.server < 3) waiting more kept.listed.servers (serve more new);
      pending = every_append (λ w. slice_get mid.taken w.number ≡ Some false) waiting more
          (every_more (λ w. slice_get old.taken w.number ≡ Some false) (λ w. slice_get mid.taken w.number ≡ Some false) (λ w is. still w.number is) waiting kept.listed.pending) (pend more new);
    };
    ports_fit = record {
      count = kept.ports_fit.count;
      reads = λ m p n at sent.
          let r = kept.ports_fit.reads m p n at sent in record {
            pending = still n r.pending;
            no_line = every_append (λ w. w.number ≢ n) waiting more r.no_line (others more new n (below n false r.pending));
            alone = r.alone;
            asked = λ chunk range ask. subst (λ history. IsFetched history n range) (sym history_is) (fetched_still old.history added n range (r.asked chunk range ask));
          };
    };
  }

-- another port at a place
module _ (group : GroupIs) (waiting : List Waiting) (ports : List PortIs) (m : ℕ) (p : PortIs) where
  pub record IsFor (n : ℕ) : Type 0 where
    pub pending : slice_get group.taken n ≡ Some false
    pub no_line : Every (λ w. w.number ≢ n) waiting
    pub alone : (k : ℕ) (q : PortIs) → slice_get ports k ≡ Some q → q.sent ≡ Some (Number n) → k ≡ m
    pub asked : (chunk : ℕ) (range : Span) → p.ask ≡ Some (Read chunk range) → IsFetched group.history n range

  there : (q : PortIs) → slice_get (slice_set ports m p) m ≡ Some q → q ≡ p
  there q at = same_Some q p (sym at ∙ set_there ports m p (omega (arith, slice_get_within (slice_set ports m p) m q at, set_length ports m p)))

  pub port_put : ArePorts group waiting ports → ((n : ℕ) → p.sent ≡ Some (Number n) → IsFor n) → ArePorts group waiting (slice_set ports m p)
  port_put fit fits = record {
    count = set_length ports m p ∙ fit.count;
    reads = λ k q n at sent. elim (cases_eq k m) [
      | inl same ↦
          let is : q ≡ p = there q (ap (slice_get (slice_set ports m p)) (sym same) ∙ at) in
          let f = fits n (ap (λ (x : PortIs). x.sent) (sym is) ∙ sent) in record {
            pending = f.pending;
            no_line = f.no_line;
            alone = λ j r r_at r_sent. elim (cases_eq j m) [
              | inl here ↦ here ∙ sym same
              | inr apart ↦ f.alone j r (sym (set_elsewhere ports m j p apart) ∙ r_at) r_sent ∙ sym same
            ];
            asked = λ chunk range ask. f.asked chunk range (ap (λ (x : PortIs). x.ask) (sym is) ∙ ask);
          }
      | inr apart ↦
          let was = sym (set_elsewhere ports m k p apart) ∙ at in
          let r = fit.reads k q n was sent in record {
            pending = r.pending;
            no_line = r.no_line;
            alone = λ j other other_at other_sent. elim (cases_eq j m) [
              | inl here ↦
                  let is : other ≡ p = there other (ap (slice_get (slice_set ports m p)) (sym here) ∙ other_at) in
                  here ∙ sym ((fits n (ap (λ (x : PortIs). x.sent) (sym is) ∙ other_sent)).alone k q was sent)
              | inr away ↦ r.alone j other (sym (set_elsewhere ports m j p away) ∙ other_at) other_sent
            ];
            asked = r.asked;
          }
    ];
  }

-- after all was applied, and the reads were gone through
pub kept_after : (mid now : GroupIs) (waiting left : List Waiting) (ports : List PortIs) → ChunkIsKept mid waiting ports → (added : History) → now.history ≡ mid.history ++ added → AreGoneThrough mid.taken waiting now.taken left
    → (IsTrue now.told → length now.taken ≡ (state_of now).reads) → ChunkIsKept now left ports
kept_after mid now waiting left ports kept added history_is through numbered = record {
  numbered = numbered;
  listed = through.listed;
  ports_fit = record {
    count = kept.ports_fit.count;
    reads = λ m p n at sent.
        let r = kept.ports_fit.reads m p n at sent in record {
          pending = through.others n r.no_line ∙ r.pending;
          no_line = through.some n r.no_line;
          alone = r.alone;
          asked = λ chunk range ask. subst (λ history. IsFetched history n range) (sym history_is) (fetched_still mid.history added n range (r.asked chunk range ask));
        };
  };
}
