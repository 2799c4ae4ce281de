-- What a call of a seat says, from what its turn found and did.
use Rattle.std.proofs.Common.{◌≡◌, ℕ, Bool, IsTrue, true, cond, eq-eqb, List, [], ◌∷◌, ◌++◌, Some, None, Result, Ok, Err, IfOk, OnErr, sym, refl, ap, ◌∙◌, subst, append-nil}
use Rattle.std.proofs.lemmas.Bool.{and_from}
use Rattle.pf_base.specs.declared.errors.NoMemory.{NoMemory}
use Rattle.pf_base.specs.declared.filled.Filled.{Filled}
use Rattle.pf_turn.specs.declared.log.Stamped.{Stamped}
use Rattle.pf_turn.specs.Lists.{GrewBy, entries_of}
use Rattle.pf_turn.proofs.Lists.{entries-append}
use Rattle.pf_disk.specs.declared.disk.Disk.{Ghosts}
use Rattle.pf_entry.specs.declared.ops.Op.{Op}
use Rattle.pf_protocol.specs.Servers.{Setup}
use Rattle.pf_protocol.specs.declared.answers.Answer.{Answer}
use Rattle.pf_protocol.specs.declared.answers.Answer.TheVariants.{Job as JobIs}
use Rattle.pf_protocol.specs.declared.events.Event.{Event}
use Rattle.pf_protocol.specs.declared.events.Event.TheVariants.{Claim}
use Rattle.pf_protocol.specs.declared.events.Happening.{Happening}
use Rattle.pf_protocol.specs.Histories.{History}
use Rattle.pf_protocol.specs.Answers.{IsLegal, claims_of}
use Rattle.pf_group_rounds.specs.pf_group.specs.GroupIs.{GroupIs}
use Rattle.pf_group_rounds.specs.pf_group.specs.Sound.{IsSound}
use Rattle.pf_shared.specs.declared.moment.SeatMoment.{SeatMoment}
use Rattle.pf_shared.specs.declared.moment.SeatMoment.TheVariants.{Happened}
use Rattle.pf_shared.specs.declared.behind.Behind.{Behind}
use Rattle.pf_shared.specs.Answering.{EventIsAnswered}
use Rattle.pf_shared.specs.Moments.{entry, handed_out}
use Rattle.pf_shared.specs.Hands.{HasInHand, Key, hand, hand_of, is_key_of, is_tidy, key}
use Rattle.pf_shared.specs.Behinds.{Acts, BringsBack, Stays, list_of}
use Rattle.pf_shared.specs.Calls.{Adds, Finds, SeatHasClaimed, IsHistory, JobIsTaken, OnJob, SeatSteps}
use Rattle.pf_shared.specs.Since.{whole_history}
use Rattle.pf_shared.proofs.TurnEffects.{whole_is}
use Rattle.pf_shared.proofs.SeatJobs.{free_is_none, hand-append, in_hand, mine, own_hand}
use Rattle.pf_shared.proofs.SeatClaims.{claimed_is_free}

-- the list is a history of the group
pub history_is : (root : GroupIs) (setup : Setup) (list : List (Stamped SeatMoment)) (history : History) → setup ≡ root.setup → whole_history root list ≡ history → (IsTrue root.told → IsLegal setup history) → IsSound setup history → IsHistory root list
history_is root setup list history same is legal sound = record {
  legal = λ told. subst (λ s. IsLegal s (whole_history root list)) same (subst (IsLegal setup) (sym is) (legal told));
  sound = subst (λ s. IsSound s (whole_history root list)) same (subst (IsSound setup) (sym is) sound);
}

-- a seat's own entry is one of its own
pub own_entry : (n : ℕ) (what : SeatMoment) → entries_of n (entry n what ∷ []) ≡ entry n what ∷ []
own_entry n what = ap (λ b. cond b (entry n what ∷ []) []) (eq-eqb n n refl)

unfoldable pub adds_of : (n m : ℕ) (alone : Type 0) (seen found new : List (Stamped SeatMoment)) (what : SeatMoment) → m ≡ n → Finds n alone seen found → new ≡ found ++ entry m what ∷ [] → Adds n alone seen what new
adds_of n m alone seen found new what same finds is = let e : new ≡ found ++ entry n what ∷ [] = is ∙ ap (λ i. found ++ entry i what ∷ []) same in record {
  found = found;
  finds = finds;
  listed = e;
  own = ap (entries_of n) e ∙ (entries-append n found (entry n what ∷ []) ∙ (ap (λ l. l ++ entries_of n (entry n what ∷ [])) finds.own ∙ ap (λ l. entries_of n seen ++ l) (own_entry n what)));
}

pub grew_by : (n m : ℕ) (seen old new : List (Stamped SeatMoment)) (what : SeatMoment) → m ≡ n → seen ≡ old → new ≡ old ++ entry m what ∷ [] → GrewBy n seen new
grew_by n m seen old new what same seen_is is = (entry m what ∷ [], ap (λ l. l ++ entry m what ∷ []) seen_is ∙ sym is, (same, tt))

pub grew_none : (n : ℕ) (seen old new : List (Stamped SeatMoment)) → seen ≡ old → new ≡ old → GrewBy n seen new
grew_none n seen old new seen_is is = ([], append-nil seen ∙ (seen_is ∙ sym is), tt)

module _ {D : Type 0} {disk : Ghosts D} (root : GroupIs) (n m : ℕ) (same : m ≡ n) (alone : Type 0) (seen : List (Stamped SeatMoment)) (old new : Behind D disk) (rooted : old.start ≡ root) (finds : Finds n alone seen (list_of old)) where
  pub steps_of : (event : Event) (answer : Answer) (after : List (Stamped SeatMoment)) → Acts m event answer old new → after ≡ list_of new → SeatSteps root n alone seen event answer after
  unfolding adds_of
  steps_of event answer after acts is = let h : Happening = record { event = event; answer = answer } in record {
    adds = adds_of n m alone seen (list_of old) after (Happened h) same finds (is ∙ acts.listed);
    answered = subst (λ (t : Bool). EventIsAnswered t root.setup (handed_out root.taken (list_of old)) (whole_history root (list_of old)) event answer) (old.same_told ∙ ap (λ (x : GroupIs). x.told) rooted)
        (subst (λ (s : Setup). EventIsAnswered old.group.told s (handed_out root.taken (list_of old)) (whole_history root (list_of old)) event answer) (ap (λ r. r.setup) old.same_root ∙ ap (λ (x : GroupIs). x.setup) rooted)
        (subst (λ (t : List Bool). EventIsAnswered old.group.told old.group.setup t (whole_history root (list_of old)) event answer) (old.handed ∙ ap (λ (x : GroupIs). handed_out x.taken (list_of old)) rooted)
        (subst (λ (l : History). EventIsAnswered old.group.told old.group.setup old.group.taken l event answer) (sym (whole_is old) ∙ ap (λ (x : GroupIs). whole_history x (list_of old)) rooted) acts.answered)));
  }

  -- a turn that answers an event, or has no memory for it
  module _ (Does : Answer → Type 0) (act : (a : Answer) → Does a → (e : Event) × Acts m e a old new) where
    pub turn_root : (r : Result Answer NoMemory) → IfOk r Does → OnErr r (Stays old new) → new.start ≡ root
    turn_root (Ok a) does stays = (act a does).1.root ∙ rooted
    turn_root (Err e) does stays = stays.root ∙ rooted

    pub turn_grew : (r : Result Answer NoMemory) (took : List (Stamped SeatMoment)) → took ≡ list_of old → IfOk r Does → OnErr r (Stays old new) → GrewBy n took (list_of new)
    turn_grew (Ok a) took is does stays = let d = act a does in grew_by n m took (list_of old) (list_of new) (Happened (record { event = d.0; answer = a })) same is d.1.listed
    turn_grew (Err e) took is does stays = grew_none n took (list_of old) (list_of new) is stays.listed

    pub turn_steps : (Says : Answer → Type 0) (after : List (Stamped SeatMoment)) → ((a : Answer) (d : Does a) → SeatSteps root n alone seen (act a d).0 a after → Says a) → (r : Result Answer NoMemory) → IfOk r Does → after ≡ list_of new → IfOk r Says
    turn_steps Says after say (Ok a) does is = let d = act a does in say a does (steps_of d.0 a after d.1 is)
    turn_steps Says after say (Err e) does is = tt

    pub turn_finds : (r : Result Answer NoMemory) (after : List (Stamped SeatMoment)) → OnErr r (Stays old new) → after ≡ list_of new → OnErr r (Finds n alone seen after)
    turn_finds (Ok a) after stays is = tt
    turn_finds (Err e) after stays is = subst (Finds n alone seen) (sym (is ∙ stays.listed)) finds

  -- a job that comes back is in the seat's hand
  pub brings_back : (filled : Filled) → SeatHasClaimed n seen filled → BringsBack m (list_of old) filled
  brings_back filled has = let k : Key = key filled.server filled.life filled.slot in record {
    op = has.op;
    in_hand = in_hand k n has.op (list_of old) (old.tidy k) (ap (hand_of k None) finds.own ∙ has.in_hand) ∙ ap (λ i. Some (hand i has.op)) (sym same);
    brought = has.brought;
  }

  pub in_its_hand : (k : Key) (op : Op) → HasInHand n k op seen → hand_of k None (list_of old) ≡ Some (hand m op)
  in_its_hand k op has = in_hand k n op (list_of old) (old.tidy k) (ap (hand_of k None) finds.own ∙ has) ∙ ap (λ i. Some (hand i op)) (sym same)

  -- a job that was claimed is in the seat's hand now, and was not before
  is_key : (server life slot : ℕ) → is_key_of (key server life slot) server life slot ≡ true
  is_key server life slot = and_from _ _ (and_from _ _ (eq-eqb server server refl) (eq-eqb life life refl)) (eq-eqb slot slot refl)

  taken_now : (a : Answer) (after : List (Stamped SeatMoment)) → (s : SeatSteps root n alone seen Claim a after) → ((k : Key) → is_tidy k None s.adds.found ≡ true) → OnJob a (JobIsTaken n seen after)
  taken_now (JobIs job) after s tidy = let k : Key = key job.server job.life job.slot in let h : Happening = record { event = Claim; answer = JobIs job } in
      let bare : claims_of [] root.history ≡ [] = ap (λ (x : GroupIs). claims_of [] x.history) (sym rooted) ∙ old.none_open in
      let nobody : hand_of k None s.adds.found ≡ None = free_is_none (hand_of k None s.adds.found) (claimed_is_free root.history s.adds.found job bare s.answered.fresh) in
      let free : hand_of k None (entries_of n seen) ≡ None = ap (hand_of k None) (sym s.adds.finds.own) ∙ (own_hand k n None s.adds.found (tidy k) ∙ ap (mine n) nobody) in record {
        free = free;
        in_hand = ap (hand_of k None) s.adds.own ∙ (hand-append k None (entries_of n seen) (entry n (Happened h) ∷ []) ∙ ap (λ b. cond b (Some (hand n job.op)) (hand_of k None (entries_of n seen))) (is_key job.server job.life job.slot));
      }
  taken_now _ after s tidy = tt

  pub claim_taken : (r : Result Answer NoMemory) (after : List (Stamped SeatMoment)) → IfOk r (λ a. Acts m Claim a old new) → after ≡ list_of new → IfOk r (λ a. OnJob a (JobIsTaken n seen after))
  unfolding adds_of steps_of
  claim_taken (Ok a) after acts is = taken_now a after (steps_of Claim a after acts is) (λ k. old.tidy k)
  claim_taken (Err e) after acts is = tt
