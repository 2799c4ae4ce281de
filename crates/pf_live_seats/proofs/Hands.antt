-- What an apply seat's calls do to its own entries.
use Rattle.std.proofs.Common.{◌≡◌, ℕ, inr, Bool, true, false, true≢false, cond, List, [], ◌∷◌, ◌++◌, None, Some, refl, sym, ap, ◌∙◌, subst}
use Rattle.pf_entry.proofs.Lists.{every_append}
use Rattle.pf_turn.specs.declared.log.Stamped.{Stamped}
use Rattle.pf_turn.specs.Lists.{entries_of}
use Rattle.pf_turn.specs.Own.{EachOf}
use Rattle.pf_turn.proofs.Own.{each_longer, each_snoc}
use Rattle.pf_shared.specs.pf_group.specs.GroupIs.{GroupIs}
use Rattle.pf_shared.specs.pf_group.proofs.Fresh.{none_is_free}
use Rattle.pf_entry.specs.declared.ops.Op.{Op}
use Rattle.pf_entry.specs.declared.ops.Op.TheVariants.{Write, Noop, Mark}
use Rattle.pf_entry.specs.declared.ops.Job.{Job}
use Rattle.pf_base.specs.declared.filled.Filled.{Filled}
use Rattle.pf_server_apply.specs.Jobs.{IsFilledFor}
use Rattle.pf_group_copy.specs.Filling.{filled_of}
use Rattle.pf_protocol.specs.declared.answers.Answer.{Answer}
use Rattle.pf_protocol.specs.declared.answers.Answer.TheVariants.{Job as JobIs}
use Rattle.pf_protocol.specs.declared.events.Event.TheVariants.{Claim, Finish, GiveBack}
use Rattle.pf_shared.specs.declared.moment.SeatMoment.{SeatMoment}
use Rattle.pf_shared.specs.declared.moment.SeatMoment.TheVariants.{Happened}
use Rattle.pf_shared.specs.Moments.{entry}
use Rattle.pf_shared.specs.Calls.{Adds, Finds, SeatHasClaimed, SeatSteps}
use Rattle.pf_shared.specs.Hands.{HasInHand, Key, hand, hand_of, is_key_of, key}
use Rattle.pf_disk.specs.declared.disk.Disk.{Ghosts}
use Rattle.pf_protocol.specs.declared.answers.Answer.TheVariants.{Refused}
use Rattle.pf_protocol.specs.declared.answers.Refusal.TheVariants.{NoneFree}
use Rattle.pf_shared.specs.Seats.{IsSeatOf, number_of, seen_by}
use Rattle.pf_shared.specs.declared.parts.SharedGroup.{SharedGroup}
use Rattle.pf_shared.proofs.SeatJobs.{hand-append}
use Rattle.pf_live_seats.specs.declared.applying.Applier.{Applier}
use Rattle.pf_live_seats.specs.Roles.{Applies, GivesNoneBack, gives_back, nothing_free}
use Rattle.pf_live_seats.specs.Workers.{HasNothing, Holds, IsApplier}

-- a seat's rule stays while others add entries, and with one more of its own
module _ (n : ℕ) (P : List (Stamped SeatMoment) → SeatMoment → Type 0) where
  pub each_finds : (alone : Type 0) (seen new : List (Stamped SeatMoment)) → Finds n alone seen new → EachOf n P seen → EachOf n P new
  each_finds alone seen new f h = each_longer n P seen new f.begins f.own h

  pub each_adds : (alone : Type 0) (seen new : List (Stamped SeatMoment)) (what : SeatMoment) (a : Adds n alone seen what new) → EachOf n P seen → P a.found what → EachOf n P new
  each_adds alone seen new what a h p = subst (EachOf n P) (sym a.listed) (each_snoc n P a.found what (each_finds alone seen a.found a.finds h) p)

-- a job that was claimed and then ended is in no hand
module _ (k : Key) (n : ℕ) (job : Job) (before : List (Stamped SeatMoment)) (free : hand_of k None before ≡ None) where
  abbrev claimed : Stamped SeatMoment
  claimed = entry n (Happened (record { event = Claim; answer = JobIs job }))

  after_claim : hand_of k None (before ++ claimed ∷ []) ≡ cond (is_key_of k job.server job.life job.slot) (Some (hand n job.op)) None
  after_claim = hand-append k None before (claimed ∷ []) ∙ ap (λ o. cond (is_key_of k job.server job.life job.slot) (Some (hand n job.op)) o) free

  none_left : (b : Bool) → cond b None (cond b (Some (hand n job.op)) None) ≡ None
  none_left true = refl
  none_left false = refl

  pub after_finish : (answer : Answer) (own : List (Stamped SeatMoment)) → own ≡ before ++ claimed ∷ [] → hand_of k None (own ++ entry n (Happened (record { event = Finish job.server job.life job.slot; answer = answer })) ∷ []) ≡ None
  after_finish answer own is = hand-append k None own (entry n (Happened (record { event = Finish job.server job.life job.slot; answer = answer })) ∷ [])
      ∙ (ap (λ o. cond (is_key_of k job.server job.life job.slot) None o) (ap (hand_of k None) is ∙ after_claim) ∙ none_left (is_key_of k job.server job.life job.slot))

  pub after_return : (answer : Answer) (own : List (Stamped SeatMoment)) → own ≡ before ++ claimed ∷ [] → hand_of k None (own ++ entry n (Happened (record { event = GiveBack job.server job.life job.slot; answer = answer })) ∷ []) ≡ None
  after_return answer own is = hand-append k None own (entry n (Happened (record { event = GiveBack job.server job.life job.slot; answer = answer })) ∷ [])
      ∙ (ap (λ o. cond (is_key_of k job.server job.life job.slot) None o) (ap (hand_of k None) is ∙ after_claim) ∙ none_left (is_key_of k job.server job.life job.slot))

-- the sectors of a job's op
filled_for : (op : Op) (job : Job) → job.op ≡ op → IsFilledFor op (filled_of job)
filled_for (Write range payload) job is = ap Rattle.pf_group_copy.specs.Filling.sectors_of is
filled_for Noop job is = tt
filled_for Mark job is = tt

pub has_claimed : (n : ℕ) (seen : List (Stamped SeatMoment)) (job : Job) (filled : Filled) → filled ≡ filled_of job → HasInHand n (key job.server job.life job.slot) job.op seen → SeatHasClaimed n seen filled
has_claimed n seen job filled is held = subst (SeatHasClaimed n seen) (sym is) record { op = job.op; in_hand = held; brought = filled_for job.op job refl }

-- one entry more, which gives nothing back
none_more : (n : ℕ) (own : List (Stamped SeatMoment)) (what : SeatMoment) → GivesNoneBack own → gives_back what ≡ false → GivesNoneBack (own ++ entry n what ∷ [])
none_more n own what none is = every_append (λ (e : Stamped SeatMoment). gives_back e.what ≡ false) own (entry n what ∷ []) none (is, tt)

-- the same of a seat whose number is known by another name
module _ {D : Type 0} {disk : Ghosts D} (group : SharedGroup D disk) (n : ℕ) (a b : Applier D disk) (was : number_of a.seat ≡ n) (same : number_of b.seat ≡ n) (at : IsSeatOf group b.seat) (alone : Type 0) where
  kept_steps : EachOf n Applies (seen_by b.seat) → EachOf (number_of b.seat) Applies (seen_by b.seat)
  kept_steps h = subst (λ m. EachOf m Applies (seen_by b.seat)) (sym same) h

  own_is : (list : List (Stamped SeatMoment)) → entries_of n (seen_by b.seat) ≡ list → entries_of (number_of b.seat) (seen_by b.seat) ≡ list
  own_is list e = ap (λ m. entries_of m (seen_by b.seat)) same ∙ e

  own_kept : IsApplier group a → a.wants ≡ false → GivesNoneBack (entries_of n (seen_by a.seat))
  own_kept is none = subst (λ m. GivesNoneBack (entries_of m (seen_by a.seat))) was (is.kept none)

  -- it found the list as it is now
  pub still : IsApplier group a → Finds n alone (seen_by a.seat) (seen_by b.seat) → b.ended ≡ false → b.wants ≡ a.wants → IsApplier group b
  still is f on wants = record {
    seat = at;
    steps = kept_steps (each_finds n Applies alone (seen_by a.seat) (seen_by b.seat) f (subst (λ m. EachOf m Applies (seen_by a.seat)) was is.steps));
    free = λ k. ap (hand_of k None) (own_is (entries_of n (seen_by a.seat)) f.own ∙ ap (λ m. entries_of m (seen_by a.seat)) (sym was)) ∙ is.free k;
    kept = λ w. subst GivesNoneBack (sym (own_is (entries_of n (seen_by a.seat)) f.own)) (own_kept is (sym wants ∙ w));
    ended = λ e w. absurd (true≢false (sym e ∙ on));
  }

  module _ (root : GroupIs) where
    pub takes_job : (job : Job) → IsApplier group a → SeatSteps root n alone (seen_by a.seat) Claim (JobIs job) (seen_by b.seat) → HasInHand n (key job.server job.life job.slot) job.op (seen_by b.seat) → b.ended ≡ false → b.wants ≡ a.wants → Holds group job b
    takes_job job is s held on wants = record {
      seat = at;
      steps = kept_steps (each_adds n Applies alone (seen_by a.seat) (seen_by b.seat) _ s.adds (subst (λ m. EachOf m Applies (seen_by a.seat)) was is.steps) refl);
      in_hand = subst (λ m. HasInHand m (key job.server job.life job.slot) job.op (seen_by b.seat)) (sym same) held;
      before = entries_of n (seen_by a.seat);
      own = own_is _ s.adds.own ∙ ap (λ m. entries_of n (seen_by a.seat) ++ entry m (Happened (record { event = Claim; answer = JobIs job })) ∷ []) (sym same);
      free = λ k. ap (λ m. hand_of k None (entries_of m (seen_by a.seat))) (sym was) ∙ is.free k;
      kept = λ w. own_kept is (sym wants ∙ w);
      on = on;
    }

    pub finds_nothing : (answer : Answer) → IsApplier group a → SeatSteps root n alone (seen_by a.seat) Claim answer (seen_by b.seat) → ((job : Job) → answer ≡ JobIs job → ⊥) → b.ended ≡ false → b.wants ≡ a.wants → HasNothing group b
    finds_nothing answer is s no_job on wants = let none : answer ≡ Refused NoneFree = none_is_free root.setup _ answer (s.answered.answered (inr tt)) no_job in
        let own : entries_of (number_of b.seat) (seen_by b.seat) ≡ entries_of n (seen_by a.seat) ++ nothing_free (number_of b.seat) ∷ [] =
        own_is _ s.adds.own ∙ (ap (λ x. entries_of n (seen_by a.seat) ++ entry n (Happened (record { event = Claim; answer = x })) ∷ []) none ∙ ap (λ m. entries_of n (seen_by a.seat) ++ nothing_free m ∷ []) (sym same)) in record {
          is = record {
            seat = at;
            steps = kept_steps (each_adds n Applies alone (seen_by a.seat) (seen_by b.seat) _ s.adds (subst (λ m. EachOf m Applies (seen_by a.seat)) was is.steps) refl);
            free = λ k. ap (hand_of k None) own ∙ (hand-append k None (entries_of n (seen_by a.seat)) (nothing_free (number_of b.seat) ∷ []) ∙ (ap (λ m. hand_of k None (entries_of m (seen_by a.seat))) (sym was) ∙ is.free k));
            kept = λ w. subst GivesNoneBack (sym own) (every_append (λ (e : Stamped SeatMoment). gives_back e.what ≡ false) (entries_of n (seen_by a.seat)) (nothing_free (number_of b.seat) ∷ []) (own_kept is (sym wants ∙ w)) (refl, tt));
            ended = λ e w. absurd (true≢false (sym e ∙ on));
          };
          last = (entries_of n (seen_by a.seat), sym own);
        }

    own_held : (job : Job) → Holds group job a → a.wants ≡ false → GivesNoneBack (entries_of n (seen_by a.seat))
    own_held job h none = subst (λ m. GivesNoneBack (entries_of m (seen_by a.seat))) was (subst GivesNoneBack (sym h.own) (none_more (number_of a.seat) h.before (Happened (record { event = Claim; answer = JobIs job })) (h.kept none) refl))

    -- the job that it has is brought back, or returned
    pub ends_job : (job : Job) (answer : Answer) → Holds group job a → SeatSteps root n alone (seen_by a.seat) (Finish job.server job.life job.slot) answer (seen_by b.seat) → b.ended ≡ false → b.wants ≡ a.wants → IsApplier group b
    ends_job job answer h s on wants = record {
      seat = at;
      steps = kept_steps (each_adds n Applies alone (seen_by a.seat) (seen_by b.seat) _ s.adds (subst (λ m. EachOf m Applies (seen_by a.seat)) was h.steps) refl);
      free = λ k. ap (hand_of k None) (own_is _ s.adds.own) ∙ after_finish k n job h.before (h.free k) answer (entries_of n (seen_by a.seat))
          (ap (λ m. entries_of m (seen_by a.seat)) (sym was) ∙ (h.own ∙ ap (λ m. h.before ++ entry m (Happened (record { event = Claim; answer = JobIs job })) ∷ []) was));
      kept = λ w. subst GivesNoneBack (sym (own_is _ s.adds.own)) (none_more n (entries_of n (seen_by a.seat)) (Happened (record { event = Finish job.server job.life job.slot; answer = answer })) (own_held job h (sym wants ∙ w)) refl);
      ended = λ e w. absurd (true≢false (sym e ∙ on));
    }

    pub returns_job : (job : Job) (answer : Answer) → Holds group job a → SeatSteps root n alone (seen_by a.seat) (GiveBack job.server job.life job.slot) answer (seen_by b.seat) → b.ended ≡ false → b.wants ≡ true → IsApplier group b
    returns_job job answer h s on wants = record {
      seat = at;
      steps = kept_steps (each_adds n Applies alone (seen_by a.seat) (seen_by b.seat) _ s.adds (subst (λ m. EachOf m Applies (seen_by a.seat)) was h.steps) refl);
      free = λ k. ap (hand_of k None) (own_is _ s.adds.own) ∙ after_return k n job h.before (h.free k) answer (entries_of n (seen_by a.seat))
          (ap (λ m. entries_of m (seen_by a.seat)) (sym was) ∙ (h.own ∙ ap (λ m. h.before ++ entry m (Happened (record { event = Claim; answer = JobIs job })) ∷ []) was));
      kept = λ w. absurd (true≢false (sym wants ∙ w));
      ended = λ e w. absurd (true≢false (sym e ∙ on));
    }
