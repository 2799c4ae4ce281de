-- The opening state has sound ballots.
use Rattle.std.proofs.Common.{◌≡◌, ℕ, zero, suc, ◌<◌, Bool, true, false, cond, if◌then◌else◌, ◌==◌, ◌||◌, replicate, List, [], ◌∷◌, Option, Some, None, is_some, slice_get, arith, refl, sym, ap, subst, ◌∙◌, le_refl}
use Rattle.std.specs.List.{filter, list_any}
use Rattle.std.specs.Ordering.{nat_cmp}
use Rattle.std.specs.FinMap
use Rattle.std.specs.FinMap.{get-empty}
use Rattle.std.proofs.lemmas.Bool.{cond-true, cond-false, eqb-true, false≢true, lt-leb}
use Rattle.std.proofs.lemmas.Option.{same_Some, cond_some, none-some}
use Rattle.pf_entry.specs.declared.entries.Entry.{Entry}
use Rattle.pf_entry.specs.declared.entries.VoteLog.{VoteLog}
use Rattle.pf_entry.specs.Merging.{taken, left_of, higher, merged_first, greatest}
use Rattle.pf_protocol.proofs.Ballots.{Ballot, first_of, Ballots, HasQuorum, Faithful, Sound}
use Rattle.pf_protocol.specs.Servers.{Setup, Server, Condition, Running, Unformatted}
use Rattle.pf_protocol.specs.Saving.{restarted}
use Rattle.pf_protocol.specs.Groups.{opening_disk, first_leader, unless_failed, opening}
use Rattle.pf_entry.specs.Maps.{Map}
use Rattle.pf_entry.specs.declared.ops.Op.{Op}
use Rattle.pf_entry.specs.Ops.{Sector, zero_sector}
use Rattle.pf_entry.specs.Sets
use Rattle.pf_entry.proofs.Sets.{contains-empty}
use Rattle.pf_protocol.proofs.ChosenKnown.{AppliedKnown, JobIs, IsCommitted, nobody_acked}
use Rattle.pf_protocol.proofs.LookBehinds.{Served}
use Rattle.pf_entry.specs.Applying.{is_applied, fold_to}
use Rattle.pf_protocol.proofs.Follows.{ServerIs, ConditionIs, Follows}
use Rattle.pf_entry.proofs.Cases.{by_test}

nothing_held : VoteLog
nothing_held = record { base = 0; starts = FinMap.empty; log = FinMap.empty }

first_ballot : Ballot
first_ballot = record { leader = 0; other = 1; base = 0; own = nothing_held; theirs = nothing_held }

nothing_taken : (s : ℕ) → taken 0 nothing_held nothing_held s ≡ None
unfolding taken left_of higher nothing_held
nothing_taken s = ap (λ o. higher (left_of 0 nothing_held nothing_held s o) (left_of 0 nothing_held nothing_held s o)) (get-empty nat_cmp s)

filter_none : (f : ℕ → Bool) → ((k : ℕ) → f k ≡ false) → (ks : List ℕ) → filter f ks ≡ []
filter_none f none [] = refl
filter_none f none (k ∷ ks) = cond-false (f k) _ _ (none k) ∙ filter_none f none ks

first_is_one : first_of first_ballot ≡ 1
unfolding first_ballot merged_first
first_is_one = ap (λ ks. suc (greatest 0 ks)) (filter_none (λ s. is_some (taken 0 nothing_held nothing_held s)) (λ k. ap is_some (nothing_taken k)) _)

-- every server votes for server 0 in term 1
pub opening_ballots : Setup → Ballots
opening_ballots setup = record {
  disk = λ i. opening_disk setup;
  vote = λ i t. cond (t == 1) (Some (record { to = 0; log = nothing_held })) None;
  ballot = λ t. cond (t == 1) (Some first_ballot) None;
  next = λ t. 1;
  proposal = λ s t. None;
  accepted = λ i s t. false;
}

nobody : (accepted : ℕ → ℕ → Bool) → ((s t : ℕ) → accepted s t ≡ false) → (ballot : ℕ → Option Ballot) (base below : ℕ) → Faithful accepted (λ s t. None) ballot (record { base = base; starts = FinMap.empty; log = FinMap.empty }) below
nobody accepted none ballot base below = record {
  keeps = λ s t is. absurd (false≢true (sym (none s t) ∙ is));
  keeps_starts = λ s t is. absurd (false≢true (sym (none s t) ∙ is));
  proposes = λ s e is. absurd (none-some e (sym (get-empty nat_cmp s) ∙ is));
  true_starts = λ t first is. absurd (none-some first (sym (get-empty nat_cmp t) ∙ is));
}

pub nothing_accepted : (setup : Setup) (i slot term : ℕ) → (opening_ballots setup).accepted i slot term ≡ true → ⊥
unfolding opening_ballots
nothing_accepted setup i slot term is = false≢true is

pub opening_sound : (setup : Setup) → Sound (opening_ballots setup)
unfolding opening_ballots opening_disk nothing_held first_ballot
opening_sound setup = record {
  disks = λ i. nobody (λ s t. false) (λ s t. refl) _ 0 2;
  votes = λ i t v is. let c = cond_some (t == 1) _ v is in subst (λ w. Faithful (λ s t. false) (λ s t. None) (opening_ballots setup).ballot w.log t) c.1 (nobody (λ s t. false) (λ s t. refl) _ 0 t);
  vote_terms = λ i t v is. let c = cond_some (t == 1) _ v is in omega (arith, eqb-true t 1 c.0);
  held_accepted = λ i s e is. absurd (none-some e (sym (get-empty nat_cmp s) ∙ is));
  accepted_proposed = λ i s t is. absurd (false≢true is);
  made = λ s t e is. absurd (none-some e is);
  quorums = λ t m is.
      let c = cond_some (t == 1) first_ballot m is in
      subst (λ x. HasQuorum (opening_ballots setup).vote (opening_ballots setup).next t x) c.1 (record {
        apart = grind arith;
        leader_below = omega arith;
        other_below = omega arith;
        own_vote = cond-true (t == 1) _ None c.0;
        other_vote = cond-true (t == 1) _ None c.0;
        own_base = le_refl 0;
        other_base = le_refl 0;
        begins = omega (arith, first_is_one);
      });
  complete = λ t m s is above low. absurd (omega (arith, above, low));
}

none_done : (slot : ℕ) → 0 < slot → is_applied 0 Sets.empty slot ≡ false
none_done slot above = ap (λ c. c || Sets.contains Sets.empty slot) (lt-leb slot 0 above) ∙ contains-empty slot

zeros_read : (n x : ℕ) (bytes : Sector) → slice_get (replicate n zero_sector) x ≡ Some bytes → bytes ≡ zero_sector
zeros_read zero x bytes is = absurd (grind arith)
zeros_read (suc n) zero bytes is = sym (same_Some _ bytes is)
zeros_read (suc n) (suc x) bytes is = zeros_read n x bytes is

fold_none : (ops : ℕ → Option Op) (done : ℕ → Bool) (x n : ℕ) → ((p : ℕ) → 0 < p → done p ≡ false) → fold_to ops done x zero_sector n ≡ zero_sector
fold_none ops done x zero none = refl
fold_none ops done x (suc n) none = cond-false (done (suc n)) _ _ (none (suc n) (omega arith)) ∙ fold_none ops done x n none

nothing_applied : (b : Ballots) (term chunk : ℕ) → AppliedKnown b term 0 Sets.empty (replicate chunk zero_sector)
nothing_applied b term chunk = record {
  known = λ slot above is. absurd (false≢true (sym (none_done slot above) ∙ is));
  passed = λ a p above low is isnt. absurd (false≢true (sym (none_done a (omega arith)) ∙ is));
  in_order = λ x n bytes ops at bound are. zeros_read chunk x bytes at ∙ sym (fold_none ops (is_applied 0 Sets.empty) x n none_done);
}

no_marks : (b : Ballots) (log : Map Entry) (slot : ℕ) → Sets.contains Sets.empty slot ≡ true → IsCommitted b log slot
no_marks b log slot is = absurd (false≢true (sym (contains-empty slot) ∙ is))

no_jobs : (b : Ballots) (term : ℕ) (done : ℕ → Bool) (slot : ℕ) (op : Op) → FinMap.get {R = nat_cmp} FinMap.empty slot ≡ Some op → JobIs b term done slot op
no_jobs b term done slot op is = absurd (none-some op (sym (get-empty nat_cmp slot) ∙ is))

pub opening_served : (setup : Setup) → Served (opening_ballots setup)
unfolding opening_ballots
opening_served setup = record {
  listed = λ s t e is. absurd (none-some e is);
  served = λ t m p is new low high. absurd (omega (arith, new, low, high));
}

pub opening_follows : (setup : Setup) → Follows (opening setup) (opening_ballots setup)
unfolding opening opening_ballots first_leader restarted opening_disk first_ballot
opening_follows setup = record { servers = each; packets = tt; acked = tt }
  where
    b : Ballots
    b = opening_ballots setup

    starts : (i : ℕ) (s : Server) → ServerIs (opening_ballots setup) i s → ConditionIs (opening_ballots setup) i (unless_failed setup i s)
    starts i s h = by_test (list_any (λ j. j == i) setup.failed) (λ c. ConditionIs (opening_ballots setup) i (if c then Unformatted else Running s)) (λ _. tt) (λ _. h)

    leads : ServerIs (opening_ballots setup) 0 (first_leader setup)
    leads = record {
      number = refl;
      disk = refl;
      role = record { merge = first_ballot; is = refl; leads = refl; has_first = sym first_is_one; has_next = refl; has_base = refl; base_low = le_refl 0 };
      knows = record {
        committed = no_marks b _;
        applied = nothing_applied b 1 setup.chunk;
        saved = nothing_applied b 1 setup.chunk;
        in_hand = no_jobs b 1 (is_applied 0 Sets.empty);
        role = (record { own = λ slot low high. absurd (omega (arith, low, high)); acks = λ j slot is above. absurd (nobody_acked j slot is) }, λ slot low high. absurd (omega (arith, low, high)));
        marks = (λ j slot apart is low. absurd (nobody_acked j slot is), λ slot low high. absurd (omega (arith, low, high)));
      };
    }

    follows : (i : ℕ) → ServerIs (opening_ballots setup) i (restarted i 0 (opening_disk setup))
    follows i = record {
      number = refl;
      disk = refl;
      role = tt;
      knows = record {
        committed = no_marks b _;
        applied = nothing_applied b 1 setup.chunk;
        saved = nothing_applied b 1 setup.chunk;
        in_hand = no_jobs b 1 (is_applied 0 Sets.empty);
        role = tt;
        marks = tt;
      };
    }

    each : (i : ℕ) (c : Condition) → slice_get (opening setup).servers i ≡ Some c → (i < 3) × ConditionIs (opening_ballots setup) i c
    each zero c is = (omega arith, subst (ConditionIs (opening_ballots setup) 0) (same_Some _ c is) (starts 0 (first_leader setup) leads))
    each (suc zero) c is = (omega arith, subst (ConditionIs (opening_ballots setup) 1) (same_Some _ c is) (starts 1 _ (follows 1)))
    each (suc (suc zero)) c is = (omega arith, subst (ConditionIs (opening_ballots setup) 2) (same_Some _ c is) (starts 2 _ (follows 2)))
    each (suc (suc (suc i))) c is = absurd (none-some c is)
