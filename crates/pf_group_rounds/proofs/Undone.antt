-- Jobs that are claimed and given back leave the group as it was.
use Rattle.std.proofs.Common.{◌≡◌, ℕ, zero, suc, Bool, true, false, not, ◌==◌, if◌then◌else◌, List, [], ◌∷◌, ◌++◌, map, Option, Some, None, slice_get, slice_set, refl, sym, ap, subst, ◌∙◌}
use Rattle.std.specs.FinMap
use Rattle.std.specs.FinMap.{get-empty, nat_cmp-IsAntisymmetric, same_map}
use Rattle.std.specs.Cmp.{nat_cmp_total}
use Rattle.std.specs.Ordering.{nat_cmp}
use Rattle.std.proofs.lemmas.Bool.{not-true}
use Rattle.std.proofs.lemmas.List.{append-nil}
use Rattle.std.proofs.lemmas.Option.{none-some, same_Some}
use Rattle.pf_entry.specs.Lists.{Every}
use Rattle.pf_entry.proofs.Lists.{every_filter, every_more, every_of_all}
use Rattle.pf_entry.specs.Maps.{Map}
use Rattle.pf_entry.specs.Records.{Durable}
use Rattle.pf_entry.specs.declared.ops.Op.{Op}
use Rattle.pf_protocol.specs.declared.answers.Answer.{Answer}
use Rattle.pf_protocol.specs.declared.answers.Answer.TheVariants.{Done}
use Rattle.pf_protocol.specs.declared.events.Event.{Event}
use Rattle.pf_protocol.specs.declared.events.Event.TheVariants.{Claim, GiveBack}
use Rattle.pf_protocol.specs.Servers.{Setup, Server, Condition, Read, Running, Stopped, Unformatted}
use Rattle.pf_protocol.specs.Outcomes.{sends}
use Rattle.pf_protocol.specs.Rows.{is_ready, settled}
use Rattle.pf_protocol.specs.Saving.{claimed, on_give_back, restarted}
use Rattle.pf_protocol.specs.Groups.{Group, Ending, Whole, CutOff, Missed, Untouched, acted, answer_of, claim_at, least_claim, claim_or, ending, first_claim, first_leader, happens, only_whole, opening, server_step_of}
use Rattle.pf_protocol.specs.Histories.{History, RunsAs, replay, run}
use Rattle.pf_protocol.specs.Answers.{Claimed, IsAnswer, IsLegal, IsLegalFrom, answer_to, claims_after, claims_of, may_halt}
use Rattle.pf_protocol.proofs.ForMoments.{Came, Stays, Stepped, Begins, Claims, goes, opened, run_parts, legal_before}
use Rattle.pf_group_rounds.specs.Begun.{IsClaimOrReturn}
use Rattle.pf_group_rounds.proofs.Filters.{filter_all, filter_none}
use Rattle.pf_group_rounds.proofs.Bound.{answer_is, legal_rest}
use Rattle.pf_group_rounds.proofs.InHand.{none_in_hand}

-- no read waits that could be answered
abbrev IsSettled : Server → Type 0
IsSettled s = Every (λ r. is_ready s r ≡ false) s.reads

abbrev AllSettled : Group → Type 0
AllSettled g = (i : ℕ) (s : Server) → RunsAs g i s → IsSettled s

settled_is : (s : Server) → IsSettled (settled s)
unfolding settled
settled_is s = every_filter (λ r. is_ready s r ≡ false) (λ r. not (is_ready s r)) s.reads (every_of_all (λ r. not (is_ready s r) ≡ true → is_ready s r ≡ false) s.reads (λ r unready. not-true (is_ready s r) unready))

claimed_settled : (s : Server) (slot : ℕ) → IsSettled s → IsSettled (claimed s slot)
unfolding claimed
claimed_settled s slot is = is

restarted_settled : (i life : ℕ) (d : Durable) → IsSettled (restarted i life d)
unfolding restarted
restarted_settled i life d = tt

next_settled : (setup : Setup) (g : Group) (event : Event) (how : Ending) → AllSettled g → AllSettled (happens setup g event how)
next_settled setup g event how all i z at = came i z ((goes setup g event how).servers i z at)
  where
    came : (i : ℕ) (z : Server) → Came setup g event (happens setup g event how) i z → IsSettled z
    came i _ (Stays s runs) = all i s runs
    came i _ (Stepped s o step) = settled_is o.server
    came i _ (Begins life d) = restarted_settled i life d
    came i _ (Claims s slot runs) = claimed_settled s slot (all i s runs)

run_settled : (setup : Setup) (g : Group) (history : History) → AllSettled g → AllSettled (run setup g history)
run_settled setup g [] all = all
run_settled setup g (h ∷ hs) all = run_settled setup (happens setup g h.event (ending h.answer)) hs (next_settled setup g h.event (ending h.answer) all)

opening_settled : (setup : Setup) → AllSettled (opening setup)
unfolding first_leader restarted
opening_settled setup = opened setup IsSettled tt (λ i. tt)

-- a server, but for the jobs in its hand
abbrev idle : Condition → Condition
idle (Running s) = Running (record s { in_hand = FinMap.empty })
idle (Stopped life before after) = Stopped life before after
idle Unformatted = Unformatted

-- two groups are the same but for the jobs in hand
record AreAlike (g h : Group) : Type 0 where
  servers : map idle h.servers ≡ map idle g.servers
  packets : h.packets ≡ g.packets
  acked : h.acked ≡ g.acked
  answered : h.answered ≡ g.answered
  elections : h.elections ≡ g.elections
  reads : h.reads ≡ g.reads

alike : (g : Group) → AreAlike g g
alike g = record { servers = refl; packets = refl; acked = refl; answered = refl; elections = refl; reads = refl }

alike_on : (g h k : Group) → AreAlike g h → AreAlike h k → AreAlike g k
alike_on g h k a b = record {
  servers = b.servers ∙ a.servers;
  packets = b.packets ∙ a.packets;
  acked = b.acked ∙ a.acked;
  answered = b.answered ∙ a.answered;
  elections = b.elections ∙ a.elections;
  reads = b.reads ∙ a.reads;
}

-- an element changed to one that the function takes to the same
map_kept : {X Y : Type 0} → (f : X → Y) (xs : List X) (i : ℕ) (x y : X) → slice_get xs i ≡ Some x → f y ≡ f x → map f (slice_set xs i y) ≡ map f xs
map_kept f [] i x y at same = absurd (none-some x at)
map_kept f (z ∷ zs) zero x y at same = ap (λ a. a ∷ map f zs) (same ∙ ap f (sym (same_Some z x at)))
map_kept f (z ∷ zs) (suc i) x y at same = ap (λ rest. f z ∷ rest) (map_kept f zs i x y at same)

claimed_idle : (s : Server) (slot : ℕ) → idle (Running (claimed s slot)) ≡ idle (Running s)
unfolding claimed
claimed_idle s slot = refl

module _ (g : Group) where
  claim_alike : (i : ℕ) (c : Option Condition) (slot : Option ℕ) → slice_get g.servers i ≡ c → AreAlike g (claim_at g i c slot)
  claim_alike i (Some (Running s)) (Some slot) at = record { servers = map_kept idle g.servers i (Running s) (Running (claimed s slot)) at (claimed_idle s slot); packets = refl; acked = refl; answered = refl; elections = refl; reads = refl }
  claim_alike i (Some (Running s)) None at = alike g
  claim_alike i (Some (Stopped life before after)) slot at = alike g
  claim_alike i (Some Unformatted) slot at = alike g
  claim_alike i None slot at = alike g

  claim_or_alike : (i : ℕ) (slot : Option ℕ) (rest : Group) → AreAlike g rest → AreAlike g (claim_or g i slot rest)
  claim_or_alike i None rest is = is
  claim_or_alike i (Some slot) rest is = claim_alike i (slice_get g.servers i) (Some slot) refl

  claims_alike : (window : ℕ) (is : List ℕ) → AreAlike g (first_claim window g is)
  claims_alike window [] = alike g
  claims_alike window (i ∷ is) = claim_or_alike i (least_claim window (slice_get g.servers i)) (first_claim window g is) (claims_alike window is)

  only_alike : (how : Ending) (after : Group) → AreAlike g after → AreAlike g (only_whole how g after)
  only_alike Whole after is = is
  only_alike CutOff after is = alike g
  only_alike Missed after is = alike g
  only_alike Untouched after is = alike g

-- a step of a server that changes only what is in hand answers no read
module _ (g : Group) (i : ℕ) (s : Server) (at : slice_get g.servers i ≡ Some (Running s)) (is : IsSettled s) where
  jobs_alike : (jobs : Map Op) → AreAlike g (acted g i (sends (record s { in_hand = jobs }) []))
  unfolding acted settled
  jobs_alike jobs =
      let z : Server = record s { in_hand = jobs } in
      let unready : Every (λ r. not (is_ready s r) ≡ true) s.reads = every_more (λ r. is_ready s r ≡ false) (λ r. not (is_ready s r) ≡ true) (λ r no. ap not no) s.reads is in
      record {
        servers = map_kept idle g.servers i (Running s) (Running (settled z)) at (ap (λ (reads : List Read). Running (record s { in_hand = FinMap.empty; reads = reads })) (filter_all (λ r. not (is_ready s r)) s.reads unready));
        packets = append-nil g.packets;
        acked = append-nil g.acked;
        answered = ap (λ ready. g.answered ++ map (answer_of z) ready) (filter_none (is_ready s) s.reads is) ∙ append-nil g.answered;
        elections = refl;
        reads = refl;
      }

return_alike : (g : Group) → AllSettled g → (i life slot : ℕ) (c : Option Condition) → slice_get g.servers i ≡ c → AreAlike g (server_step_of Whole g i c (λ s. on_give_back s life slot))
unfolding on_give_back
return_alike g all i life slot (Some (Running s)) at = by (life == s.life)
  where
    by : (b : Bool) → AreAlike g (acted g i (if b then sends (record s { in_hand = FinMap.remove s.in_hand slot }) [] else sends s []))
    by true = jobs_alike g i s at (all i s at) (FinMap.remove s.in_hand slot)
    by false = jobs_alike g i s at (all i s at) s.in_hand
return_alike g all i life slot (Some (Stopped l before after)) at = alike g
return_alike g all i life slot (Some Unformatted) at = alike g
return_alike g all i life slot None at = alike g

step_alike : (setup : Setup) (g : Group) (event : Event) (answer : Answer) → AllSettled g → IsClaimOrReturn event → IsAnswer setup g event answer → AreAlike g (happens setup g event (ending answer))
unfolding happens answer_to may_halt
step_alike setup g Claim answer all kind is = only_alike g (ending answer) (first_claim setup.window g (0 ∷ 1 ∷ 2 ∷ [])) (claims_alike g setup.window (0 ∷ 1 ∷ 2 ∷ []))
step_alike setup g (GiveBack i life slot) answer all kind is =
    subst (λ a. AreAlike g (server_step_of (ending a) g i (slice_get g.servers i) (λ s. on_give_back s life slot))) (sym (answer_is answer Done is)) (return_alike g all i life slot (slice_get g.servers i) refl)
step_alike setup g event answer all kind is = absurd kind

run_alike : (setup : Setup) (g : Group) (claims : List Claimed) (more : History) → AllSettled g → IsLegalFrom setup g claims more → Every (λ h. IsClaimOrReturn h.event) more → AreAlike g (run setup g more)
run_alike setup g claims [] all legal kinds = alike g
run_alike setup g claims (h ∷ hs) all legal kinds =
    let next = happens setup g h.event (ending h.answer) in
    alike_on g next (run setup next hs) (step_alike setup g h.event h.answer all kinds.0 legal.0.answered)
    (run_alike setup next (claims_after claims h.event h.answer) hs (next_settled setup g h.event (ending h.answer) all) legal.1 kinds.1)

-- where nothing is in hand, the servers are idle
all_idle : (cs : List Condition) → ((i : ℕ) (s : Server) → slice_get cs i ≡ Some (Running s) → (slot : ℕ) → FinMap.get s.in_hand slot ≡ None) → map idle cs ≡ cs
all_idle [] none = refl
all_idle (c ∷ cs) none = ap (λ x. x ∷ map idle cs) (here c (λ s same. none 0 s (ap Some same))) ∙ ap (λ rest. c ∷ rest) (all_idle cs (λ i. none (suc i)))
  where
    here : (c : Condition) → ((s : Server) → c ≡ Running s → (slot : ℕ) → FinMap.get s.in_hand slot ≡ None) → idle c ≡ c
    here (Running s) free = ap (λ jobs. Running (record s { in_hand = jobs })) (same_map nat_cmp_total nat_cmp-IsAntisymmetric FinMap.empty s.in_hand (λ slot. get-empty nat_cmp slot ∙ sym (free s refl slot)))
    here (Stopped life before after) free = refl
    here Unformatted free = refl

legal_idle : (setup : Setup) (history : History) → IsLegal setup history → claims_of [] history ≡ [] → map idle (replay setup history).servers ≡ (replay setup history).servers
legal_idle setup history legal none = all_idle (replay setup history).servers (λ i s runs. none_in_hand setup history i s legal none runs)

same_group : (g h : Group) → AreAlike g h → map idle g.servers ≡ g.servers → map idle h.servers ≡ h.servers → h ≡ g
same_group g h a first second =
    let servers = sym second ∙ a.servers ∙ first in
    λ i. record { servers = servers i; packets = a.packets i; acked = a.acked i; answered = a.answered i; elections = a.elections i; reads = a.reads i }

-- claims and jobs that came back, with none in hand before or after, changed nothing
pub undone : (setup : Setup) (history more : History) → IsLegal setup (history ++ more) → Every (λ h. IsClaimOrReturn h.event) more → claims_of [] history ≡ [] → claims_of [] (history ++ more) ≡ [] → replay setup (history ++ more) ≡ replay setup history
undone setup history more legal kinds before after =
    let g = replay setup history in
    let was = legal_before setup history (history ++ more) (record { rest = more; whole = refl }) legal in
    let same = run_alike setup g (claims_of [] history) more (run_settled setup (opening setup) history (opening_settled setup)) (legal_rest setup history more (opening setup) [] legal.legal) kinds in
    same_group g (replay setup (history ++ more)) (subst (AreAlike g) (sym (run_parts setup (opening setup) history more)) same) (legal_idle setup history was before) (legal_idle setup (history ++ more) legal after)
