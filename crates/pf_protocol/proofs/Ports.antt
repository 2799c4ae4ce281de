-- A port's writes are chosen in the order in which it asked them.
use Rattle.std.proofs.Common.{◌≡◌, ℕ, suc, ◌<◌, ◌≤◌, ◌≢◌, inl, inr, Bool, List, [], ◌∷◌, ◌++◌, Option, Some, None, slice_get, arith, refl, sym, ap, subst, ◌∙◌}
use Rattle.std.proofs.lemmas.Bool.{cases_lt, cases_eq}
use Rattle.std.proofs.lemmas.Option.{same_Some}
use Rattle.std.proofs.lemmas.List.{append_assoc, append-nil}
use Rattle.pf_entry.proofs.Lists.{every_get, set_there}
use Rattle.pf_entry.specs.declared.ops.Op.{Op}
use Rattle.pf_entry.specs.declared.entries.Entry.{Entry}
use Rattle.pf_entry.specs.declared.entries.VoteLog.{VoteLog}
use Rattle.pf_entry.specs.Entries.{EntryIsNew}
use Rattle.pf_entry.specs.Merging.{merged_first, merged_entry}
use Rattle.pf_entry.proofs.MergedEntries.{taken_below_first}
use Rattle.pf_entry.specs.Records.{Durable}
use Rattle.pf_protocol.specs.declared.answers.Answer.{Answer}
use Rattle.pf_protocol.specs.declared.events.Event.TheVariants.{Submit}
use Rattle.pf_protocol.specs.declared.events.Happening.{Happening}
use Rattle.pf_protocol.specs.Servers.{Setup, Leader, Serving, Server, Condition, Running, Stopped, Unformatted, has_applied}
use Rattle.pf_protocol.specs.Outcomes.{Outcome}
use Rattle.pf_protocol.specs.Leading.{new_entry}
use Rattle.pf_protocol.specs.Groups.{Acked, Group, Ending, Whole, CutOff, Missed, Untouched, TookPlace, cut_off, server_step_of, ending, happens, opening}
use Rattle.pf_protocol.specs.Histories.{History, IsPrefix, replay, RunsAs, IsProposal, IsChosen, HasOrigin, Itself, Through}
use Rattle.pf_protocol.specs.Safety.{is_leading}
use Rattle.pf_protocol.specs.Ports.{Submission, submitting, IsTarget, IsCopy, WriteHasEnded, FollowsRule, ComesFrom, IsOrdered}
use Rattle.pf_protocol.proofs.Ballots.{first_of}
use Rattle.pf_protocol.proofs.Law.{kept_at}
use Rattle.pf_protocol.proofs.ChosenKnown.{IsAcked}
use Rattle.pf_protocol.proofs.Follows.{IsLeader, RoleIs}
use Rattle.pf_protocol.proofs.Moments.{run_longer, prefix_of, begins_with, whole_prefix}
use Rattle.pf_protocol.proofs.Histories.{told, held_at_end, chosen_at_end, chosen_in_history, chosen_entry, one_leader}
use Rattle.pf_protocol.proofs.Origins.{taken_is_proposal}
use Rattle.pf_protocol.proofs.NamedSlots.{nothing_old}
use Rattle.pf_protocol.proofs.Snapshots.{chosen_after}
use Rattle.pf_protocol.proofs.ReadLives.{term_low, StaysIn, came_stays, gone, to_now, traced}

-- a server that was cut off does not run
module _ (setup : Setup) (g : Group) (i : ℕ) (op : Op) (s z : Server) where
  stops_here : (c : Option Condition) (rule : Server → Outcome) → slice_get g.servers i ≡ c → c ≡ Some (Running s) → RunsAs (server_step_of CutOff g i c rule) i z → ⊥
  unfolding cut_off
  stops_here (Some (Running x)) rule at is runs = not_running (same_Some _ _ (sym (set_there g.servers i (Running x) (Stopped (suc x.life) x.durable (rule x).server.durable) at) ∙ runs))
    where
      not_running : {life : ℕ} {before after : Durable} → Stopped life before after ≡ Running z → ⊥
      not_running e = grind (arith, e)
  stops_here (Some (Stopped life before after)) rule at is runs = grind (arith, is)
  stops_here (Some Unformatted) rule at is runs = grind (arith, is)
  stops_here None rule at is runs = grind (arith, is)

  cut_stops : RunsAs g i s → RunsAs (happens setup g (Submit i op) CutOff) i z → ⊥
  unfolding happens
  cut_stops at runs = stops_here (slice_get g.servers i) _ refl at runs

-- a leader that was cut off never serves in its term again
abbrev Never : (ℕ → Bool) → Leader → Type 0
Never done l = ⊥

module _ (setup : Setup) (first : History) (i : ℕ) (x : Server) (runs : RunsAs (replay setup first) i x) where
  abbrev Silent : History → Type 0
  Silent history = (z : Server) → RunsAs (replay setup history) i z → z.durable.term ≡ x.durable.term → StaysIn Never (has_applied z) z.role

  silent_next : (history : History) (h : Happening) → IsPrefix first history → Silent history → Silent (history ++ h ∷ [])
  silent_next history h p is z at in_term =
      came_stays setup history h (traced setup history) Never (λ l l2 done more acks grow never. never) i x.durable.term (λ s there. term_low setup first history p i x s runs there) is z
      ((gone setup history h (traced setup history)).servers i z (to_now setup history h (traced setup history) i z at)) in_term

  silent : (done rest : History) → IsPrefix first done → Silent done → Silent (done ++ rest)
  silent done [] p is = subst Silent (sym (append-nil done)) is
  silent done (h ∷ hs) p is =
      subst Silent (append_assoc done (h ∷ []) hs) (silent (done ++ h ∷ []) hs (prefix_of first done (done ++ h ∷ []) p (record { rest = h ∷ []; whole = refl })) (silent_next done h p is))

pub never_again : (setup : Setup) (first later : History) (i : ℕ) (op : Op) (answer : Answer) (x z : Server) (l : Leader) → RunsAs (replay setup first) i x → ending answer ≡ CutOff → IsPrefix (first ++ record { event = Submit i op; answer = answer } ∷ []) later → RunsAs (replay setup later) i z → z.durable.term ≡ x.durable.term → z.role ≡ Serving l → ⊥
never_again setup first later i op answer x z l runs cut p at in_term serves =
    let h : Happening = record { event = Submit i op; answer = answer } in
    let begin : Silent setup first i x runs (first ++ record { event = Submit i op; answer = answer } ∷ []) = λ y there same. absurd (cut_stops setup (replay setup first) i op x y runs
    (ap (λ g. slice_get g.servers i) (ap (happens setup (replay setup first) (Submit i op)) (sym cut) ∙ sym (run_longer setup (opening setup) first (record { event = Submit i op; answer = answer }))) ∙ there)) in
    let is : Silent setup first i x runs later = subst (Silent setup first i x runs) p.whole (silent setup first i x runs (first ++ record { event = Submit i op; answer = answer } ∷ []) p.rest (record { rest = record { event = Submit i op; answer = answer } ∷ []; whole = refl }) begin) in
    subst (StaysIn Never (has_applied z)) serves (is z at in_term)

-- an acknowledged slot is chosen in its own term, as a new entry
pub record NewChosen (setup : Setup) (history : History) (slot term : ℕ) : Type 0 where
  pub op : Op
  pub chosen : IsChosen setup history slot term op
  pub is_new : EntryIsNew chosen.entry

pub acked_chosen : (setup : Setup) (history : History) (k : ℕ) (a : Acked) → slice_get (replay setup history).acked k ≡ Some a → NewChosen setup history a.slot a.term
acked_chosen setup history k a at =
    let t = told setup history in
    let h = every_get (λ a. IsAcked (told setup history).ballots a.term a.slot) (replay setup history).acked k a (told setup history).follows.acked at in
    let made = t.sound.made a.slot a.term h.entry h.chosen.is in
    let same_m : made.merge ≡ h.merge = same_Some made.merge h.merge (sym made.is ∙ h.leads) in
    let new : EntryIsNew h.entry = omega (arith, made.has_first, ap first_of same_m, h.is_new, made.in_slot) in
    record { op = h.entry.op; chosen = chosen_in_history setup history a.slot a.term h.entry h.chosen; is_new = subst EntryIsNew (sym (chosen_entry setup history a.slot a.term h.entry h.chosen)) new }

pub new_slot : (names : ℕ) (s : Server) (l : Leader) (op : Op) → ((new_entry names s l op).slot ≡ l.next) × ((new_entry names s l op).term ≡ s.durable.term) × ((new_entry names s l op).first ≡ l.first)
unfolding new_entry
new_slot names s l op = (refl, refl, refl)

pub merged_fields : (term base : ℕ) (own other : VoteLog) (slot : ℕ) → ((merged_entry term base own other slot).first ≡ merged_first base own other) × ((merged_entry term base own other slot).term ≡ term)
unfolding merged_entry
merged_fields term base own other slot = (refl, refl)

proposed_at_end : (setup : Setup) (history : History) (e : Entry) → IsProposal setup history e → (told setup history).ballots.proposal e.slot e.term ≡ Some e
proposed_at_end setup history e p = (held_at_end setup history p.leader e p.recorded).proposed

-- all entries of a term begin at its first new slot
same_first : (setup : Setup) (history : History) (e d : Entry) → IsProposal setup history e → IsProposal setup history d → e.term ≡ d.term → e.first ≡ d.first
same_first setup history e d p q same =
    let t = told setup history in
    let x = t.sound.made e.slot e.term e (proposed_at_end setup history e p) in
    let y = t.sound.made d.slot d.term d (proposed_at_end setup history d q) in
    let same_m : x.merge ≡ y.merge = same_Some x.merge y.merge (sym x.is ∙ ap t.ballots.ballot same ∙ y.is) in
    x.has_first ∙ ap first_of same_m ∙ sym y.has_first

-- a later leader begins above what was chosen
pub chosen_below_first : (setup : Setup) (history : History) (slot term : ℕ) (op : Op) → IsChosen setup history slot term op → (e : Entry) → IsProposal setup history e → term < e.term → slot < e.first
chosen_below_first setup history slot term op c e p later =
    let t = told setup history in
    let x = t.sound.made e.slot e.term e (proposed_at_end setup history e p) in
    omega (arith, kept_at t.ballots t.sound slot term c.entry (chosen_at_end setup history slot term op c) e.term x.merge later x.is, x.has_first)

pub origin_proposal : (setup : Setup) (history : History) (e origin : Entry) → HasOrigin setup history e origin → IsProposal setup history e × IsProposal setup history origin × (origin.slot ≡ e.slot) × EntryIsNew origin
origin_proposal setup history _ _ (Itself e is new) = (is, is, refl, new)
origin_proposal setup history _ _ (Through e from origin is k rest) =
    let r = origin_proposal setup history from origin rest in
    let from_slot = (taken_is_proposal setup k.earlier k.leader k.k k.server k.sent k.own k.other e.slot from k.runs k.merge k.is_taken).0 in
    (is, r.1, r.2 ∙ from_slot, r.3)

-- nothing comes from a term below one in which a new entry was chosen, from that term's first new slot on
module _ (setup : Setup) (history : History) (q term : ℕ) (new : NewChosen setup history q term) where
  no_older_origin : (e origin : Entry) → HasOrigin setup history e origin → term ≤ e.term → origin.term < term → new.chosen.entry.first ≤ e.slot → ⊥
  no_older_origin _ _ (Itself e is is_new) le older reaches = omega (arith, le, older)
  no_older_origin _ _ (Through e from origin is k rest) le older reaches =
      elim (cases_lt from.term term) [
        | inl below ↦ elim (cases_lt term e.term) [
          | inl above ↦ omega (arith, below, nothing_old setup history q term new.op new.chosen new.is_new e from k above reaches)
          | inr not_above ↦
              let fields = merged_fields k.server.durable.term k.server.durable.base k.own k.other e.slot in
              let first : e.first ≡ merged_first k.server.durable.base k.own k.other = ap (λ x. x.first) k.is_merged ∙ fields.0 in
              let same : e.first ≡ new.chosen.entry.first = same_first setup history e new.chosen.entry is new.chosen.proposed (omega (arith, not_above, le, new.chosen.in_term)) in
              omega (arith, taken_below_first k.server.durable.base k.own k.other e.slot from k.is_taken, first, same, reaches)
        ]
        | inr not_below ↦
            let from_slot = (taken_is_proposal setup k.earlier k.leader k.k k.server k.sent k.own k.other e.slot from k.runs k.merge k.is_taken).0 in
            no_older_origin from origin rest not_below older (omega (arith, reaches, from_slot))
      ]

new_chosen_after : (setup : Setup) (earlier history : History) (p : IsPrefix earlier history) (slot term : ℕ) → NewChosen setup earlier slot term → NewChosen setup history slot term
unfolding chosen_after
new_chosen_after setup earlier history p slot term n = record { op = n.op; chosen = chosen_after setup earlier history p slot term n.op n.chosen; is_new = n.is_new }

-- the slot of an earlier acknowledgement in its own term is below the leader's next one
next_above : (setup : Setup) (now : History) (k : ℕ) (a : Acked) (i : ℕ) (z : Server) (l : Leader) → slice_get (replay setup now).acked k ≡ Some a → RunsAs (replay setup now) i z → z.role ≡ Serving l → z.durable.term ≡ a.term → a.slot < l.next
next_above setup now k a i z l at runs serves same =
    let t = told setup now in
    let h = every_get (λ a. IsAcked (told setup now).ballots a.term a.slot) (replay setup now).acked k a (told setup now).follows.acked at in
    let made = t.sound.made a.slot a.term h.entry h.chosen.is in
    let x = (t.follows.servers i (Running z) runs).1 in
    let lead : IsLeader t.ballots.ballot t.ballots.next i z.durable l = subst (RoleIs t.ballots.vote t.ballots.ballot t.ballots.next i z.durable) serves x.role in
    omega (arith, made.is_below, lead.has_next, ap t.ballots.next same)

-- a submission has one target
pub same_next_of : (setup : Setup) (a : Submission) (x y : IsTarget setup a) → x.leader.next ≡ y.leader.next
same_next_of setup a x y = ap (λ l. l.next) (same_leader x.leader y.leader (sym x.serves ∙ ap (λ s. s.role) (same_server x.server y.server (same_Some _ _ (sym x.runs ∙ y.runs))) ∙ y.serves))
  where
    same_server : (s z : Server) → Running s ≡ Running z → s ≡ z
    same_server s z e = cc

    same_leader : (l m : Leader) → Serving l ≡ Serving m → l ≡ m
    same_leader l m e = cc

next_of : (setup : Setup) (a c : Submission) → a ≡ c → (x : IsTarget setup a) (y : IsTarget setup c) → x.leader.next ≡ y.leader.next
next_of setup a c same x y = subst (λ d. (z : IsTarget setup d) → x.leader.next ≡ z.leader.next) same (λ z. same_next_of setup a x z) y

took_cut : (how : Ending) → TookPlace how → how ≢ Whole → how ≡ CutOff
took_cut Whole took not_whole = absurd (not_whole refl)
took_cut CutOff took not_whole = refl
took_cut Missed took not_whole = absurd took
took_cut Untouched took not_whole = absurd took

module _ (setup : Setup) (history : History) (port : List Submission) (rule : FollowsRule setup history port) (j : ℕ) (a : Submission) (at_j : slice_get port j ≡ Some a) (now : History) (now_before : IsPrefix now history) (ended : WriteHasEnded setup port now a.write) where
  -- where the write was acknowledged
  picked : NewChosen setup history ended.answered.acked.slot ended.answered.acked.term
  picked = new_chosen_after setup now history now_before ended.answered.acked.slot ended.answered.acked.term (acked_chosen setup now ended.answered.k ended.answered.acked ended.answered.at)

  -- its other copies are of lower terms
  copies_lower : (e : Entry) → IsCopy setup a e → e.slot ≢ ended.answered.acked.slot → e.term < ended.answered.acked.term
  copies_lower e copy apart =
      let fields = new_slot setup.names copy.target.server copy.target.leader a.op in
      let e_slot : e.slot ≡ copy.target.leader.next = ap (λ x. x.slot) copy.is ∙ fields.0 in
      let e_term : e.term ≡ copy.target.server.durable.term = ap (λ x. x.term) copy.is ∙ fields.1 in
      elim (cases_eq j ended.m) [
        | inl same ↦ absurd (apart (e_slot ∙ same_next copy.target (same_Some a ended.final (sym at_j ∙ ap (slice_get port) same ∙ ended.at)) ∙ sym ended.answered.in_slot))
        | inr other ↦
            let less : j < ended.m = omega (arith, other, ended.no_later j a at_j refl) in
            let low = rule.no_lower j ended.m a ended.final at_j ended.at less copy.target ended.answered.target in
            elim (cases_lt e.term ended.answered.acked.term) [
              | inl lower ↦ lower
              | inr not_lower ↦
                  let same_term : copy.target.server.durable.term ≡ ended.answered.target.server.durable.term = omega (arith, not_lower, e_term, ended.answered.in_term, low) in
                  let cut = took_cut (ending a.answer) copy.took_place (rule.again j ended.m a ended.final at_j ended.at less (sym ended.same) copy.target ended.answered.target same_term) in
                  absurd (cut_again less cut copy.target same_term)
            ]
      ]
    where
      same_next : (x : IsTarget setup a) → a ≡ ended.final → x.leader.next ≡ ended.answered.target.leader.next
      same_next x same = next_of setup a ended.final same x ended.answered.target

      cut_again : j < ended.m → ending a.answer ≡ CutOff → (x : IsTarget setup a) → x.server.durable.term ≡ ended.answered.target.server.durable.term → ⊥
      cut_again less cut x same_term =
          let y = ended.answered.target in
          let p = rule.in_order j ended.m a ended.final at_j ended.at less in
          let first = begins_with a.before ended.final.before (submitting a) p in
          let it : ended.final.server ≡ a.server = one_leader setup ended.final.before ended.final.before a.before ended.final.server a.server y.server x.server (whole_prefix ended.final.before) first y.runs x.runs (ap is_leading y.serves) (ap is_leading x.serves) (sym same_term) in
          never_again setup a.before ended.final.before a.server a.op a.answer x.server y.server y.leader x.runs cut p (ap (slice_get (replay setup ended.final.before).servers) (sym it) ∙ y.runs) (sym same_term) y.serves

  -- no copy of an acknowledged write is chosen above the slot in which it was acknowledged
  pub not_over : (high : ℕ) → ComesFrom setup history high a → ended.answered.acked.slot < high → ⊥
  not_over high fa over =
      let y = origin_proposal setup history fa.chosen.entry fa.origin fa.comes in
      let lower = copies_lower fa.origin fa.copy (λ same. omega (arith, same, y.2, fa.chosen.in_slot, over)) in
      let begins : picked.chosen.entry.first ≤ ended.answered.acked.slot = omega (arith, picked.is_new, picked.chosen.in_slot) in
      elim (cases_lt fa.term ended.answered.acked.term) [
        | inl before_it ↦ omega (arith, chosen_below_first setup history high fa.term fa.op fa.chosen picked.chosen.entry picked.chosen.proposed (omega (arith, before_it, picked.chosen.in_term)), begins, over)
        | inr not_before ↦ no_older_origin setup history ended.answered.acked.slot ended.answered.acked.term picked fa.chosen.entry fa.origin fa.comes (omega (arith, not_before, fa.chosen.in_term)) lower (omega (arith, begins, over, fa.chosen.in_slot))
      ]

module _ (setup : Setup) (history : History) (port : List Submission) (rule : FollowsRule setup history port) (j : ℕ) (a b : Submission) (at_j : slice_get port j ≡ Some a) (happened : IsPrefix (b.before ++ submitting b ∷ []) history) (ended : WriteHasEnded setup port b.before a.write) where
  b_before : IsPrefix b.before history
  b_before = begins_with b.before history (submitting b) happened

  above : NewChosen setup history ended.answered.acked.slot ended.answered.acked.term
  above = picked setup history port rule j a at_j b.before (begins_with b.before history (submitting b) happened) ended

  -- the later write's copies are above the acknowledged one
  later_above : (e : Entry) → IsProposal setup history e → EntryIsNew e → (copy : IsCopy setup b e) → ended.answered.target.server.durable.term ≤ copy.target.server.durable.term → ended.answered.acked.slot < e.slot
  later_above e p new copy low =
      let y = copy.target in
      let fields = new_slot setup.names y.server y.leader b.op in
      let e_slot : e.slot ≡ y.leader.next = ap (λ x. x.slot) copy.is ∙ fields.0 in
      let e_term : e.term ≡ y.server.durable.term = ap (λ x. x.term) copy.is ∙ fields.1 in
      elim (cases_lt ended.answered.acked.term e.term) [
        | inl later ↦ omega (arith, chosen_below_first setup history ended.answered.acked.slot ended.answered.acked.term above.op above.chosen e p later, new)
        | inr not_later ↦
            let same : y.server.durable.term ≡ ended.answered.acked.term = omega (arith, not_later, e_term, ended.answered.in_term, low) in
            omega (arith, next_above setup b.before ended.answered.k ended.answered.acked b.server y.server y.leader ended.answered.at y.runs y.serves same, e_slot)
      ]

  -- so no copy of the earlier write is chosen in the slot of a copy of the later one, or above it
  pub not_from : (low high : ℕ) (fb : ComesFrom setup history low b) → ComesFrom setup history high a → ended.answered.target.server.durable.term ≤ fb.copy.target.server.durable.term → low ≤ high → ⊥
  not_from low high fb fa le reaches =
      let x = origin_proposal setup history fb.chosen.entry fb.origin fb.comes in
      let beyond = later_above fb.origin x.1 x.3 fb.copy le in
      not_over setup history port rule j a at_j b.before b_before ended high fa (omega (arith, beyond, x.2, fb.chosen.in_slot, reaches))

-- the write that was asked earlier had its last submission earlier
final_first : (setup : Setup) (history : History) (port : List Submission) (rule : FollowsRule setup history port) (k : ℕ) (a b : Submission) → slice_get port k ≡ Some b → a.write < b.write → (ended : WriteHasEnded setup port b.before a.write) → ended.m < k
final_first setup history port rule k a b at_k earlier ended =
    elim (cases_eq k ended.m) [
      | inl same ↦ absurd (omega (arith, earlier, ended.same, ap (λ d. d.write) (same_Some b ended.final (sym at_k ∙ ap (slice_get port) same ∙ ended.at))))
      | inr apart ↦ elim (cases_lt k ended.m) [
        | inl later ↦ absurd (omega (arith, earlier, ended.same, rule.ascends k ended.m b ended.final at_k ended.at later))
        | inr not_later ↦ omega (arith, apart, not_later)
      ]
    ]

-- every port, and no slot is of two of its writes
pub ordered : (setup : Setup) (history : History) (port : List Submission) → FollowsRule setup history port → IsOrdered setup history port
ordered setup history port rule j k a b first second at_j at_k earlier fa fb =
    let ended = rule.waits j k a b at_j at_k earlier in
    let le = rule.no_lower ended.m k ended.final b ended.at at_k (final_first setup history port rule k a b at_k earlier ended) ended.answered.target fb.copy.target in
    elim (cases_lt first second) [
      | inl below ↦ below
      | inr not_below ↦ absurd (not_from setup history port rule j a b at_j (rule.happened k b at_k) ended second first fb fa le not_below)
    ]
