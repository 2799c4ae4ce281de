-- A leader that proposes an op.
use Rattle.std.proofs.Common.{◌≡◌, ℕ, suc, ◌+◌, ◌<◌, ◌≤◌, Bool, true, false, not, ◌&&◌, ◌==◌, Option, Some, nat_lt, length, arith, refl, sym, ap, subst, ◌∙◌, List}
use Rattle.std.proofs.lemmas.Bool.{cond-false}
use Rattle.std.proofs.lemmas.Bool.Decides.{nat_tests}
use Rattle.pf_entry.specs.Sets
use Rattle.pf_protocol.specs.Leading.{members, new_entry, look_behind, submitted, on_submit, acknowledged}
use Rattle.pf_base.specs.Span.{Span, fits_in}
use Rattle.pf_entry.specs.Ops.{range_of}
use Rattle.pf_entry.specs.declared.entries.Named.{Named}
use Rattle.pf_server_store.specs.Stores.{StoreModel}
use Rattle.pf_server_leader.specs.Submitting.{look_in, IsSubmitPlan, IsRoomierRole, refused_first, SlotHasBegun, IsNextLeader, IsRoomier, IsRoomierLeader, MayPropose, entry_proposed}
use Rattle.pf_server_tables.specs.AckTables.{AckTable}
use Rattle.std.specs.FinMap
use Rattle.pf_entry.specs.Records.{Durable, stored, add_start, put_entry}
use Rattle.pf_entry.specs.declared.ops.Op.{Op}
use Rattle.pf_entry.specs.declared.entries.Entry.{Entry}
use Rattle.pf_entry.specs.declared.packets.Body.TheVariants.{Accept}
use Rattle.pf_entry.specs.declared.records.Record.TheVariants.{Entry as EntryRecord}
use Rattle.pf_server_tables.specs.StartTables.{StartRoom}
use Rattle.pf_protocol.specs.Servers.{Setup, Leader, Role, Follower, Candidate, Merging, Serving, Server}
use Rattle.pf_protocol.specs.Outcomes.{to_others}
use Rattle.pf_protocol.specs.Answers.{refuse, is_mark, is_serving, window_full}
use Rattle.pf_protocol.specs.declared.answers.Refusal.{Refusal}
use Rattle.pf_protocol.specs.declared.answers.Refusal.TheVariants.{OldFormat, BadRange, NotLeader, WindowFull}
use Rattle.pf_protocol.proofs.ForRows.{acknowledged_more}
use Rattle.pf_server_memory.specs.declared.running.Leader.{Leader as LeaderHere}
use Rattle.pf_server_memory.specs.declared.running.Role.{Role as RoleHere}
use Rattle.pf_server_memory.specs.declared.running.Role.TheVariants.{Follower as FollowerHere, Candidate as CandidateHere, Merging as MergingHere, Serving as ServingHere}
use Rattle.pf_server_memory.specs.declared.running.Running.{Running}
use Rattle.pf_server_memory.specs.Packets.{packets_to}
use Rattle.pf_server_memory.specs.Standing.{server_of, setup_of, state_in_memory, role_in_memory, leader_in_memory, IsCached, IsLeaderKept, IsRoleKept, Stands}
use Rattle.pf_server_memory.specs.Turns.{IsAfter}
use Rattle.pf_server_memory.proofs.StepEnds.{IsAdded, IsFollowed, stands_after}

-- which refusal comes first
module _ (setup : Setup) (s : Server) (op : Op) where
  judged : (rest : Option Refusal) (a b c d : Bool) → (is_mark op && setup.format == 1) ≡ a → fits_in (range_of op) setup.chunk ≡ b → is_serving s.role ≡ c → window_full setup s s.role ≡ d
      → refused_first setup s op rest ≡ refuse a OldFormat (refuse (not b) BadRange (refuse (not c) NotLeader (refuse d WindowFull rest)))
  unfolding refused_first
  judged rest a b c d p q r t = λ i. refuse (p i) OldFormat (refuse (not (q i)) BadRange (refuse (not (r i)) NotLeader (refuse (t i) WindowFull rest)))

  pub old_format : (is_mark op && setup.format == 1) ≡ true → (rest : Option Refusal) → refused_first setup s op rest ≡ Some OldFormat
  old_format mark rest = judged rest _ _ _ _ mark refl refl refl

  pub bad_range : (is_mark op && setup.format == 1) ≡ false → fits_in (range_of op) setup.chunk ≡ false → (rest : Option Refusal) → refused_first setup s op rest ≡ Some BadRange
  bad_range mark beyond rest = judged rest _ _ _ _ mark beyond refl refl

  pub not_leader : (is_mark op && setup.format == 1) ≡ false → fits_in (range_of op) setup.chunk ≡ true → is_serving s.role ≡ false → (rest : Option Refusal) → refused_first setup s op rest ≡ Some NotLeader
  not_leader mark fits other rest = judged rest _ _ _ _ mark fits other refl

  pub window_is_full : (is_mark op && setup.format == 1) ≡ false → fits_in (range_of op) setup.chunk ≡ true → (l : Leader) → s.role ≡ Serving l → s.durable.base + setup.window < l.next → (rest : Option Refusal) → refused_first setup s op rest ≡ Some WindowFull
  window_is_full mark fits l serves beyond rest = judged rest _ _ _ _ mark fits (ap is_serving serves) (ap (window_full setup s) serves ∙ past _ _ beyond)
    where
      past : (a b : ℕ) → a < b → nat_lt a b ≡ true
      past a b lt = grind (arith, nat_tests)

  pub none_first : (is_mark op && setup.format == 1) ≡ false → fits_in (range_of op) setup.chunk ≡ true → (l : Leader) → s.role ≡ Serving l → l.next ≤ s.durable.base + setup.window → (rest : Option Refusal) → refused_first setup s op rest ≡ rest
  none_first mark fits l serves within rest = judged rest _ _ _ _ mark fits (ap is_serving serves) (ap (window_full setup s) serves ∙ up_to _ _ within)
    where
      up_to : (a b : ℕ) → b ≤ a → nat_lt a b ≡ false
      up_to a b le = grind (arith, nat_tests)

-- the same in memory
not_serving : (role : RoleHere) → ((l : LeaderHere) → role ≡ ServingHere l → ⊥) → is_serving (role_in_memory role) ≡ false
not_serving FollowerHere not = refl
not_serving (CandidateHere c) not = refl
not_serving (MergingHere l) not = refl
not_serving (ServingHere l) not = absurd (not l refl)

module _ (me : Running) (op : Op) (rest : Option Refusal) where
  abbrev pub refused_here : Option Refusal
  refused_here = refused_first (setup_of me) (server_of (state_in_memory me) me) op rest

  pub old_format_here : (is_mark op && me.format == 1) ≡ true → refused_here ≡ Some OldFormat
  unfolding setup_of
  old_format_here mark = old_format (setup_of me) (server_of (state_in_memory me) me) op mark rest

  module _ (mark : (is_mark op && me.format == 1) ≡ false) where
    pub bad_range_here : fits_in (range_of op) (length me.sectors) ≡ false → refused_here ≡ Some BadRange
    unfolding setup_of
    bad_range_here beyond = bad_range (setup_of me) (server_of (state_in_memory me) me) op mark beyond rest

    module _ (fits : fits_in (range_of op) (length me.sectors) ≡ true) where
      pub not_leader_here : ((l : LeaderHere) → me.role ≡ ServingHere l → ⊥) → refused_here ≡ Some NotLeader
      unfolding setup_of server_of
      not_leader_here other = not_leader (setup_of me) (server_of (state_in_memory me) me) op mark fits (not_serving me.role other) rest

      pub window_full_here : (l : LeaderHere) → me.role ≡ ServingHere l → me.log.base + 4096 < l.next → refused_here ≡ Some WindowFull
      unfolding setup_of server_of
      window_full_here l serves beyond = window_is_full (setup_of me) (server_of (state_in_memory me) me) op mark fits (leader_in_memory l) (ap role_in_memory serves) beyond rest

-- of every state that memory stands for
module _ (d : Durable) (me : Running) (cached : IsCached d me) where
  same_window : (setup : Setup) (role : Role) → window_full setup (server_of (state_in_memory me) me) role ≡ window_full setup (server_of d me) role
  unfolding server_of
  same_window setup Follower = refl
  same_window setup (Candidate own) = refl
  same_window setup (Merging l) = refl
  same_window setup (Serving l) = ap (λ base. nat_lt (base + setup.window) l.next) cached.base

  pub same_refusal : (op : Op) (rest : Option Refusal) → refused_first (setup_of me) (server_of (state_in_memory me) me) op rest ≡ refused_first (setup_of me) (server_of d me) op rest
  unfolding refused_first server_of
  same_refusal op rest =
      ap (λ b. refuse (is_mark op && (setup_of me).format == 1) OldFormat (refuse (not (fits_in (range_of op) (setup_of me).chunk)) BadRange (refuse (not (is_serving (role_in_memory me.role))) NotLeader (refuse b WindowFull rest))))
      (same_window (setup_of me) (role_in_memory me.role))

  pub same_entry : (names : ℕ) (l : Leader) (op : Op) → new_entry names (server_of (state_in_memory me) me) l op ≡ new_entry names (server_of d me) l op
  unfolding new_entry look_behind server_of
  same_entry names l op = λ i. new_entry names (record (server_of d me) { durable = record d { term = cached.term i; base = cached.base i; log = cached.log i } }) l op

  pub none_refused : (op : Op) (l : LeaderHere) → MayPropose me op l → (rest : Option Refusal) → refused_first (setup_of me) (server_of d me) op rest ≡ rest
  unfolding setup_of server_of
  none_refused op l may = none_first (setup_of me) (server_of d me) op may.marks may.fits (leader_in_memory l) (ap role_in_memory may.serves) (subst (λ base. l.next ≤ base + 4096) cached.base may.within)

  pub serving : (l : LeaderHere) → me.role ≡ ServingHere l → (server_of d me).role ≡ Serving (leader_in_memory l)
  unfolding server_of
  serving l serves = ap role_in_memory serves

  -- the rule, where nothing is refused
  pub submission : (op : Op) (l : LeaderHere) (e : Entry) → MayPropose me op l → e ≡ new_entry me.names (server_of (state_in_memory me) me) (leader_in_memory l) op
      → on_submit (setup_of me) (server_of d me) op (server_of d me).role ≡ entry_proposed (server_of d me) (leader_in_memory l) e
  unfolding on_submit server_of setup_of new_entry
  submission op l e may is =
      let e2 : new_entry me.names (server_of d me) (leader_in_memory l) op ≡ e = sym (is ∙ same_entry me.names (leader_in_memory l) op) in
      ap (on_submit (setup_of me) (server_of d me) op) (serving l may.serves)
      ∙ cond-false _ _ _ (up_to (d.base + 4096) l.next (subst (λ base. l.next ≤ base + 4096) cached.base may.within))
      ∙ ap (λ x. entry_proposed (server_of d me) (leader_in_memory l) x) e2
    where
      up_to : (a b : ℕ) → b ≤ a → nat_lt a b ≡ false
      up_to a b le = grind (arith, nat_tests)

-- a leader that has begun its next slot
pub next_leader : (number : ℕ) (l next : LeaderHere) → IsLeaderKept number l → IsNextLeader number l next
    → leader_in_memory next ≡ record (leader_in_memory l) { next = suc l.next; acks = acknowledged l.acks.acks number l.next }
next_leader number l next kept step =
    let slot : l.acks.base + l.acks.count + 1 ≡ l.next = kept.counted in
    let up : l.next + 1 ≡ suc l.next = omega arith in
    λ i. record {
      first = (ap (λ (x : LeaderHere). x.first) step.is) i;
      next = (ap (λ (x : LeaderHere). x.next) step.is ∙ up) i;
      b0 = step.base i;
      acks = (step.acks ∙ ap (acknowledged l.acks.acks number) slot) i;
      known = (ap (λ (x : LeaderHere). x.known) step.is) i;
    }

pub next_kept : (number : ℕ) (l next : LeaderHere) → IsLeaderKept number l → IsNextLeader number l next → IsLeaderKept number next
next_kept number l next kept step =
    let settled : next.settled ≡ l.settled = ap (λ (x : LeaderHere). x.settled) step.is in
    let first : next.first ≡ l.first = ap (λ (x : LeaderHere). x.first) step.is in
    let after : next.next ≡ l.next + 1 = ap (λ (x : LeaderHere). x.next) step.is in
    record {
      counted = omega (arith, kept.counted, step.base, step.count, after);
      low = omega (arith, kept.low, step.base, settled);
      high = omega (arith, kept.high, settled, first);
      heard = λ slot low high.
          let was = kept.heard slot (omega (arith, low, step.base)) (omega (arith, high, settled)) in
          (was.0, was.1, was.2, ap (λ m. Sets.contains (members (FinMap.get m slot)) was.0) step.acks ∙ acknowledged_more l.acks.acks number (l.acks.base + l.acks.count + 1) was.0 slot was.3);
    }

pub fits_same : (a b : Span) (m n : ℕ) → a ≡ b → m ≡ n → fits_in b n ≡ fits_in a m
fits_same a b m n is same = λ i. fits_in (sym is i) (sym same i)

pub planned : (me : Running) (op : Op) (l : LeaderHere) → (look : List Named) → look ≡ look_in me.log me.names l.next → MayPropose me op l
    → IsSubmitPlan me op (record { slot = l.next; term = me.term; first = l.first; look = look; op = op })
unfolding new_entry look_behind server_of
planned me op l look is may = record { leader = l; may = may; is = λ i. record { slot = l.next; term = me.term; first = l.first; look = is i; op = op } }

pub at_most : (a b : ℕ) → (a < b → ⊥) → b ≤ a
at_most a b not = omega (arith, not)

-- an entry of the server's own is stored
pub own_added : (d : Durable) (me : Running) (l : Leader) (e : Entry) → IsAdded d (EntryRecord e) (entry_proposed (server_of d me) l e).server.durable
unfolding server_of stored submitted
own_added d me l e = record { is = refl; used = refl; format = refl }

abbrev pub with_own : Running → Entry → StartRoom → RoleHere → Running
with_own me e starts role = record me { starts = starts; role = role; log = record me.log { entries = FinMap.insert me.log.entries e.slot e } }

leader_kept : (number : ℕ) (role : RoleHere) (l : LeaderHere) → role ≡ ServingHere l → IsRoleKept number role → IsLeaderKept number l
leader_kept number role l is kept = subst (IsRoleKept number) is kept

own_here : (d : Durable) (me : Running) (e : Entry) (starts : StartRoom) (l next : LeaderHere) → IsCached d me → me.role ≡ ServingHere l → IsNextLeader me.number l next → e.term ≡ me.term
    → starts.starts ≡ add_start me.starts.starts e.term e.first → IsFollowed me (with_own me e starts (ServingHere next)) (submitted (server_of d me) (leader_in_memory l) e)
unfolding server_of setup_of stored submitted put_entry
own_here d me e starts l next cached serves step term begun =
    let kept = leader_kept me.number me.role l serves cached.role in
    record {
      server_is = λ i. record (submitted (server_of d me) (leader_in_memory l) e) { role = Serving (next_leader me.number l next kept step i) };
      setup_same = refl;
      cached = record {
        number = cached.number;
        term = sym term;
        generation = cached.generation;
        base = cached.base;
        starts = begun ∙ ap (λ m. add_start m e.term e.first) cached.starts;
        log = ap (λ m. FinMap.insert m e.slot e) cached.log;
        format = cached.format;
        prefix = cached.prefix;
        role = next_kept me.number l next kept step;
        jobs = cached.jobs;
        places = cached.places;
        rooms = cached.rooms;
        near = cached.near;
        replies = cached.replies;
      };
    }

pub own_followed : (d : Durable) (me me' : Running) (e : Entry) (starts : StartRoom) (role : RoleHere) (l : LeaderHere) → IsCached d me → me.role ≡ ServingHere l → SlotHasBegun me.number me.role role → e.term ≡ me.term
    → starts.starts ≡ add_start me.starts.starts e.term e.first → me' ≡ with_own me e starts role → IsFollowed me me' (submitted (server_of d me) (leader_in_memory l) e)
own_followed d me me' e starts role l cached serves begun term start is =
    let next = begun l serves in
    subst (λ m. IsFollowed me m (submitted (server_of d me) (leader_in_memory l) e)) (sym (is ∙ ap (with_own me e starts) next.1))
    (own_here d me e starts l next.0 cached serves next.2 term start)

-- an entry of the server's own is sent
pub sent_own : (d : Durable) (me : Running) (e : Entry) → IsCached d me → packets_to me.number me.term (Accept e) ≡ to_others (server_of d me) (Accept e)
unfolding server_of
sent_own d me e cached = λ i. packets_to me.number (cached.term i) (Accept e)

-- more room
module _ (me near : Running) (roomier : IsRoomier me near) (l : LeaderHere) (serves : me.role ≡ ServingHere l) where
  pub near_serves : (more : LeaderHere) × (near.role ≡ ServingHere more) × (more.next ≡ l.next)
  near_serves = let x = roomier.role l serves in (x.0, x.1, ap (λ (y : LeaderHere). y.next) x.2.is)

  same_leader : (more : LeaderHere) → IsRoomierLeader l more → leader_in_memory more ≡ leader_in_memory l
  same_leader more x = λ i. record {
    first = (ap (λ (y : LeaderHere). y.first) x.is) i;
    next = (ap (λ (y : LeaderHere). y.next) x.is) i;
    b0 = x.base i;
    acks = x.acks i;
    known = (ap (λ (y : LeaderHere). y.known) x.is) i;
  }

  pub near_leader : leader_in_memory near_serves.0 ≡ leader_in_memory l
  unfolding near_serves
  near_leader = let x = roomier.role l serves in same_leader x.0 x.2

  same_role : role_in_memory near.role ≡ role_in_memory me.role
  same_role = let x = roomier.role l serves in ap role_in_memory x.1 ∙ ap Serving (same_leader x.0 x.2) ∙ sym (ap role_in_memory serves)

  pub roomy_server : (d : Durable) → server_of d near ≡ server_of d me
  unfolding server_of
  roomy_server d = ap (server_of d) roomier.is ∙ (λ i. record (server_of d me) { role = same_role i })

  pub roomy_setup : setup_of near ≡ setup_of me
  unfolding setup_of
  roomy_setup = ap setup_of roomier.is

  roomy_leader : (more : LeaderHere) → IsRoomierLeader l more → IsLeaderKept me.number l → IsLeaderKept me.number more
  roomy_leader more x kept =
      let settled : more.settled ≡ l.settled = ap (λ (y : LeaderHere). y.settled) x.is in
      let first : more.first ≡ l.first = ap (λ (y : LeaderHere). y.first) x.is in
      let next : more.next ≡ l.next = ap (λ (y : LeaderHere). y.next) x.is in
      record {
        counted = omega (arith, kept.counted, x.base, x.count, next);
        low = omega (arith, kept.low, x.base, settled);
        high = omega (arith, kept.high, settled, first);
        heard = λ slot low high.
            let was = kept.heard slot (omega (arith, low, x.base)) (omega (arith, high, settled)) in
            (was.0, was.1, was.2, ap (λ m. Sets.contains (members (FinMap.get m slot)) was.0) x.acks ∙ was.3);
      }

  roomy_here : (d : Durable) → IsCached d me → IsCached d (record me { starts = near.starts; role = near.role })
  roomy_here d cached = record {
    number = cached.number;
    term = cached.term;
    generation = cached.generation;
    base = cached.base;
    starts = roomier.starts ∙ cached.starts;
    log = cached.log;
    format = cached.format;
    prefix = cached.prefix;
    role = let x = roomier.role l serves in subst (IsRoleKept me.number) (sym x.1) (roomy_leader x.0 x.2 (leader_kept me.number me.role l serves cached.role));
    jobs = cached.jobs;
    places = cached.places;
    rooms = cached.rooms;
    near = cached.near;
    replies = cached.replies;
  }

  pub roomy_after : (d : Durable) → IsCached d me → IsAfter d me near (server_of d me)
  roomy_after d cached = record { server_is = roomy_server d; setup_same = roomy_setup; cached = subst (IsCached d) (sym roomier.is) (roomy_here d cached) }

  pub roomy_stands : {S : Type 0} (model : StoreModel S) (d : Durable) (store : S) → Stands model d store me → Stands model d store near
  roomy_stands model d store stands = stands_after model d store me near stands (server_of d me) (roomy_after d stands.cached)

pub own_leader : (l k : LeaderHere) → ServingHere l ≡ ServingHere k → l ≡ k
own_leader l k is = cc

pub begun_slot : (number : ℕ) (role : RoleHere) (l next : LeaderHere) → role ≡ ServingHere l → IsNextLeader number l next → SlotHasBegun number role (ServingHere next)
begun_slot number role l next is step = λ k there. (next, refl, subst (λ x. IsNextLeader number x next) (own_leader l k (sym is ∙ there)) step)

pub roomier_slot : (role : RoleHere) (l : LeaderHere) (acks : AckTable) → role ≡ ServingHere l → acks.base ≡ l.acks.base → acks.count ≡ l.acks.count → acks.acks ≡ l.acks.acks → IsRoomierRole role (ServingHere (record l { acks = acks }))
roomier_slot role l acks is base count map =
    λ k there. (record l { acks = acks }, refl, subst (λ x. IsRoomierLeader x (record l { acks = acks })) (own_leader l k (sym is ∙ there)) (record { is = refl; base = base; count = count; acks = map }))
