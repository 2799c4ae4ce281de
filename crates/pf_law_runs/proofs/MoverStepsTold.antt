-- Steps of the mover are as they were told.
use Rattle.std.proofs.Common.{◌≡◌, ◌≢◌, ℕ, suc, ◌+◌, ◌≤◌, ◌==◌, ◌&&◌, Bool, true, false, cond, if◌then◌else◌, inl, inr, List, [], ◌∷◌, ◌++◌, length, Option, Some, None, slice_get, slice_set, take, arith, refl, sym, ap, subst, ◌∙◌, append-nil}
use Rattle.std.specs.Option.{option_map}
use Rattle.std.proofs.lemmas.Bool.{cases_eq, eqb-true}
use Rattle.std.proofs.lemmas.Grind.{fold-append}
use Rattle.std.proofs.lemmas.List.{append_assoc}
use Rattle.std.proofs.lemmas.Option.{none-some, same_Some, slice_get_within}
use Rattle.pf_base.specs.Asks.{chunk_of}
use Rattle.pf_base.specs.declared.asks.Ask.{Ask}
use Rattle.pf_base.specs.declared.asks.Reply.{Reply}
use Rattle.pf_base.specs.declared.asks.Reply.TheVariants.{Bytes, Written}
use Rattle.pf_entry.specs.Lists.{Every}
use Rattle.pf_entry.proofs.Cases.{by_test}
use Rattle.pf_entry.proofs.Lists.{every_append, every_more, set_cases}
use Rattle.pf_protocol.specs.Answers.{IsLegal}
use Rattle.pf_protocol.specs.Histories.{History, replay}
use Rattle.pf_protocol.specs.Servers.{Setup}
use Rattle.pf_law_movers.specs.pf_group_network.proofs.Lists.{set_there}
use Rattle.pf_asks.specs.Ports.{PortIs}
use Rattle.pf_move.specs.declared.mover.MoverAsk.{MoverAsk}
use Rattle.pf_move.specs.declared.mover.MoverAsk.TheVariants.{Reading, Writing}
use Rattle.pf_move.specs.declared.mover.MoveNext.{MoveNext}
use Rattle.pf_move.specs.declared.mover.MoveNext.TheVariants.{Read, Switch, Write}
use Rattle.pf_move.specs.declared.routes.Moving.{Moving}
use Rattle.pf_move.specs.Movers.{MoverIs, MoverStep, is_zero, piece, reads_on, step}
use Rattle.pf_move.specs.Routes.{Between, RoutesIs, between, between_in}
use Rattle.pf_move.specs.Routes as routes_of
use Rattle.pf_law_movers.specs.pf_law_ports.specs.Calls.{PortPast}
use Rattle.pf_law_movers.specs.pf_law_ports.specs.Driven.{IsDriven, Puts}
use Rattle.pf_law_movers.specs.pf_law_ports.specs.Replies.{IsReplied}
use Rattle.pf_world.specs.pf_group_rounds.specs.Chunks.{Chunk}
use Rattle.pf_world.specs.pf_group_rounds.specs.Halts.{Halt}
use Rattle.pf_world.specs.pf_chunk.specs.Driving.{Driven, ask_after, port_asked, asked_at, driven}
use Rattle.pf_world.specs.pf_chunk.specs.Runs.{ChunkRun, mover_port}
use Rattle.pf_world.specs.pf_world_moments.specs.Hosts.{Drove, drove, drove_as, drove_of, event_count, handed_moments, put_at, run_after, with_run}
use Rattle.pf_world.specs.pf_world_moments.specs.Moments.{Carries, Hands, Heard, Moment, Moves as MovesTo, Writes, Acts}
use Rattle.pf_world.specs.pf_world_hosts.specs.Volumes.{VolumeRun}
use Rattle.pf_law_movers.specs.Carrying.{group_asked}
use Rattle.pf_law_movers.specs.Epochs.{epoch_of, group_of_epoch, group_of_now}
use Rattle.pf_law_movers.specs.Handing.{reached}
use Rattle.pf_law_movers.specs.Movers.{IsCarriedBack, IsOnTheMove, ask_to_carry, asked_to_carry, carried_ask, group_of_role, role_of_ask, role_of_reply}
use Rattle.pf_law_movers.specs.Pasts.{MoverTrace, PortTrace, at_carry, handed_at, mover_trace, moves_into, mover_numbered, past_in, trace_in, with_trace_of_port as with_port_of}
use Rattle.pf_law_movers.proofs.PortDrives.{mover_told, same_role}
use Rattle.pf_law_movers.proofs.Each.{one_more}
use Rattle.pf_law_movers.proofs.ToldHearings.{AllSo, IsBackIf, IsSo, all_grown, all_plain, behind_all, by_is, drove_said, event_within, now_there, put_grow, reached_by, taken, told_is}
use Rattle.pf_law_movers.proofs.Handovers.{IsHandedAt}
use Rattle.pf_law_runs.proofs.MoverPortsKept.{AreSo, handed_passes, passed_all, set_told}
use Rattle.pf_law_movers.proofs.Lives.{its_own}
use Rattle.pf_law_movers.proofs.OfKinds.{kind_role, reply_of_kind}
use Rattle.pf_law_movers.proofs.Ports.{HasAsked, asked_for, asked_still, drives_at, none_asked_of, put_asked}
use Rattle.pf_law_movers.proofs.GroupReplies.{driven_replies, reply_is}
use Rattle.pf_law_movers.proofs.ToldRoutes.{AreRoutes, Having, IsHomeOf, IsStill, old_one, on_the_move, still_groups, still_no_move}
use Rattle.pf_law_movers.proofs.MoverAsTold.{AreAsTold, IsAsTold, MoverAsTold, passed}
use Rattle.pf_law_movers.proofs.PortTraces.{IsNoMove, IsWithin, is_hauled, moves_more, writes_pass}

-- What the mover's ports have to ask

-- the mover asks one group of the chunk
abbrev pub borne : (chunk : ℕ) → (group : ℕ) → Having
borne chunk group k = if group == k then Some chunk else None

pub borne_home : (chunk group : ℕ) → IsHomeOf (borne chunk group) chunk group
borne_home chunk group = record {
  here = its_own group group (Some chunk) None refl;
  alone = λ j has. by_test (group == j) (λ b. (group == j) ≡ b → (if b then Some chunk else None) ≡ Some chunk → j ≡ group) (λ _ same _. sym (eqb-true group j same)) (λ _ _ none. absurd (none-some chunk none)) refl has;
}

abbrev pub no_one : Having
no_one k = None

-- the ports of the mover into the two groups, by the roles that they have
pub record AreRoles (count : ℕ) (told : List Moment) (from to chunk : ℕ) : Type 0 where
  pub reads : (history : History) → ((moves_into history from count told).role ≡ Some Reading) × ((moves_into history from count told).chunk ≡ chunk)
  pub writes : (history : History) → ((moves_into history to count told).role ≡ Some Writing) × ((moves_into history to count told).chunk ≡ chunk)
  pub others : (history : History) (k : ℕ) → k ≢ from → k ≢ to → (moves_into history k count told).role ≡ None

kept_port : (change : PortTrace → PortTrace) (role : Option MoverAsk) (t : MoverTrace) → ((with_port_of change role t).role ≡ t.role) × ((with_port_of change role t).chunk ≡ t.chunk)
kept_port change None t = (refl, refl)
kept_port change (Some Reading) t = (refl, refl)
kept_port change (Some Writing) t = (refl, refl)

kept_number : (n : ℕ) (role : Option MoverAsk) (next : MoveNext) (t : MoverTrace) → ((mover_numbered n role next t).role ≡ t.role) × ((mover_numbered n role next t).chunk ≡ t.chunk)
kept_number n None next t = (refl, refl)
kept_number n (Some Reading) (Read span) t = (refl, refl)
kept_number n (Some Reading) (Write span sectors) t = (refl, refl)
kept_number n (Some Reading) Switch t = (refl, refl)
kept_number n (Some Writing) (Read span) t = (refl, refl)
kept_number n (Some Writing) (Write span sectors) t = (refl, refl)
kept_number n (Some Writing) Switch t = (refl, refl)

pub kept_role : (history : History) (k : ℕ) (t : MoverTrace) (y : Moment) → IsNoMove y → ((at_carry history k t y).role ≡ t.role) × ((at_carry history k t y).chunk ≡ t.chunk)
kept_role history k t (MovesTo chunk to) none = absurd none
kept_role history k t (Carries chunk heard next) none =
    let one : MoverTrace = record t { count = suc t.count } in
    by_test (chunk == t.chunk) (λ b. let x : MoverTrace = if b then mover_numbered (suc t.count) t.role next one else t in (x.role ≡ t.role) × (x.chunk ≡ t.chunk)) (λ _. kept_number (suc t.count) t.role next one) (λ _. (refl, refl))
kept_role history k t (Hands mount g place) none =
    let change = handed_at (take place history) (slice_get history place) in
    by_test (mount == mover_port && g == k) (λ b. let x : MoverTrace = if b then with_port_of change t.role t else t in (x.role ≡ t.role) × (x.chunk ≡ t.chunk)) (λ _. kept_port change t.role t) (λ _. (refl, refl))
kept_role history k t (Writes text) none = (refl, refl)
kept_role history k t (Acts who act) none = (refl, refl)

pub roles_on : (count : ℕ) (told : List Moment) (y : Moment) (from to chunk : ℕ) → IsNoMove y → AreRoles count told from to chunk → AreRoles count (told ++ y ∷ []) from to chunk
roles_on count told y from to chunk none are =
    let same : (history : History) (k : ℕ) → ((moves_into history k count (told ++ y ∷ [])).role ≡ (moves_into history k count told).role) × ((moves_into history k count (told ++ y ∷ [])).chunk ≡ (moves_into history k count told).chunk) =
    λ history k.
    let kept = kept_role history k (moves_into history k count told) y none in
    let more = moves_more history k count told y in
    (ap (λ (t : MoverTrace). t.role) more ∙ kept.0, ap (λ (t : MoverTrace). t.chunk) more ∙ kept.1) in record {
      reads = λ history. ((same history from).0 ∙ (are.reads history).0, (same history from).1 ∙ (are.reads history).1);
      writes = λ history. ((same history to).0 ∙ (are.writes history).0, (same history to).1 ∙ (are.writes history).1);
      others = λ history k away apart. (same history k).0 ∙ are.others history k away apart;
    }

pub roles_more : (count : ℕ) (told more : List Moment) (from to chunk : ℕ) → Every IsNoMove more → AreRoles count told from to chunk → AreRoles count (told ++ more) from to chunk
roles_more count told [] from to chunk none are = subst (λ (all : List Moment). AreRoles count all from to chunk) (sym (append-nil told)) are
roles_more count told (y ∷ more) from to chunk none are =
    subst (λ (all : List Moment). AreRoles count all from to chunk) (append_assoc told (y ∷ []) more) (roles_more count (told ++ y ∷ []) more from to chunk none.1 (roles_on count told y from to chunk none.0 are))

-- A group that the mover asks

abbrev pub group_for : (from to : ℕ) → MoverAsk → ℕ
group_for from to Reading = from
group_for from to Writing = to

-- a chunk is moving, and the mover asks nothing
pub record IsFree (count : ℕ) (told : List Moment) (chunks : List ChunkRun) (r : RoutesIs) (moving : Moving) : Type 0 where
  pub from : ℕ
  pub from_is : routes_of.group_routed r.routes moving.chunk ≡ Some from
  pub apart : from ≢ moving.to
  pub free : HasAsked no_one mover_port None chunks
  pub roles : AreRoles count told from moving.to moving.chunk

-- or it asks this, of one of the groups
pub record Bears (count : ℕ) (told : List Moment) (chunks : List ChunkRun) (r : RoutesIs) (moving : Moving) (mover : MoverIs) : Type 0 where
  pub from : ℕ
  pub from_is : routes_of.group_routed r.routes moving.chunk ≡ Some from
  pub apart : from ≢ moving.to
  pub roles : AreRoles count told from moving.to moving.chunk
  pub ask : Ask
  pub of : chunk_of ask ≡ moving.chunk
  pub pending : carried_ask told moving.chunk ≡ Some ask
  pub asked : mover.asked ≡ Some (role_of_ask ask)
  pub waits : HasAsked (borne moving.chunk (group_for from moving.to (role_of_ask ask))) mover_port (Some ask) chunks

-- where no chunk is moving, the mover's ports have nothing to ask
abbrev pub IsBearing : (count : ℕ) → List Moment → List ChunkRun → RoutesIs → Option Moving → Option MoverIs → Type 0
IsBearing count told chunks r None None = HasAsked no_one mover_port None chunks
IsBearing count told chunks r (Some moving) (Some mover) = Bears count told chunks r moving mover
IsBearing count told chunks r moving mover = ⊥

-- What the mover asks

abbrev pub asked_by : MoveNext → Option MoverAsk
asked_by (Read span) = Some Reading
asked_by (Write span sectors) = Some Writing
asked_by Switch = None

asks_if : (b : Bool) (x y : MoverStep) → x.mover.asked ≡ asked_by x.next → y.mover.asked ≡ asked_by y.next → let s : MoverStep = cond b x y in s.mover.asked ≡ asked_by s.next
asks_if true x y first second = first
asks_if false x y first second = second

reads_asks : (m : MoverIs) → (reads_on m).mover.asked ≡ asked_by (reads_on m).next
reads_asks m = asks_if (m.done == m.pieces) (record { next = Switch; mover = record m { asked = None } }) (record { next = Read (piece m.done); mover = record m { asked = Some Reading } }) refl refl

pub step_asks : (m : MoverIs) (reply : Option Reply) → (step m reply).mover.asked ≡ asked_by (step m reply).next
step_asks m None = reads_asks m
step_asks m (Some Written) = reads_asks (record m { done = m.done + 1 })
step_asks m (Some (Bytes sectors)) =
    asks_if (is_zero sectors) (reads_on (record m { done = m.done + 1 })) (record { next = Write (piece m.done) sectors; mover = record m { asked = Some Writing } }) (reads_asks (record m { done = m.done + 1 })) refl

-- what it asked last
pub carried_on : (told : List Moment) (y : Moment) (chunk : ℕ) → carried_ask (told ++ y ∷ []) chunk ≡ asked_to_carry chunk (carried_ask told chunk) y
carried_on told y chunk = fold-append (asked_to_carry chunk) None told (y ∷ [])

still_asked : (y : Moment) (chunk : ℕ) (ask : Option Ask) → IsStill y → asked_to_carry chunk ask y ≡ ask
still_asked (MovesTo c to) chunk ask still = absurd still
still_asked (Carries c heard next) chunk ask still = absurd still
still_asked (Writes text) chunk ask still = refl
still_asked (Acts who act) chunk ask still = refl
still_asked (Hands m k place) chunk ask still = refl

pub still_carried : (told more : List Moment) (chunk : ℕ) → Every IsStill more → carried_ask (told ++ more) chunk ≡ carried_ask told chunk
still_carried told [] chunk still = ap (λ (all : List Moment). carried_ask all chunk) (append-nil told)
still_carried told (y ∷ more) chunk still =
    ap (λ (all : List Moment). carried_ask all chunk) (sym (append_assoc told (y ∷ []) more)) ∙ still_carried (told ++ y ∷ []) more chunk still.1 ∙ carried_on told y chunk ∙ still_asked y chunk (carried_ask told chunk) still.0

-- what a host does is nothing to the mover
module _ (count : ℕ) (told more : List Moment) (chunks new : List ChunkRun) (r : RoutesIs) (still : Every IsStill more) (keeps : (of : Having) (ask : Option Ask) → HasAsked of mover_port ask chunks → HasAsked of mover_port ask new) where
  bears_on : (moving : Moving) (mover : MoverIs) → Bears count told chunks r moving mover → Bears count (told ++ more) new r moving mover
  bears_on moving mover b = record {
    from = b.from;
    from_is = b.from_is;
    apart = b.apart;
    roles = roles_more count told more b.from moving.to moving.chunk (every_more IsStill IsNoMove still_no_move more still) b.roles;
    ask = b.ask;
    of = b.of;
    pending = still_carried told more moving.chunk still ∙ b.pending;
    asked = b.asked;
    waits = keeps (borne moving.chunk (group_for b.from moving.to (role_of_ask b.ask))) (Some b.ask) b.waits;
  }

  pub bearing_on : (moving : Option Moving) (mover : Option MoverIs) → IsBearing count told chunks r moving mover → IsBearing count (told ++ more) new r moving mover
  bearing_on None None is = keeps no_one None is
  bearing_on (Some moving) (Some mover) is = bears_on moving mover is
  bearing_on None (Some mover) is = is
  bearing_on (Some moving) None is = is

-- something happened to a group, and not to its ports
pub still_bearing : (count : ℕ) (told : List Moment) (chunks : List ChunkRun) (r : RoutesIs) (mover : Option MoverIs) (k : ℕ) (c d : ChunkRun) → slice_get chunks k ≡ Some c → d.ports ≡ c.ports → d.group.number ≡ k → IsBearing count told chunks r r.moving mover
    → IsBearing count told (slice_set chunks d.group.number d) r r.moving mover
still_bearing count told chunks r mover k c d at ports number is =
    let new = slice_set chunks d.group.number d in
    subst (λ (all : List Moment). IsBearing count all new r r.moving mover) (append-nil told)
    (bearing_on count told [] chunks new r tt (λ of ask. asked_still of mover_port ask chunks d.group.number c d (ap (slice_get chunks) number ∙ at) (ap (λ ps. slice_get ps mover_port) ports)) r.moving mover is)

-- A step of its port

module _ (halts : List Halt) (count n : ℕ) (r : RoutesIs) (told : List Moment) (routes : AreRoutes count n r told) (chunks : List ChunkRun) (is : AreSo count told chunks) (moving : Moving) (moves : r.moving ≡ Some moving) (mover : MoverIs)
    (b : Bears count told chunks r moving mover) where
  abbrev role : MoverAsk
  role = role_of_ask b.ask

  abbrev k : ℕ
  k = group_for b.from moving.to role

  abbrev d : Drove
  d = drove halts chunks mover_port k

  its_role : (role : MoverAsk) (history : History) → (moves_into history (group_for b.from moving.to role) count told).role ≡ Some role
  its_role Reading history = (b.roles.reads history).0
  its_role Writing history = (b.roles.writes history).0

  from_serves : group_of_now told moving.chunk ≡ Some b.from
  from_serves =
      let old = old_one count n r told routes moving moves in
      (routes.served moving.chunk old.0 old.1).0 ∙ sym (ap (option_map (λ x. x.group)) old.1) ∙ b.from_is

  -- so the group is the one of the role
  group_is : (role : MoverAsk) → group_of_role told moving.chunk role ≡ Some (group_for b.from moving.to role)
  group_is Reading = from_serves
  group_is Writing = (routes.to moving moves).1

  asked_it : (c : ChunkRun) → slice_get chunks k ≡ Some c → (port : PortIs) → slice_get c.ports mover_port ≡ Some port → port.ask ≡ Some b.ask
  asked_it c there port at = b.waits k c port there at ∙ ap (λ o. asked_for o (Some b.ask)) (borne_home moving.chunk k).here ∙ its_own (chunk_of b.ask) moving.chunk (Some b.ask) None b.of

  module _ (c : ChunkRun) (there : slice_get chunks k ≡ Some c) where
    hands_so : (place : ℕ) → IsHandedAt mover_port c (driven halts c mover_port) place → IsSo count (drove_as chunks mover_port k (driven halts c mover_port)).chunks told (Hands mover_port k place)
    hands_so place h =
        let same : h.ask ≡ b.ask = same_Some h.ask b.ask (sym h.pending ∙ asked_it c there h.port h.there) in record {
          of_mover = λ _. (
            refl,
            record {
              chunk = moving.chunk;
              moving = on_the_move count n r told routes moving moves;
              ask = h.ask;
              pending = b.pending ∙ ap (λ a. Some a) (sym same);
              of = ap (λ a. group_of_role told moving.chunk (role_of_ask a)) same ∙ group_is role;
              group = (driven halts c mover_port).chunk;
              there = now_there halts count told chunks is.each mover_port k c there;
              server = h.server;
              answer = h.answer;
              is = h.is;
            },
          );
          behind = behind_all halts count told chunks is.each mover_port k c there place h;
          group = (driven halts c mover_port).chunk;
          there = now_there halts count told chunks is.each mover_port k c there;
          within = event_within halts count told chunks is.each mover_port k c there place h;
        }

  drove_ports : (o : Option ChunkRun) → slice_get chunks k ≡ o → AreAsTold count (told ++ (drove_of halts chunks mover_port k o).told) (drove_of halts chunks mover_port k o).chunks
  drove_ports None there = λ j c at. passed_all count told j c [] tt (is.ports j c at)
  drove_ports (Some c) there =
      let d : Driven = driven halts c mover_port in
      set_told count told (handed_moments mover_port k d.place ++ Writes d.text ∷ []) chunks k d.chunk is.ports (mover_told halts count told k c (is.ports k c there) mover_port refl role (its_role role c.group.history))
      (λ j apart. handed_passes j mover_port k d.place d.text apart)

  drove_each : (o : Option ChunkRun) → slice_get chunks k ≡ o → AllSo count (told ++ (drove_of halts chunks mover_port k o).told) (drove_of halts chunks mover_port k o).chunks
  drove_each None there = all_plain count chunks told [] is.each tt
  drove_each (Some c) there = drove_said halts count told chunks is.each mover_port k c there (hands_so c there)

  pub drove_so : AreSo count (told ++ d.told) d.chunks
  drove_so = record {
    ports = drove_ports (slice_get chunks k) refl;
    each = drove_each (slice_get chunks k) refl;
  }

  drives_still : Every IsStill d.told
  drives_still = (drives_at halts chunks mover_port k).still

  asks_after_it : HasAsked (borne moving.chunk k) mover_port (ask_after d.reply (Some b.ask)) d.chunks
  asks_after_it = (drives_at halts chunks mover_port k).its (borne moving.chunk k) moving.chunk (Some b.ask) (ap (λ c. Some c) b.of) (borne_home moving.chunk k) b.waits

  -- nothing was answered
  pub none_bears : d.reply ≡ None → Bears count (told ++ d.told) d.chunks r moving mover
  none_bears none = record {
    from = b.from;
    from_is = b.from_is;
    apart = b.apart;
    roles = roles_more count told d.told b.from moving.to moving.chunk (every_more IsStill IsNoMove still_no_move d.told drives_still) b.roles;
    ask = b.ask;
    of = b.of;
    pending = still_carried told d.told moving.chunk drives_still ∙ b.pending;
    asked = b.asked;
    waits = subst (λ o. HasAsked (borne moving.chunk k) mover_port (ask_after o (Some b.ask)) d.chunks) none asks_after_it;
  }

  -- the ask was answered
  pub free_then : (reply : Reply) → d.reply ≡ Some reply → IsFree count (told ++ d.told) d.chunks r moving
  free_then reply same = record {
    from = b.from;
    from_is = b.from_is;
    apart = b.apart;
    free = none_asked_of (borne moving.chunk k) no_one mover_port d.chunks (subst (λ o. HasAsked (borne moving.chunk k) mover_port (ask_after o (Some b.ask)) d.chunks) same asks_after_it);
    roles = roles_more count told d.told b.from moving.to moving.chunk (every_more IsStill IsNoMove still_no_move d.told drives_still) b.roles;
  }

  asked_role : (all : List Moment) (reply : Reply) → group_asked all moving.chunk reply ≡ group_of_role all moving.chunk (role_of_reply reply)
  asked_role all Written = refl
  asked_role all (Bytes sectors) = refl

  role_still : (more : List Moment) → Every IsStill more → (role : MoverAsk) → group_of_role (told ++ more) moving.chunk role ≡ group_of_role told moving.chunk role
  role_still more still Reading = let same = still_groups told more moving.chunk still in ap (group_of_epoch (told ++ more) moving.chunk) same.1 ∙ ap (λ gs. slice_get gs (epoch_of told moving.chunk)) same.0
  role_still more still Writing = let same = still_groups told more moving.chunk still in ap (λ e. group_of_epoch (told ++ more) moving.chunk (suc e)) same.1 ∙ ap (λ gs. slice_get gs (suc (epoch_of told moving.chunk))) same.0

  abbrev IsBack : Drove → Reply → Type 0
  IsBack d reply = IsCarriedBack count d.chunks (told ++ d.told) moving.chunk (record { reply = reply; by = event_count (slice_get d.chunks k) })

  back_of : (c : ChunkRun) → slice_get chunks k ≡ Some c → (reply : Reply) → (driven halts c mover_port).reply ≡ Some reply → IsBack (drove_as chunks mover_port k (driven halts c mover_port)) reply
  back_of c there reply replied_so =
      let its = drove_as chunks mover_port k (driven halts c mover_port) in
      let r0 = driven_replies halts c mover_port reply replied_so in
      let now : ChunkRun = (driven halts c mover_port).chunk in
      let text = (driven halts c mover_port).text in
      let all : List Moment = told ++ Writes text ∷ [] in
      let heard : Heard = record { reply = reply; by = event_count (slice_get its.chunks k) } in
      let by_length = by_is halts count told chunks is.each mover_port k c there reply r0 in
      let same_ask : r0.ask ≡ b.ask = same_Some r0.ask b.ask (sym r0.pending ∙ asked_it c there r0.port r0.there) in
      let port = (is.ports k c there).hauled role in
      let history = c.group.history in
      let driven_so : IsDriven c.group.setup (past_in history (mover_trace history k role count told)) r0.port =
      subst (IsDriven c.group.setup (past_in history (mover_trace history k role count told))) (same_Some port.port r0.port (sym (port.there (its_role role history)) ∙ r0.there)) port.its in
      let kind_is : role_of_reply reply ≡ role =
      kind_role r0.ask reply (reply_of_kind c.group.setup (past_in history (mover_trace history k role count told)) r0.port driven_so c.group.state r0.ask r0.pending reply r0.told) ∙ ap role_of_ask same_ask in
      let traced : mover_trace history k (role_of_reply reply) count all ≡ mover_trace history k role count told =
      ap (λ x. mover_trace history k x count all) kind_is ∙ ap (λ (t : MoverTrace). trace_in t role) (moves_more history k count told (Writes text)) in
      subst (λ (x : List Moment). IsCarriedBack count its.chunks x moving.chunk heard) (sym (told_is halts count told chunks is.each mover_port k c there reply r0)) (record {
        ask = r0.ask;
        pending = still_carried told (Writes text ∷ []) moving.chunk (tt, tt) ∙ b.pending ∙ ap (λ a. Some a) (sym same_ask);
        number = k;
        of = asked_role all reply ∙ ap (group_of_role all moving.chunk) kind_is ∙ role_still (Writes text ∷ []) (tt, tt) role ∙ group_is role;
        since = subst (λ (x : List Moment). reached k x ≤ heard.by) (told_is halts count told chunks is.each mover_port k c there reply r0) (reached_by halts count told chunks is.each mover_port k c there reply r0);
        group = now;
        there = now_there halts count told chunks is.each mover_port k c there;
        within = omega (arith, by_length);
        replied = λ legal.
            let replied_it = reply_is c (is.ports k c there).stands (mover_trace history k role count told) r0.port driven_so r0.ask r0.pending reply r0.told (subst (λ (g : Chunk). IsLegal g.setup g.history) r0.still legal) in
            subst (λ (setup : Setup). IsReplied setup (past_in (take heard.by now.group.history) (mover_trace (take heard.by now.group.history) k (role_of_reply reply) count all)) r0.ask reply) (sym (ap (λ (g : Chunk). g.setup) r0.still))
            (subst (λ (h : History). IsReplied c.group.setup (past_in h (mover_trace h k (role_of_reply reply) count all)) r0.ask reply) (sym (taken halts count told chunks is.each mover_port k c there reply r0))
            (subst (λ (t : PortTrace). IsReplied c.group.setup (past_in history t) r0.ask reply) (sym traced) replied_it));
      })

  pub back_then : (reply : Reply) → d.reply ≡ Some reply → IsBack d reply
  back_then = by (slice_get chunks k) refl
    where
      by : (o : Option ChunkRun) → slice_get chunks k ≡ o → (reply : Reply) → (drove_of halts chunks mover_port k o).reply ≡ Some reply → IsBack (drove_of halts chunks mover_port k o) reply
      by None there = λ reply none. absurd (none-some reply none)
      by (Some c) there = back_of c there

-- It goes on

-- a moment that leaves the past of the mover's port, and its role
went_past : (count : ℕ) (told : List Moment) (k : ℕ) (c : ChunkRun) (y : Moment) (role : MoverAsk) → past_in c.group.history (trace_in (at_carry c.group.history k (moves_into c.group.history k count told) y) role) ≡ past_in c.group.history (mover_trace c.group.history k role count told)
    → IsNoMove y → MoverAsTold count told k c role → MoverAsTold count (told ++ y ∷ []) k c role
went_past count told k c y role same none was =
    let history = c.group.history in
    let more = moves_more history k count told y in record {
      port = was.port;
      its = subst (λ (past : PortPast). IsDriven c.group.setup past was.port) (sym (ap (λ (t : MoverTrace). past_in history (trace_in t role)) more ∙ same)) was.its;
      there = λ its_role. was.there (sym (ap (λ (t : MoverTrace). t.role) more ∙ (kept_role history k (moves_into history k count told) y none).0) ∙ its_role);
    }

-- where the group's role is not that of the ask, its ports have the same numbers
abbrev IsOther : Option MoverAsk → Option MoverAsk → Type 0
IsOther role its = (r : MoverAsk) → role ≡ Some r → its ≡ Some r → ⊥

number_other : (history : History) (n : ℕ) (role : Option MoverAsk) (next : MoveNext) (t : MoverTrace) (its : MoverAsk) → IsOther role (asked_by next) → trace_in (mover_numbered n role next t) its ≡ trace_in t its
number_other history n None next t its other = refl
number_other history n (Some Reading) (Read span) t its other = absurd (other Reading refl refl)
number_other history n (Some Reading) (Write span sectors) t its other = refl
number_other history n (Some Reading) Switch t its other = refl
number_other history n (Some Writing) (Read span) t its other = refl
number_other history n (Some Writing) (Write span sectors) t its other = absurd (other Writing refl refl)
number_other history n (Some Writing) Switch t its other = refl

counted_once : (t : MoverTrace) (n : ℕ) (its : MoverAsk) → (let one : MoverTrace = record t { count = n } in trace_in one its) ≡ trace_in t its
counted_once t n Reading = refl
counted_once t n Writing = refl

carry_other : (history : History) (k : ℕ) (t : MoverTrace) (chunk : ℕ) (heard : Option Heard) (next : MoveNext) (its : MoverAsk) → IsOther t.role (asked_by next) → trace_in (at_carry history k t (Carries chunk heard next)) its ≡ trace_in t its
carry_other history k t chunk heard next its other =
    let one : MoverTrace = record t { count = suc t.count } in
    by_test (chunk == t.chunk) (λ b. trace_in (if b then mover_numbered (suc t.count) t.role next one else t) its ≡ trace_in t its)
    (λ _. number_other history (suc t.count) t.role next one its other ∙ counted_once t (suc t.count) its) (λ _. refl)

-- the group is not asked: its ports are as they were
carry_passed : (count : ℕ) (told : List Moment) (k : ℕ) (c : ChunkRun) (chunk : ℕ) (heard : Option Heard) (next : MoveNext) → IsOther (moves_into c.group.history k count told).role (asked_by next) → IsAsTold count told k c
    → IsAsTold count (told ++ Carries chunk heard next ∷ []) k c
carry_passed count told k c chunk heard next other is =
    let y : Moment = Carries chunk heard next in record {
      number = is.number;
      stands = is.stands;
      within = every_append _ told (y ∷ []) is.within (tt, tt);
      hauled = λ role. went_past count told k c y role (ap (past_in c.group.history) (carry_other c.group.history k (moves_into c.group.history k count told) chunk heard next role other)) tt (is.hauled role);
    }

-- what an ask makes of the port of its role
number_its : (n : ℕ) (role : MoverAsk) (next : MoveNext) (t : MoverTrace) → asked_by next ≡ Some role → trace_in (mover_numbered n (Some role) next t) role ≡ (let p : PortTrace = trace_in t role in record p { asks = n })
number_its n Reading (Read span) t is = refl
number_its n Writing (Write span sectors) t is = refl
number_its n Reading (Write span sectors) t is = absurd (let same = same_Some Writing Reading is in cc)
number_its n Writing (Read span) t is = absurd (let same = same_Some Reading Writing is in cc)
number_its n Reading Switch t is = absurd (none-some Reading is)
number_its n Writing Switch t is = absurd (none-some Writing is)

number_not_its : (n : ℕ) (role its : MoverAsk) (next : MoveNext) (t : MoverTrace) → its ≢ role → trace_in (mover_numbered n (Some role) next t) its ≡ trace_in t its
number_not_its n Reading Reading next t apart = absurd (apart refl)
number_not_its n Writing Writing next t apart = absurd (apart refl)
number_not_its n Reading Writing (Read span) t apart = refl
number_not_its n Reading Writing (Write span sectors) t apart = refl
number_not_its n Reading Writing Switch t apart = refl
number_not_its n Writing Reading (Read span) t apart = refl
number_not_its n Writing Reading (Write span sectors) t apart = refl
number_not_its n Writing Reading Switch t apart = refl

-- an ask is put into the port of the group that has its role
module _ (count : ℕ) (told : List Moment) (k : ℕ) (c : ChunkRun) (is : IsAsTold count told k c) (chunk : ℕ) (heard : Option Heard) (next : MoveNext) (role : MoverAsk) (asks_so : asked_by next ≡ Some role)
    (has : (moves_into c.group.history k count told).role ≡ Some role) (of : (moves_into c.group.history k count told).chunk ≡ chunk) (ask : Ask) (free : (p : PortIs) → slice_get c.ports mover_port ≡ Some p → p.ask ≡ None) where
  abbrev y : Moment
  y = Carries chunk heard next

  abbrev history : History
  history = c.group.history

  abbrev t : MoverTrace
  t = moves_into history k count told

  abbrev one : MoverTrace
  one = record t { count = suc t.count }

  now : moves_into history k count (told ++ y ∷ []) ≡ mover_numbered (suc t.count) (Some role) next one
  now =
      moves_more history k count told y ∙ its_own chunk t.chunk (mover_numbered (suc t.count) t.role next one) t (sym of) ∙ ap (λ o. mover_numbered (suc t.count) o next one) has

  new_asks : (port : PortIs) → IsDriven c.group.setup (past_in history (mover_trace history k role count told)) port → port.ask ≡ None
      → IsDriven c.group.setup (past_in history (mover_trace history k role count (told ++ y ∷ []))) (record port { ask = Some ask; sent = None })
  new_asks port driven_so none =
      let p : PortTrace = trace_in t role in
      let low = (is_hauled history k count told).low role has in
      let traced : mover_trace history k role count (told ++ y ∷ []) ≡ record p { asks = suc t.count } =
      ap (λ (x : MoverTrace). trace_in x role) now ∙ number_its (suc t.count) role next one asks_so ∙ ap (λ (q : PortTrace). let z : PortTrace = record q { asks = suc t.count } in z) (counted_once t (suc t.count) role) in
      subst (λ (u : PortTrace). IsDriven c.group.setup (past_in history u) (record port { ask = Some ask; sent = None })) (sym traced)
      (Puts (past_in history p) port ask (suc t.count) (omega (arith, low)) none driven_so)

  same_group : (o : Option PortIs) → (asked_at c mover_port ask o).group ≡ c.group
  same_group None = refl
  same_group (Some p) = refl

  abbrev Of : Option PortIs → (its : MoverAsk) → Type 0
  Of o its = MoverAsTold count (told ++ y ∷ []) k (asked_at c mover_port ask o) its

  its_port : (o : Option PortIs) → slice_get c.ports mover_port ≡ o → Of o role
  its_port None there = absurd (none-some (is.hauled role).port (sym there ∙ (is.hauled role).there has))
  its_port (Some p) there =
      let was = is.hauled role in
      let same : was.port ≡ p = same_Some was.port p (sym (was.there has) ∙ there) in record {
        port = record p { ask = Some ask; sent = None };
        its = new_asks p (subst (IsDriven c.group.setup (past_in history (mover_trace history k role count told))) same was.its) (free p there);
        there = λ _. set_there c.ports mover_port (record p { ask = Some ask; sent = None }) (slice_get_within c.ports mover_port p there);
      }

  other_role : (o : Option PortIs) (its : MoverAsk) → its ≢ role → Of o its
  other_role o its apart =
      let was = is.hauled its in
      let traced : mover_trace history k its count (told ++ y ∷ []) ≡ mover_trace history k its count told =
      ap (λ (x : MoverTrace). trace_in x its) now ∙ number_not_its (suc t.count) role its next one apart ∙ counted_once t (suc t.count) its in
      let still_role : (moves_into history k count (told ++ y ∷ [])).role ≡ Some role = ap (λ (x : MoverTrace). x.role) now ∙ (kept_number (suc t.count) (Some role) next one).0 ∙ has in record {
        port = was.port;
        its = subst (λ (g : Chunk). IsDriven g.setup (past_in g.history (mover_trace g.history k its count (told ++ y ∷ []))) was.port) (sym (same_group o)) (subst (λ (u : PortTrace). IsDriven c.group.setup (past_in history u) was.port) (sym traced) was.its);
        there = λ is_its. absurd (apart (same_Some its role (sym (subst (λ (g : Chunk). (moves_into g.history k count (told ++ y ∷ [])).role ≡ Some its) (same_group o) is_its) ∙ still_role)));
      }

  pub carry_asked : IsAsTold count (told ++ y ∷ []) k (port_asked c mover_port ask)
  carry_asked =
      let o = slice_get c.ports mover_port in
      let group = same_group o in record {
        number = ap (λ (g : Chunk). g.number) group ∙ is.number;
        stands = subst (λ (g : Chunk). g.state ≡ replay g.setup g.history) (sym group) is.stands;
        within = subst (λ (g : Chunk). Every (IsWithin k (length g.history)) (told ++ y ∷ [])) (sym group) (every_append (IsWithin k (length history)) told (y ∷ []) is.within (tt, tt));
        hauled = λ its. elim (same_role its role) [
          | inl same ↦ subst (Of o) (sym same) (its_port o refl)
          | inr apart ↦ other_role o its apart
        ];
      }

-- What it wants done comes of it

module _ (count : ℕ) (v : VolumeRun) (told : List Moment) (routes : AreRoutes count (length v.chunks) v.routes told) (is : AreSo count told v.chunks) (moving : Moving) (moves : v.routes.moving ≡ Some moving) (f : IsFree count told v.chunks v.routes moving)
    (mover : MoverIs) (its : mover.chunk ≡ moving.chunk) (heard : Option Heard) (back : IsBackIf count v.chunks told moving.chunk heard) where
  pub between_is : between v.routes ≡ Some (record { from = f.from; to = moving.to })
  between_is = ap (between_in v.routes.routes) moves ∙ ap (option_map (λ (g : ℕ). let b : Between = record { from = g; to = moving.to } in b)) f.from_is

  -- it is so of the moment
  carry_so : (next : MoveNext) → IsSo count v.chunks told (Carries mover.chunk heard next)
  carry_so next = subst (λ c. IsOnTheMove count told c × IsBackIf count v.chunks told c heard) (sym its) (on_the_move count (length v.chunks) v.routes told routes moving moves, back)

  other_if : (history : History) (k : ℕ) (role : MoverAsk) (next : MoveNext) → asked_by next ≡ Some role → k ≢ group_for f.from moving.to role → IsOther (moves_into history k count told).role (asked_by next)
  other_if history k role next asks_so apart r has asks_it =
      let same : r ≡ role = same_Some r role (sym asks_it ∙ asks_so) in
      apart (its_group history k r has ∙ ap (group_for f.from moving.to) same)
    where
      by_from : (history : History) (k : ℕ) → k ≢ f.from → k ≢ moving.to → (r : MoverAsk) → (moves_into history k count told).role ≡ Some r → k ≡ group_for f.from moving.to r
      by_from history k away apart r has = absurd (none-some r (sym (f.roles.others history k away apart) ∙ has))

      its_group : (history : History) (k : ℕ) (r : MoverAsk) → (moves_into history k count told).role ≡ Some r → k ≡ group_for f.from moving.to r
      its_group history k r has = elim (cases_eq k f.from) [
        | inl same ↦
            let reads : Reading ≡ r = same_Some Reading r (sym (f.roles.reads history).0 ∙ ap (λ g. (moves_into history g count told).role) (sym same) ∙ has) in
            same ∙ ap (group_for f.from moving.to) reads
        | inr away ↦ elim (cases_eq k moving.to) [
          | inl same ↦
              let writes : Writing ≡ r = same_Some Writing r (sym (f.roles.writes history).0 ∙ ap (λ g. (moves_into history g count told).role) (sym same) ∙ has) in
              same ∙ ap (group_for f.from moving.to) writes
          | inr apart ↦ by_from history k away apart r has
        ]
      ]

  module _ (next : MoveNext) (role : MoverAsk) (asks_so : asked_by next ≡ Some role) (ask : Ask) (of : chunk_of ask ≡ moving.chunk) (of_role : role_of_ask ask ≡ role) (to_carry : ask_to_carry moving.chunk next ≡ Some ask) where
    abbrev g : ℕ
    g = group_for f.from moving.to role

    abbrev saying : Moment
    saying = Carries mover.chunk heard next

    has_role : (role : MoverAsk) (history : History) → ((moves_into history (group_for f.from moving.to role) count told).role ≡ Some role) × ((moves_into history (group_for f.from moving.to role) count told).chunk ≡ moving.chunk)
    has_role Reading history = f.roles.reads history
    has_role Writing history = f.roles.writes history

    put_ports : (o : Option ChunkRun) → slice_get v.chunks g ≡ o → AreAsTold count (told ++ saying ∷ []) (with_run v.chunks g (run_after o (λ c. port_asked c mover_port ask)))
    put_ports None there = λ j c now.
        carry_passed count told j c mover.chunk heard next (other_if c.group.history j role next asks_so (λ same. none-some c (sym there ∙ ap (slice_get v.chunks) (sym same) ∙ now))) (is.ports j c now)
    put_ports (Some c) there = λ j x now. elim (set_cases v.chunks g (port_asked c mover_port ask) j x now) [
      | inl here ↦
          subst (λ (i : ℕ). IsAsTold count (told ++ saying ∷ []) i x) (sym here.0) (subst (λ (z : ChunkRun). IsAsTold count (told ++ saying ∷ []) g z) here.1
          (carry_asked count told g c (is.ports g c there) mover.chunk heard next role asks_so (has_role role c.group.history).0 ((has_role role c.group.history).1 ∙ sym its) ask (λ p at. f.free g c p there at)))
      | inr away ↦ carry_passed count told j x mover.chunk heard next (other_if x.group.history j role next asks_so away.0) (is.ports j x away.1)
    ]

    abbrev new : List ChunkRun
    new = put_at v.chunks (Some g) mover_port ask

    pub ask_so : AreSo count (told ++ saying ∷ []) new
    ask_so = record {
      ports = put_ports (slice_get v.chunks g) refl;
      each = all_grown count (told ++ saying ∷ []) v.chunks new (put_grow v.chunks (Some g) mover_port ask) (one_more (IsSo count v.chunks) told saying is.each (carry_so next));
    }

    pub ask_bears : mover.asked ≡ Some role → Bears count (told ++ saying ∷ []) new v.routes moving mover
    ask_bears asked_so = record {
      from = f.from;
      from_is = f.from_is;
      apart = f.apart;
      roles = roles_on count told saying f.from moving.to moving.chunk tt f.roles;
      ask = ask;
      of = of;
      pending = carried_on told saying moving.chunk ∙ its_own mover.chunk moving.chunk (ask_to_carry moving.chunk next) (carried_ask told moving.chunk) its ∙ to_carry;
      asked = asked_so ∙ ap (λ x. Some x) (sym of_role);
      waits = subst (λ x. HasAsked (borne moving.chunk (group_for f.from moving.to x)) mover_port (Some ask) new) (sym of_role)
          (put_asked mover_port ask v.chunks (borne moving.chunk g) (Some g) (subst (λ c. IsHomeOf (borne moving.chunk g) c g) (sym of) (borne_home moving.chunk g)) (none_asked_of no_one (borne moving.chunk g) mover_port v.chunks f.free));
    }

  -- it switches
  switch_passed : (h : History) (k : ℕ) → IsOther (moves_into h k count told).role None
  switch_passed h k r has none = none-some r none

  pub switch_so : (text : List ℕ) → AreSo count (told ++ Carries mover.chunk heard Switch ∷ Writes text ∷ []) v.chunks
  switch_so text =
      let y : Moment = Carries mover.chunk heard Switch in
      subst (λ (all : List Moment). AreSo count all v.chunks) (append_assoc told (y ∷ []) (Writes text ∷ [])) (record {
        ports = λ k c at. passed count (told ++ y ∷ []) k c (Writes text) (carry_passed count told k c mover.chunk heard Switch (switch_passed c.group.history k) (is.ports k c at)) (writes_pass k text);
        each = all_plain count v.chunks (told ++ y ∷ []) (Writes text ∷ []) (one_more (IsSo count v.chunks) told y is.each (carry_so Switch)) (tt, tt);
      })
