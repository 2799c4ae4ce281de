-- The pieces of a chunk were moved from group to group, by what is known of its service.
use Rattle.std.proofs.Common.{◌≡◌, ◌⊎◌, ℕ, zero, suc, pred, Bool, true, false, ◌*◌, ◌/◌, ◌<◌, ◌≤◌, inl, inr, ◌==◌, if◌then◌else◌, List, [], ◌∷◌, ◌++◌, length, take, Option, Some, None, slice_get, arith, refl, sym, ap, subst, ◌∙◌, append-nil}
use Rattle.std.proofs.lemmas.Bool.{cases_lt, eqb-true}
use Rattle.std.proofs.lemmas.Option.{none-some, same_Some, slice_get_within}
use Rattle.pf_entry.proofs.Cases.{by_test}
use Rattle.pf_protocol.specs.Groups.{Answered}
use Rattle.pf_protocol.specs.Histories.{History}
use Rattle.pf_protocol.specs.Ports.{Submission}
use Rattle.pf_protocol.specs.Servers.{Setup}
use Rattle.pf_volume.specs.Volumes.{Extent, IsVolume}
use Rattle.pf_law_positions.specs.Deeds.{BringsBy, Deed, Groups, Submits}
use Rattle.pf_law_positions.specs.Moves.{ChunkIsMoved, WereWritten}
use Rattle.pf_move.specs.Turns.{MoverTurn}
use Rattle.pf_law_epochs.specs.Copying.{IsCarriedOut}
use Rattle.pf_law_homes.specs.Chunks.{ChunkGroups, groups_in}
use Rattle.pf_law_runs.specs.pf_law_service.specs.Services.{Service, epoch_of_now, writes_of}
use Rattle.pf_law_runs.specs.pf_law_service.specs.Served.{ChunkIsServed}
use Rattle.pf_law_runs.specs.pf_world.specs.pf_chunk.specs.Runs.{ChunkRun}
use Rattle.pf_law_runs.specs.pf_world.specs.pf_world_moments.specs.Hosts.{event_count}
use Rattle.pf_law_runs.specs.pf_world.specs.pf_world_moments.specs.Moments.{Moment}
use Rattle.pf_law_runs.specs.pf_law_movers.specs.Epochs.{epoch_of, group_of_epoch, groups_in_turn}
use Rattle.pf_law_runs.specs.pf_law_movers.specs.Handing.{reached}
use Rattle.pf_law_runs.specs.pf_law_movers.specs.Hosted.{carried_into, history_of_run, setup_of_group, setup_of}
use Rattle.pf_law_runs.specs.pf_law_movers.proofs.EndedMoves.{last_of, move_of}
use Rattle.pf_law_runs.specs.pf_law_movers.proofs.MovePieces.{AreHandedAfter, AreHeardBefore, all_acked, carried as carried_out, moved, no_answer}
use Rattle.pf_law_runs.specs.pf_law_movers.proofs.Lives.{its_own}
use Rattle.pf_law_runs.specs.pf_law_movers.proofs.OfMoves.{AreGroupsOf, HasGroup, IsOfMoves, group_in}
use Rattle.pf_law_mounts.specs.Sectors.{WasCarried}
use Rattle.pf_law_mounts.proofs.Known.{IsServing}

-- The laws of pf_law_service on a move

pub record AreMovedAfter : Type 0 where
  pub before : (chunk epoch moment by : ℕ) (s : Service) (ds : List Deed) (deed : Deed) → ChunkIsServed chunk s ds → epoch < s.epoch → slice_get ds moment ≡ Some deed → BringsBy chunk epoch by deed → by ≤ s.left epoch
  pub since : (chunk epoch moment client place : ℕ) (s : Service) (ds : List Deed) → ChunkIsServed chunk s ds → slice_get ds moment ≡ Some (Submits client chunk (suc epoch) place) → s.since (suc epoch) ≤ place

-- Groups of one chunk alone

abbrev with_these : (ℕ → Setup) → (ℕ → History) → (ℕ → List Submission) → Groups
with_these setup history moved = record { moves = λ chunk. 0; setup = λ chunk epoch. setup epoch; history = λ chunk epoch. history epoch; writes = λ chunk epoch client. []; moved = λ chunk epoch. moved epoch }

module _ (ds : List Deed) (chunk first : ℕ) where
  to_these : (g : Groups) (epoch : ℕ) (last : Answered) → ChunkIsMoved g ds chunk first epoch last → ChunkIsMoved (with_these (g.setup chunk) (g.history chunk) (g.moved chunk)) ds chunk first epoch last
  to_these g zero last m = record { k = m.k; answered = m.answered; from = m.from; eight = m.eight; place = m.place; server = m.server; taken = m.taken; after_move = m.after_move; after_answers = m.after_answers; rule = m.rule; same = m.same; all = m.all; clients_wait = m.clients_wait }
  to_these g (suc epoch) last m = record { k = m.k; answered = m.answered; from = m.from; eight = m.eight; place = m.place; server = m.server; taken = m.taken; after_move = m.after_move; after_answers = m.after_answers; rule = m.rule; same = m.same; all = m.all; clients_wait = m.clients_wait }

  of_these : (g : Groups) (epoch : ℕ) (last : Answered) → ChunkIsMoved (with_these (g.setup chunk) (g.history chunk) (g.moved chunk)) ds chunk first epoch last → ChunkIsMoved g ds chunk first epoch last
  of_these g zero last m = record { k = m.k; answered = m.answered; from = m.from; eight = m.eight; place = m.place; server = m.server; taken = m.taken; after_move = m.after_move; after_answers = m.after_answers; rule = m.rule; same = m.same; all = m.all; clients_wait = m.clients_wait }
  of_these g (suc epoch) last m = record { k = m.k; answered = m.answered; from = m.from; eight = m.eight; place = m.place; server = m.server; taken = m.taken; after_move = m.after_move; after_answers = m.after_answers; rule = m.rule; same = m.same; all = m.all; clients_wait = m.clients_wait }

  moved_same : (g h : Groups) (epoch : ℕ) (last : Answered) → g.setup chunk ≡ h.setup chunk → g.history chunk ≡ h.history chunk → g.moved chunk ≡ h.moved chunk → ChunkIsMoved g ds chunk first epoch last → ChunkIsMoved h ds chunk first epoch last
  moved_same g h epoch last setup history moves m =
      of_these h epoch last
      (subst (λ (x : ℕ → Setup). ChunkIsMoved (with_these x (h.history chunk) (h.moved chunk)) ds chunk first epoch last) setup
      (subst (λ (x : ℕ → History). ChunkIsMoved (with_these (g.setup chunk) x (h.moved chunk)) ds chunk first epoch last) history
      (subst (λ (x : ℕ → List Submission). ChunkIsMoved (with_these (g.setup chunk) (g.history chunk) x) ds chunk first epoch last) moves (to_these g epoch last m))))

-- so a move carried the chunk between the same groups
module _ (chunk epoch pieces : ℕ) (last : ℕ → Answered) (turns : List MoverTurn) where
  abbrev IsOut : Groups → Type 0
  IsOut g = IsCarriedOut g chunk epoch pieces last turns

  to_those : (g : Groups) → IsOut g → IsOut (with_these (g.setup chunk) (g.history chunk) (g.moved chunk))
  to_those g c = record { some = c.some; mover = c.mover; calls = c.calls; switched = c.switched; read = c.read; gave = c.gave; handed = c.handed; acked = c.acked }

  of_those : (g : Groups) → IsOut (with_these (g.setup chunk) (g.history chunk) (g.moved chunk)) → IsOut g
  of_those g c = record { some = c.some; mover = c.mover; calls = c.calls; switched = c.switched; read = c.read; gave = c.gave; handed = c.handed; acked = c.acked }

  carried_same : (g h : Groups) → g.setup chunk ≡ h.setup chunk → g.history chunk ≡ h.history chunk → g.moved chunk ≡ h.moved chunk → IsOut g → IsOut h
  carried_same g h setup history moves c =
      of_those h
      (subst (λ (x : ℕ → Setup). IsOut (with_these x (h.history chunk) (h.moved chunk))) setup
      (subst (λ (x : ℕ → History). IsOut (with_these (g.setup chunk) x (h.moved chunk))) history
      (subst (λ (x : ℕ → List Submission). IsOut (with_these (g.setup chunk) (g.history chunk) x)) moves (to_those g c))))

pred_low : (n : ℕ) → pred n ≤ n
pred_low zero = omega arith
pred_low (suc n) = omega arith

pub serving_low : (s : Service) → epoch_of_now s ≤ s.epoch
serving_low s = by s.moving
  where
    by : (b : Bool) → (if b then pred s.epoch else s.epoch) ≤ s.epoch
    by true = pred_low s.epoch
    by false = omega arith

take_all : {X : Type 0} → (xs : List X) → take (length xs) xs ≡ xs
take_all [] = refl
take_all (x ∷ xs) = ap (λ ys. x ∷ ys) (take_all xs)

-- what movers handed to the groups
abbrev pub carried_all : Extent → List ChunkRun → List Moment → (chunk epoch : ℕ) → List Submission
carried_all v chunks told = λ chunk epoch. carried_into v chunks told chunk epoch (group_of_epoch told chunk (suc epoch))

-- the groups of a chunk, by its service
abbrev pub groups_at : Extent → List ChunkRun → List Moment → (chunk : ℕ) → Service → ChunkGroups
groups_at v chunks told chunk s = record {
  moves = epoch_of_now s;
  setup = s.setup;
  history = s.history;
  writes = λ epoch client. writes_of s epoch client;
  moved = λ epoch. carried_all v chunks told chunk epoch;
}

-- A chunk of a run, and its service

module _ (v : Extent) (chunks : List ChunkRun) (told : List Moment) (run : IsOfMoves v chunks told) (far : (k : ℕ) (c : ChunkRun) → slice_get chunks k ≡ Some c → reached k told ≤ length c.group.history) (volume : IsVolume v)
    (own : ℕ) (small : own < v.chunks) (s : Service) (ds : List Deed) (serving_so : IsServing chunks told own s ds) where
  abbrev carried : (chunk epoch : ℕ) → List Submission
  carried = carried_all v chunks told

  abbrev whole_history : Option ℕ → History
  whole_history None = []
  whole_history (Some k) = history_of_run (slice_get chunks k)

  -- the groups of this chunk as its service has them, and those of others as they are
  abbrev pub all_groups : Groups
  all_groups = record {
    moves = λ chunk. 0;
    setup = λ chunk. if chunk == own then s.setup else (λ epoch. setup_of_group chunks (group_of_epoch told chunk epoch));
    history = λ chunk. if chunk == own then s.history else (λ epoch. whole_history (group_of_epoch told chunk epoch));
    writes = λ chunk epoch client. [];
    moved = carried;
  }

  abbrev pub upto : ℕ → ℕ
  upto k = event_count (slice_get chunks k)

  within : (epoch k : ℕ) → group_of_epoch told own epoch ≡ Some k → epoch ≤ s.epoch
  within epoch k at = let low = slice_get_within (groups_in_turn told own) epoch k at in let turns = serving_so.turns in omega (arith, low, turns)

  -- the group of one of its epochs
  its_group : (epoch k : ℕ) (c : ChunkRun) → group_of_epoch told own epoch ≡ Some k → slice_get chunks k ≡ Some c → (s.setup epoch ≡ c.group.setup) × (s.history epoch ≡ c.group.history)
  its_group epoch k c at there =
      let g = serving_so.groups epoch (within epoch k at) in
      let one : g.k ≡ k = same_Some g.k k (sym g.at ∙ at) in
      let same : g.c ≡ c = same_Some g.c c (sym g.there ∙ ap (slice_get chunks) one ∙ there) in
      (sym g.setup ∙ ap (λ (x : ChunkRun). x.group.setup) same, sym g.history ∙ ap (λ (x : ChunkRun). x.group.history) same)

  upto_is : (k : ℕ) (c : ChunkRun) → slice_get chunks k ≡ Some c → take (upto k) c.group.history ≡ c.group.history
  upto_is k c there = ap (λ o. take (event_count o) c.group.history) there ∙ take_all c.group.history

  pub groups_so : AreGroupsOf v chunks told upto all_groups
  groups_so = record {
    far = λ k c there. subst (λ o. reached k told ≤ event_count o) (sym there) (far k c there);
    setup = λ chunk epoch k c at there.
        by_test (chunk == own) (λ b. (if b then s.setup else (λ epoch. setup_of_group chunks (group_of_epoch told chunk epoch))) epoch ≡ c.group.setup)
        (λ same. (its_group epoch k c (ap (λ i. group_of_epoch told i epoch) (sym (eqb-true chunk own same)) ∙ at) there).0)
        (λ _. ap (setup_of_group chunks) at ∙ ap setup_of there);
    history = λ chunk epoch k c at there.
        by_test (chunk == own) (λ b. (if b then s.history else (λ epoch. whole_history (group_of_epoch told chunk epoch))) epoch ≡ take (upto k) c.group.history)
        (λ same. (its_group epoch k c (ap (λ i. group_of_epoch told i epoch) (sym (eqb-true chunk own same)) ∙ at) there).1 ∙ sym (upto_is k c there))
        (λ _. ap whole_history at ∙ ap history_of_run there ∙ sym (upto_is k c there));
    moved = λ chunk epoch k at. ap (carried_into v chunks told chunk epoch) at;
  }

  abbrev part : told ≡ told ++ []
  part = sym (append-nil told)

  abbrev group_of : (e : ℕ) → e ≤ epoch_of told own → HasGroup chunks told own e
  group_of e low = group_in v chunks told run.moves told [] part own e small low

  -- what was written in a move was acknowledged after it
  prior : (e : ℕ) → e < epoch_of told own → (k : ℕ) → group_of_epoch told own e ≡ Some k → (q bound first : ℕ) → e ≤ epoch_of (take q told) own → reached k (take q told) ≤ bound → WereWritten all_groups own first e bound
  prior zero ended k at q bound first later low = λ j nth a its there. absurd (none-some a there)
  prior (suc e) ended k at q bound first later low =
      let was : e < epoch_of told own = omega (arith, ended) in
      let o = group_of e (omega (arith, was)) in
      let w = group_of (suc e) (omega (arith, ended)) in
      let m = move_of v chunks told run volume told [] part upto all_groups groups_so own e small was in
      let same : k ≡ w.k = same_Some k w.k (sym at ∙ w.at) in
      all_acked v chunks told run volume told [] part upto all_groups groups_so own e small o.k w.k o.c w.c o.at w.at o.there w.there m.turns m.at m.switched q bound first later (subst (λ g. reached g (take q told) ≤ bound) same low)

  -- the mover's last read of a piece in an epoch
  abbrev last_by : (n e : ℕ) → (e < epoch_of told own) ⊎ (epoch_of told own ≤ e) → Answered
  last_by n e (inl ended) = last_of v chunks told run volume told [] part upto all_groups groups_so own e small ended n
  last_by n e (inr past) = no_answer

  abbrev pub last_in : (n e : ℕ) → Answered
  last_in n e = last_by n e (cases_lt e (epoch_of told own))

  same_setup : all_groups.setup own ≡ s.setup
  same_setup = its_own own own s.setup (λ epoch. setup_of_group chunks (group_of_epoch told own epoch)) refl

  same_history : all_groups.history own ≡ s.history
  same_history = its_own own own s.history (λ epoch. whole_history (group_of_epoch told own epoch)) refl

  carried_by : (e : ℕ) → e < epoch_of told own → (o : (e < epoch_of told own) ⊎ (epoch_of told own ≤ e)) → WasCarried v told (groups_at v chunks told own s) own e (λ n. last_by n e o)
  carried_by e ended (inr past) = absurd (omega (arith, ended, past))
  carried_by e ended (inl its) =
      let o = group_of e (omega (arith, its)) in
      let w = group_of (suc e) (omega (arith, its)) in
      let m = move_of v chunks told run volume told [] part upto all_groups groups_so own e small its in
      let blocks = volume.blocks.1 in
      let some = volume.some_sectors in record {
        turns = m.turns;
        calls = m.at;
        pieces = v.sectors / 8;
        all = omega (arith, blocks);
        carried =
            carried_same own e (v.sectors / 8) (last_of v chunks told run volume told [] part upto all_groups groups_so own e small its) m.turns all_groups (groups_in (groups_at v chunks told own s)) same_setup same_history refl
            (carried_out v chunks told run volume told [] part upto all_groups groups_so own e small o.k w.k o.c w.c o.at w.at o.there w.there m.turns m.at m.switched (omega (arith, some)));
      }

  -- the move from the group of an epoch carried the chunk
  pub was_carried : (e : ℕ) → e < epoch_of told own → WasCarried v told (groups_at v chunks told own s) own e (λ n. last_in n e)
  was_carried e ended = carried_by e ended (cases_lt e (epoch_of told own))

  module _ (laws : AreMovedAfter) (served : ChunkIsServed own s ds) where
    ended_epoch : (e : ℕ) → e < epoch_of told own → (suc e ≤ epoch_of_now s) × (e < s.epoch)
    ended_epoch e ended =
        let is = serving_so.epochs in
        let low = serving_low s in
        (omega (arith, ended, is), omega (arith, ended, is, low))

    -- what was answered came before the mover read
    hears : (e k : ℕ) → e < epoch_of told own → group_of_epoch told own e ≡ Some k → AreHeardBefore v told ds own e k
    hears e k ended group q place at on_the_move now moment by deed there is =
        let low = (ended_epoch e ended).1 in
        let left = laws.before own e moment by s ds deed served low there is in
        let groups = on_the_move.groups in
        let read = serving_so.left q k place e at low group (omega (arith, groups, now)) in omega (arith, left, read)

    -- and nothing was handed to the next group before the move had ended
    waits : (e k : ℕ) → e < epoch_of told own → group_of_epoch told own (suc e) ≡ Some k → AreHandedAfter told ds own e k
    waits e k ended group moment client by at =
        let b = serving_so.since k e (ended_epoch e ended).0 group in
        let since = laws.since own e moment client by s ds served at in
        let reach = b.reached in (b.q, b.serves, omega (arith, since, reach))

    moved_by : (n e : ℕ) → n < v.sectors / 8 → e < epoch_of told own → (o : (e < epoch_of told own) ⊎ (epoch_of told own ≤ e)) → ChunkIsMoved all_groups ds own (8 * n) e (last_by n e o)
    moved_by n e low ended (inr past) = absurd (omega (arith, ended, past))
    moved_by n e low ended (inl its) =
        let o = group_of e (omega (arith, its)) in
        let w = group_of (suc e) (omega (arith, its)) in
        let m = move_of v chunks told run volume told [] part upto all_groups groups_so own e small its in
        moved v chunks told run volume told [] part upto all_groups groups_so own e small o.k w.k o.c w.c o.at w.at o.there w.there m.turns m.at m.switched ds (prior e its o.k o.at) (hears e o.k its o.at) (waits e w.k its w.at) n low

    -- each piece was moved
    pub piece_moved : (n e : ℕ) → n < v.sectors / 8 → e < epoch_of_now s → ChunkIsMoved (groups_in (groups_at v chunks told own s)) ds own (8 * n) e (last_in n e)
    piece_moved n e low ended =
        let is = serving_so.epochs in
        moved_same ds own (8 * n) all_groups (groups_in (groups_at v chunks told own s)) e (last_in n e) same_setup same_history refl
        (moved_by n e low (omega (arith, ended, is)) (cases_lt e (epoch_of told own)))
