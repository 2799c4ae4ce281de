-- What a look tells of a group that is read, of a server that may not run, and of a read that is answered.
use Rattle.std.proofs.Common.{◌≡◌, ℕ, Bool, IsTrue, List, [], ◌∷◌, ◌++◌, length, Option, None, Result, Ok, Err, IfOk, OnErr, OnOk, sym, ◌∙◌, subst}
use Rattle.pf_base.specs.declared.errors.NoMemory.{NoMemory}
use Rattle.pf_turn.specs.declared.log.Stamped.{Stamped}
use Rattle.pf_turn.specs.Lists.{Begins, entries_of}
use Rattle.pf_disk.specs.declared.disk.Disk.{Ghosts}
use Rattle.pf_entry.specs.Ops.{Sector}
use Rattle.pf_protocol.specs.Servers.{Server}
use Rattle.pf_protocol.specs.Groups.{Group}
use Rattle.pf_shared.specs.pf_group.specs.declared.errors.Down.{Down}
use Rattle.pf_shared.specs.pf_group.specs.GroupIs.{GroupIs, state_of}
use Rattle.pf_shared.specs.pf_group.specs.Readers.{ServerTells}
use Rattle.pf_shared.specs.declared.moment.SeatMoment.{SeatMoment}
use Rattle.pf_shared.specs.declared.moment.SeatMoment.TheVariants.{Look}
use Rattle.pf_shared.specs.declared.behind.Behind.{Behind}
use Rattle.pf_shared.specs.declared.parts.GroupSeat.{GroupSeat}
use Rattle.pf_shared.specs.declared.parts.SharedGroup.{SharedGroup}
use Rattle.pf_shared.specs.Behinds.{HasLooked, Stays, group_in, list_of, start_of}
use Rattle.pf_shared.specs.Calls.{Finds, IsHistory}
use Rattle.pf_shared.specs.Looks.{HandsOut, read_handed_out}
use Rattle.pf_shared.specs.Moments.{entry, handed_out}
use Rattle.pf_shared.specs.Seats.{IsFirst, IsSameSeat, IsSeatOf, number_of, out_of, root_in, seen_by}
use Rattle.pf_shared.specs.Since.{state_by_now}
use Rattle.pf_shared.specs.Telling.{Tells}
use Rattle.pf_shared.proofs.LookEntries as looking
use Rattle.pf_shared.proofs.SeatCalls.{adds_of}
use Rattle.pf_live_looks.specs.declared.errors.LookFault.{LookFault}
use Rattle.pf_live_looks.specs.Looks.{SeatTakesRead, look_told}
use Rattle.pf_live_looks.specs.Telling.{TellsAt}

-- what is told of one server, or that it does not run
tells_of : {D : Type 0} {disk : Ghosts D} (shared : SharedGroup D disk) (old new : GroupSeat D disk) {A : Type 0} → (i : ℕ) (P : A → Server → Type 0) (r : Result (Result A Down) NoMemory) → Tells shared old new r (λ t g. ServerTells g i t P) → TellsAt shared old new i (look_told r) P
tells_of shared old new i P (Ok (Ok a)) t = record { seat = t.seat; look = t.look; history = t.history }
tells_of shared old new i P (Ok (Err down)) t = record { seat = t.seat; look = t.look; history = t.history }
tells_of shared old new i P (Err e) t = record { seat = t.seat; look = t.err; history = t.history }

-- a look of a seat, whose turn found b, read the group x that it has, and ended
module _ {D : Type 0} {disk : Ghosts D} (shared : SharedGroup D disk) (old mid new : GroupSeat D disk) (b : Behind D disk) (rooted : start_of b ≡ root_in shared) (begins : Begins (seen_by old) (list_of b)) (own : entries_of (number_of old) (list_of b) ≡ entries_of (number_of old) (seen_by old)) (alone : IsFirst old → out_of old ≡ 0 → list_of b ≡ seen_by old) (same : IsSameSeat old mid) (is : IsSeatOf shared new) (still : IsSameSeat mid new) (history : IsHistory (root_in shared) (seen_by new)) (x : GroupIs) (x_is : x ≡ group_in b) where
  pub tells : {A : Type 0} → (P : A → Group → Type 0) (told r : Result A NoMemory) → IfOk told (λ a. IsTrue x.told → P a (state_of x)) → IfOk r (λ a. told ≡ Ok a) → OnOk r (seen_by new ≡ list_of b ++ entry (number_of mid) (Look None) ∷ []) → OnErr r (seen_by new ≡ list_of b) → Tells shared old new r P
  tells {A} P told r so = looking.tells shared old mid new b rooted begins own alone same is still history P told r (subst (λ (y : GroupIs). IfOk told (λ a. IsTrue y.told → P a (state_of y))) x_is so)

  pub tells_at : {A : Type 0} → (i : ℕ) (P : A → Server → Type 0) (told r : Result (Result A Down) NoMemory) → IfOk told (λ t. IsTrue x.told → ServerTells (state_of x) i t P) → IfOk r (λ t. told ≡ Ok t) → OnOk r (seen_by new ≡ list_of b ++ entry (number_of mid) (Look None) ∷ []) → OnErr r (seen_by new ≡ list_of b)
      → (out : Result A LookFault) → out ≡ look_told r → TellsAt shared old new i out P
  tells_at {A} i P told r so from ok err out out_is = subst (λ (o : Result A LookFault). TellsAt shared old new i o P) (sym out_is) (tells_of shared old new i P r (tells (λ (t : Result A Down) (g : Group). ServerTells g i t P) told r so from ok err))

-- a turn of seat n, which found the list of b and took the answer of a read
module _ {D : Type 0} {disk : Ghosts D} (root : GroupIs) (n m : ℕ) (number_is : m ≡ n) (alone : Type 0) (seen : List (Stamped SeatMoment)) (b : Behind D disk) (rooted : start_of b ≡ root) (finds : Finds n alone seen (list_of b)) (new : List (Stamped SeatMoment)) where
  group_is : state_of (group_in b) ≡ state_by_now root (list_of b)
  group_is = looking.group_is root n m number_is alone seen b rooted finds new

  handed_is : (group_in b).taken ≡ handed_out root.taken (list_of b)
  handed_is = looking.handed_is root n m number_is alone seen b rooted finds new

  told_is : (group_in b).told ≡ root.told
  told_is = looking.told_is root n m number_is alone seen b rooted finds new

  pub take_ok : (number : ℕ) (r : Result (Option (List Sector)) NoMemory) (after : Behind D disk) → new ≡ list_of after → IfOk r (λ answer. HasLooked m (read_handed_out number answer) b after) → IfOk r (HandsOut (group_in b).told (state_of (group_in b)) (group_in b).taken number) → OnOk r (IsTrue (group_in b).told → length (group_in b).taken ≡ (state_of (group_in b)).reads)
      → IfOk r (λ answer. SeatTakesRead root n alone seen number answer new)
  unfolding adds_of
  take_ok number (Ok answer) after new_is looked handed numbered = record {
    adds = adds_of n m alone seen (list_of b) new (Look (read_handed_out number answer)) number_is finds (new_is ∙ looked.listed);
    numbered = λ told. subst (λ (g : Group). length (handed_out root.taken (list_of b)) ≡ g.reads) group_is (subst (λ (l : List Bool). length l ≡ (state_of (group_in b)).reads) handed_is (numbered (subst IsTrue (sym told_is) told)));
    handed = subst (λ (t : Bool). HandsOut t (state_by_now root (list_of b)) (handed_out root.taken (list_of b)) number answer) told_is
        (subst (λ (g : Group). HandsOut (group_in b).told g (handed_out root.taken (list_of b)) number answer) group_is (subst (λ (l : List Bool). HandsOut (group_in b).told (state_of (group_in b)) l number answer) handed_is handed));
  }
  take_ok number (Err e) after new_is looked handed numbered = tt

  pub take_err : {A : Type 0} → (r : Result A NoMemory) (after : Behind D disk) → new ≡ list_of after → OnErr r (Stays b after) → OnErr r (Finds n alone seen new)
  take_err (Ok a) after new_is stays = tt
  take_err (Err e) after new_is stays = subst (Finds n alone seen) (sym (new_is ∙ stays.listed)) finds
