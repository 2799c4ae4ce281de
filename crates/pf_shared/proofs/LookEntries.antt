-- A look: one more entry, and what it tells.
use Rattle.std.proofs.Common.{◌≡◌, ℕ, Bool, IsTrue, true, List, [], ◌∷◌, ◌++◌, length, Option, Some, None, is_some, Result, Ok, Err, IfNone, IfOk, IfSome, OnErr, OnOk, sym, refl, ap, ◌∙◌, subst, arith}
use Rattle.std.specs.Bool.{then_some}
use Rattle.pf_base.specs.declared.errors.NoMemory.{NoMemory}
use Rattle.pf_turn.specs.declared.log.Stamped.{Stamped}
use Rattle.pf_disk.specs.declared.disk.Disk.{Ghosts}
use Rattle.pf_entry.specs.Ops.{Sector}
use Rattle.pf_protocol.specs.Groups.{Group}
use Rattle.pf_protocol.specs.Histories.{History, replay}
use Rattle.pf_group_rounds.specs.pf_group.specs.Going.{Takes, WentBy}
use Rattle.pf_group_rounds.specs.pf_group.specs.GroupIs.{GroupIs, state_of}
use Rattle.pf_group_rounds.specs.pf_group.proofs.Chains.{by_one, by_same}
use Rattle.pf_group_rounds.specs.pf_group.specs.Readers.{GroupHasTaken, LacksAnswer}
use Rattle.pf_group_rounds.specs.pf_group.specs.Roots.{root_of}
use Rattle.pf_group_rounds.specs.Growing.{Pays}
use Rattle.pf_group_rounds.proofs.FaultCounts.{pays_refl, pays_same}
use Rattle.pf_shared.specs.declared.moment.SeatMoment.{SeatMoment}
use Rattle.pf_shared.specs.declared.moment.SeatMoment.TheVariants.{Look}
use Rattle.pf_shared.specs.declared.moment.Did.{Did}
use Rattle.pf_shared.specs.declared.moment.Did.TheVariants.{Looked}
use Rattle.pf_shared.specs.declared.behind.Behind.{Behind}
use Rattle.pf_shared.specs.declared.parts.GroupSeat.{GroupSeat}
use Rattle.pf_shared.specs.declared.parts.SharedGroup.{SharedGroup}
use Rattle.pf_shared.specs.Behinds.{HasLooked, Stays, list_of}
use Rattle.pf_shared.specs.Calls.{Finds, IsHistory}
use Rattle.pf_shared.specs.Hands.{Key, is_tidy}
use Rattle.pf_shared.specs.Looks.{HandsOut, Looks, read_handed_out}
use Rattle.pf_shared.specs.Moments.{entry, handed_out, moment_taken_with}
use Rattle.pf_shared.specs.Seats.{IsAlone, IsFirst, IsSameSeat, IsSeatOf, number_of, out_of, root_in, seen_by}
use Rattle.pf_shared.specs.Since.{happened_since, state_by_now, whole_history}
use Rattle.pf_shared.specs.Telling.{Tells}
use Rattle.pf_shared.specs.Woven.{steps_in, woven}
use Rattle.pf_shared.proofs.SeatEvents.{handed-append}
use Rattle.pf_shared.proofs.SeatClaims.{tidy_look}
use Rattle.pf_shared.proofs.TurnEffects.{same_list, whole_is}
use Rattle.pf_shared.proofs.SeatCalls.{adds_of, grew_by, grew_none}
use Rattle.pf_shared.proofs.Since.{since_same}
use Rattle.pf_shared.proofs.WovenLists.{did, steps-append, woven-look}
use Rattle.pf_turn.specs.Lists.{Begins, GrewBy, entries_of}

-- what was before, and one more look of a seat, to which nothing happened
module _ (ds : List (Stamped Did)) (hs : History) (counted : steps_in ds ≡ length hs) (seat : ℕ) (read : Option ℕ) (es : List (Stamped Did)) (grown : es ≡ ds ++ did seat (Looked read) ∷ []) (hs' : History) (same : hs' ≡ hs) where
  pub looked_counted : steps_in es ≡ length hs'
  looked_counted = let a = ap steps_in grown ∙ steps-append ds seat (Looked read) in let b = ap length same in omega arith

  pub looked_listed : woven es hs' ≡ woven ds hs ++ entry seat (Look read) ∷ []
  looked_listed = ap (λ l. woven l hs') grown ∙ (ap (λ l. woven (ds ++ did seat (Looked read) ∷ []) l) same ∙ woven-look seat (Looked read) ds hs refl)

  pub looked_handed : (from taken taken' : List Bool) → taken ≡ handed_out from (woven ds hs) → taken' ≡ moment_taken_with taken (Look read) → taken' ≡ handed_out from (woven es hs')
  looked_handed from taken taken' was now = now ∙ (ap (λ t. moment_taken_with t (Look read)) was ∙ sym (ap (handed_out from) looked_listed ∙ handed-append from (woven ds hs) (entry seat (Look read) ∷ [])))

  pub looked_tidy : (k : Key) → is_tidy k None (woven ds hs) ≡ true → is_tidy k None (woven es hs') ≡ true
  looked_tidy k tidy = ap (is_tidy k None) looked_listed ∙ tidy_look seat read (woven ds hs) k tidy

module _ {D : Type 0} {disk : Ghosts D} (old mid new : Behind D disk) (same_group : (mid.group ≡ old.group) × (mid.start ≡ old.start)) (same_turns : mid.turns.items ≡ old.turns.items) where
  pub has_looked : (seat : ℕ) (read : Option ℕ) → new.turns.items ≡ mid.turns.items ++ did seat (Looked read) ∷ [] → new.group.history ≡ mid.group.history → new.start ≡ mid.start → HasLooked seat read old new
  has_looked seat read grown same_history same_start = record {
    listed = looked_listed mid.turns.items (happened_since mid.start mid.group) mid.counted seat read new.turns.items grown (happened_since new.start new.group) (ap (λ (x : GroupIs). happened_since x new.group) same_start ∙ since_same mid.start mid.group mid.begun new.group same_history) ∙ ap (λ l. l ++ entry seat (Look read) ∷ []) (same_list old mid new same_group same_turns);
    root = same_start ∙ same_group.1;
  }

-- the number of a read that was taken
pub read_is : (number : ℕ) (answer : Option (List Sector)) → then_some (is_some answer) number ≡ read_handed_out number answer
read_is number (Some bytes) = refl
read_is number None = refl

-- an answer that is taken changes which answers were handed out, and nothing else
pub record Took (number : ℕ) (answer : Option (List Sector)) (old new : GroupIs) : Type 0 where
  pub history : new.history ≡ old.history
  pub root : root_of new ≡ root_of old
  pub told : new.told ≡ old.told
  pub taken : new.taken ≡ moment_taken_with old.taken (Look (read_handed_out number answer))
  pub handed : HandsOut old.told (state_of old) old.taken number answer
  pub pays : Pays old new
  pub by : WentBy old new

pub took : (number : ℕ) (answer : Option (List Sector)) (old new : GroupIs) → IfSome answer (λ bytes. GroupHasTaken old number bytes new) → IfNone answer (LacksAnswer old number) → IfNone answer (new ≡ old) → Took number answer old new
took number (Some bytes) old new has lacks same = record {
  history = ap (λ x. x.history) has.is;
  root = ap root_of has.is;
  told = ap (λ x. x.told) has.is;
  taken = ap (λ x. x.taken) has.is;
  handed = (has.first, has.answer);
  pays = pays_same old new (has.is ∙ ap (λ (g : GroupIs). record old { taken = g.taken }) (sym has.is));
  by = by_one old new (Takes (has.is ∙ ap (λ (g : GroupIs). record old { taken = g.taken }) (sym has.is)));
}
took number None old new has lacks same = record {
  history = ap (λ x. x.history) same;
  root = ap root_of same;
  told = ap (λ x. x.told) same;
  taken = ap (λ x. x.taken) same;
  handed = lacks;
  pays = subst (Pays old) (sym same) (pays_refl old);
  by = by_same old new same;
}

-- a look by seat n, which found the list of b
module _ {D : Type 0} {disk : Ghosts D} (root : GroupIs) (n m : ℕ) (number_is : m ≡ n) (alone : Type 0) (seen : List (Stamped SeatMoment)) (b : Behind D disk) (rooted : b.start ≡ root) (finds : Finds n alone seen (list_of b)) (new : List (Stamped SeatMoment)) where
  history_is : b.group.history ≡ whole_history root (list_of b)
  history_is = sym (whole_is b) ∙ ap (λ (x : GroupIs). whole_history x (list_of b)) rooted

  setup_is : b.group.setup ≡ root.setup
  setup_is = ap (λ r. r.setup) b.same_root ∙ ap (λ (x : GroupIs). x.setup) rooted

  pub handed_is : b.group.taken ≡ handed_out root.taken (list_of b)
  handed_is = b.handed ∙ ap (λ (x : GroupIs). handed_out x.taken (list_of b)) rooted

  pub told_is : b.group.told ≡ root.told
  told_is = b.same_told ∙ ap (λ (x : GroupIs). x.told) rooted

  pub told_back : IsTrue root.told → IsTrue b.group.told
  told_back told = subst IsTrue (sym told_is) told

  -- the group behind the turn is that of the list
  pub group_is : state_of b.group ≡ state_by_now root (list_of b)
  group_is = ap (λ l. replay b.group.setup l) history_is ∙ ap (λ s. replay s (whole_history root (list_of b))) setup_is

  look : (P : Group → Type 0) → (IsTrue b.group.told → P (state_of b.group)) → new ≡ list_of b ++ entry m (Look None) ∷ [] → Looks root n alone seen P new
  unfolding adds_of
  look P shown is = record { adds = adds_of n m alone seen (list_of b) new (Look None) number_is finds is; shown = λ told. subst P group_is (shown (told_back told)) }

  -- what was told, where there was memory for it
  pub look_ok : {A : Type 0} → (P : A → Group → Type 0) (told r : Result A NoMemory) → IfOk told (λ a. IsTrue b.group.told → P a (state_of b.group)) → IfOk r (λ a. told ≡ Ok a) → OnOk r (new ≡ list_of b ++ entry m (Look None) ∷ []) → IfOk r (λ a. Looks root n alone seen (P a) new)
  look_ok {A} P told (Ok a) so from is = look (P a) (subst (λ (t : Result A NoMemory). IfOk t (λ a. IsTrue b.group.told → P a (state_of b.group))) from so) is
  look_ok P told (Err e) so from is = tt

  pub look_err : {A : Type 0} → (r : Result A NoMemory) → OnErr r (new ≡ list_of b) → OnErr r (Finds n alone seen new)
  look_err (Ok a) is = tt
  look_err (Err e) is = subst (Finds n alone seen) (sym is) finds

-- a look of a seat, whose turn found b, and ended
module _ {D : Type 0} {disk : Ghosts D} (shared : SharedGroup D disk) (old mid new : GroupSeat D disk) (b : Behind D disk) (rooted : b.start ≡ root_in shared) (begins : Begins (seen_by old) (list_of b)) (own : entries_of (number_of old) (list_of b) ≡ entries_of (number_of old) (seen_by old)) (alone : IsFirst old → out_of old ≡ 0 → list_of b ≡ seen_by old) (same : IsSameSeat old mid) (is : IsSeatOf shared new) (still : IsSameSeat mid new) (history : IsHistory (root_in shared) (seen_by new)) where
  found : Finds (number_of old) (IsAlone old) (seen_by old) (list_of b)
  found = record { begins = begins; own = own; exact = λ a. alone a.0 a.1 }

  stands : IsSeatOf shared new × IsSameSeat old new
  stands = (is, (still.0 ∙ same.0, still.1 ∙ same.1, still.2 ∙ same.2, still.3 ∙ same.3))

  pub tells : {A : Type 0} → (P : A → Group → Type 0) (told r : Result A NoMemory) → IfOk told (λ a. IsTrue b.group.told → P a (state_of b.group)) → IfOk r (λ a. told ≡ Ok a) → OnOk r (seen_by new ≡ list_of b ++ entry (number_of mid) (Look None) ∷ []) → OnErr r (seen_by new ≡ list_of b) → Tells shared old new r P
  tells P told r so from ok err = record {
    seat = stands;
    look = look_ok (root_in shared) (number_of old) (number_of mid) same.0 (IsAlone old) (seen_by old) b rooted found (seen_by new) P told r so from ok;
    err = look_err (root_in shared) (number_of old) (number_of mid) same.0 (IsAlone old) (seen_by old) b rooted found (seen_by new) r err;
    history = history;
  }

-- what is so of the value is so of what is told
pub told_so : {A : Type 0} → (P : A → Type 0) (told r : Result A NoMemory) → IfOk told P → IfOk r (λ it. told ≡ Ok it) → IfOk r P
told_so {A} P told (Ok it) so is = subst (λ (t : Result A NoMemory). IfOk t P) is so
told_so P told (Err e) so is = tt

-- the list grew by the look of a seat, if at all
module _ {D : Type 0} {disk : Ghosts D} (n m : ℕ) (number_is : m ≡ n) (seen : List (Stamped SeatMoment)) (old new : Behind D disk) (seen_is : seen ≡ list_of old) where
  pub grew_looked : {A : Type 0} → (r : Result A NoMemory) (read : A → Option ℕ) → IfOk r (λ a. HasLooked m (read a) old new) → OnErr r (Stays old new) → GrewBy n seen (list_of new)
  grew_looked (Ok a) read looked stays = grew_by n m seen (list_of old) (list_of new) (Look (read a)) number_is seen_is looked.listed
  grew_looked (Err e) read looked stays = grew_none n seen (list_of old) (list_of new) seen_is stays.listed

-- a look, and want of memory for it, leave what the list began with
module _ {D : Type 0} {disk : Ghosts D} (m : ℕ) (old new : Behind D disk) where
  pub looked_root : {A : Type 0} → (r : Result A NoMemory) (read : A → Option ℕ) → IfOk r (λ a. HasLooked m (read a) old new) → OnErr r (Stays old new) → new.start ≡ old.start
  looked_root (Ok a) read looked stays = looked.root
  looked_root (Err e) read looked stays = stays.root
