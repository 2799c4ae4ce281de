-- A read of a file, of each block of which the calls that touch it are apart and had ended before, gives what the calls up to its position have left.
use Rattle.std.proofs.Common.{◌≡◌, ℕ, zero, suc, ◌<◌, ◌≤◌, List, [], ◌∷◌, ◌++◌, length, map, Option, Some, None, slice_get, arith, refl, sym, ap, subst, ◌∙◌}
use Rattle.std.specs.List.{cons_option}
use Rattle.std.proofs.lemmas.Option.{none-some, same_Some}
use Rattle.pf_base.specs.Asks.{chunk_of, span_of}
use Rattle.pf_base.specs.declared.asks.Ask.{Ask}
use Rattle.pf_base.specs.declared.asks.Ask.TheVariants.{Write, Read}
use Rattle.pf_base.specs.declared.asks.Reply.{Reply}
use Rattle.pf_base.specs.declared.asks.Reply.TheVariants.{Written, Bytes}
use Rattle.pf_entry.specs.Lists.{Every}
use Rattle.pf_entry.proofs.Lists.{every_more}
use Rattle.pf_volume.specs.Volumes.{Extent, IsVolume}
use Rattle.pf_tree_tables.specs.Tables.{Tables, applied}
use Rattle.pf_tree_tables.specs.declared.changes.Txn.{Txn}
use Rattle.pf_tree.specs.Trees.{Data}
use Rattle.pf_tree.specs.Calls.{FileCall}
use Rattle.pf_file_calls.specs.Calls.{size_in}
use Rattle.pf_file_calls.specs.Moving.{data_moves}
use Rattle.pf_file_calls.specs.declared.answers.CallAnswer.{CallAnswer}
use Rattle.pf_file_calls.specs.declared.calls.Pending.{Pending}
use Rattle.pf_file_calls.specs.declared.calls.Planned.TheVariants.{Goes, Proposes}
use Rattle.pf_file_calls.specs.declared.moving.Moved.{Moved}
use Rattle.pf_law_plans.specs.Exchanges.{Exchange}
use Rattle.pf_law_contents.specs.Going.{CallAsks, GoOneByOne, HasNoRoom, IsDone, IsLookedUp, IsRefused, Went, call_done, done_of}
use Rattle.pf_law_contents.specs.Planned.{Changes, IsPlannedSo, PlannedCall, Stays, call_that_went}
use Rattle.pf_law_contents.specs.Stored.{GoesSo, Stored, TellStored, TellStoredAt, TellsStored, TellsStoredAt, stored_after, stored_by}
use Rattle.pf_journal.specs.declared.layouts.Layout.{Layout}
use Rattle.pf_law_calls.specs.Doings.{HaveRegisters, IsListOf}
use Rattle.pf_law_calls.specs.Lives.{CanBe, MountTold}
use Rattle.pf_law_calls.specs.Spelled.{CanAllBeSpelled}
use Rattle.pf_law_calls.specs.Trees.{AreFewCalls, call_named, calls_of, data_blocks}
use Rattle.pf_law_calls.proofs.CallNumbers.{named_on}
use Rattle.pf_law_files.proofs.PlannedChains.{IsChain, goes_in_place, named_there, next_of, plan_of, planned_of}
use Rattle.pf_law_files.proofs.ListedCalls.{InPlace, Named, Stands, Stood}
use Rattle.pf_law_files.proofs.Positions.{IsOf, tables_at}

pub tell_on : (xs ys : List Exchange) (s : Stored) → TellStored s xs → TellStored (stored_after s xs) ys → TellStored s (xs ++ ys)
tell_on [] ys s first rest = rest
tell_on (e ∷ xs) ys s first rest = (first.0, tell_on xs ys (stored_by s e.0) first.1 rest)

-- where each place is told what is stored, all are
pub tell_all : (its : List Exchange) (s : Stored) → ((chunk first : ℕ) → Every (λ (e : Exchange). chunk_of e.0 ≡ chunk → (span_of e.0).first ≡ first → TellStoredAt chunk first s its) its) → TellStored s its
tell_all [] s each = tt
tell_all (e ∷ its) s each = (
  of e.0 e.1 ((each (chunk_of e.0) (span_of e.0).first).0 refl refl).0,
  tell_all its (stored_by s e.0) (λ chunk first. every_more _ _ (λ other tells here too. (tells here too).1) its (each chunk first).1),
)
  where
    of : (ask : Ask) (reply : Reply) → TellsStoredAt (chunk_of ask) (span_of ask).first s ask reply → TellsStored s ask reply
    of (Read from span) (Bytes sectors) tells = tells refl refl
    of (Read from span) Written tells = tt
    of (Write to span sectors) reply tells = tt

-- none of the calls of a run was refused
module _ (wents : List Went) where
  fewer_one : (o : Option FileCall) → length (done_of wents) ≤ length wents → length (cons_option o (done_of wents)) ≤ suc (length wents)
  fewer_one None less = omega (arith, less)
  fewer_one (Some call) less = omega (arith, less)

fewer : (ws : List Went) → length (done_of ws) ≤ length ws
fewer [] = omega arith
fewer (x ∷ ws) = fewer_one ws (call_done x.call.call x.answer) (fewer ws)

abbrev IsWell : Went → Type 0
IsWell w = call_done w.call.call w.answer ≡ Some w.call.call

pub map_size : {X Y : Type 0} → (f : X → Y) (xs : List X) → length (map f xs) ≡ length xs
map_size f [] = refl
map_size f (x ∷ xs) = ap suc (map_size f xs)

well_one : (w : Went) (wents : List Went) (o : Option FileCall) → call_done w.call.call w.answer ≡ o → cons_option o (done_of wents) ≡ w.call.call ∷ map (λ (x : Went). x.call.call) wents → (done_of wents ≡ map (λ (x : Went). x.call.call) wents → Every IsWell wents) → Every IsWell (w ∷ wents)
well_one w wents None none all rest =
    let size = ap (λ (cs : List FileCall). length cs) all in
    let mapped = map_size (λ (x : Went). x.call.call) wents in
    let few = fewer wents in
    absurd (omega (arith, size, mapped, few))
well_one w wents (Some call) some all rest =
    let here : call ≡ w.call.call = cc in
    let others : done_of wents ≡ map (λ (x : Went). x.call.call) wents = cc in
    (some ∙ ap Some here, rest others)

pub well : (wents : List Went) → done_of wents ≡ map (λ (w : Went). w.call.call) wents → Every IsWell wents
well [] same = tt
well (w ∷ wents) same = well_one w wents (call_done w.call.call w.answer) refl same (λ rest. well wents rest)

pub map_twice : {X Y Z : Type 0} → (g : Y → Z) (f : X → Y) (xs : List X) → map g (map f xs) ≡ map (λ x. g (f x)) xs
map_twice g f [] = refl
map_twice g f (x ∷ xs) = ap (λ ys. g (f x) ∷ ys) (map_twice g f xs)

-- what follows tables is one
next_one : (v : Extent) (d : Data) (m : ℕ) (p : Pending) (t next other : Tables) (came : List Exchange) (answer : CallAnswer) → CallAsks v d m p t next came answer → IsPlannedSo v d m p t other → call_done p.call answer ≡ Some p.call → next ≡ other
next_one v d m p t _ _ _ _ (IsRefused fault refused) planned_so done = absurd (none-some p.call done)
next_one v d m p t _ _ _ _ (HasNoRoom txn plan) planned_so done = absurd (none-some p.call done)
next_one v d m p t _ _ _ _ (IsLookedUp step came answer plan goes) (Stays other its) done = refl
next_one v d m p t _ _ _ _ (IsLookedUp step came answer plan goes) (Changes txn its) done = (let e : Goes step ≡ Proposes txn = sym plan ∙ its in absurd (cc))
next_one v d m p t _ _ _ _ (IsDone txn came answer plan goes) (Stays step its) done = (let e : Proposes txn ≡ Goes step = sym plan ∙ its in absurd (cc))
next_one v d m p t _ _ _ _ (IsDone txn came answer plan goes) (Changes other its) done =
    let e : Proposes txn ≡ Proposes other = sym plan ∙ its in
    let same : txn ≡ other = cc in
    ap (λ (x : Txn). applied t x.changes) same

module _ (layout : Layout) (v : Extent) (told : List MountTold) (can : CanBe layout v told) (registers : HaveRegisters layout v told) (list : List (List ℕ)) (is : IsListOf layout v told list) (volume : IsVolume v)
    (spelled : CanAllBeSpelled told) (few : AreFewCalls told) (now after : List MountTold) (same : told ≡ now ++ after) where
  abbrev d : Data
  d = data_blocks layout v

  abbrev t_at : ℕ → Tables
  t_at n = tables_at list v n

  -- the tables of a call of the list, as its file data go
  abbrev pub AsListed : (s : Stood) → Stands layout v list now s → List Exchange → CallAnswer → Type 0
  AsListed s (InPlace e) came answer = GoesSo v (t_at s.position) (data_moves v (t_at s.position) (size_in (t_at s.position) s.call.call) s.call.call) came answer
  AsListed s (Named of named_so end) came answer = GoesSo v (t_at (suc s.position)) (data_moves v (t_at (suc s.position)) (size_in (t_at s.position) s.call.call) s.call.call) came answer

  pub named_told : (s : Stood) → Stands layout v list now s → call_named told s.mount s.call.number ≡ Some s.call.call
  named_told s (InPlace e) = named_there layout v told can registers list is volume spelled few now after same s.ended s.mount s.call e.answer e.at
  named_told s (Named of named_so end) = subst (λ us. call_named us s.mount s.call.number ≡ Some s.call.call) (sym same) (named_on now after s.mount s.call.number s.call.call named_so)

  pub listed : (s : Stood) (st : Stands layout v list now s) (next : Tables) (came : List Exchange) (answer : CallAnswer) → CallAsks v d s.mount s.call (t_at s.position) next came answer → call_done s.call.call answer ≡ Some s.call.call → AsListed s st came answer
  listed s st _ _ _ (IsRefused fault refused) done = absurd (none-some s.call.call done)
  listed s st _ _ _ (HasNoRoom txn plan) done = absurd (none-some s.call.call done)
  listed s (InPlace e) _ _ _ (IsLookedUp step came answer plan goes) done =
      let its = (goes_in_place layout v told can registers list is volume spelled few now after same s.position s.ended s.mount s.call e).plan in
      let e : Goes step ≡ Goes (data_moves v (t_at s.position) (size_in (t_at s.position) s.call.call) s.call.call) = sym plan ∙ its in
      let one : step ≡ data_moves v (t_at s.position) (size_in (t_at s.position) s.call.call) s.call.call = cc in
      subst (λ (x : Moved). GoesSo v (t_at s.position) x came answer) one goes
  listed s (InPlace e) _ _ _ (IsDone txn came answer plan goes) done =
      let its = (goes_in_place layout v told can registers list is volume spelled few now after same s.position s.ended s.mount s.call e).plan in
      (let e : Proposes txn ≡ Goes (data_moves v (t_at s.position) (size_in (t_at s.position) s.call.call) s.call.call) = sym plan ∙ its in absurd (cc))
  listed s (Named of named_so end) _ _ _ (IsLookedUp step came answer plan goes) done =
      let its = plan_of layout v told can registers list is volume spelled few s.position s.mount s.call.number of s.call.call (named_told s (Named of named_so end)) in
      (let e : Goes step ≡ Proposes of.its.txn = sym plan ∙ its in absurd (cc))
  listed s (Named of named_so end) _ _ _ (IsDone txn came answer plan goes) done =
      let its = plan_of layout v told can registers list is volume spelled few s.position s.mount s.call.number of s.call.call (named_told s (Named of named_so end)) in
      let e : Proposes txn ≡ Proposes of.its.txn = sym plan ∙ its in
      let one : txn ≡ of.its.txn = cc in
      let tables : applied (t_at s.position) txn.changes ≡ t_at (suc s.position) = ap (λ (x : Txn). applied (t_at s.position) x.changes) one ∙ sym (next_of layout v told can registers list is volume spelled few s.position s.mount s.call.number of) in
      subst (λ (t : Tables). GoesSo v t (data_moves v t (size_in (t_at s.position) s.call.call) s.call.call) came answer) tables goes

  module _ (u : ℕ) (within : u ≤ length list) (begun : (k n number : ℕ) → k < u → IsOf list k n number → number ≤ length (calls_of now n)) where
    -- each call of the run is that of the list at its place
    pub run_listed : (ss : List Stood) (wents : List Went) (t last final : Tables) → IsChain layout v told can registers list is volume spelled few now after same u within begun t ss last → GoOneByOne v d t wents final → map call_that_went wents ≡ map planned_of ss → Every IsWell wents → Every (Stands layout v list now) ss
        → (k : ℕ) (w : Went) → slice_get wents k ≡ Some w → (s : Stood) × (slice_get ss k ≡ Some s) × (st : Stands layout v list now s) × AsListed s st w.came w.answer
    run_listed ss [] t last final chain goes calls wells each k w at_k = absurd (none-some w at_k)
    run_listed [] (x ∷ wents) t last final chain goes calls wells each k w at_k = absurd (cc)
    run_listed (s ∷ ss) (x ∷ wents) t last final chain goes calls wells each k w at_k =
        let here : call_that_went x ≡ planned_of s = cc in
        let rest : map call_that_went wents ≡ map planned_of ss = cc in
        let mount : x.mount ≡ s.mount = ap (λ (c : PlannedCall). c.mount) here in
        let call : x.call ≡ s.call = ap (λ (c : PlannedCall). c.call) here in
        let asks : CallAsks v d s.mount s.call (t_at s.position) goes.0 x.came x.answer =
        subst (λ (u_t : Tables). CallAsks v d s.mount s.call u_t goes.0 x.came x.answer) chain.1 (subst (λ p. CallAsks v d s.mount p t goes.0 x.came x.answer) call (subst (λ m. CallAsks v d m x.call t goes.0 x.came x.answer) mount goes.1)) in
        let done : call_done s.call.call x.answer ≡ Some s.call.call = subst (λ (p : Pending). call_done p.call x.answer ≡ Some p.call) call wells.0 in
        let next = next_one v d s.mount s.call (t_at s.position) goes.0 chain.0 x.came x.answer asks chain.2 done in
        by k at_k (each.0, listed s each.0 goes.0 x.came x.answer asks done)
        (λ j at_j. run_listed ss wents chain.0 last final chain.3 (subst (λ (from : Tables). GoOneByOne v d from wents final) next goes.2) rest wells.1 each.1 j w at_j)
      where
        by : (k : ℕ) → slice_get (x ∷ wents) k ≡ Some w → ((st : Stands layout v list now s) × AsListed s st x.came x.answer)
            → ((j : ℕ) → slice_get wents j ≡ Some w → (r : Stood) × (slice_get ss j ≡ Some r) × (st : Stands layout v list now r) × AsListed r st w.came w.answer)
            → (r : Stood) × (slice_get (s ∷ ss) k ≡ Some r) × (st : Stands layout v list now r) × AsListed r st w.came w.answer
        by zero at_k own later =
            let one : x ≡ w = same_Some x w at_k in
            (s, refl, own.0, subst (λ (y : Went). AsListed s own.0 y.came y.answer) one own.1)
        by (suc j) at_k own later = later j at_k
