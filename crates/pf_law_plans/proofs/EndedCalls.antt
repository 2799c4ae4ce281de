-- A call that has ended is answered as the user's tree has it, after the transactions below its mount's position.
use Rattle.std.proofs.Common.{◌≡◌, ◌⊎◌, inl, inr, ℕ, suc, true, List, [], ◌∷◌, take, Some, None, slice_get, refl, sym, ap, subst, ◌∙◌}
use Rattle.std.specs.Option.{option_and_then, unwrap_or}
use Rattle.std.proofs.lemmas.List.Sums.{fold-append}
use Rattle.std.proofs.lemmas.Option.{same_Some}
use Rattle.pf_volume.specs.Volumes.{Extent}
use Rattle.pf_tree_tables.specs.declared.changes.Txn.{Txn}
use Rattle.pf_tree_tables.specs.Tables.{Tables}
use Rattle.pf_tree.specs.Calls.{FileCall}
use Rattle.pf_tree.specs.Standing.{IsCall, TablesStandFor}
use Rattle.pf_tree.specs.Trees.{Data, Tree, changed, new_tree, refusal, tree_sight}
use Rattle.pf_txn.specs.Reading.{txn_in}
use Rattle.pf_file_calls.specs.Calls.{is_txn_of, planned, size_in}
use Rattle.pf_file_calls.specs.declared.answers.CallAnswer.{CallAnswer}
use Rattle.pf_file_calls.specs.declared.answers.CallAnswer.TheVariants.{Refused}
use Rattle.pf_file_calls.specs.declared.answers.CallFault.{CallFault}
use Rattle.pf_file_calls.specs.declared.answers.CallFault.TheVariants.{JournalFull}
use Rattle.pf_file_calls.specs.declared.calls.Pending.{Pending}
use Rattle.pf_file_calls.specs.declared.calls.Planned.TheVariants.{Refuses, Proposes, Goes}
use Rattle.pf_file_calls.specs.declared.moving.Moved.{Moved}
use Rattle.pf_law_plans.specs.Answering.{PlannedIsAnswered, IsAnswerIn}
use Rattle.pf_law_plans.specs.Exchanges.{Exchange}
use Rattle.pf_law_plans.specs.Lists.{StandsBehind}
use Rattle.pf_law_plans.specs.Named.{call_in, tree_after_calls}
use Rattle.pf_law_plans.specs.Numbered.{call_numbered, tree_with}
use Rattle.pf_law_plans.proofs.TableAnswers.{Spells, answered_in, changing_fine, goes_so, own_txn, proposes_so, refused_so}
use Rattle.pf_law_plans.proofs.DataSteps.{AnswersOn}
use Rattle.pf_law_plans.proofs.Lists.{take_one_more}
use Rattle.pf_law_plans.proofs.PlannedTransactions.{planned_names}
use Rattle.pf_law_plans.proofs.NameOrder.{AllRise}

-- the value at the last position spells a transaction of the call
pub record IsOwn (Is : ℕ → List ℕ → Type 0) (m upto : ℕ) (p : Pending) : Type 0 where
  pub position : ℕ
  pub last : upto ≡ suc position
  pub value : List ℕ
  pub is : Is position value
  pub own : is_txn_of m p.number (txn_in value) ≡ true

-- How a call ends that is not refused, of mount m of a volume, on these tables, at this position of a list that has these values
module _ (Is : ℕ → List ℕ → Type 0) (m : ℕ) (v : Extent) (d : Data) (t : Tables) (upto : ℕ) (p : Pending) where
  -- the call's changes are applied, if it has any
  abbrev pub HasPassed : Type 0
  HasPassed = ((step : Moved) × (planned m v d t p ≡ Goes step)) ⊎ IsOwn Is m upto p

  -- the call's file has this size in the tables, unless the call has just changed it
  abbrev pub IsSize : ℕ → Type 0
  IsSize size = (size ≡ size_in t p.call) ⊎ IsOwn Is m upto p

  -- it is answered from the tables
  abbrev pub IsFound : (came : List Exchange) → CallAnswer → Type 0
  IsFound came answer = HasPassed × (size : ℕ) × IsSize size × AnswersOn v t size came p.call answer

module _ (d : Data) (calls_of : (m : ℕ) → List FileCall) (list : List (List ℕ)) where
  abbrev tree_at : ℕ → Tree
  tree_at n = tree_after_calls d calls_of (take n list)

  -- The transaction at a position names this call of mount m
  module _ (m number : ℕ) (call : FileCall) (named : call_numbered (calls_of m) number ≡ Some call) (n : ℕ) (value : List ℕ) (there : slice_get list n ≡ Some value) (spells : Spells m number value) where
    tree_next : tree_at (suc n) ≡ tree_with d (tree_at n) (Some call)
    tree_next =
        let in_value : call_in calls_of value ≡ Some call =
        ap (option_and_then (λ (x : Txn). call_numbered (calls_of x.mount) x.number)) spells.spells
        ∙ ap (λ k. call_numbered (calls_of k) spells.txn.number) spells.mount_is ∙ ap (call_numbered (calls_of m)) spells.number_is ∙ named in
        ap (tree_after_calls d calls_of) (take_one_more list n value there)
        ∙ fold-append (λ (tree : Tree) (its : List ℕ). tree_with d tree (call_in calls_of its)) new_tree (take n list) (value ∷ [])
        ∙ ap (tree_with d (tree_at n)) in_value

    abbrev pub IsDone : Type 0
    IsDone = (refusal (tree_sight d (tree_at n)) call ≡ None) × (changed d (tree_at n) call ≡ Some (tree_at (suc n)))

    -- some mount planned it on tables that stand for the tree there, for a call with its number
    pub is_done : (k : ℕ) (v : Extent) (t : Tables) (p : Pending) (txn : Txn) → TablesStandFor d t (tree_at n) → IsCall p.call → planned k v d t p ≡ Proposes txn → call_numbered (calls_of k) p.number ≡ Some p.call
        → txn.mount ≡ m → txn.number ≡ number → IsDone
    is_done k v t p txn stand is_call plan its mount_is number_is =
        let so = proposes_so k v d t p (tree_at n) stand is_call txn plan in
        let names = planned_names k v d t p txn plan in
        let mount : k ≡ m = sym names.0 ∙ mount_is in
        let count : p.number ≡ number = sym names.1 ∙ number_is in
        let same : p.call ≡ call = same_Some p.call call (sym its ∙ ap (λ i. call_numbered (calls_of i) p.number) mount ∙ ap (call_numbered (calls_of m)) count ∙ named) in
        let some : changed d (tree_at n) call ≡ Some so.1 = subst (λ c. changed d (tree_at n) c ≡ Some so.1) same so.2 in (
          subst (λ c. refusal (tree_sight d (tree_at n)) c ≡ None) same so.0,
          some ∙ ap Some (sym (tree_next ∙ ap (λ after. unwrap_or after (tree_at n)) some)),
        )

  abbrev pub InList : ℕ → List ℕ → Type 0
  InList position value = slice_get list position ≡ Some value

  -- A call of a mount that stands behind the first transactions of the list
  module _ (positions : ℕ) (v : Extent) (tables_after : (values : List (List ℕ)) → Tables) (came : List Exchange) (m : ℕ) (t : Tables) (upto : ℕ) (stands : StandsBehind d calls_of tables_after list upto t) (rise : AllRise t.entries)
      (p : Pending) (named : call_numbered (calls_of m) p.number ≡ Some p.call) (is_call : IsCall p.call) (answer : CallAnswer) where
    abbrev Answers : Type 0
    Answers = PlannedIsAnswered positions v d calls_of tables_after list came m p.number upto answer

    pub refused_in : (fault : CallFault) → planned m v d t p ≡ Refuses fault → answer ≡ Refused fault → Answers
    refused_in fault is answer_is = record { call = p.call; named = named; is = inl (refused_so m v d t p (tree_at upto) stands.tree is_call fault answer is answer_is) }

    pub full_in : (txn : Txn) → planned m v d t p ≡ Proposes txn → upto ≡ positions → answer ≡ Refused JournalFull → Answers
    full_in txn is full answer_is =
        let its = proposes_so m v d t p (tree_at upto) stands.tree is_call txn is in
        record { call = p.call; named = named; is = inr (inl (record { fine = its.0; after = its.1; changes = its.2; full = full; answer_is = answer_is })) }

    done_in : (own : IsOwn InList m upto p) (size : ℕ) → ((spells : Spells m p.number own.value) → IsDone m p.number p.call named own.position own.value own.is spells) → AnswersOn v t size came p.call answer → Answers
    done_in own size done answers =
        let spells = own_txn m p.number own.value (txn_in own.value) refl own.own in
        let its = done spells in
        record {
          call = p.call;
          named = named;
          is = inr (inr (inr (record {
            position = own.position;
            last = own.last;
            value = own.value;
            there = own.is;
            txn = spells.txn;
            spells = spells.spells;
            mount_is = spells.mount_is;
            number_is = spells.number_is;
            fine = its.0;
            changes = its.1 ∙ ap (λ k. Some (tree_at k)) (sym own.last);
            answer_is = changing_fine d t (tree_at own.position) (tree_at (suc own.position)) v size came p.call answer its.1 answers;
          })));
        }

    -- the call is answered from the tables
    looked_up : (step : Moved) → planned m v d t p ≡ Goes step → AnswersOn v t (size_in t p.call) came p.call answer → Answers
    looked_up step is answers =
        let its = goes_so m v d t p (tree_at upto) stands.tree is_call step is in
        let here = answered_in d t (tree_at upto) stands.tree rise v came p.call answer its.0 answers in
        record {
          call = p.call;
          named = named;
          is = inr (inr (inl (record { fine = its.0; stays = its.1; answers = subst (λ tables. IsAnswerIn v came tables (tree_at upto) p.call answer) stands.tables here })));
        }

    pub found_in : ((own : IsOwn InList m upto p) (spells : Spells m p.number own.value) → IsDone m p.number p.call named own.position own.value own.is spells) → IsFound InList m v d t upto p came answer → Answers
    found_in done found = elim found.0 [
      | inl goes ↦ elim found.2 [
        | inl same ↦ looked_up goes.0 goes.1 (subst (λ size. AnswersOn v t size came p.call answer) same found.3)
        | inr own ↦ done_in own found.1 (done own) found.3
      ]
      | inr own ↦ done_in own found.1 (done own) found.3
    ]
